use Rattle.std.proofs.Common.{sym}
use Rattle.std.proofs.lemmas.List.{set_past}
use Rattle.cases.proofs.tally.count_at.Goals as goal

pub returns-else-at-counts : goal.returns-else-at-counts
returns-else-at-counts c = sym (set_past c.args.counts.now c.args.at _ c.if-at-counts.false)
