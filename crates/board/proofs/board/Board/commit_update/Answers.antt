use Rattle.std.proofs.Common.{◌+◌, ap, ◌∙◌, arith}
use Rattle.board.specs.Contents.{Contents}
use Rattle.board.proofs.Ending.{refused_by_rule}
use Rattle.board.proofs.board.Board.commit_update.Goals as goal

pub returns-in-None : goal.returns-in-None
returns-in-None g c s x k r lt reach =
    let clock = ap (λ (b : Contents g.row.R.Denot). b.clock) c.self.view_is in
    refused_by_rule g.R.Rule.answers c.args.self.now c.end.new.self c.args.at c.lowest_missed-item.result c.args.class c.args.txn.now x s c.findings-findings.result c.decide.result k r lt
    (omega (arith, c.if-self-ge-LIMIT.false, clock)) (c.findings-findings.ensures s x k r (ap (λ n. n + 1) clock)) (c.decide.ensures ∙ ap (λ (b : Contents g.row.R.Denot). g.R.Rule.answers b.rule c.findings-findings.result) c.self.view_is) c.in-None.is
    (c.lowest_missed-item.ensures s x k r) c.end.ensures
