use Rattle.std.proofs.Common.{ap, ◌∙◌, rules}
use Rattle.history.specs.Steps.{listed}
use Rattle.board.proofs.Listing.{listed_read}
use Rattle.board.proofs.transaction.Transaction.listed.Goals as goal

pub returns : goal.returns
returns c = listed_read c.args.item c.writes_listed-writes.result.now (record { item = 0; code = 0 }) c.find_item.result c.map.result c.find_item.ensures (search rules) ∙ ap (listed c.args.item) c.writes_listed-writes.ensures.value
