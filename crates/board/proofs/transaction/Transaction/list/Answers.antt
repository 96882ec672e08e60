use Rattle.std.proofs.Common.{position, length, is_some, sym, ap, ◌∙◌, arith}
use Rattle.std.proofs.lemmas.Bool.{or_left, or_from, le-ltb}
use Rattle.board.specs.Lists.{is_for, write_list}
use Rattle.history.specs.Steps.{listed}
use Rattle.board.proofs.Listing.{listed_found, listed_lost, listed_again, listed_new}
use Rattle.board.proofs.transaction.Transaction.list.Goals as goal

pub returns-in-Some-clause-room : goal.returns-in-Some-clause-room
returns-in-Some-clause-room c =
    sym (or_left _ _ (ap is_some (listed_found c.args.item (write_list c.args.self.now) (record { item = 0; code = 0 }) c.in-Some.at (ap (position (is_for c.args.item)) (sym c.writes_listed-writes.ensures.value) ∙ sym c.find_item.ensures ∙ c.in-Some.is))))

pub returns-in-Some-clause-listed : goal.returns-in-Some-clause-listed
returns-in-Some-clause-listed c =
    listed_again c.args.self.now.writes c.args.self.now.count c.args.item c.args.code c.writes_listed-writes.ensures.whole c.in-Some.at (ap (position (is_for c.args.item)) (sym c.writes_listed-writes.ensures.value) ∙ sym c.find_item.ensures ∙ c.in-Some.is)

pub returns-in-None-clause-listed : goal.returns-in-None-clause-listed
returns-in-None-clause-listed c =
    listed_new c.args.self.now.writes c.args.self.now.count c.args.item c.args.code c.writes_listed-writes.ensures.whole (length c.writes_listed-writes.result.now)
    (ap (position (is_for c.args.item)) (sym c.writes_listed-writes.ensures.value) ∙ sym c.find_item.ensures ∙ c.in-None.is) (ap length c.writes_listed-writes.ensures.value) c.if-count-lt-WRITES.true

pub returns-in-None-2-clause-room : goal.returns-in-None-2-clause-room
returns-in-None-2-clause-room c =
    sym (or_from (is_some (listed c.args.item (write_list c.args.self.now))) _
    (ap is_some (listed_lost c.args.item (write_list c.args.self.now) (ap (position (is_for c.args.item)) (sym c.writes_listed-writes.ensures.value) ∙ sym c.find_item.ensures ∙ c.in-None-2.is)))
    (le-ltb _ _ (omega (arith, c.if-count-lt-WRITES.false, ap length c.writes_listed-writes.ensures.value))))
