use Rattle.std.proofs.Common.{sym, ap, ◌∙◌, subst}
use Rattle.board.specs.Contents.{setup_of}
use Rattle.board.specs.Lists.{write_list}
use Rattle.board.specs.Sound.{RunningKnown}
use Rattle.board.proofs.Requesting.{reads_by_place, reads_own, reads_by_natural}
use Rattle.board.proofs.Known.{known_same}
use Rattle.board.proofs.board.Board.read.Goals as goal

pub returns-in-Reader : goal.returns-in-Reader
returns-in-Reader g c h s l k =
    reads_by_place g.R.Rule.answers c.args.self.now c.stamp.new.self c.args.seat c.args.pass c.args.item c.in_ok-index.index c.code_in_sight-code.result c.in_ok-at.field-0 c.in-Some.txn _ s k
    (c.in_ok-at.ensures.asked s k) c.in-Some.is (c.in_ok-index.ensures.asked s) c.in-Reader.is c.slots.ensures.slots (c.code_in_sight-code.ensures (setup_of g.R.Rule.answers c.args.self.now) c.slots.ensures.rest) c.stamp.ensures

pub returns-in-Some-listed : goal.returns-in-Some-listed
returns-in-Some-listed g c h s l k =
    reads_own g.R.Rule.answers c.args.self.now c.args.seat c.args.pass c.args.item c.in_ok-index.index c.in-Some-listed.code c.in_ok-at.field-0 c.in-Some.txn s k
    (c.in_ok-at.ensures.asked s k) c.in-Some.is (c.in_ok-index.ensures.asked s) c.in-Update.is (sym c.in-Some-listed.is ∙ c.listed.ensures)

pub set_running-requires-clause-writes : goal.set_running-requires-clause-writes
set_running-requires-clause-writes g c =
    known_same c.args.self.now.items c.args.self.now.codes c.in-Some.txn (subst (RunningKnown c.args.self.now.items c.args.self.now.codes) c.in-Some.is c.in_ok-at.ensures.within.1) c.mark.new.self (ap write_list c.mark.ensures.only)

pub returns-in-None : goal.returns-in-None
returns-in-None g c h s l k =
    reads_by_natural g.R.Rule.answers c.args.self.now c.set_running.new.self c.args.seat c.args.pass c.args.item c.in_ok-index.index c.code_in_sight-code-in-None.result c.in_ok-at.field-0 c.in-Some.txn c.mark.new.self _ s k
    (c.in_ok-at.ensures.asked s k) c.in-Some.is (c.in_ok-index.ensures.asked s) c.in-Update.is (sym c.in-None.is ∙ c.listed.ensures) c.slots-in-None.ensures.slots (c.code_in_sight-code-in-None.ensures (setup_of g.R.Rule.answers c.args.self.now) c.slots-in-None.ensures.rest) c.mark.ensures c.set_running.ensures
