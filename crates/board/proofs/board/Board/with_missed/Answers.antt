use Rattle.board.proofs.Finding.{missed_marked, missed_unmarked}
use Rattle.board.proofs.board.Board.with_missed.Goals as goal

pub returns : goal.returns
returns g c =
    missed_marked g.R.Rule.answers c.args.self.now c.args.txn.now c.args.item c.args.before c.count_missed.result _ c.requires.0 c.if-not-txn-item.false c.slots.ensures.slots (c.count_missed.ensures g.K.Kind.coded)

pub returns-then-not-txn-item : goal.returns-then-not-txn-item
returns-then-not-txn-item g c = missed_unmarked g.R.Rule.answers c.args.self.now c.args.txn.now c.args.item c.args.before c.requires.0 c.if-not-txn-item.true
