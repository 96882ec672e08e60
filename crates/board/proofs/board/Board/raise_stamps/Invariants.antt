use Rattle.board.proofs.Raising.{RaisedTo}
use Rattle.board.proofs.board.Board.raise_stamps.Given as goal

abbrev pub invariant-loop-item : goal.invariant-loop-item
invariant-loop-item g l = RaisedTo l.initial.self l.self l.txn l.item
