use Rattle.history.specs.State.{State, Transaction as Running}
use Rattle.history.specs.Steps.{gather, missed_of}
use Rattle.versions.specs.Plans.{Tells}
use Rattle.board.specs.Holding.{Runs, Holds}
use Rattle.board.proofs.board.Board.missed.Given as goal

abbrev pub invariant-loop-item : goal.invariant-loop-item
invariant-loop-item g l = (s : State) (x : Running) → Holds l.self s → Runs l.self.items l.txn x → Tells l.missed (gather l.item (missed_of s x))
