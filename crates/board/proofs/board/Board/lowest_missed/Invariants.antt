use Rattle.std.proofs.Common.{◌≡◌, ℕ, ◌<◌, false, ltb, length}
use Rattle.history.specs.State.{State, Transaction as Running}
use Rattle.history.specs.Steps.{missed_of}
use Rattle.board.specs.Holding.{Runs, Holds}
use Rattle.board.proofs.board.Board.lowest_missed.Given as goal

abbrev pub invariant-loop-item : goal.invariant-loop-item
invariant-loop-item g l = (s : State) (x : Running) → Holds l.self s → Runs l.self.items l.txn x → (k : ℕ) → k < l.item → ltb 0 (length (missed_of s x k)) ≡ false
