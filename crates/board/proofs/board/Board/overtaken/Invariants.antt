use Rattle.std.proofs.Common.{◌≡◌, false, leb, take}
use Rattle.calls.specs.declared.write.Write.{Write}
use Rattle.history.specs.State.{State, Transaction as Running}
use Rattle.history.specs.Steps.{any}
use Rattle.board.specs.Holding.{Runs, Holds}
use Rattle.board.proofs.board.Board.overtaken.Given as goal

abbrev pub invariant-loop-w : goal.invariant-loop-w
invariant-loop-w g l =
    (s : State) (x : Running) → Holds l.self s → Runs l.self.items l.txn x → l.w-items ≡ x.writes
    → any (λ (v : Write). leb x.start (s.items v.item).stamp) (take l.w-index l.w-items) ≡ false
