use Rattle.std.proofs.Common.{◌≡◌}
use Rattle.history.specs.State.{State}
use Rattle.history.specs.Steps.{gather, least, start_of, running_of}
use Rattle.board.specs.Holding.{Holds}
use Rattle.board.proofs.board.Board.least_start.Given as goal

abbrev pub invariant-loop-seat : goal.invariant-loop-seat
invariant-loop-seat g l = (s : State) → Holds l.self s → l.least ≡ least l.initial.least (gather l.seat-index (λ seat. start_of (running_of (s.seats seat))))
