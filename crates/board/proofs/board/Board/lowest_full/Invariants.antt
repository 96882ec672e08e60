use Rattle.std.proofs.Common.{◌≡◌, take}
use Rattle.history.specs.State.{State, Transaction as Running}
use Rattle.history.specs.Steps.{is_full, least_start}
use Rattle.board.specs.Contents.{setup_of}
use Rattle.board.specs.Holding.{Runs, Holds}
use Rattle.board.specs.Room.{Reaches}
use Rattle.board.proofs.Roomy.{LowestOf}
use Rattle.board.proofs.board.Board.lowest_full.Given as goal

abbrev pub invariant-loop-w : goal.invariant-loop-w
invariant-loop-w g l =
    (s : State) (x : Running) → Holds l.self s → Runs l.self.items l.txn x → Reaches l.least s → l.least ≡ least_start (setup_of g.R.Rule.answers l.self) s x → l.w-items ≡ x.writes
    → LowestOf l.self.items (is_full (setup_of g.R.Rule.answers l.self) s x l.place) (take l.w-index l.w-items) l.lowest
