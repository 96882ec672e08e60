use Rattle.std.proofs.Common.{◌≡◌, ℕ, ◌+◌, ◌<◌, false, take}
use Rattle.history.specs.State.{State, Transaction as Running}
use Rattle.history.specs.Steps.{is_full, least_start}
use Rattle.board.specs.Contents.{setup_of, with_versions}
use Rattle.board.specs.Holding.{Runs, Holds}
use Rattle.board.specs.Memory.{StoredAll}
use Rattle.board.specs.Room.{Reaches}
use Rattle.board.proofs.board.Board.store_all.Given as goal

abbrev pub invariant-loop-w : goal.invariant-loop-w
invariant-loop-w g l =
    (l.self ≡ with_versions l.initial.self l.self.versions)
    × ((s : State) (x : Running) → Holds l.initial.self s → Runs l.initial.self.items l.txn x → Reaches l.least s → l.least ≡ least_start (setup_of g.R.Rule.answers l.initial.self) s x → l.natural ≡ s.clock + 1
    → ((item : ℕ) → item < l.initial.self.items → is_full (setup_of g.R.Rule.answers l.initial.self) s x l.place item ≡ false)
    → l.w-items ≡ x.writes
    → StoredAll (setup_of g.R.Rule.answers l.initial.self) s x l.place (take l.w-index l.w-items) l.self.versions)
