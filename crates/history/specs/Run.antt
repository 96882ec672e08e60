-- The serial run: transactions one by one on one table of codes.
use Rattle.std.specs.Prelude.{◌≡◌, ℕ, Bool, ◌&&◌, List, [], ◌∷◌, filter, nat_le}
use Rattle.calls.specs.declared.call.Mode.{Mode}
use Rattle.calls.specs.declared.call.Mode.TheVariants.{Reader, Update}
use Rattle.history.specs.State.{Setup, put}
use Rattle.history.specs.Steps.{is_update}
use Rattle.history.specs.Log.{Deeds, begun, and_read, and_wrote, Trace, Grant, History}
use Rattle.history.specs.Order.{order}

-- a code for each item
abbrev pub Table : Type 0
Table = ℕ → ℕ

abbrev pub all_rest : Setup → Table
all_rest b = λ _. b.rest

-- the table once a transaction has done all that: a write sets its item's code
abbrev pub after : Deeds → Table → Table
after begun t = t
after (and_read d item code) t = after d t
after (and_wrote d item code) t = put (after d t) item code

-- each of its reads was answered with the code that the table then has
abbrev pub Answered : Deeds → Table → Type 0
Answered begun t = Unit {0}
Answered (and_read d item code) t = Answered d t × (after d t item ≡ code)
Answered (and_wrote d item code) t = Answered d t

-- one transaction after the other
abbrev pub run : List Grant → Table → Table
run [] t = t
run (g ∷ gs) t = run gs (after g.trace.deeds t)

abbrev pub EachAnswered : List Grant → Table → Type 0
EachAnswered [] t = Unit {0}
EachAnswered (g ∷ gs) t = Answered g.trace.deeds t × EachAnswered gs (after g.trace.deeds t)

-- the granted updates that an ungranted transaction sees: for an update those with natural number not above its start, for a reader those with place not above it
abbrev pub within_start : Mode → ℕ → Grant → Bool
within_start Update start g = nat_le g.natural start
within_start Reader start g = nat_le g.place start

abbrev pub seen_by : Trace → Grant → Bool
seen_by t g = is_update g.trace.mode && within_start t.mode t.start g

-- the copy on which an ungranted transaction is run
abbrev pub copy_for : Setup → History → Trace → Table
copy_for b h t = run (filter (seen_by t) (order h)) (all_rest b)
