-- What holds of a board together with the log of the calls that led to it.
use Rattle.std.proofs.Common.{◌≡◌, ℕ, ◌+◌, ◌<◌, ◌≤◌, true, List, Some, None, filter, Option, refl, ap, ◌∙◌, subst, arith}
use Rattle.calls.specs.declared.call.Mode.TheVariants.{Reader, Update}
use Rattle.history.specs.State.{Setup, Version, Item, Transaction, Seat, empty, held, State}
use Rattle.history.specs.Steps.{listed, running_of}
use Rattle.history.specs.Log.{Trace, Grant, Log}
use Rattle.history.specs.Order.{arranged}
use Rattle.history.specs.Run.{Answered, EachAnswered, run, all_rest, seen_by}
use Rattle.history.specs.Promise.{◌∈◌, InOrder}
use Rattle.history.proofs.Runs.{written, Sees}
use Rattle.history.proofs.Versions.{Keeps}

-- a granted update: the commit's numbers, and a stamp on each item that it looked at
pub record Updated (clock : ℕ) (items : ℕ → Item) (g : Grant) : Type 0 where
  pub above_start : g.trace.start < g.place
  pub place_by : g.place ≤ g.natural
  pub natural_by : g.natural ≤ clock
  pub stamped : (i : ℕ) → Sees g.trace.deeds i → g.natural ≤ (items i).stamp + 1

-- a reader that ended or is open: it wrote nothing and left a stamp on each item that it looked at
pub record Looked (items : ℕ → Item) (t : Trace) : Type 0 where
  pub clean : (i : ℕ) → written t.deeds i ≡ None
  pub stamped : (i : ℕ) → Sees t.deeds i → t.start ≤ (items i).stamp

pub record Sound (clock calls : ℕ) (items : ℕ → Item) (g : Grant) : Type 0 where
  pub began_by : g.trace.began < g.ended
  pub ended_by : g.ended < calls
  pub start_by : g.trace.start ≤ clock
  pub as_update : g.trace.mode ≡ Update → Updated clock items g
  pub reader_place : g.trace.mode ≡ Reader → g.place ≡ g.trace.start
  pub as_reader : g.trace.mode ≡ Reader → Looked items g.trace

-- a transaction that is not granted: its copy answers its reads
pub record Consistent (b : Setup) (clock : ℕ) (items : ℕ → Item) (granted : List Grant) (t : Trace) : Type 0 where
  pub start_by : t.start ≤ clock
  pub as_reader : t.mode ≡ Reader → Looked items t
  pub answered : Answered t.deeds (run (filter (seen_by t) (arranged granted)) (all_rest b))

-- an open transaction, as the board has it and as the log has it
pub record Running (b : Setup) (clock calls : ℕ) (items : ℕ → Item) (granted : List Grant) (x : Transaction) (t : Trace) : Type 0 where
  pub same_mode : x.mode ≡ t.mode
  pub same_start : x.start ≡ t.start
  pub same_writes : (i : ℕ) → listed i x.writes ≡ written t.deeds i
  pub marks : t.mode ≡ Update → (i : ℕ) → Sees t.deeds i → (x.marked i ≡ true) × (i < b.items)
  pub began_by : t.began < calls
  pub consistent : Consistent b clock items granted t
  -- every list reaches down to what it may look at
  pub reaches : (i : ℕ) → (v : Version) × (v ∈ (items i).versions) × (v.natural ≤ t.start)
  -- what was granted before it began has a place not above its start
  pub since : (g : Grant) → g ∈ granted → g.ended < t.began → g.place ≤ t.start
  pub new_trace : (g : Grant) → g ∈ granted → g.trace.began ≡ t.began → ⊥

abbrev pub Matched : (b : Setup) (clock calls : ℕ) (items : ℕ → Item) (granted : List Grant) → Seat → Option Trace → Type 0
Matched b clock calls items granted empty None = Unit {0}
Matched b clock calls items granted empty (Some t) = ⊥
Matched b clock calls items granted (held pass class None) None = Unit {0}
Matched b clock calls items granted (held pass class None) (Some t) = ⊥
Matched b clock calls items granted (held pass class (Some x)) None = ⊥
Matched b clock calls items granted (held pass class (Some x)) (Some t) = Running b clock calls items granted x t

pub record Inv (b : Setup) (s : State) (l : Log) : Type 0 where
  pub sound : (g : Grant) → g ∈ l.granted → Sound s.clock l.calls s.items g
  pub arrayed : InOrder (arranged l.granted)
  pub answered : EachAnswered (arranged l.granted) (all_rest b)
  pub keeps : (i : ℕ) → Keeps b l.granted i (s.items i).versions
  pub stamps_by : (i : ℕ) → (s.items i).stamp ≤ s.clock
  pub real_time : (f g : Grant) → f ∈ l.granted → g ∈ l.granted → f.ended < g.trace.began → f.place ≤ g.trace.start
  pub dropped : (t : Trace) → t ∈ l.dropped → Consistent b s.clock s.items l.granted t
  pub seats : (k : ℕ) → Matched b s.clock l.calls s.items l.granted (s.seats k) (l.running k)
  pub apart : (j k : ℕ) (t u : Trace) → l.running j ≡ Some t → l.running k ≡ Some u → t.began ≡ u.began → j ≡ k
  pub seated : (k : ℕ) (t : Trace) → l.running k ≡ Some t → k < b.seats

-- a seat's open transaction, on both sides
pub record AtSeat (b : Setup) (s : State) (l : Log) (k : ℕ) (x : Transaction) (t : Trace) : Type 0 where
  pub on_board : running_of (s.seats k) ≡ Some x
  pub in_log : l.running k ≡ Some t
  pub both : Running b s.clock l.calls s.items l.granted x t

module _ {b : Setup} {s : State} {l : Log} (inv : Inv b s l) (k : ℕ) where
  pub board_has : (x : Transaction) → running_of (s.seats k) ≡ Some x → (t : Trace) × AtSeat b s l k x t
  board_has x e = go (s.seats k) (l.running k) refl refl (inv.seats k) e
    where
      go : (seat : Seat) (o : Option Trace) → s.seats k ≡ seat → l.running k ≡ o → Matched b s.clock l.calls s.items l.granted seat o → running_of seat ≡ Some x → (t : Trace) × AtSeat b s l k x t
      go empty None p q m e = let z : ◌≡◌ {A = ℕ} 0 1 = cc in absurd (omega arith)
      go empty (Some t) p q m e = absurd m
      go (held pass class None) None p q m e = let z : ◌≡◌ {A = ℕ} 0 1 = cc in absurd (omega arith)
      go (held pass class None) (Some t) p q m e = absurd m
      go (held pass class (Some y)) None p q m e = absurd m
      go (held pass class (Some y)) (Some t) p q m e =
          let same : y ≡ x = cc in
          (t, record { on_board = ap running_of p ∙ e; in_log = q; both = subst (λ z. Running b s.clock l.calls s.items l.granted z t) same m })

  pub log_has : (t : Trace) → l.running k ≡ Some t → (x : Transaction) × AtSeat b s l k x t
  log_has t e = go (s.seats k) (l.running k) refl refl (inv.seats k) e
    where
      go : (seat : Seat) (o : Option Trace) → s.seats k ≡ seat → l.running k ≡ o → Matched b s.clock l.calls s.items l.granted seat o → o ≡ Some t → (x : Transaction) × AtSeat b s l k x t
      go empty None p q m e = let z : ◌≡◌ {A = ℕ} 0 1 = cc in absurd (omega arith)
      go empty (Some u) p q m e = absurd m
      go (held pass class None) None p q m e = let z : ◌≡◌ {A = ℕ} 0 1 = cc in absurd (omega arith)
      go (held pass class None) (Some u) p q m e = absurd m
      go (held pass class (Some y)) None p q m e = absurd m
      go (held pass class (Some y)) (Some u) p q m e =
          let same : u ≡ t = cc in
          (y, record { on_board = ap running_of p; in_log = q ∙ e; both = subst (λ z. Running b s.clock l.calls s.items l.granted y z) same m })

  -- no transaction on the board, none in the log
  pub log_none : running_of (s.seats k) ≡ None → l.running k ≡ None
  log_none e = go (s.seats k) (l.running k) (inv.seats k) e
    where
      go : (seat : Seat) (o : Option Trace) → Matched b s.clock l.calls s.items l.granted seat o → running_of seat ≡ None → o ≡ None
      go empty None m e = refl
      go empty (Some t) m e = absurd m
      go (held pass class None) None m e = refl
      go (held pass class None) (Some t) m e = absurd m
      go (held pass class (Some y)) None m e = refl
      go (held pass class (Some y)) (Some t) m e = let z : ◌≡◌ {A = ℕ} 0 1 = cc in absurd (omega arith)
