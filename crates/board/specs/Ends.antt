-- What changes in a board's tables.
use Rattle.std.specs.Prelude.{◌≡◌, ◌≢◌, ℕ, ◌<◌, false, cond, Some, None, Option, slice_index, slice_index_or}
use Rattle.board.specs.declared.transaction.Transaction.{Transaction}
use Rattle.board.specs.declared.seat.Held.{Held}
use Rattle.board.specs.Contents.{Contents, with_stamps, with_seats}

-- nothing changes but one seat
pub record SeatPut {R : Type 0} (before after : Contents R) (at : ℕ) (seat : Option Held) : Type 0 where
  pub only : after ≡ with_seats before after.seats
  pub here : slice_index_or after.seats at None ≡ seat
  pub elsewhere : (other : ℕ) → (other ≢ at) → slice_index_or after.seats other None ≡ slice_index_or before.seats other None

-- the seat, with this transaction open, or none
abbrev pub replaced : Option Transaction → Option Held → Option Held
replaced o None = None
replaced o (Some h) = Some (record { pass = h.pass; class = h.class; running = o })

-- nothing changes but what a seat has open
abbrev pub NowRuns : {R : Type 0} → Contents R → Contents R → ℕ → Option Transaction → Type 0
NowRuns before after at o = SeatPut before after at (replaced o (slice_index_or before.seats at None))

-- nothing changes but the stamp of one item, which is the clock
pub record Stamped {R : Type 0} (before after : Contents R) (item : ℕ) : Type 0 where
  pub only : after ≡ with_stamps before after.stamps
  pub here : slice_index after.stamps item ≡ before.clock
  pub elsewhere : (other : ℕ) → (other ≢ item) → slice_index after.stamps other ≡ slice_index before.stamps other

-- nothing changes but the stamps of marked items, which are the clock
pub record Raised {R : Type 0} (before after : Contents R) (t : Transaction) : Type 0 where
  pub only : after ≡ with_stamps before after.stamps
  pub raised : (item : ℕ) → item < before.items → slice_index after.stamps item ≡ cond (slice_index_or t.marks item false) before.clock (slice_index before.stamps item)
