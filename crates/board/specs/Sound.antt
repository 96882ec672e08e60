-- What is so of every board.
use Rattle.std.specs.Prelude.{◌≡◌, ℕ, ◌*◌, ◌<◌, ◌≤◌, List, length, Some, None, Option, slice_index_or}
use Rattle.std.specs.List.{AllByRecursion}
use Rattle.calls.specs.declared.write.Write.{Write}
use Rattle.versions.specs.declared.version.Version.{Version}
use Rattle.board.specs.declared.transaction.Transaction.{Transaction}
use Rattle.board.specs.declared.seat.Held.{Held}
use Rattle.board.specs.Lists.{write_list}

-- every write that is listed is of one of the items and of one of the codes
abbrev pub WritesKnown : ℕ → ℕ → Transaction → Type 0
WritesKnown items codes t = AllByRecursion (λ (w : Write). (w.item < items) × (w.code < codes)) (write_list t)

abbrev pub RunningKnown : ℕ → ℕ → Option Transaction → Type 0
RunningKnown items codes None = Unit {0}
RunningKnown items codes (Some t) = WritesKnown items codes t

abbrev pub SeatKnown : ℕ → ℕ → Option Held → Type 0
SeatKnown items codes None = Unit {0}
SeatKnown items codes (Some h) = RunningKnown items codes h.running

-- one to 256 items and one to 32 seats, eight slots for each item with states of the kind in them, and known writes listed
pub record Sound {S : Type 0} (state : S → Type 0) (codes items seat_count : ℕ) (seats : List (Option Held)) (versions : List (Version S)) : Type 0 where
  pub some_items : 1 ≤ items
  pub few_items : items ≤ 256
  pub some_seats : 1 ≤ seat_count
  pub few_seats : seat_count ≤ 32
  pub memory : length versions ≡ 8 * items
  pub states : AllByRecursion (λ (v : Version S). state v.state) versions
  pub known : (seat : ℕ) → SeatKnown items codes (slice_index_or seats seat None)
