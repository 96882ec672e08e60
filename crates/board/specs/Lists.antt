-- Lists in a board's fixed tables.
use Rattle.std.specs.Prelude.{◌≡◌, ◌≢◌, ℕ, ◌*◌, Bool, true, false, List, [], ◌∷◌, take, drop, Some, None, Option, ◌==◌, slice_index_or}
use Rattle.calls.specs.declared.write.Write.{Write}
use Rattle.board.specs.declared.transaction.Transaction.{Transaction}
use Rattle.board.specs.declared.seat.Held.{Held}

-- what a transaction has listed
abbrev pub write_list : Transaction → List Write
write_list t = take t.count t.writes

-- the transaction, with other marks
abbrev pub with_marks : Transaction → List Bool → Transaction
with_marks t marks = record { mode = t.mode; start = t.start; marks = marks; writes = t.writes; count = t.count }

-- nothing changes but the mark of one item, which is set
pub record Marked (before after : Transaction) (item : ℕ) : Type 0 where
  pub only : after ≡ with_marks before after.marks
  pub here : slice_index_or after.marks item false ≡ true
  pub elsewhere : (other : ℕ) → (other ≢ item) → slice_index_or after.marks other false ≡ slice_index_or before.marks other false

abbrev pub is_for : ℕ → Write → Bool
is_for item w = w.item == item

-- the slots of an item
abbrev pub slots_of : {A : Type 0} → List A → ℕ → List A
slots_of memory item = take 8 (drop (8 * item) memory)

-- the start of a seat's open transaction
abbrev pub start_in : Option Transaction → List ℕ
start_in None = []
start_in (Some t) = t.start ∷ []

abbrev pub starts_in : Option Held → List ℕ
starts_in None = []
starts_in (Some h) = start_in h.running
