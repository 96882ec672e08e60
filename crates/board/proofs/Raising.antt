-- Stamps that are raised one by one.
use Rattle.std.proofs.Common.{◌≡◌, ℕ, ◌<◌, ◌≤◌, false, cond, get_or}
use Rattle.board.specs.declared.transaction.Transaction.{Transaction}
use Rattle.board.specs.Contents.{Contents, with_stamps}

-- the stamps of marked items below n are raised
pub record RaisedTo {R : Type 0} (before after : Contents R) (t : Transaction) (n : ℕ) : Type 0 where
  pub only : after ≡ with_stamps before after.stamps
  pub below : (item : ℕ) → item < n → get_or after.stamps item 0 ≡ cond (get_or t.marks item false) before.clock (get_or before.stamps item 0)
  pub above : (item : ℕ) → n ≤ item → get_or after.stamps item 0 ≡ get_or before.stamps item 0
