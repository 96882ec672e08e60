-- The sizes of a board.
use Rattle.std.specs.Prelude.{ℕ, ◌*◌, Bool, ◌&&◌, nat_le}

-- one to 256 items, one to 32 seats, and eight slots for each item
abbrev pub fits : ℕ → ℕ → ℕ → Bool
fits items seats slots = nat_le 1 items && (nat_le items 256 && (nat_le 1 seats && (nat_le seats 32 && nat_le (items * 8) slots)))
