-- Room in version lists.
use Rattle.std.specs.Prelude.{ℕ, ◌≤◌}
use mathlib.Core.List.{Memᴰ}
use Rattle.history.specs.State.{State, Version}

-- every list reaches down to a version whose natural number is not above the least start
abbrev pub Reaches : ℕ → State → Type 0
Reaches least s = (item : ℕ) → (v : Version) × Memᴰ v (s.items item).versions × (v.natural ≤ least)
