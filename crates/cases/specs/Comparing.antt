-- Where two texts part.
use Rattle.std.specs.Prelude.{◌≡◌, ℕ, List, [], ◌∷◌, take, drop, ◌==◌, count_by}

-- how many lines a text has ended
abbrev pub newlines : List ℕ → ℕ
newlines text = count_by (λ c. c == 10) text

-- one ends where the other goes on, or both go on with different bytes
abbrev pub DifferHere : List ℕ → List ℕ → Type 0
DifferHere [] [] = ⊥
DifferHere [] (y ∷ ys) = Unit {0}
DifferHere (x ∷ xs) [] = Unit {0}
DifferHere (x ∷ xs) (y ∷ ys) = x ≡ y → ⊥

-- two texts are alike up to a byte, and there they differ, on the line of this index
pub record Part (xs ys : List ℕ) (line : ℕ) : Type 0 where
  pub at : ℕ
  pub alike : take at xs ≡ take at ys
  pub differ : DifferHere (drop at xs) (drop at ys)
  pub on_line : line ≡ newlines (take at xs)
