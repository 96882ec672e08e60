-- How bytes are cut: a line at each space, a part at its first `=`.
use Rattle.std.specs.Prelude.{ℕ, ◌+◌, cond, List, [], ◌∷◌, ◌++◌, length, Some, None, codes, Option, ◌==◌}
use Rattle.std.specs.Borrow.{Bor}

-- the bytes before the first b
abbrev pub until : ℕ → List ℕ → List ℕ
until b [] = []
until b (c ∷ cs) = cond (c == b) [] (c ∷ until b cs)

-- the bytes after the first b, if there is one
abbrev pub after : ℕ → List ℕ → Option (List ℕ)
after b [] = None
after b (c ∷ cs) = cond (c == b) (Some cs) (after b cs)

-- a byte before the first piece
abbrev pub onto : ℕ → List (List ℕ) → List (List ℕ)
onto c [] = (c ∷ []) ∷ []
onto c (p ∷ ps) = (c ∷ p) ∷ ps

-- the pieces between the b's: one more than there are b's
abbrev pub cut : ℕ → List ℕ → List (List ℕ)
cut b [] = [] ∷ []
cut b (c ∷ cs) = cond (c == b) ([] ∷ cut b cs) (onto c (cut b cs))

-- the pieces with a b between two
abbrev pub joined_by : ℕ → List (List ℕ) → List ℕ
joined_by b [] = []
joined_by b (p ∷ []) = p
joined_by b (p ∷ q ∷ ps) = p ++ (b ∷ joined_by b (q ∷ ps))

-- what follows the front p, if s begins with it
abbrev pub past : List ℕ → List ℕ → Option (List ℕ)
past [] s = Some s
past (c ∷ p) [] = None
past (c ∷ p) (d ∷ s) = cond (c == d) (past p s) None

-- the value that a part gives to a key
abbrev pub value_in : List ℕ → List ℕ → Option (List ℕ)
value_in key part = past (key ++ codes "=") part

-- the value that the first of the parts gives to a key
abbrev pub value_at : List ℕ → List (List ℕ) → Option (List ℕ)
value_at key [] = None
value_at key (p ∷ ps) = value_in key p

-- the parts after the first
abbrev pub left : List (List ℕ) → List (List ℕ)
left [] = []
left (p ∷ ps) = ps

-- where the second part starts, or the line ends, if the first starts at the byte at
abbrev pub next : ℕ → List (List ℕ) → ℕ
next at [] = at
next at (p ∷ []) = at + length p
next at (p ∷ q ∷ ps) = at + length p + 1

-- the parts of what is left of a line, and its length
abbrev pub parts : Option (Bor (List ℕ)) → List (List ℕ)
parts None = []
parts (Some s) = cut 32 s.now

abbrev pub room : Option (Bor (List ℕ)) → ℕ
room None = 0
room (Some s) = length s.now

-- a place in a line between two parts: the byte at which the next part starts, and the parts that are left. If none is left, at is the
-- line's length
pub record Place : Type 0 where
  pub at : ℕ
  pub parts : List (List ℕ)

-- the place after the next part
abbrev pub onward : Place → Place
onward p = record { at = next p.at p.parts; parts = left p.parts }
