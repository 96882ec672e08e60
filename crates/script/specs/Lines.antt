-- The lines of a script.
use Rattle.std.specs.Prelude.{ℕ, cond, List, [], ◌∷◌, Some, None, Option, ◌==◌}
use Rattle.std.specs.Borrow.{Bor}
use Rattle.script.specs.Parts.{cut}

-- the bytes without a newline at the end
abbrev pub unended : List ℕ → List ℕ
unended [] = []
unended (c ∷ []) = cond (c == 10) [] (c ∷ [])
unended (c ∷ d ∷ cs) = c ∷ unended (d ∷ cs)

-- a newline ends a line and begins none, and an empty script is one empty line
abbrev pub lines_of : List ℕ → List (List ℕ)
lines_of script = cut 10 (unended script)

-- the lines of what is left of a script, if anything is
abbrev pub lines_left : Option (Bor (List ℕ)) → List (List ℕ)
lines_left None = []
lines_left (Some s) = lines_of s.now
