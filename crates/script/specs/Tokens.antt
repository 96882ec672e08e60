-- The parts of a token.
use Rattle.std.specs.Prelude.{◌≡◌, ℕ, ◌+◌, ◌≤◌, Bool, true, false, List, length, Some}
use Rattle.script.specs.Numbers.{is_number}
use Rattle.script.specs.Parts.{value_at}
use Rattle.script.specs.declared.token.Token.{Token}
use Rattle.script.specs.declared.token.Token.TheVariants.{Word, Digits}

-- the byte at which its value starts
abbrev pub start : Token → ℕ
start (Word at text) = at
start (Digits at text) = at

-- its value
abbrev pub text_of : Token → List ℕ
text_of (Word at text) = text.now
text_of (Digits at text) = text.now

-- whether it is told as a number
abbrev pub numeric : Token → Bool
numeric (Word at text) = false
numeric (Digits at text) = true

-- the value of the first part, which starts at the byte at and is a pair with this key
pub record Found (key : List ℕ) (at : ℕ) (ps : List (List ℕ)) (t : Token) : Type 0 where
  pub value : value_at key ps ≡ Some (text_of t)
  pub place : start t ≡ at + length key + 1
  pub near : start t ≤ 96
  pub form : numeric t ≡ is_number (text_of t)
