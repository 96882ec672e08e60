-- How a script is opened.
use Rattle.std.specs.Prelude.{◌≡◌, ℕ, ◌<◌, ◌≤◌, List, ◌∷◌, length, Ok, Err, Result}
use Rattle.calls.specs.declared.fault.Fault.{Fault}
use Rattle.calls.specs.declared.fault.Fault.TheVariants as fault
use Rattle.calls.specs.declared.header.Header.{Header}
use Rattle.script.specs.declared.open.Unopened.{Unopened}
use Rattle.script.specs.declared.open.Unopened.TheVariants.{TooLong, NoHeader}
use Rattle.script.specs.Lines.{lines_of}
use Rattle.script.specs.Reading.{header_of}

-- the only line that is answered, and the fault that the answer tells
abbrev pub line_told : Unopened → ℕ
line_told TooLong = 0
line_told (NoHeader f) = 1

abbrev pub fault_told : Unopened → Fault
fault_told TooLong = fault.TooLong
fault_told (NoHeader f) = f

-- a script that is short enough: what its first line is read as, and the lines after it
pub record Begins (script : List ℕ) (header : Result Header Fault) (lines : List (List ℕ)) : Type 0 where
  pub short : length script ≤ 32768
  pub first : List ℕ
  pub read : header_of first ≡ header
  pub rest : lines_of script ≡ first ∷ lines

-- a script is opened if it is short enough and its first line is a header
abbrev pub Opened : List ℕ → Result (Header × List (List ℕ)) Unopened → Type 0
Opened script (Ok begin) = Begins script (Ok begin.0) begin.1
Opened script (Err TooLong) = 32768 < length script
Opened script (Err (NoHeader f)) = (lines : List (List ℕ)) × Begins script (Err f) lines
