-- What scripts can rely on, whatever bytes they hold.
use Rattle.std.specs.Prelude.{◌≡◌, ℕ, ◌<◌, ◌≤◌, ◌⊎◌, List, [], ◌∷◌, ◌++◌, length, Ok, Err, ◌≢◌, slice_index}
use Rattle.std.specs.List.{AllByRecursion}
use Rattle.calls.specs.declared.call.Call.{Call}
use Rattle.calls.specs.declared.fault.Fault.{Fault}
use Rattle.calls.specs.declared.fault.Fault.TheVariants.{TooLong, WrongPart, BadNumber, Refused}
use Rattle.calls.specs.declared.header.Header.{Header}
use Rattle.script.specs.Lines.{lines_of}
use Rattle.script.specs.Parts.{joined_by}
use Rattle.script.specs.Reading.{command_of, header_of}
use Rattle.script.specs.Writing.{line_of, header_line, Writable, WritableHeader}

abbrev pub Iff : Type 0 → Type 0 → Type 0
Iff P Q = (P → Q) × (Q → P)

-- a line is read as a command exactly if seven digits are enough for each of the command's numbers and the line is, byte for byte,
-- the command's
abbrev pub LinesAndCommandsMatch : Type 0
LinesAndCommandsMatch = (line : List ℕ) (c : Call) → Iff (command_of line ≡ Ok c) (Writable c × (line ≡ line_of c))

-- the same of a header
abbrev pub LinesAndHeadersMatch : Type 0
LinesAndHeadersMatch = (line : List ℕ) (h : Header) → Iff (header_of line ≡ Ok h) (WritableHeader h × (line ≡ header_line h))

-- two commands never share a line
abbrev pub CommandsStayApart : Type 0
CommandsStayApart = (b c : Call) → Writable b → Writable c → line_of b ≡ line_of c → b ≡ c

-- a line's fault: the line is too long, or a byte of it is named, or its end. A reader never answers for the board
abbrev pub FaultIn : List ℕ → Fault → Type 0
FaultIn line TooLong = 96 < length line
FaultIn line (WrongPart at) = (length line ≤ 96) × (at ≤ length line)
FaultIn line (BadNumber at) = (length line ≤ 96) × (at ≤ length line)
FaultIn line (Refused refusal) = ⊥

abbrev pub FaultsLieInTheirLine : Type 0
FaultsLieInTheirLine = (line : List ℕ) (f : Fault) → (command_of line ≡ Err f → FaultIn line f) × (header_of line ≡ Err f → FaultIn line f)

-- no line has a newline, and with one between two lines they are the script, but for a newline at its end
abbrev pub NoNewline : List ℕ → Type 0
NoNewline line = (i : ℕ) → i < length line → slice_index line i ≢ 10

abbrev pub LinesMakeTheScript : Type 0
LinesMakeTheScript = (script : List ℕ) → AllByRecursion NoNewline (lines_of script) × ((joined_by 10 (lines_of script) ≡ script) ⊎ (joined_by 10 (lines_of script) ++ (10 ∷ []) ≡ script))
