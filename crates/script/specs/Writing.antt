-- How a command and a header are written: the table's other direction.
use Rattle.std.specs.Prelude.{ℕ, ◌≤◌, List, [], ◌∷◌, ◌++◌, codes, decimal}
use Rattle.calls.specs.declared.call.Call.{Call}
use Rattle.calls.specs.declared.header.Header.{Header}
use Rattle.script.specs.Parts.{joined_by}
use Rattle.script.specs.Table.{Column, number, word, Value, Values, spelled, row, op_column, op_of, values_of, header_row, header_values}

-- a number by its decimal digits, a word by its spelling
abbrev pub value_text : (c : Column) → Value c → List ℕ
value_text (number key) n = decimal n
value_text (word key k) w = spelled k w

abbrev pub key_of : Column → List ℕ
key_of (number key) = key
key_of (word key k) = key

-- key=value
abbrev pub pair_text : (c : Column) → Value c → List ℕ
pair_text c v = (key_of c ++ codes "=") ++ value_text c v

abbrev pub row_text : (cs : List Column) → Values cs → List (List ℕ)
row_text [] vs = []
row_text (c ∷ cs) vs = pair_text c vs.0 ∷ row_text cs vs.1

abbrev pub command_parts : Call → List (List ℕ)
command_parts c = pair_text op_column (op_of c) ∷ row_text (row (op_of c)) (values_of c)

-- THE LINE OF A COMMAND, and of a header
abbrev pub line_of : Call → List ℕ
line_of c = joined_by 32 (command_parts c)

abbrev pub header_line : Header → List ℕ
header_line h = joined_by 32 (row_text header_row (header_values h))

-- a number can be written if seven digits are enough
abbrev pub WritableValue : (c : Column) → Value c → Type 0
WritableValue (number key) n = n ≤ 9999999
WritableValue (word key k) w = Unit {0}

abbrev pub WritableRow : (cs : List Column) → Values cs → Type 0
WritableRow [] vs = Unit {0}
WritableRow (c ∷ cs) vs = WritableValue c vs.0 × WritableRow cs vs.1

-- every number of the command, or of the header, is at most 9,999,999
abbrev pub Writable : Call → Type 0
Writable c = WritableRow (row (op_of c)) (values_of c)

abbrev pub WritableHeader : Header → Type 0
WritableHeader h = WritableRow header_row (header_values h)
