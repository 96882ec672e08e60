-- How a line is read, and what is wrong with it: its parts from the left, each held to its column.
use Rattle.std.specs.Prelude.{◌≡◌, ℕ, ◌+◌, cond, List, [], ◌∷◌, length, Some, None, Ok, Err, Option, Result, nat_le}
use Rattle.std.specs.List.{find}
use Rattle.std.specs.Option.{ok_or}
use Rattle.std.specs.Str.{bytes_eq}
use Rattle.calls.specs.declared.call.Call.{Call}
use Rattle.calls.specs.declared.fault.Fault.{Fault}
use Rattle.calls.specs.declared.fault.Fault.TheVariants.{TooLong, WrongPart, BadNumber}
use Rattle.calls.specs.declared.header.Header.{Header}
use Rattle.script.specs.declared.words.Op.{Op}
use Rattle.script.specs.Numbers.{is_number, value}
use Rattle.script.specs.Parts.{Place, cut, value_at, left, next}
use Rattle.script.specs.Table.{Column, number, word, Value, Values, spelled, every, row, op_column, header_row, call, header}

-- the word of a list that is spelled so
abbrev pub meant : {W : Type 0} → (W → List ℕ) → List W → List ℕ → Option W
meant spell ws text = find (λ w. bytes_eq (spell w) text) ws

-- what the value of a key is read as, or the fault at the byte at if there is none
abbrev pub read_value : {V : Type 0} → (List ℕ → Result V Fault) → ℕ → Option (List ℕ) → Result V Fault
read_value read at None = Err (WrongPart at)
read_value read at (Some text) = read text

-- the first of the parts that are left, which starts at the byte at of its line, as a pair with this key. If no part is left, at is
-- the line's length
abbrev pub number_at : List ℕ → ℕ → List (List ℕ) → Result ℕ Fault
number_at key at ps = read_value (λ text. cond (is_number text) (Ok (value text)) (Err (BadNumber (at + length key + 1)))) at (value_at key ps)

abbrev pub word_at : {W : Type 0} → (W → List ℕ) → List W → List ℕ → ℕ → List (List ℕ) → Result W Fault
word_at spell all key at ps = read_value (λ text. ok_or (meant spell all text) (WrongPart at)) at (value_at key ps)

-- no part may be left
abbrev pub end_at : ℕ → List (List ℕ) → Result (Unit {0}) Fault
end_at at [] = Ok tt
end_at at (p ∷ ps) = Err (WrongPart at)

abbrev pub column_at : (c : Column) → ℕ → List (List ℕ) → Result (Value c) Fault
column_at (number key) at ps = number_at key at ps
column_at (word key k) at ps = word_at (spelled k) (every k) key at ps

-- the first fault from the left decides
abbrev pub then : {A B : Type 0} → Result A Fault → (A → Result B Fault) → Result B Fault
then (Ok x) f = f x
then (Err e) f = Err e

-- the parts are a pair for each column, and no more
abbrev pub row_at : (cs : List Column) → ℕ → List (List ℕ) → Result (Values cs) Fault
row_at [] at ps = end_at at ps
row_at (c ∷ cs) at ps = then (column_at c at ps) (λ v. then (row_at cs (next at ps) (left ps)) (λ vs. Ok (v, vs)))

-- a line's parts, if it is short enough
abbrev pub of_line : {A : Type 0} → (List (List ℕ) → Result A Fault) → List ℕ → Result A Fault
of_line read line = cond (nat_le (length line) 96) (read (cut 32 line)) (Err TooLong)

-- the place before a line's first part
abbrev pub place_in : List ℕ → Result Place Fault
place_in line = of_line (λ ps. Ok (record { at = 0; parts = ps })) line

abbrev pub call_at : Op → ℕ → List (List ℕ) → Result Call Fault
call_at o at ps = then (row_at (row o) at ps) (λ vs. Ok (call o vs))

-- what an op takes was read from the place p on, up to the place q: no part may be left there. Or it has this fault
abbrev pub Argued : Op → Place → Place → Result Call Fault → Type 0
Argued o p q (Ok c) = call_at o p.at p.parts ≡ then (end_at q.at q.parts) (λ _. Ok c)
Argued o p q (Err fault) = call_at o p.at p.parts ≡ Err fault

abbrev pub command_at : ℕ → List (List ℕ) → Result Call Fault
command_at at ps = then (column_at op_column at ps) (λ o. call_at o (next at ps) (left ps))

abbrev pub header_at : ℕ → List (List ℕ) → Result Header Fault
header_at at ps = then (row_at header_row at ps) (λ vs. Ok (header vs))

-- WHAT A LINE IS READ AS
abbrev pub command_of : List ℕ → Result Call Fault
command_of line = of_line (command_at 0) line

abbrev pub header_of : List ℕ → Result Header Fault
header_of line = of_line (header_at 0) line
