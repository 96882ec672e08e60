-- What is told of a script in words: a line for each of its writes.
use Rattle.std.specs.Prelude.{ℕ, ◌+◌, min, cond, List, [], ◌∷◌, ◌++◌, length, Some, None, Ok, Err, codes, decimal, Option, Result, nat_le, nat_lt}
use Rattle.calls.specs.declared.call.Call.{Call}
use Rattle.calls.specs.declared.call.Call.TheVariants as call
use Rattle.calls.specs.declared.fault.Fault.{Fault}
use Rattle.calls.specs.declared.header.BoardKind.{BoardKind}
use Rattle.calls.specs.declared.header.BoardKind.TheVariants.{Drive, Switch}
use Rattle.calls.specs.declared.header.Header.{Header}
use Rattle.calls.specs.declared.write.Write.{Write}
use Rattle.kinds.specs.Locomotives.{locomotive_of}
use Rattle.kinds.specs.Turnouts.{turnout_of}
use Rattle.kinds.specs.Words.{locomotive_words, turnout_words}
use Rattle.script.specs.Lines.{lines_of}
use Rattle.script.specs.Reading.{command_of, header_of}

-- the state that a code stands for on a board of locomotives or of turnouts
abbrev pub code_words : BoardKind → ℕ → List ℕ
code_words Drive n = cond (nat_lt n 8382) (locomotive_words (locomotive_of n)) (codes "no such code")
code_words Switch n = cond (nat_lt n 35) (turnout_words (turnout_of n)) (codes "no such code")

-- the item and the code of a call that writes
abbrev pub call_written : Call → Option Write
call_written (call.Admit s c) = None
call_written (call.Revoke s) = None
call_written (call.Begin s p m) = None
call_written (call.Read s p i) = None
call_written (call.Write s p i c) = Some (record { item = i; code = c })
call_written (call.Commit s p) = None
call_written (call.Abandon s p) = None
call_written (call.Show i) = None

-- a line that is not well formed writes nothing
abbrev pub written : Result Call Fault → Option Write
written (Ok c) = call_written c
written (Err fault) = None

-- what is told of line n: its number, the item, the words of the code, and a newline
abbrev pub line_told : BoardKind → ℕ → Option Write → List ℕ
line_told b n None = []
line_told b n (Some w) = decimal n ++ (codes ": item " ++ (decimal w.item ++ (codes ": " ++ (code_words b w.code ++ (10 ∷ [])))))

-- what is told of the lines from line n on
abbrev pub told_from : BoardKind → ℕ → List (List ℕ) → List ℕ
told_from b n [] = []
told_from b n (l ∷ ls) = line_told b n (written (command_of l)) ++ told_from b (min (n + 1) 9999999) ls

-- no line is told of under a header that is refused
abbrev pub after_header : Result Header Fault → List (List ℕ) → List ℕ
after_header (Ok h) ls = told_from h.board 2 ls
after_header (Err fault) ls = codes "line 1 is no header" ++ (10 ∷ [])

abbrev pub script_told : List (List ℕ) → List ℕ
script_told [] = []
script_told (l ∷ ls) = after_header (header_of l) ls

abbrev pub explain_of : List ℕ → List ℕ
explain_of s = cond (nat_le (length s) 32768) (script_told (lines_of s)) (codes "the script is too long" ++ (10 ∷ []))
