-- What a lint of a script says: an answer for each line.
use Rattle.std.specs.Prelude.{ℕ, ◌+◌, min, cond, List, [], ◌∷◌, ◌++◌, length, Ok, Err, Result, nat_le}
use Rattle.calls.specs.declared.call.Call.{Call}
use Rattle.calls.specs.declared.fault.Fault.{Fault}
use Rattle.calls.specs.declared.fault.Fault.TheVariants.{TooLong}
use Rattle.calls.specs.declared.header.Header.{Header}
use Rattle.calls.specs.declared.reply.Reply.{Reply}
use Rattle.calls.specs.declared.reply.Reply.TheVariants.{Done}
use Rattle.script.specs.Answers.{answer}
use Rattle.script.specs.Lines.{lines_of}
use Rattle.script.specs.Reading.{command_of, header_of}

-- a well-formed line has nothing to tell, since nothing is played
abbrev pub verdict : Result Call Fault → Result Reply Fault
verdict (Ok call) = Ok Done
verdict (Err fault) = Err fault

-- the answers to the lines from line n on
abbrev pub answers_from : ℕ → List (List ℕ) → List ℕ
answers_from n [] = []
answers_from n (line ∷ lines) = answer n (verdict (command_of line)) ++ answers_from (min (n + 1) 9999999) lines

-- a header that is refused is answered alone, and a good one is not answered
abbrev pub after_header : Result Header Fault → List (List ℕ) → List ℕ
after_header (Ok header) lines = answers_from 2 lines
after_header (Err fault) lines = answer 1 (Err fault)

abbrev pub script_answers : List (List ℕ) → List ℕ
script_answers [] = []
script_answers (line ∷ lines) = after_header (header_of line) lines

abbrev pub lint_of : List ℕ → List ℕ
lint_of script = cond (nat_le (length script) 32768) (script_answers (lines_of script)) (answer 0 (Err TooLong))
