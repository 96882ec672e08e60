-- What a whole script is answered.
use Rattle.std.specs.Prelude.{◌≡◌, ℕ, List, [], ◌∷◌, length, Ok, Err, MatchBool, Result, nat_le}
use Rattle.calls.specs.declared.fault.Fault.{Fault}
use Rattle.calls.specs.declared.fault.Fault.TheVariants.{TooLong, Refused}
use Rattle.calls.specs.declared.header.BoardKind.{BoardKind}
use Rattle.calls.specs.declared.header.BoardKind.TheVariants.{Drive, Switch}
use Rattle.calls.specs.declared.header.Header.{Header}
use Rattle.calls.specs.declared.refusal.Refusal.TheVariants.{BadSetup}
use Rattle.rules.specs.NamedAnswers.{named_answers}
use Rattle.history.specs.State.{Setup, State}
use Rattle.history.specs.Log.{History, nothing, Leads}
use Rattle.history.specs.Promise.{Promise}
use Rattle.script.specs.Answers.{answer}
use Rattle.script.specs.Lines.{lines_of}
use Rattle.script.specs.Reading.{header_of}
use Rattle.board.specs.Sizes.{fits}
use Rattle.player.specs.Lines.{Outcome, Goes, text_of}

-- how many codes the items of a board have
abbrev pub codes_on : BoardKind → ℕ
codes_on Drive = 8382
codes_on Switch = 35

-- the board that a header asks for; the rest state of both kinds has code 0
abbrev pub board_for : Header → Setup
board_for h = record { items = h.items; seats = h.seats; codes = codes_on h.board; rest = 0; rule = named_answers h.rule }

-- the commands of a script, made one after the other on a new board, are answered as the text tells, and the promise is kept for them
pub record CommandsAnswered (b : Setup) (lines : List (List ℕ)) (text : List ℕ) : Type 0 where
  pub outcomes : List Outcome
  pub answered : text ≡ text_of 2 outcomes
  pub made : History
  pub goes : Goes nothing lines outcomes made
  pub state_left : State
  pub leads : Leads b made state_left
  pub promise : Promise b made

-- the slots of the memory that a script's board is lent: enough for 256 items
abbrev pub slots_lent : ℕ
slots_lent = 2048

-- a board that cannot be set up is told on line 1, and nothing is played
abbrev pub BoardAnswered : Setup → List (List ℕ) → List ℕ → Type 0
BoardAnswered b lines text = MatchBool (fits b.items b.seats slots_lent) (CommandsAnswered b lines text) (text ≡ answer 1 (Err (Refused BadSetup)))

-- a header that is refused is answered alone, and a good one is not answered
abbrev pub AnsweredAfter : Result Header Fault → List (List ℕ) → List ℕ → Type 0
AnsweredAfter (Ok header) lines text = BoardAnswered (board_for header) lines text
AnsweredAfter (Err fault) lines text = text ≡ answer 1 (Err fault)

abbrev pub LinesOfScriptAnswered : List (List ℕ) → List ℕ → Type 0
LinesOfScriptAnswered [] text = text ≡ []
LinesOfScriptAnswered (line ∷ lines) text = AnsweredAfter (header_of line) lines text

-- a script that is too long is not read at all
abbrev pub ScriptAnswered : List ℕ → List ℕ → Type 0
ScriptAnswered script text = MatchBool (nat_le (length script) 32768) (LinesOfScriptAnswered (lines_of script) text) (text ≡ answer 0 (Err TooLong))
