-- What a line of a script does on a board, and what many lines do, one after the other.
use Rattle.std.specs.Prelude.{◌≡◌, ℕ, ◌+◌, min, List, [], ◌∷◌, ◌++◌, length, Ok, Err, Option, Result}
use Rattle.calls.specs.declared.call.Call.{Call}
use Rattle.calls.specs.declared.fault.Fault.{Fault}
use Rattle.calls.specs.declared.fault.Fault.TheVariants.{Refused}
use Rattle.calls.specs.declared.reply.Reply.{Reply}
use Rattle.rules.specs.declared.findings.Findings.{Findings}
use Rattle.history.specs.State.{State}
use Rattle.history.specs.Steps.{Answer}
use Rattle.history.specs.Log.{History, ◌▷◌, Leads}
use Rattle.history.specs.Promise.{Promise}
use Rattle.script.specs.Answers.{answer, padded}
use Rattle.script.specs.Reading.{command_of}
use Rattle.board.specs.Contents.{Contents, setup_of}
use Rattle.board.specs.Holding.{Holds}

-- what is told of a line: the reply to its call, or what is wrong with it
abbrev pub Outcome : Type 0
Outcome = Result Reply Fault

-- the board's answer, told of a line: a fault keeps the board's refusal whole
abbrev pub told : Answer → Outcome
told (Ok reply) = Ok reply
told (Err refusal) = Err (Refused refusal)

-- a line that is read as a call makes it, and is told the board's answer; any other line makes no call, and is told its fault
abbrev pub Adds : History → Result Call Fault → Outcome → History → Type 0
Adds h (Ok call) o after = (a : Answer) × (o ≡ told a) × (after ≡ h ▷ (call, a))
Adds h (Err fault) o after = (o ≡ Err fault) × (after ≡ h)

-- lines, an outcome for each, and the calls made before and after them
abbrev pub Goes : History → List (List ℕ) → List Outcome → History → Type 0
Goes h [] [] after = after ≡ h
Goes h [] (o ∷ os) after = ⊥
Goes h (line ∷ lines) [] after = ⊥
Goes h (line ∷ lines) (o ∷ os) after = (between : History) × Adds h (command_of line) o between × Goes between lines os after

-- the answer lines from line n on
abbrev pub text_of : ℕ → List Outcome → List ℕ
text_of n [] = []
text_of n (o ∷ os) = answer n o ++ text_of (min (n + 1) 9999999) os

module _ {R : Type 0} (answers : R → Findings → Option ℕ) where
  -- after the calls h a line was played: the calls with what it adds lead to a state that the board then holds, and the promise is kept for them
  pub record LinePlayed (before after : Contents R) (h : History) (line : List ℕ) (o : Outcome) : Type 0 where
    pub same_setup : setup_of answers after ≡ setup_of answers before
    pub made : History
    pub adds : Adds h (command_of line) o made
    pub state_left : State
    pub leads : Leads (setup_of answers before) made state_left
    pub holds : Holds after state_left
    pub promise : Promise (setup_of answers before) made

  -- the outcome of a line, after every list of calls that leads to a state that the board holds; a faulty line leaves the board as it was
  pub record LineTold (before after : Contents R) (line : List ℕ) (o : Outcome) : Type 0 where
    pub played : (h : History) (s : State) → Leads (setup_of answers before) h s → Holds before s → LinePlayed before after h line o
    pub untouched : (fault : Fault) → command_of line ≡ Err fault → after ≡ before

  -- a line was played, and its answer is in the 32 bytes, with zeros behind it
  pub record LineAnswered (before after : Contents R) (number : ℕ) (line out : List ℕ) (len : ℕ) : Type 0 where
    pub outcome : Outcome
    pub bytes : out ≡ padded (answer number outcome)
    pub long : len ≡ length (answer number outcome)
    pub line_told : LineTold before after line outcome

  -- the same of lines from line 2 on, whose answers are the text
  pub record LinesPlayed (before after : Contents R) (h : History) (lines : List (List ℕ)) (text : List ℕ) : Type 0 where
    pub same_setup : setup_of answers after ≡ setup_of answers before
    pub outcomes : List Outcome
    pub answered : text ≡ text_of 2 outcomes
    pub made : History
    pub goes : Goes h lines outcomes made
    pub state_left : State
    pub leads : Leads (setup_of answers before) made state_left
    pub holds : Holds after state_left
    pub promise : Promise (setup_of answers before) made

  abbrev pub LinesAnswered : Contents R → Contents R → List (List ℕ) → List ℕ → Type 0
  LinesAnswered before after lines text = (h : History) (s : State) → Leads (setup_of answers before) h s → Holds before s → LinesPlayed before after h lines text
