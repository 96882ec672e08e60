-- Requests that are played one after the other.
use Rattle.std.specs.Prelude.{◌≡◌, ℕ, Bool, true, false, ◌⊎◌, List, [], ◌∷◌, length, Some, None, Ok, Err, Option, Result, ◌==◌}
use Rattle.calls.specs.declared.call.Call.{Call}
use Rattle.calls.specs.declared.fault.Fault.{Fault}
use Rattle.calls.specs.declared.header.Header.{Header}
use Rattle.calls.specs.declared.reply.Reply.{Reply}
use Rattle.rules.specs.declared.findings.Findings.{Findings}
use Rattle.history.specs.State.{Setup, State, new_board}
use Rattle.history.specs.Steps.{step}
use Rattle.history.specs.Log.{History, Leads}
use Rattle.board.specs.Contents.{Contents, setup_of}
use Rattle.board.specs.Holding.{Holds}
use Rattle.station.specs.declared.answer.Answer.{Answer}
use Rattle.station.specs.declared.request.Request.{Request}
use Rattle.station.specs.Answers.{answer_of}
use Rattle.station.specs.Requests.{call_of}
use Rattle.player.specs.Lines.{told}
use Rattle.player.specs.Scripts.{board_for}

-- a request that stands for a call is told the board's answer to it, and any other is told its fault
abbrev pub outcome_of : Setup → State → Result Call Fault → Result Reply Fault
outcome_of b s (Ok call) = told (step b call s).answer
outcome_of b s (Err fault) = Err fault

abbrev pub left_by : Setup → State → Result Call Fault → State
left_by b s (Ok call) = (step b call s).after
left_by b s (Err fault) = s

-- the answers to requests, made one after the other
abbrev pub answers_from : Setup → State → List Request → List Answer
answers_from b s [] = []
answers_from b s (q ∷ qs) = answer_of (outcome_of b s (call_of q)) ∷ answers_from b (left_by b s (call_of q)) qs

-- the same on a new board
abbrev pub answers_on : Setup → List Request → List Answer
answers_on b qs = answers_from b (new_board b) qs

module _ {R : Type 0} (answers : R → Findings → Option ℕ) where
  -- a request was told this: the board then holds what the request leaves, to which some calls lead
  pub record ToldFrom (before after : Contents R) (q : Request) (o : Result Reply Fault) (s : State) : Type 0 where
    pub same_setup : setup_of answers after ≡ setup_of answers before
    pub told_as : o ≡ outcome_of (setup_of answers before) s (call_of q)
    pub made : History
    pub leads : Leads (setup_of answers before) made (left_by (setup_of answers before) s (call_of q))
    pub holds : Holds after (left_by (setup_of answers before) s (call_of q))

  -- from every state that the board holds and some calls lead to
  abbrev pub Told : Contents R → Contents R → Request → Result Reply Fault → Type 0
  Told before after q o = (h : History) (s : State) → Leads (setup_of answers before) h s → Holds before s → ToldFrom before after q o s

  abbrev pub AnswersAll : Contents R → List Request → List Answer → Type 0
  AnswersAll before qs given = (h : History) (s : State) → Leads (setup_of answers before) h s → Holds before s → given ≡ answers_from (setup_of answers before) s qs

-- every request was answered as on a new board, or there was no memory (status 3) and no answer was written
abbrev pub Played : Setup → List Request → List Answer → List Answer → ℕ → Type 0
Played b qs before after status = ((status ≡ 0) × (after ≡ answers_on b qs)) ⊎ ((status ≡ 3) × (after ≡ before))

-- status 2 where there are not as many answers as requests
abbrev pub Served : Bool → Header → List Request → List Answer → List Answer → ℕ → Type 0
Served false h qs before after status = (status ≡ 2) × (after ≡ before)
Served true h qs before after status = Played (board_for h) qs before after status

-- status 1 where there is no such board
abbrev pub Ran : Option Header → List Request → List Answer → List Answer → ℕ → Type 0
Ran None qs before after status = (status ≡ 1) × (after ≡ before)
Ran (Some h) qs before after status = Served (length qs == length before) h qs before after status
