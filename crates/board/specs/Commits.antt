-- What a commit does.
use Rattle.std.specs.Prelude.{◌≡◌, ℕ, ◌+◌, ◌<◌, Some, None, Option}
use Rattle.calls.specs.declared.call.Class.{Class}
use Rattle.calls.specs.declared.call.Mode.TheVariants.{Update}
use Rattle.rules.specs.declared.findings.Findings.{Findings}
use Rattle.history.specs.State.{State, Transaction as Running}
use Rattle.history.specs.Steps.{Answer, Outcome, commit_in, settle, least_start}
use Rattle.board.specs.declared.transaction.Transaction.{Transaction}
use Rattle.board.specs.Contents.{Contents, setup_of}
use Rattle.board.specs.Ends.{NowRuns, Raised}
use Rattle.board.specs.Room.{Reaches}
use Rattle.board.specs.Holding.{Holds, WhileOpen}

-- nothing changes but the stamps of marked items, which are the clock, and the seat, which has nothing open
pub record Ended {R : Type 0} (before after : Contents R) (at : ℕ) (t : Transaction) : Type 0 where
  pub between : Contents R
  pub raised : Raised before between t
  pub closed : NowRuns between after at None

module _ {R : Type 0} (answers : R → Findings → Option ℕ) where
  -- the answer is the outcome's, and the board then holds what the outcome leaves
  pub record Comes (before after : Contents R) (answer : Answer) (o : Outcome) : Type 0 where
    pub same_setup : setup_of answers after ≡ setup_of answers before
    pub answered : answer ≡ o.answer
    pub holds : Holds after o.after

  -- from every state that the board held, if its version lists reach down to the least start
  abbrev pub FromHeld : Contents R → ℕ → Transaction → (State → Running → Type 0) → Type 0
  FromHeld before seat t P = WhileOpen before t λ s x. seat < before.seat_count → Reaches (least_start (setup_of answers before) s x) s → P s x

  -- an update transaction is settled as the rules say
  abbrev pub Settled : Contents R → Contents R → ℕ → Class → Transaction → Answer → Type 0
  Settled before after seat class t answer = FromHeld before seat t λ s x. Comes before after answer (commit_in (setup_of answers before) seat class x s Update)

  -- and so it is once the rule has given a place
  abbrev pub Placed : Contents R → Contents R → ℕ → Transaction → ℕ → ℕ → Answer → Type 0
  Placed before after seat t next place answer = next ≡ before.clock + 1 → FromHeld before seat t λ s x. Comes before after answer (settle (setup_of answers before) seat x s (Some place))
