-- When a board holds what the rules say.
use Rattle.std.specs.Prelude.{◌≡◌, ℕ, ◌<◌, ◌≤◌, false, List, [], ◌∷◌, length, Some, None, Option, slice_index, slice_index_or}
use Rattle.calls.specs.declared.write.Write.{Write}
use Rattle.calls.specs.declared.call.Call.{Call}
use Rattle.rules.specs.declared.findings.Findings.{Findings}
use Rattle.history.specs.State.{Setup, State, new_board, Version, Seat as Place, empty, held, Transaction as Running}
use Rattle.history.specs.Steps.{Answer, step, listed}
use Rattle.history.specs.Log.{History, nothing, ◌▷◌, Leads}
use Rattle.history.specs.Promise.{Promise}
use Rattle.versions.specs.Slots.{padded}
use Rattle.board.specs.declared.transaction.Transaction.{Transaction}
use Rattle.board.specs.declared.seat.Held.{Held}
use Rattle.board.specs.Contents.{Contents, setup_of}
use Rattle.board.specs.Lists.{write_list, slots_of}

-- no item is listed twice
abbrev pub OnceEach : List Write → Type 0
OnceEach [] = Unit {0}
OnceEach (w ∷ ws) = (listed w.item ws ≡ None) × OnceEach ws

-- an open transaction is the one that the rules have
pub record Runs (items : ℕ) (t : Transaction) (x : Running) : Type 0 where
  pub mode : t.mode ≡ x.mode
  pub start : t.start ≡ x.start
  pub marks : (item : ℕ) → item < items → slice_index_or t.marks item false ≡ x.marked item
  pub writes : write_list t ≡ x.writes
  pub once : OnceEach x.writes

-- what a seat has open is what the rules have
abbrev pub Opens : ℕ → Option Transaction → Option Running → Type 0
Opens items None None = Unit {0}
Opens items None (Some x) = ⊥
Opens items (Some t) None = ⊥
Opens items (Some t) (Some x) = Runs items t x

-- a seat is the one that the rules have
abbrev pub Seated : ℕ → Option Held → Place → Type 0
Seated items None empty = Unit {0}
Seated items None (held pass class o) = ⊥
Seated items (Some h) empty = ⊥
Seated items (Some h) (held pass class o) = (h.pass ≡ pass) × (h.class ≡ class) × Opens items h.running o

-- the rest version of the board's kind
abbrev pub rest_of : {R : Type 0} → Contents R → Version
rest_of board = record { code = board.rest; natural = 0; place = 0 }

-- the board keeps just what the state does: every number, every seat, and in the slots of each item its versions, head first, with rest versions behind
pub record Holds {R : Type 0} (board : Contents R) (s : State) : Type 0 where
  pub clock : board.clock ≡ s.clock
  pub passes : board.passes ≡ s.passes
  pub stamps : (item : ℕ) → item < board.items → slice_index board.stamps item ≡ (s.items item).stamp
  pub seats : (seat : ℕ) → seat < board.seat_count → Seated board.items (slice_index_or board.seats seat None) (s.seats seat)
  pub lists : (item : ℕ) → item < board.items → slots_of board.versions item ≡ padded 8 (rest_of board) (s.items item).versions
  pub few_versions : (item : ℕ) → item < board.items → length (s.items item).versions ≤ 8

-- of every state that the board holds, and of the open transaction that the rules have there
abbrev pub WhileOpen : {R : Type 0} → Contents R → Transaction → (State → Running → Type 0) → Type 0
WhileOpen board t P = (s : State) (x : Running) → Holds board s → Runs board.items t x → P s x

module _ {R : Type 0} (answers : R → Findings → Option ℕ) where
  -- a new board is made for just what was asked, and holds the new state, to which the empty list of calls leads
  pub record Opened (b : Setup) (board : Contents R) : Type 0 where
    pub made_for : setup_of answers board ≡ b
    pub leads : Leads (setup_of answers board) nothing (new_board (setup_of answers board))
    pub holds : Holds board (new_board (setup_of answers board))

  -- from a state that the board held before, the answer is the step's, and the board then holds what the step leaves
  pub record Stepped (before after : Contents R) (call : Call) (answer : Answer) (s : State) : Type 0 where
    pub same_setup : setup_of answers after ≡ setup_of answers before
    pub answered : answer ≡ (step (setup_of answers before) call s).answer
    pub holds : Holds after (step (setup_of answers before) call s).after

  -- a call keeps the promise: after every list of calls that leads to a state that the board holds, the list with this call and its answer leads to a state that the board then holds, and the promise is kept for it
  pub record Played (before after : Contents R) (h : History) (call : Call) (answer : Answer) : Type 0 where
    pub same_setup : setup_of answers after ≡ setup_of answers before
    pub state_left : State
    pub leads : Leads (setup_of answers before) (h ▷ (call, answer)) state_left
    pub holds : Holds after state_left
    pub promise : Promise (setup_of answers before) (h ▷ (call, answer))

  abbrev pub KeepsThePromise : Contents R → Contents R → Call → Answer → Type 0
  KeepsThePromise before after call answer = (h : History) (s : State) → Leads (setup_of answers before) h s → Holds before s → Played before after h call answer

  -- a call does its step, after every list of calls that leads to the state that the board holds
  abbrev pub Follows : Contents R → Contents R → Call → Answer → Type 0
  Follows before after call answer = (h : History) (s : State) → Leads (setup_of answers before) h s → Holds before s → Stepped before after call answer s
