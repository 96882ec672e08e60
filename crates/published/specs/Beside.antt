-- The published algorithm run beside the board, call by call, and what is promised of the two.
-- The algorithm knows no seats and passes, and not which calls are out of place. So the machine is asked only of calls that the board lets in, that is, does
-- not refuse with 2 to 11, and then only what the call asks of a transaction; a seat is a thread. It is told where the board refuses for one of its
-- bounds, with 12, 13 or 15. It learns nothing else of the board's answer: each start, each value read, each grant with its two orders and each abort is its own.
-- In this reading the machine stays the published one, with no door of ours in front of it, and "alike" can be plain equality of answers.
use Rattle.std.specs.Prelude.{◌≡◌, ℕ, Bool, true, false, cond, List, ◌++◌, map, is_ok, Some, None, Ok, Err, Option, ◌==◌, nat_lt}
use Rattle.std.specs.Option.{option_map}
use Rattle.calls.specs.Numbers.{number, named}
use Rattle.calls.specs.declared.call.Call.{Call}
use Rattle.calls.specs.declared.call.Call.TheVariants.{Admit, Revoke, Begin, Read, Write as Writing, Commit, Abandon, Show}
use Rattle.rules.specs.WarpAnswers.{warp_answers}
use Rattle.history.specs.State.{Setup, Version, Transaction, State}
use Rattle.history.specs.Steps.{Answer, running_of, listed, step}
use Rattle.history.specs.Log.{History, nothing, ◌▷◌, Leads}
use Rattle.history.specs.Promise.{Lawful, ◌∈◌}
use Rattle.published.specs.Algorithm.{Ver, Tx, Machine, new_machine, Bounds, Outcome, passes_over, Request, begins, reads, writes, commits, gives_up, looks, operate}

---- the machine's part in a call

abbrev pub is_refusal : ℕ → Answer → Bool
is_refusal n (Ok reply) = false
is_refusal n (Err refusal) = number refusal == n

-- the call was not let in: the seat, its pass, its transaction, the item, the mode or the code was wrong for it
abbrev pub turned_away : Answer → Bool
turned_away (Ok reply) = false
turned_away (Err refusal) = nat_lt (number refusal) 12

-- the item that has no room for a version
abbrev pub full_item : Answer → Option ℕ
full_item (Ok reply) = None
full_item (Err refusal) = cond (number refusal == 15) (Some (named refusal)) None

-- what the machine is told of the board's answer
abbrev pub told : Answer → Bounds
told a = record { write_set_full = is_refusal 12 a; clock_spent = is_refusal 13 a; versions_full = full_item a }

-- what a call asks of a transaction; to be given a seat asks nothing
abbrev pub request : Call → Option Request
request (Admit seat class) = None
request (Revoke seat) = Some (gives_up seat)
request (Begin seat pass mode) = Some (begins seat mode)
request (Read seat pass item) = Some (reads seat item)
request (Writing seat pass item code) = Some (writes seat item code)
request (Commit seat pass) = Some (commits seat)
request (Abandon seat pass) = Some (gives_up seat)
request (Show item) = Some (looks item)

-- the machine's turn, if it has one, once the board has answered a call
abbrev pub turn : Setup → Call → Answer → Machine → Option Outcome
turn b call a m = cond (turned_away a) None (option_map (λ r. operate b (told a) r m) (request call))

abbrev pub after_turn : Machine → Option Outcome → Machine
after_turn m None = m
after_turn m (Some o) = o.after

-- the machine once it has stood beside the board for a whole history
abbrev pub beside : Setup → History → Machine
beside b nothing = new_machine b
beside b (h ▷ e) = after_turn (beside b h) (turn b e.0 e.1 (beside b h))

---- what is promised

abbrev pub SameAnswer : Answer → Option Outcome → Type 0
SameAnswer a None = Unit {0}
SameAnswer a (Some o) = o.answer ≡ a

-- wherever the machine was asked, it answered as the board did
abbrev pub AnswersAlike : Setup → History → Type 0
AnswersAlike b nothing = Unit {0}
AnswersAlike b (h ▷ e) = AnswersAlike b h × SameAnswer e.1 (turn b e.0 e.1 (beside b h))

-- an open transaction, on the board and in the machine
pub record SameTransaction (x : Transaction) (tx : Tx) : Type 0 where
  pub mode : x.mode ≡ tx.mode
  pub start : x.start ≡ tx.start
  pub marks : (item : ℕ) → x.marked item ≡ tx.read_set item
  pub writes : (item : ℕ) → listed item x.writes ≡ tx.write_set item

abbrev pub SameRunning : Option Transaction → Option Tx → Type 0
SameRunning None None = Unit {0}
SameRunning None (Some tx) = ⊥
SameRunning (Some x) None = ⊥
SameRunning (Some x) (Some tx) = SameTransaction x tx

-- a version of the board, in the machine's terms
abbrev pub as_ver : Version → Ver
as_ver v = record { value = v.code; nat_order = v.natural; tw_order = v.place }

-- the board's list is a front part of the machine's: what is cut off are the oldest versions
abbrev pub FrontPart : List Version → List Ver → Type 0
FrontPart board machine = (older : List Ver) × (machine ≡ map as_ver board ++ older)

pub record Follows (s : State) (m : Machine) : Type 0 where
  pub clock : s.clock ≡ m.clock
  pub stamps : (item : ℕ) → (s.items item).stamp ≡ (m.vars item).read_stamp
  pub transactions : (seat : ℕ) → SameRunning (running_of (s.seats seat)) (m.running seat)
  pub lists : (item : ℕ) → FrontPart (s.items item).versions (m.vars item).versions
  -- no open transaction reads past the front part: a version in it is visible to the transaction
  pub within : (seat : ℕ) (x : Transaction) → running_of (s.seats seat) ≡ Some x → (item : ℕ)
      → (v : Version) × (v ∈ (s.items item).versions) × (passes_over x.mode x.start (as_ver v) ≡ false)

-- under `warp`, whatever the calls, the board answers as the published algorithm does and keeps what it keeps
abbrev pub BoardFollowsPublished : Type 0
BoardFollowsPublished =
    (b : Setup) → Lawful b → b.rule ≡ warp_answers → (h : History) (s : State) → Leads b h s
    → AnswersAlike b h × Follows s (beside b h)

-- a transaction that the published algorithm would have aborted at a read is spared there and refused at its commit, whenever that comes
abbrev pub SparedIsRefused : Type 0
SparedIsRefused =
    (b : Setup) → Lawful b → b.rule ≡ warp_answers → (h : History) (s : State) → Leads b h s
    → (seat pass : ℕ) (tx : Tx) → (beside b h).running seat ≡ Some tx → tx.spared ≡ true
    → is_ok (step b (Commit seat pass) s).answer ≡ false
