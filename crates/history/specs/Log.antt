-- What is read off a list of calls and their answers, and off nothing else: the transactions, what each did, and how it ended.
use Rattle.std.specs.Prelude.{ℕ, ◌+◌, Bool, false, cond, ◌&&◌, List, [], ◌∷◌, is_ok, Some, None, Ok, Err, Option, nat_le}
use Rattle.std.specs.Option.{option_map}
use Rattle.calls.specs.Numbers.{number}
use Rattle.calls.specs.declared.call.Mode.{Mode}
use Rattle.calls.specs.declared.call.Call.{Call}
use Rattle.calls.specs.declared.call.Call.TheVariants.{Admit, Revoke, Begin, Read, Write as Writing, Commit, Abandon, Show}
use Rattle.calls.specs.declared.reply.Reply.TheVariants.{Done, Pass, Start, Code, Granted}
use Rattle.history.specs.State.{Setup, State, put, new_board}
use Rattle.history.specs.Steps.{Answer, step}

infixl 20 ◌▷◌
-- calls with their answers, from a new board on
pub data History : Type 0 where
  nothing : History
  ◌▷◌ : History → (Call × Answer) → History

-- the calls of a history, made one after the other on a new board, are answered as it says and leave the state
pub data Leads (b : Setup) : History → State → Type 0 where
  from_new : Leads b nothing (new_board b)
  one_more : {h : History} {s : State} (call : Call) → Leads b h s → Leads b (h ▷ (call, (step b call s).answer)) (step b call s).after

-- what a transaction did, in the order of its calls: it read a code, or wrote one
pub data Deeds : Type 0 where
  begun : Deeds
  and_read : Deeds → (item code : ℕ) → Deeds
  and_wrote : Deeds → (item code : ℕ) → Deeds

-- a transaction: the number of its begin among all calls, what begin was asked and answered, and what it did
pub record Trace : Type 0 where
  pub began : ℕ
  pub mode : Mode
  pub start : ℕ
  pub deeds : Deeds

-- a granted one: what its commit answered, and the number of that commit among all calls
pub record Grant : Type 0 where
  pub trace : Trace
  pub natural : ℕ
  pub place : ℕ
  pub ended : ℕ

-- the latest comes first
pub record Log : Type 0 where
  pub calls : ℕ
  pub running : ℕ → Option Trace
  pub granted : List Grant
  pub dropped : List Trace

---- what an answer says

abbrev pub start_told : Answer → Option ℕ
start_told (Ok Done) = None
start_told (Ok (Pass p)) = None
start_told (Ok (Start s)) = Some s
start_told (Ok (Code c)) = None
start_told (Ok (Granted g)) = None
start_told (Err refusal) = None

abbrev pub code_told : Answer → Option ℕ
code_told (Ok Done) = None
code_told (Ok (Pass p)) = None
code_told (Ok (Start s)) = None
code_told (Ok (Code c)) = Some c
code_told (Ok (Granted g)) = None
code_told (Err refusal) = None

abbrev pub pair_told : Answer → Option (ℕ × ℕ)
pair_told (Ok Done) = None
pair_told (Ok (Pass p)) = None
pair_told (Ok (Start s)) = None
pair_told (Ok (Code c)) = None
pair_told (Ok (Granted g)) = Some g
pair_told (Err refusal) = None

-- a commit refused with 13, 14 or 15 ends its transaction
abbrev pub ends_it : Answer → Bool
ends_it (Ok reply) = false
ends_it (Err refusal) = nat_le 13 (number refusal) && nat_le (number refusal) 15

---- one call more

abbrev pub opened : Log → ℕ → Mode → Option ℕ → Log
opened l seat mode None = l
opened l seat mode (Some start) = record {
  calls = l.calls;
  running = put l.running seat (Some (record { began = l.calls; mode = mode; start = start; deeds = begun }));
  granted = l.granted;
  dropped = l.dropped;
}

-- the seat's open transaction does something
abbrev pub does : Log → ℕ → (Deeds → Deeds) → Log
does l seat deed = record {
  calls = l.calls;
  running = put l.running seat (option_map (λ (t : Trace). record { began = t.began; mode = t.mode; start = t.start; deeds = deed t.deeds }) (l.running seat));
  granted = l.granted;
  dropped = l.dropped;
}

abbrev pub read_noted : Log → ℕ → ℕ → Option ℕ → Log
read_noted l seat item None = l
read_noted l seat item (Some code) = does l seat (λ d. and_read d item code)

-- the seat's open transaction, if any, ends without a grant
abbrev pub drop_it : Log → ℕ → Option Trace → Log
drop_it l seat None = l
drop_it l seat (Some t) = record {
  calls = l.calls;
  running = put l.running seat None;
  granted = l.granted;
  dropped = t ∷ l.dropped;
}

-- it is granted
abbrev pub grant_it : Log → ℕ → ℕ × ℕ → Option Trace → Log
grant_it l seat pair None = l
grant_it l seat pair (Some t) = record {
  calls = l.calls;
  running = put l.running seat None;
  granted = record { trace = t; natural = pair.0; place = pair.1; ended = l.calls } ∷ l.granted;
  dropped = l.dropped;
}

abbrev pub end_noted : Log → ℕ → Bool → Option (ℕ × ℕ) → Log
end_noted l seat ends (Some pair) = grant_it l seat pair (l.running seat)
end_noted l seat ends None = cond ends (drop_it l seat (l.running seat)) l

abbrev pub note : Log → Call → Answer → Log
note l (Admit seat class) a = l
note l (Revoke seat) a = cond (is_ok a) (drop_it l seat (l.running seat)) l
note l (Begin seat pass mode) a = opened l seat mode (start_told a)
note l (Read seat pass item) a = read_noted l seat item (code_told a)
note l (Writing seat pass item code) a = cond (is_ok a) (does l seat (λ d. and_wrote d item code)) l
note l (Commit seat pass) a = end_noted l seat (ends_it a) (pair_told a)
note l (Abandon seat pass) a = cond (is_ok a) (drop_it l seat (l.running seat)) l
note l (Show item) a = l

abbrev pub count_call : Log → Log
count_call l = record { calls = l.calls + 1; running = l.running; granted = l.granted; dropped = l.dropped }

abbrev pub log : History → Log
log nothing = record { calls = 0; running = λ _. None; granted = []; dropped = [] }
log (h ▷ e) = count_call (note (log h) e.0 e.1)
