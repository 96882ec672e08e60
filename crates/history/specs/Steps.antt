-- One step of a board for each call: the questions in their order, the answer, and what the board keeps then.
use Rattle.std.specs.Prelude.{ℕ, zero, suc, ◌+◌, min, Bool, true, false, cond, not, ◌||◌, ltb, leb, List, [], ◌∷◌, ◌++◌, length, is_some, Some, None, Ok, Err, Option, Result, ◌==◌, nat_le, nat_lt}
use Rattle.calls.specs.declared.call.Class.{Class}
use Rattle.calls.specs.declared.call.Mode.{Mode}
use Rattle.calls.specs.declared.call.Mode.TheVariants.{Reader, Update}
use Rattle.calls.specs.declared.call.Call.{Call}
use Rattle.calls.specs.declared.call.Call.TheVariants.{Admit, Revoke, Begin, Read, Write as Writing, Commit, Abandon, Show}
use Rattle.calls.specs.declared.reply.Reply.{Reply}
use Rattle.calls.specs.declared.reply.Reply.TheVariants.{Done, Pass, Start, Code, Granted}
use Rattle.calls.specs.declared.refusal.Refusal.{Refusal}
use Rattle.calls.specs.declared.refusal.Refusal.TheVariants.{UnknownSeat, SeatHeld, PassesSpent, SeatEmpty, WrongPass, AlreadyBegun, NotBegun, UnknownItem, ReaderWrites, UnknownCode, WriteListFull, ClockSpent, RuleRefuses, VersionsFull}
use Rattle.rules.specs.declared.findings.Findings.{Findings}
use Rattle.calls.specs.declared.write.Write.{Write}
use Rattle.history.specs.State.{Setup, Version, Item, Transaction, Seat, empty, held, State, put, at_rest}

-- where the clock and the passes stop
abbrev pub limit : ℕ
limit = 1000000

-- the most versions that an item keeps, and the most items that a transaction lists
abbrev pub most : ℕ
most = 8

abbrev pub Answer : Type 0
Answer = Result Reply Refusal

pub record Outcome : Type 0 where
  pub answer : Answer
  pub after : State

abbrev pub accept : Reply → State → Outcome
accept reply s = record { answer = Ok reply; after = s }

abbrev pub refuse : Refusal → State → Outcome
refuse refusal s = record { answer = Err refusal; after = s }

-- a question, and the refusal that a "no" gives
pub record Question : Type 0 where
  pub yes : Bool
  pub «else» : Refusal

-- the first "no" gives the refusal, and changes nothing
abbrev pub asked : List Question → State → Outcome → Outcome
asked [] s go = go
asked (q ∷ qs) s go = cond q.yes (asked qs s go) (refuse q.«else» s)

---- seats and their transactions

abbrev pub is_held : Seat → Bool
is_held empty = false
is_held (held pass class running) = true

abbrev pub has_pass : ℕ → Seat → Bool
has_pass shown empty = false
has_pass shown (held pass class running) = pass == shown

abbrev pub running_of : Seat → Option Transaction
running_of empty = None
running_of (held pass class running) = running

-- the seat, with this transaction in the place of what it has open
abbrev pub runs : Option Transaction → Seat → Seat
runs t empty = empty
runs t (held pass class running) = held pass class t

abbrev pub set_running : State → ℕ → Option Transaction → State
set_running s seat t = record {
  clock = s.clock;
  passes = s.passes;
  items = s.items;
  seats = put s.seats seat (runs t (s.seats seat));
}

---- what a transaction has listed

-- the code that is listed for an item
abbrev pub listed : ℕ → List Write → Option ℕ
listed item [] = None
listed item (w ∷ ws) = cond (w.item == item) (Some w.code) (listed item ws)

-- lists a code, or replaces the one listed
abbrev pub list_code : ℕ → ℕ → List Write → List Write
list_code item code [] = record { item = item; code = code } ∷ []
list_code item code (w ∷ ws) = cond (w.item == item) (record { item = item; code = code } ∷ ws) (w ∷ list_code item code ws)

---- an item's versions

-- the newest version that passes a test; every list has one for each test that a board puts
abbrev pub newest : Setup → (Version → Bool) → List Version → Version
newest b test [] = at_rest b
newest b test (v ∷ vs) = cond (test v) v (newest b test vs)

-- what an update transaction sees, and what a reader sees
abbrev pub natural_by : ℕ → Version → Bool
natural_by start v = nat_le v.natural start

abbrev pub place_by : ℕ → Version → Bool
place_by start v = nat_le v.place start

-- the versions newer than the newest one whose natural number is not above the start
abbrev pub newer : ℕ → List Version → List Version
newer start [] = []
newer start (v ∷ vs) = cond (natural_by start v) [] (v ∷ newer start vs)

-- the versions down to the anchor, the newest one whose natural number is not above the least start of an open transaction
abbrev pub down_to_anchor : ℕ → List Version → List Version
down_to_anchor least [] = []
down_to_anchor least (v ∷ vs) = v ∷ cond (natural_by least v) [] (down_to_anchor least vs)

-- a new version goes in by its place; where the list has that place already, the write is skipped
abbrev pub insert_version : Version → List Version → List Version
insert_version n [] = n ∷ []
insert_version n (v ∷ vs) = cond (nat_lt v.place n.place) (n ∷ v ∷ vs) (cond (v.place == n.place) (v ∷ vs) (v ∷ insert_version n vs))

---- over all numbers below a count

-- the lists of all, the lowest number first
abbrev pub gather : {A : Type 0} → ℕ → (ℕ → List A) → List A
gather zero f = []
gather (suc n) f = gather n f ++ f n

-- the lowest number below n that passes the test, or n
abbrev pub lowest : ℕ → (ℕ → Bool) → ℕ
lowest zero test = 0
lowest (suc n) test = cond (nat_lt (lowest n test) n) (lowest n test) (cond (test n) n (suc n))

---- what a commit finds

abbrev pub is_warped : Version → Bool
is_warped v = not (v.place == v.natural)

abbrev pub any : {A : Type 0} → (A → Bool) → List A → Bool
any test [] = false
any test (x ∷ xs) = test x || any test xs

-- the least of the places, if there is any
abbrev pub earliest : List Version → Option ℕ
earliest [] = None
earliest (v ∷ vs) = elim (earliest vs) [ None ↦ Some v.place | Some p ↦ Some (min v.place p) ]

-- the missed versions of an item: of a marked one, those newer than the one that was read
abbrev pub missed_of : State → Transaction → ℕ → List Version
missed_of s t item = cond (t.marked item) (newer t.start (s.items item).versions) []

abbrev pub missed : Setup → State → Transaction → List Version
missed b s t = gather b.items (missed_of s t)

-- a listed item was read, or may have been, at or after the start
abbrev pub overtaken : State → Transaction → Bool
overtaken s t = any (λ (w : Write). leb t.start (s.items w.item).stamp) t.writes

abbrev pub findings : Setup → State → Class → Transaction → Findings
findings b s class t = record {
  start = t.start;
  next = s.clock + 1;
  class = class;
  overtaken = overtaken s t;
  missed = earliest (missed b s t);
  warped = any is_warped (missed b s t);
}

-- the starts of the open transactions
abbrev pub start_of : Option Transaction → List ℕ
start_of None = []
start_of (Some t) = t.start ∷ []

abbrev pub starts : Setup → State → List ℕ
starts b s = gather b.seats (λ seat. start_of (running_of (s.seats seat)))

abbrev pub least : ℕ → List ℕ → ℕ
least most [] = most
least most (x ∷ xs) = min x (least most xs)

-- the least start of an open transaction, the committing one counted
abbrev pub least_start : Setup → State → Transaction → ℕ
least_start b s t = least t.start (starts b s)

---- what a commit leaves

-- every marked item's stamp is raised to the clock, and the transaction is dropped
abbrev pub raised : State → Transaction → ℕ → Item
raised s t item = record {
  stamp = cond (t.marked item) s.clock (s.items item).stamp;
  versions = (s.items item).versions;
}

abbrev pub raise_and_drop : State → ℕ → Transaction → State
raise_and_drop s seat t = record {
  clock = s.clock;
  passes = s.passes;
  items = raised s t;
  seats = put s.seats seat (runs None (s.seats seat));
}

-- the versions of an item that stay: the anchor and those above it
abbrev pub cut_down : Setup → State → Transaction → ℕ → List Version
cut_down b s t item = down_to_anchor (least_start b s t) (s.items item).versions

-- an item's versions once the commit is granted: of a listed one those below the anchor are gone and the new one is in
abbrev pub stored : Setup → State → Transaction → ℕ → ℕ → Option ℕ → List Version
stored b s t place item None = (s.items item).versions
stored b s t place item (Some code) =
    insert_version (record { code = code; natural = s.clock + 1; place = place }) (cut_down b s t item)

-- a listed item's versions would be too many
abbrev pub overfull : Setup → State → Transaction → ℕ → ℕ → Option ℕ → Bool
overfull b s t place item None = false
overfull b s t place item (Some code) = nat_lt most (length (stored b s t place item (Some code)))

abbrev pub is_full : Setup → State → Transaction → ℕ → ℕ → Bool
is_full b s t place item = overfull b s t place item (listed item t.writes)

abbrev pub store : Setup → State → ℕ → Transaction → ℕ → State
store b s seat t place = record {
  clock = s.clock + 1;
  passes = s.passes;
  items = λ item. record { stamp = (raised s t item).stamp; versions = stored b s t place item (listed item t.writes) };
  seats = put s.seats seat (runs None (s.seats seat));
}

---- the questions, in their order

abbrev pub admit_questions : Setup → ℕ → State → List Question
admit_questions b seat s =
    record { yes = nat_lt seat b.seats; «else» = UnknownSeat } ∷
    record { yes = not (is_held (s.seats seat)); «else» = SeatHeld } ∷
    record { yes = nat_lt s.passes limit; «else» = PassesSpent } ∷ []

abbrev pub revoke_questions : Setup → ℕ → State → List Question
revoke_questions b seat s =
    record { yes = nat_lt seat b.seats; «else» = UnknownSeat } ∷
    record { yes = is_held (s.seats seat); «else» = SeatEmpty } ∷ []

-- of every call that shows a pass
abbrev pub pass_questions : Setup → ℕ → ℕ → State → List Question
pass_questions b seat pass s =
    record { yes = nat_lt seat b.seats; «else» = UnknownSeat } ∷
    record { yes = is_held (s.seats seat); «else» = SeatEmpty } ∷
    record { yes = has_pass pass (s.seats seat); «else» = WrongPass } ∷ []

abbrev pub begin_questions : ℕ → State → List Question
begin_questions seat s = record { yes = not (is_some (running_of (s.seats seat))); «else» = AlreadyBegun } ∷ []

abbrev pub item_questions : Setup → ℕ → List Question
item_questions b item = record { yes = nat_lt item b.items; «else» = UnknownItem } ∷ []

abbrev pub is_update : Mode → Bool
is_update Reader = false
is_update Update = true

abbrev pub write_questions : Setup → ℕ → ℕ → Transaction → List Question
write_questions b item code t =
    record { yes = nat_lt item b.items; «else» = UnknownItem } ∷
    record { yes = is_update t.mode; «else» = ReaderWrites } ∷
    record { yes = nat_lt code b.codes; «else» = UnknownCode } ∷
    record { yes = is_some (listed item t.writes) || nat_lt (length t.writes) most; «else» = WriteListFull } ∷ []

---- the calls

abbrev pub admit : Setup → ℕ → Class → State → Outcome
admit b seat class s = asked (admit_questions b seat s) s
    (accept (Pass (s.passes + 1)) (record {
      clock = s.clock;
      passes = s.passes + 1;
      items = s.items;
      seats = put s.seats seat (held (s.passes + 1) class None);
    }))

abbrev pub revoke : Setup → ℕ → State → Outcome
revoke b seat s = asked (revoke_questions b seat s) s
    (accept Done (record { clock = s.clock; passes = s.passes; items = s.items; seats = put s.seats seat empty }))

abbrev pub begin : Setup → ℕ → ℕ → Mode → State → Outcome
begin b seat pass mode s = asked (pass_questions b seat pass s) s (asked (begin_questions seat s) s
    (accept (Start s.clock) (set_running s seat (Some (record { mode = mode; start = s.clock; marked = λ _. false; writes = [] })))))

-- a call that needs an open transaction
abbrev pub in_running : State → Seat → (Class → Transaction → Outcome) → Outcome
in_running s empty go = refuse NotBegun s
in_running s (held pass class None) go = refuse NotBegun s
in_running s (held pass class (Some t)) go = go class t

abbrev pub with_running : Setup → ℕ → ℕ → State → (Class → Transaction → Outcome) → Outcome
with_running b seat pass s go = asked (pass_questions b seat pass s) s (in_running s (s.seats seat) go)

-- a reader raises the stamp and sees by place
abbrev pub read_by_place : Setup → ℕ → ℕ → Transaction → State → Outcome
read_by_place b seat item t s = accept
    (Code (newest b (place_by t.start) (s.items item).versions).code)
    (record {
      clock = s.clock;
      passes = s.passes;
      items = put s.items item (record { stamp = s.clock; versions = (s.items item).versions });
      seats = s.seats;
    })

-- an update transaction sees what it has listed, else it marks the item and sees by natural number
abbrev pub read_by_natural : Setup → ℕ → ℕ → Transaction → State → Option ℕ → Outcome
read_by_natural b seat item t s (Some code) = accept (Code code) s
read_by_natural b seat item t s None = accept
    (Code (newest b (natural_by t.start) (s.items item).versions).code)
    (set_running s seat (Some (record { mode = t.mode; start = t.start; marked = put t.marked item true; writes = t.writes })))

abbrev pub read_in : Setup → ℕ → ℕ → Transaction → State → Mode → Outcome
read_in b seat item t s Reader = read_by_place b seat item t s
read_in b seat item t s Update = read_by_natural b seat item t s (listed item t.writes)

abbrev pub read : Setup → ℕ → ℕ → ℕ → State → Outcome
read b seat pass item s = with_running b seat pass s λ _ t. asked (item_questions b item) s (read_in b seat item t s t.mode)

abbrev pub write : Setup → ℕ → ℕ → ℕ → ℕ → State → Outcome
write b seat pass item code s = with_running b seat pass s λ _ t. asked (write_questions b item code t) s
    (accept Done (set_running s seat (Some (record { mode = t.mode; start = t.start; marked = t.marked; writes = list_code item code t.writes }))))

-- the rule has spoken
abbrev pub settle : Setup → ℕ → Transaction → State → Option ℕ → Outcome
settle b seat t s None = refuse (RuleRefuses (lowest b.items (λ item. ltb 0 (length (missed_of s t item))))) (raise_and_drop s seat t)
settle b seat t s (Some place) =
    cond (nat_lt (lowest b.items (is_full b s t place)) b.items)
    (refuse (VersionsFull (lowest b.items (is_full b s t place))) (raise_and_drop s seat t))
    (accept (Granted (s.clock + 1, place)) (store b s seat t place))

abbrev pub commit_in : Setup → ℕ → Class → Transaction → State → Mode → Outcome
commit_in b seat class t s Reader = accept (Granted (0, t.start)) (set_running s seat None)
commit_in b seat class t s Update =
    cond (nat_lt s.clock limit)
    (settle b seat t s (b.rule (findings b s class t)))
    (refuse ClockSpent (set_running s seat None))

abbrev pub commit : Setup → ℕ → ℕ → State → Outcome
commit b seat pass s = with_running b seat pass s λ class t. commit_in b seat class t s t.mode

abbrev pub abandon : Setup → ℕ → ℕ → State → Outcome
abandon b seat pass s = with_running b seat pass s λ _ _. accept Done (set_running s seat None)

abbrev pub show : Setup → ℕ → State → Outcome
show b item s = asked (item_questions b item) s (accept (Code (newest b (λ _. true) (s.items item).versions).code) s)

abbrev pub step : Setup → Call → State → Outcome
step b (Admit seat class) s = admit b seat class s
step b (Revoke seat) s = revoke b seat s
step b (Begin seat pass mode) s = begin b seat pass mode s
step b (Read seat pass item) s = read b seat pass item s
step b (Writing seat pass item code) s = write b seat pass item code s
step b (Commit seat pass) s = commit b seat pass s
step b (Abandon seat pass) s = abandon b seat pass s
step b (Show item) s = show b item s
