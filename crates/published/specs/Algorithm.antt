-- The published time-warp multi-version algorithm in its own terms: begin, read, write and commit, each undivided, so that no locks are needed.
-- Where the board departs from the published text, a definition of its own says so under the word "Departure". There are five.
use Rattle.std.specs.Prelude.{ℕ, zero, suc, ◌+◌, min, max, Bool, true, false, cond, not, ◌&&◌, ◌||◌, List, [], ◌∷◌, is_some, Some, None, Ok, Err, Option, Result, ◌==◌, nat_le, nat_lt}
use Rattle.calls.specs.declared.call.Mode.{Mode}
use Rattle.calls.specs.declared.call.Mode.TheVariants.{Reader, Update}
use Rattle.calls.specs.declared.reply.Reply.{Reply}
use Rattle.calls.specs.declared.reply.Reply.TheVariants.{Done, Start, Code, Granted}
use Rattle.calls.specs.declared.refusal.Refusal.{Refusal}
use Rattle.calls.specs.declared.refusal.Refusal.TheVariants.{NotBegun, WriteListFull, ClockSpent, RuleRefuses, VersionsFull}
use Rattle.history.specs.State.{Setup, put}

---- what it keeps

-- a version: its value, and the natural and the time-warp commit order of the transaction that wrote it
pub record Ver : Type 0 where
  pub value : ℕ
  pub nat_order : ℕ
  pub tw_order : ℕ

abbrev pub is_time_warped : Ver → Bool
is_time_warped v = not (v.nat_order == v.tw_order)

-- a variable: the clock at its last visible read, and all versions by time-warp order, the latest first; none is ever removed
pub record Var : Type 0 where
  pub read_stamp : ℕ
  pub versions : List Ver

-- a transaction, read-only or update: its start, the variables in its read set, and the value that its write set has for a variable, if any
pub record Tx : Type 0 where
  pub mode : Mode
  pub start : ℕ
  pub read_set : ℕ → Bool
  pub write_set : ℕ → Option ℕ
  -- the published read would have aborted it by now: see early_abort
  pub spared : Bool

-- a thread runs one transaction at a time
pub record Machine : Type 0 where
  pub clock : ℕ
  pub vars : ℕ → Var
  pub running : ℕ → Option Tx

-- Departure: the clock starts at 1, so that a read stamp of 0 stands for no reader
abbrev pub first_clock : ℕ
first_clock = 1

-- every variable has its first value, of a commit before all others
abbrev pub new_machine : Setup → Machine
new_machine b = record {
  clock = first_clock;
  vars = λ _. record { read_stamp = 0; versions = record { value = b.rest; nat_order = 0; tw_order = 0 } ∷ [] };
  running = λ _. None;
}

-- Departure: the published write sets, clock and version lists have no bounds, and the board's have. The machine is told where the board refuses for a bound:
-- that no variable more can be written (the write is ignored), that no commit more can be counted, or that a variable has no room for a version more (the transaction is dropped)
pub record Bounds : Type 0 where
  pub write_set_full : Bool
  pub clock_spent : Bool
  pub versions_full : Option ℕ

pub record Outcome : Type 0 where
  pub answer : Result Reply Refusal
  pub after : Machine

abbrev pub answers : Result Reply Refusal → Machine → Outcome
answers a m = record { answer = a; after = m }

-- the thread's transaction is now this one, or none
abbrev pub runs : Machine → ℕ → Option Tx → Machine
runs m thread tx = record { clock = m.clock; vars = m.vars; running = put m.running thread tx }

-- an operation of the thread's transaction; a thread that has none is never asked for one
abbrev pub in_tx : Machine → Option Tx → (Tx → Outcome) → Outcome
in_tx m None go = answers (Err NotBegun) m
in_tx m (Some tx) go = go tx

---- begin

-- the start is the clock
abbrev pub begin : ℕ → Mode → Machine → Outcome
begin thread mode m = answers (Ok (Start m.clock))
    (runs m thread (Some (record { mode = mode; start = m.clock; read_set = λ _. false; write_set = λ _. None; spared = false })))

---- read

-- a visible read: the read stamp is raised to the clock
abbrev pub semi_visible_read : ℕ → Var → Var
semi_visible_read clock var = record { read_stamp = max var.read_stamp clock; versions = var.versions }

-- the versions that a read passes over: a read-only transaction goes by the time-warp order, an update by the natural order too
abbrev pub passes_over : Mode → ℕ → Ver → Bool
passes_over Reader start v = nat_lt start v.tw_order
passes_over Update start v = nat_lt start v.tw_order || nat_lt start v.nat_order

-- the value of the latest version that is not passed over. Every list ends with the first version, which nobody passes over: the end of the list is never read
abbrev pub visible : ℕ → Mode → ℕ → List Ver → ℕ
visible first mode start [] = first
visible first mode start (v ∷ older) = cond (passes_over mode start v) (visible first mode start older) v.value

-- Departure: a read never aborts. The published read aborts an update as soon as it passes over a version that is time-warped;
-- here this is noted and does nothing: the read goes on, and the commit, whose validation comes by that version again, refuses
abbrev pub early_abort : ℕ → List Ver → Bool
early_abort start [] = false
early_abort start (v ∷ older) = passes_over Update start v && (is_time_warped v || early_abort start older)

-- a read-only transaction makes its read visible
abbrev pub read_only_read : Setup → ℕ → Tx → Machine → Outcome
read_only_read b var tx m = answers
    (Ok (Code (visible b.rest Reader tx.start (m.vars var).versions)))
    (record { clock = m.clock; vars = put m.vars var (semi_visible_read m.clock (m.vars var)); running = m.running })

-- an update reads what it has written itself, else it adds the variable to its read set
abbrev pub update_read : Setup → ℕ → ℕ → Tx → Machine → Option ℕ → Outcome
update_read b thread var tx m (Some value) = answers (Ok (Code value)) m
update_read b thread var tx m None = answers
    (Ok (Code (visible b.rest Update tx.start (m.vars var).versions)))
    (runs m thread (Some (record {
      mode = tx.mode;
      start = tx.start;
      read_set = put tx.read_set var true;
      write_set = tx.write_set;
      spared = early_abort tx.start (m.vars var).versions || tx.spared;
    })))

abbrev pub read_by : Setup → ℕ → ℕ → Tx → Machine → Mode → Outcome
read_by b thread var tx m Reader = read_only_read b var tx m
read_by b thread var tx m Update = update_read b thread var tx m (tx.write_set var)

abbrev pub read : Setup → ℕ → ℕ → Machine → Outcome
read b thread var m = in_tx m (m.running thread) λ tx. read_by b thread var tx m tx.mode

---- write

-- the value is kept in the write set, in the place of an earlier one
abbrev pub write : Bounds → ℕ → ℕ → ℕ → Machine → Outcome
write bounds thread var value m = in_tx m (m.running thread) λ tx.
    cond bounds.write_set_full
    (answers (Err WriteListFull) m)
    (answers (Ok Done) (runs m thread (Some (record {
      mode = tx.mode;
      start = tx.start;
      read_set = tx.read_set;
      write_set = put tx.write_set var (Some value);
      spared = tx.spared;
    }))))

---- the validation of a commit

-- the flags of a committing transaction, all clear before: it is the target of an anti-dependency, it is the source of one; with the natural orders of
-- the versions that it missed, and whether one of these is itself time-warped
pub record Validation : Type 0 where
  pub target : Bool
  pub source : Bool
  pub anti_deps : List ℕ
  pub missed_warped : Bool

abbrev pub nothing_found : Validation
nothing_found = record { target = false; source = false; anti_deps = []; missed_warped = false }

-- a written variable that a concurrent transaction has read makes the transaction a target
abbrev pub handle_write : ℕ → Var → Validation → Validation
handle_write start var f = record {
  target = nat_le start var.read_stamp || f.target;
  source = f.source;
  anti_deps = f.anti_deps;
  missed_warped = f.missed_warped;
}

-- a version that was committed after the start makes it a source
abbrev pub misses : Ver → Validation → Validation
misses v f = record {
  target = f.target;
  source = true;
  anti_deps = v.nat_order ∷ f.anti_deps;
  missed_warped = is_time_warped v || f.missed_warped;
}

-- a variable that was read: its versions from the latest on, as long as they were committed after the start
abbrev pub handle_read : ℕ → List Ver → Validation → Validation
handle_read start [] f = f
handle_read start (v ∷ older) f = cond (nat_lt start v.nat_order) (handle_read start older (misses v f)) f

-- for each variable in turn
abbrev pub each_var : {A : Type 0} → ℕ → (ℕ → A → A) → A → A
each_var zero act a = a
each_var (suc n) act a = act n (each_var n act a)

abbrev pub handle_writes : Setup → Machine → Tx → Validation → Validation
handle_writes b m tx = each_var b.items λ var f. cond (is_some (tx.write_set var)) (handle_write tx.start (m.vars var) f) f

abbrev pub handle_reads : Setup → Machine → Tx → Validation → Validation
handle_reads b m tx = each_var b.items λ var f. cond (tx.read_set var) (handle_read tx.start (m.vars var).versions f) f

-- the writes are validated first, so that a transaction's own reads do not make it a target
abbrev pub validated : Setup → Machine → Tx → Validation
validated b m tx = handle_reads b m tx (handle_writes b m tx nothing_found)

-- it missed a version of a transaction that went back in time itself, or it would go back in time past a transaction that missed its writes
abbrev pub fails : Validation → Bool
fails f = f.missed_warped || (f.target && f.source)

-- Departure: every variable of the read set gets its visible read, whatever validation finds.
-- The published commit makes them one by one as it validates, and where it aborts half way the rest go without
abbrev pub read_visibly : Machine → Tx → ℕ → Var
read_visibly m tx var = cond (tx.read_set var) (semi_visible_read m.clock (m.vars var)) (m.vars var)

-- the transaction ends without a version, and its visible reads stay
abbrev pub drops : Machine → Tx → ℕ → Machine
drops m tx thread = record { clock = m.clock; vars = read_visibly m tx; running = put m.running thread None }

-- the first number below n that passes the test, or n
abbrev pub first_that : ℕ → (ℕ → Bool) → ℕ
first_that zero test = 0
first_that (suc n) test = cond (first_that n test == n) (cond (test n) n (suc n)) (first_that n test)

abbrev pub has_missed : Machine → Tx → ℕ → Bool
has_missed m tx var = tx.read_set var && (handle_read tx.start (m.vars var).versions nothing_found).source

-- Departure: an abort names a variable, the first of the read set of which a version was missed. The published one names none
abbrev pub names_missed : Setup → Machine → Tx → ℕ
names_missed b m tx = first_that b.items (has_missed m tx)

abbrev pub abort : Setup → ℕ → Tx → Machine → Outcome
abort b thread tx m = answers (Err (RuleRefuses (names_missed b m tx))) (drops m tx thread)

---- the new versions of a commit

abbrev pub least : ℕ → List ℕ → ℕ
least n [] = n
least n (d ∷ ds) = min n (least d ds)

-- the time-warp order of a commit is its natural order, or the least natural order among the versions that it missed
abbrev pub time_warp : ℕ → List ℕ → ℕ
time_warp natural [] = natural
time_warp natural (d ∷ ds) = least d ds

-- the version goes in by time-warp order; at a clash it is skipped, since nobody will ever read it
abbrev pub create_new_version : Ver → List Ver → List Ver
create_new_version new [] = new ∷ []
create_new_version new (v ∷ older) =
    cond (nat_lt new.tw_order v.tw_order)
    (v ∷ create_new_version new older)
    (cond (new.tw_order == v.tw_order) (v ∷ older) (new ∷ v ∷ older))

abbrev pub written : ℕ → ℕ → Option ℕ → List Ver → List Ver
written natural warped None versions = versions
written natural warped (Some value) versions = create_new_version (record { value = value; nat_order = natural; tw_order = warped }) versions

-- the clock becomes the natural order, and each write a version
abbrev pub stores : ℕ → Tx → Machine → ℕ → ℕ → Machine
stores thread tx m natural warped = record {
  clock = natural;
  vars = λ var. record { read_stamp = (read_visibly m tx var).read_stamp; versions = written natural warped (tx.write_set var) (m.vars var).versions };
  running = put m.running thread None;
}

---- commit

-- validation has passed: the commit takes effect, unless a variable has no room
abbrev pub passed : ℕ → Tx → Machine → ℕ → ℕ → Option ℕ → Outcome
passed thread tx m natural warped None = answers (Ok (Granted (natural, warped))) (stores thread tx m natural warped)
passed thread tx m natural warped (Some full) = answers (Err (VersionsFull full)) (drops m tx thread)

abbrev pub decide : Setup → Bounds → ℕ → Tx → Machine → Validation → Outcome
decide b bounds thread tx m f = cond (fails f)
    (abort b thread tx m)
    (passed thread tx m (m.clock + 1) (time_warp (m.clock + 1) f.anti_deps) bounds.versions_full)

-- a read-only transaction never aborts, and stands at its start; it has no natural order
abbrev pub commit_by : Setup → Bounds → ℕ → Tx → Machine → Mode → Outcome
commit_by b bounds thread tx m Reader = answers (Ok (Granted (0, tx.start))) (runs m thread None)
commit_by b bounds thread tx m Update = cond bounds.clock_spent
    (answers (Err ClockSpent) (runs m thread None))
    (decide b bounds thread tx m (validated b m tx))

abbrev pub commit : Setup → Bounds → ℕ → Machine → Outcome
commit b bounds thread m = in_tx m (m.running thread) λ tx. commit_by b bounds thread tx m tx.mode

---- what is asked of the machine from outside

-- the four operations; beside them to give a transaction up, and to look at a variable's latest value outside any transaction
pub data Request : Type 0 where
  begins : (thread : ℕ) (mode : Mode) → Request
  reads : (thread var : ℕ) → Request
  writes : (thread var value : ℕ) → Request
  commits : (thread : ℕ) → Request
  gives_up : (thread : ℕ) → Request
  looks : (var : ℕ) → Request

abbrev pub latest : ℕ → List Ver → ℕ
latest first [] = first
latest first (v ∷ older) = v.value

abbrev pub operate : Setup → Bounds → Request → Machine → Outcome
operate b bounds (begins thread mode) m = begin thread mode m
operate b bounds (reads thread var) m = read b thread var m
operate b bounds (writes thread var value) m = write bounds thread var value m
operate b bounds (commits thread) m = commit b bounds thread m
operate b bounds (gives_up thread) m = answers (Ok Done) (runs m thread None)
operate b bounds (looks var) m = answers (Ok (Code (latest b.rest (m.vars var).versions))) m
