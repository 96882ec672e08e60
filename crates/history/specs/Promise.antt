-- What every list of calls is promised, from a new board on.
use Rattle.std.specs.Prelude.{◌≡◌, ℕ, ◌<◌, ◌≤◌, true, false, cond, ◌⊎◌, List, [], ◌∷◌, ◌++◌, is_ok, Some, None, Ok, Err, Option}
use mathlib.Core.List.{Memᴰ}
use Rattle.std.specs.List.Sorted.{IsPermutation}
use Rattle.std.specs.List.{AllByRecursion}
use Rattle.calls.specs.declared.call.Call.{Call}
use Rattle.calls.specs.declared.call.Call.TheVariants.{Admit, Revoke, Begin, Read, Write as Writing, Commit, Abandon, Show}
use Rattle.calls.specs.declared.reply.Reply.TheVariants.{Done, Pass, Start, Code, Granted}
use Rattle.rules.specs.Laws.{FourLaws}
use Rattle.history.specs.State.{Setup, State, put}
use Rattle.history.specs.Steps.{Answer}
use Rattle.history.specs.Log.{History, nothing, ◌▷◌, Leads, Trace, Grant, log}
use Rattle.history.specs.Order.{ahead, order}
use Rattle.history.specs.Run.{all_rest, run, Answered, EachAnswered, copy_for}

infix 40 ◌∈◌
abbrev pub ◌∈◌ : {A : Type 0} → A → List A → Type 0
x ∈ xs = Memᴰ x xs

-- each stands ahead of all that follow it
abbrev pub InOrder : List Grant → Type 0
InOrder [] = Unit {0}
InOrder (g ∷ gs) = AllByRecursion (λ f. ahead g f ≡ true) gs × InOrder gs

-- f stands somewhere in the list, and g somewhere behind it
abbrev pub StandsAhead : Grant → Grant → List Grant → Type 0
StandsAhead f g gs = (front : List Grant) × (back : List Grant) × (gs ≡ front ++ f ∷ back) × (g ∈ back)

---- passes, as calls and answers tell them

abbrev pub pass_told : Answer → Option ℕ
pass_told (Ok Done) = None
pass_told (Ok (Pass p)) = Some p
pass_told (Ok (Start s)) = None
pass_told (Ok (Code c)) = None
pass_told (Ok (Granted g)) = None
pass_told (Err refusal) = None

abbrev pub pass_given : (ℕ → Option ℕ) → ℕ → Option ℕ → ℕ → Option ℕ
pass_given passes seat None = passes
pass_given passes seat (Some p) = put passes seat (Some p)

abbrev pub pass_noted : (ℕ → Option ℕ) → Call → Answer → ℕ → Option ℕ
pass_noted passes (Admit seat class) a = pass_given passes seat (pass_told a)
pass_noted passes (Revoke seat) a = cond (is_ok a) (put passes seat None) passes
pass_noted passes (Begin seat pass mode) a = passes
pass_noted passes (Read seat pass item) a = passes
pass_noted passes (Writing seat pass item code) a = passes
pass_noted passes (Commit seat pass) a = passes
pass_noted passes (Abandon seat pass) a = passes
pass_noted passes (Show item) a = passes

-- the pass under which a seat is held
abbrev pub pass_at : History → ℕ → Option ℕ
pass_at nothing = λ _. None
pass_at (h ▷ e) = pass_noted (pass_at h) e.0 e.1

-- a call empties the seat that is held under the pass
abbrev pub Empties : History → Call → Answer → ℕ → Type 0
Empties h (Revoke seat) a pass = (is_ok a ≡ true) × (pass_at h seat ≡ Some pass)
Empties h (Admit seat class) a pass = ⊥
Empties h (Begin seat shown mode) a pass = ⊥
Empties h (Read seat shown item) a pass = ⊥
Empties h (Writing seat shown item code) a pass = ⊥
Empties h (Commit seat shown) a pass = ⊥
Empties h (Abandon seat shown) a pass = ⊥
Empties h (Show item) a pass = ⊥

-- a revoke has emptied the seat of the pass
abbrev pub Revoked : History → ℕ → Type 0
Revoked nothing pass = ⊥
Revoked (h ▷ e) pass = Revoked h pass ⊎ Empties h e.0 e.1 pass

-- the pass that a call shows
abbrev pub shown_pass : Call → Option ℕ
shown_pass (Admit seat class) = None
shown_pass (Revoke seat) = None
shown_pass (Begin seat pass mode) = Some pass
shown_pass (Read seat pass item) = Some pass
shown_pass (Writing seat pass item code) = Some pass
shown_pass (Commit seat pass) = Some pass
shown_pass (Abandon seat pass) = Some pass
shown_pass (Show item) = None

-- every call that shows a revoked pass is refused, at whatever seat
abbrev pub LockedOut : History → Type 0
LockedOut nothing = Unit {0}
LockedOut (h ▷ e) = LockedOut h × ((pass : ℕ) → shown_pass e.0 ≡ Some pass → Revoked h pass → is_ok e.1 ≡ false)

---- the promise

pub record Promise (b : Setup) (h : History) : Type 0 where
  -- every granted transaction stands in the order exactly once, and nothing else does
  pub once : IsPermutation (log h).granted (order h)
  pub arrayed : InOrder (order h)
  -- one granted before another began stands ahead of it
  pub real_time : (f g : Grant) → f ∈ (log h).granted → g ∈ (log h).granted → f.ended < g.trace.began → StandsAhead f g (order h)
  -- run one by one in the order, each reads the very codes it was answered
  pub granted_answered : EachAnswered (order h) (all_rest b)
  -- and the table then left has for every item the code that show answers
  pub shown : (item : ℕ) (a : Answer) (s : State) → item < b.items → Leads b (h ▷ (Show item, a)) s → a ≡ Ok (Code (run (order h) (all_rest b) item))
  -- every ungranted transaction, run on its copy, reads the very codes it was answered, whether it ended
  pub dropped_answered : (t : Trace) → t ∈ (log h).dropped → Answered t.deeds (copy_for b h t)
  -- or is still open
  pub running_answered : (seat : ℕ) (t : Trace) → (log h).running seat ≡ Some t → Answered t.deeds (copy_for b h t)
  -- a revoked pass opens nothing
  pub locked_out : LockedOut h

-- a board as it may be set up: one to 256 items, one to 32 seats, at least two codes, the rest code one of them, a lawful rule
pub record Lawful (b : Setup) : Type 0 where
  pub some_items : 1 ≤ b.items
  pub few_items : b.items ≤ 256
  pub some_seats : 1 ≤ b.seats
  pub few_seats : b.seats ≤ 32
  pub two_codes : 2 ≤ b.codes
  pub rest_code : b.rest < b.codes
  pub lawful_rule : FourLaws b.rule

abbrev pub EveryHistoryKeepsThePromise : Type 0
EveryHistoryKeepsThePromise = (b : Setup) → Lawful b → (h : History) (s : State) → Leads b h s → Promise b h
