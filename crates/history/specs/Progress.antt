-- What keeps the promise from being empty: commits go through where nothing stands against them, and are refused for the stated reasons alone.
use Rattle.std.specs.Prelude.{◌≡◌, ℕ, zero, suc, ◌+◌, ◌<◌, false, List, [], ◌∷◌, map, length, Some, None, Ok, Err, filter, ◌≢◌}
use Rattle.calls.specs.declared.call.Class.{Class}
use Rattle.calls.specs.declared.call.Mode.TheVariants.{Update}
use Rattle.calls.specs.declared.call.Call.TheVariants.{Commit, Show}
use Rattle.calls.specs.declared.reply.Reply.TheVariants.{Code, Granted}
use Rattle.calls.specs.declared.refusal.Refusal.TheVariants.{RuleRefuses, VersionsFull}
use Rattle.history.specs.State.{Setup, Transaction, held, State}
use Rattle.history.specs.Steps.{step, limit, most, is_update, listed, missed_of, missed, findings, stored, is_full}
use Rattle.history.specs.Log.{History, Leads, Grant, log}
use Rattle.history.specs.Promise.{Lawful}

-- a seat's open update transaction whose commit is put to the rule
pub record Committing (b : Setup) (s : State) (seat pass : ℕ) (class : Class) (x : Transaction) : Type 0 where
  pub known_seat : seat < b.seats
  pub open_there : s.seats seat ≡ held pass class (Some x)
  pub updates : x.mode ≡ Update
  pub time_left : s.clock < limit

-- a commit that missed nothing and whose lists have room is granted next, and show tells what it wrote
abbrev pub UndisturbedCommitsGoThrough : Type 0
UndisturbedCommitsGoThrough =
    (b : Setup) → Lawful b → (h : History) (s : State) → Leads b h s
    → (seat pass : ℕ) (class : Class) (x : Transaction) → Committing b s seat pass class x
    → missed b s x ≡ [] → ((item : ℕ) → item < b.items → is_full b s x (s.clock + 1) item ≡ false)
    → ((step b (Commit seat pass) s).answer ≡ Ok (Granted (s.clock + 1, s.clock + 1)))
    × ((item code : ℕ) → item < b.items → listed item x.writes ≡ Some code → (step b (Show item) (step b (Commit seat pass) s).after).answer ≡ Ok (Code code))

-- refusal 14 comes only where the rule refuses a transaction that missed a version of the item named, and of no lower one
abbrev pub OnlyTheRuleRefuses : Type 0
OnlyTheRuleRefuses =
    (b : Setup) → Lawful b → (h : History) (s : State) → Leads b h s
    → (seat pass item : ℕ) → (step b (Commit seat pass) s).answer ≡ Err (RuleRefuses item)
    → (class : Class) × (x : Transaction) × Committing b s seat pass class x
    × (b.rule (findings b s class x) ≡ None)
    × (item < b.items) × (missed_of s x item ≢ [])
    × ((lower : ℕ) → lower < item → missed_of s x lower ≡ [])

-- refusal 15 comes only where the list of the item named has no room for the version that it would need, and no lower one does
abbrev pub OnlyFullListsRefuse : Type 0
OnlyFullListsRefuse =
    (b : Setup) → Lawful b → (h : History) (s : State) → Leads b h s
    → (seat pass item : ℕ) → (step b (Commit seat pass) s).answer ≡ Err (VersionsFull item)
    → (class : Class) × (x : Transaction) × Committing b s seat pass class x
    × (place : ℕ) × (b.rule (findings b s class x) ≡ Some place)
    × (item < b.items) × (code : ℕ) × (listed item x.writes ≡ Some code)
    × (most < length (stored b s x place item (Some code)))
    × ((lower : ℕ) → lower < item → is_full b s x place lower ≡ false)

-- the natural numbers of the granted updates, the latest first
abbrev pub naturals : History → List ℕ
naturals h = map (λ (g : Grant). g.natural) (filter (λ (g : Grant). is_update g.trace.mode) (log h).granted)

-- n + 1 down to 2
abbrev pub down_to_two : ℕ → List ℕ
down_to_two zero = []
down_to_two (suc n) = (n + 2) ∷ down_to_two n

-- natural numbers are given in order, 2, 3, 4 and so on, one to each granted update
abbrev pub NaturalsCountGrants : Type 0
NaturalsCountGrants = (b : Setup) → Lawful b → (h : History) (s : State) → Leads b h s → naturals h ≡ down_to_two (length (naturals h))
