-- The premises of the theorems can be met: states that a list of calls leads to, in which a commit goes through, is refused with 14, and
-- is refused with 15.
use Rattle.std.specs.Prelude.{◌≡◌, ℕ, ◌+◌, ◌<◌, false, [], Some, Err}
use Rattle.calls.specs.declared.call.Class.{Class}
use Rattle.calls.specs.declared.call.Call.TheVariants.{Commit}
use Rattle.calls.specs.declared.refusal.Refusal.{Refusal}
use Rattle.calls.specs.declared.refusal.Refusal.TheVariants.{RuleRefuses, VersionsFull}
use Rattle.history.specs.State.{Setup, Transaction, State}
use Rattle.history.specs.Steps.{step, listed, missed, is_full}
use Rattle.history.specs.Log.{History, Leads}
use Rattle.history.specs.Progress.{Committing}
use Rattle.history.specs.Promise.{Lawful}

-- a transaction that missed nothing, whose lists have room, and that has listed a code
pub record Undisturbed (b : Setup) : Type 0 where
  pub h : History
  pub s : State
  pub leads : Leads b h s
  pub seat : ℕ
  pub pass : ℕ
  pub class : Class
  pub x : Transaction
  pub commits : Committing b s seat pass class x
  pub none_missed : missed b s x ≡ []
  pub room : (item : ℕ) → item < b.items → is_full b s x (s.clock + 1) item ≡ false
  pub item : ℕ
  pub code : ℕ
  pub known : item < b.items
  pub writes : listed item x.writes ≡ Some code

-- a commit that gets the refusal
pub record Refusing (b : Setup) (refusal : Refusal) : Type 0 where
  pub h : History
  pub s : State
  pub leads : Leads b h s
  pub seat : ℕ
  pub pass : ℕ
  pub refused : (step b (Commit seat pass) s).answer ≡ Err refusal

pub record PremisesMet : Type 0 where
  pub b : Setup
  pub lawful : Lawful b
  pub goes_through : Undisturbed b
  pub rule_refuses : Refusing b (RuleRefuses 0)
  pub list_is_full : Refusing b (VersionsFull 0)

abbrev pub PremisesCanBeMet : Type 0
PremisesCanBeMet = PremisesMet
