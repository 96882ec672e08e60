-- What holds of the board and of the machine that stands beside it, and what a call has to keep.
use Rattle.std.proofs.Common.{◌≡◌, ℕ, ◌<◌, true, false, cond, eqb, List, Some, None, Option, sym, refl, ap, subst}
use mathlib.Core.Path.{fun_ext}
use Rattle.calls.specs.declared.call.Class.{Class}
use Rattle.calls.specs.declared.call.Mode.TheVariants.{Update}
use Rattle.calls.specs.declared.call.Call.{Call}
use Rattle.history.specs.State.{Setup, Transaction, Seat, held, State, put}
use Rattle.history.specs.Steps.{Outcome as BoardOutcome, running_of, runs as seat_runs, listed}
use Rattle.published.specs.Algorithm.{Ver, Tx, Machine, Outcome, in_tx, nothing_found, handle_read}
use Rattle.published.specs.Beside.{turn, after_turn, SameAnswer, SameTransaction, FrontPart}

-- validation, coming by these versions, misses one that is time-warped
abbrev pub Dooms : ℕ → List Ver → Type 0
Dooms start versions = (handle_read start versions nothing_found).missed_warped ≡ true

pub record Good (b : Setup) (lists : ℕ → List Ver) (x : Transaction) (tx : Tx) : Type 0 where
  pub same : SameTransaction x tx
  pub known : (i c : ℕ) → listed i x.writes ≡ Some c → i < b.items
  pub doomed : tx.spared ≡ true → (tx.mode ≡ Update) × (i : ℕ) × (i < b.items) × (tx.read_set i ≡ true) × Dooms tx.start (lists i)

abbrev pub Paired : Setup → (ℕ → List Ver) → Option Transaction → Option Tx → Type 0
Paired b lists None None = Unit {0}
Paired b lists None (Some tx) = ⊥
Paired b lists (Some x) None = ⊥
Paired b lists (Some x) (Some tx) = Good b lists x tx

abbrev pub lists_of : Machine → ℕ → List Ver
lists_of m i = (m.vars i).versions

pub record Same (b : Setup) (s : State) (m : Machine) : Type 0 where
  pub clock : s.clock ≡ m.clock
  pub stamps : (i : ℕ) → (s.items i).stamp ≡ (m.vars i).read_stamp
  pub lists : (i : ℕ) → FrontPart (s.items i).versions (m.vars i).versions
  pub paired : (k : ℕ) → Paired b (lists_of m) (running_of (s.seats k)) (m.running k)

-- the board's outcome of a call, and the machine's, if it is asked
abbrev pub Agrees : Setup → Machine → BoardOutcome → Option Outcome → Type 0
Agrees b m o t = SameAnswer o.answer t × Same b o.after (after_turn m t)

abbrev pub Step : Setup → Machine → Call → BoardOutcome → Type 0
Step b m call o = Agrees b m o (turn b call o.answer m)

-- the machine's outcome is this one
pub agrees_as : (b : Setup) (m : Machine) (o : BoardOutcome) (M N : Outcome) → M ≡ N → Agrees b m o (Some N) → Agrees b m o (Some M)
agrees_as b m o M N e a = subst (λ t. Agrees b m o (Some t)) (sym e) a

-- the machine's side of an open transaction
pub partner : {b : Setup} {lists : ℕ → List Ver} (x : Transaction) (o : Option Tx) → Paired b lists (Some x) o → (tx : Tx) × (o ≡ Some tx) × Good b lists x tx
partner x None p = absurd p
partner x (Some tx) p = (tx, refl, p)

pub in_tx_is : (m : Machine) (o : Option Tx) (go : Tx → Outcome) (tx : Tx) → o ≡ Some tx → in_tx m o go ≡ go tx
in_tx_is m o go tx e = ap (λ q. in_tx m q go) e

module _ (b : Setup) where
  pub paired_lists : (lists new : ℕ → List Ver) → ((i : ℕ) → lists i ≡ new i) → (o : Option Transaction) (t : Option Tx) → Paired b lists o t → Paired b new o t
  paired_lists lists new e o t p = subst (λ l. Paired b l o t) (fun_ext e) p

  module _ (lists : ℕ → List Ver) where
    -- one seat's transaction is another, or none
    pub paired_put : (seats : ℕ → Seat) (running : ℕ → Option Tx) (seat : ℕ) (y : Seat) (t : Option Tx)
        → ((k : ℕ) → Paired b lists (running_of (seats k)) (running k)) → Paired b lists (running_of y) t
        → (k : ℕ) → Paired b lists (running_of (put seats seat y k)) (put running seat t k)
    paired_put seats running seat y t old new k =
        elim (eqb k seat) as (λ q. Paired b lists (running_of (cond q y (seats k))) (cond q t (running k))) [ true ↦ new | false ↦ old k ]

    -- of a seat that is held
    pub runs_there : (y : Seat) (pass : ℕ) (class : Class) (old new : Option Transaction) (t : Option Tx)
        → y ≡ held pass class old → Paired b lists new t → Paired b lists (running_of (seat_runs new y)) t
    runs_there y pass class old new t e p = subst (λ z. Paired b lists (running_of (seat_runs new z)) t) (sym e) p
