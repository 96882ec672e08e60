-- A step's outcome has a property if each refusal has it, and what comes once all is answered "yes".
use Rattle.std.proofs.Common.{◌≡◌, ℕ, ◌<◌, true, false, cond, ltb, List, [], ◌∷◌, is_some, Some, None, Option, refl, ap, ◌∙◌, arith}
use Rattle.std.proofs.lemmas.Bool.{cond-true, lt-ltb, eq-eqb}
use Rattle.std.specs.List.{AllByRecursion}
use Rattle.calls.specs.declared.call.Class.{Class}
use Rattle.calls.specs.declared.refusal.Refusal.TheVariants.{UnknownSeat, SeatEmpty, WrongPass, NotBegun}
use Rattle.history.specs.State.{Setup, Transaction, Seat, empty, held, State}
use Rattle.history.specs.Steps.{Outcome, Question, asked, refuse, is_held, has_pass, running_of, in_running, pass_questions, with_running}

abbrev pub AllYes : List Question → Type 0
AllYes [] = Unit {0}
AllYes (q ∷ qs) = (q.yes ≡ true) × AllYes qs

pub asked_cases : (P : Outcome → Type 0) (qs : List Question) (s : State) (go : Outcome) → AllByRecursion (λ q. P (refuse q.«else» s)) qs → (AllYes qs → P go) → P (asked qs s go)
asked_cases P [] s go refusals then = then tt
asked_cases P (q ∷ qs) s go refusals then =
    (elim q.yes as (λ k. q.yes ≡ k → P (cond k (asked qs s go) (refuse q.«else» s))) [
      | true ↦ λ e. asked_cases P qs s go refusals.1 (λ ys. then (e, ys))
      | false ↦ λ _. refusals.0
    ]) refl

-- a seat that is held
pub is_held_by : (x : Seat) → is_held x ≡ true → (pass : ℕ) × (class : Class) × (x ≡ held pass class (running_of x))
is_held_by empty e = let z : ◌≡◌ {A = ℕ} 0 1 = cc in absurd (omega arith)
is_held_by (held pass class o) e = (pass, class, refl)

pub is_empty : (x : Seat) → is_held x ≡ false → x ≡ empty
is_empty empty e = refl
is_empty (held pass class o) e = let z : ◌≡◌ {A = ℕ} 0 1 = cc in absurd (omega arith)

pub is_none : {A : Type 0} (o : Option A) → is_some o ≡ false → o ≡ None
is_none None e = refl
is_none (Some x) e = let z : ◌≡◌ {A = ℕ} 0 1 = cc in absurd (omega arith)

pub in_running_cases : (P : Outcome → Type 0) (s : State) (x : Seat) (go : Class → Transaction → Outcome) → P (refuse NotBegun s) → ((pass : ℕ) (class : Class) (t : Transaction) → x ≡ held pass class (Some t) → P (go class t)) → P (in_running s x go)
in_running_cases P s empty go refusal then = refusal
in_running_cases P s (held pass class None) go refusal then = refusal
in_running_cases P s (held pass class (Some t)) go refusal then = then pass class t refl

-- a call that needs an open transaction
pub with_running_cases : (P : Outcome → Type 0) (b : Setup) (seat pass : ℕ) (s : State) (go : Class → Transaction → Outcome)
    → P (refuse UnknownSeat s) → P (refuse SeatEmpty s) → P (refuse WrongPass s) → P (refuse NotBegun s)
    → ((p : ℕ) (class : Class) (t : Transaction) → ltb seat b.seats ≡ true → has_pass pass (s.seats seat) ≡ true → s.seats seat ≡ held p class (Some t) → P (go class t)) → P (with_running b seat pass s go)
with_running_cases P b seat pass s go r2 r5 r6 r8 then =
    asked_cases P (pass_questions b seat pass s) s (in_running s (s.seats seat) go) (r2, (r5, (r6, tt))) (λ ys. in_running_cases P s (s.seats seat) go r8 (λ p class t e. then p class t ys.0 ys.1.1.0 e))

-- where all is answered "yes", the call goes on
pub asked_yes : (qs : List Question) (s : State) (go : Outcome) → AllYes qs → asked qs s go ≡ go
asked_yes [] s go ys = refl
asked_yes (q ∷ qs) s go ys = cond-true q.yes _ _ ys.0 ∙ asked_yes qs s go ys.1

pub with_running_yes : (b : Setup) (seat pass : ℕ) (s : State) (go : Class → Transaction → Outcome) (class : Class) (t : Transaction) → seat < b.seats → s.seats seat ≡ held pass class (Some t) → with_running b seat pass s go ≡ go class t
with_running_yes b seat pass s go class t lt e =
    asked_yes (pass_questions b seat pass s) s _ (lt-ltb _ _ lt, (ap is_held e, (ap (has_pass pass) e ∙ eq-eqb pass pass refl, tt)))
    ∙ ap (λ x. in_running s x go) e
