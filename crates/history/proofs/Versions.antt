-- Version lists: what they keep of the granted updates, and which of these a test picks.
use Rattle.std.proofs.Common.{◌≡◌, ℕ, ◌<◌, ◌≤◌, Bool, true, false, cond, ◌⊎◌, List, [], ◌∷◌, filter, sym, refl, ap, ◌∙◌, subst, ⊎_elim, arith}
use mathlib.Core.List.Memᴰ
use mathlib.Core.List.{Memᴰ}
use Rattle.std.specs.List.{AllByRecursion}
use Rattle.std.proofs.lemmas.Bool.{both_ways}
use Rattle.calls.specs.declared.call.Mode.TheVariants.{Update}
use Rattle.history.specs.State.{Setup, Version, at_rest}
use Rattle.history.specs.Steps.{newest}
use Rattle.history.specs.Log.{Grant}
use Rattle.history.specs.Order.{arranged}
use Rattle.history.specs.Run.{run, all_rest}
use Rattle.history.specs.Promise.{◌∈◌, InOrder}
use Rattle.history.proofs.Runs.{Writes, all_in, run_none, run_last}
use Rattle.history.proofs.Arranged.{Ahead, ahead_told, in_arranged, arranged_has}

-- places fall from the head on
abbrev pub Falling : List Version → Type 0
Falling [] = Unit {0}
Falling (v ∷ vs) = AllByRecursion (λ u. u.place < v.place) vs × Falling vs

-- the version is what a granted update stored for the item
pub record Stores (g : Grant) (item : ℕ) (v : Version) : Type 0 where
  pub update : g.trace.mode ≡ Update
  pub natural : g.natural ≡ v.natural
  pub place : g.place ≡ v.place
  pub wrote : Writes g item v.code

-- an item's list keeps the granted updates that wrote it, but for those below its end, and those that share a place with one of a smaller natural number
pub record Keeps (b : Setup) (granted : List Grant) (item : ℕ) (vs : List Version) : Type 0 where
  pub falling : Falling vs
  pub some : (v : Version) × (v ∈ vs)
  pub from_writers : (v : Version) → v ∈ vs → (v ≡ at_rest b) ⊎ ((g : Grant) × (g ∈ granted) × Stores g item v)
  pub to_versions : (g : Grant) → g ∈ granted → (c : ℕ) → Writes g item c → ((v : Version) × (v ∈ vs) × (v.place ≡ g.place) × (v.natural ≤ g.natural)) ⊎ ((v : Version) → v ∈ vs → g.place < v.place)

-- two versions of one place are one
pub one_at_place : (vs : List Version) (u v : Version) → Falling vs → u ∈ vs → v ∈ vs → u.place ≡ v.place → u ≡ v
one_at_place [] u v f m n e = elim m [ ]
one_at_place (x ∷ xs) u v f (Memᴰ.head p) (Memᴰ.head q) e = p ∙ sym q
one_at_place (x ∷ xs) u v f (Memᴰ.head p) (Memᴰ.tail n) e =
    let lower = all_in _ xs v f.0 n in absurd (omega (arith, lower, ap (λ (y : Version). y.place) p))
one_at_place (x ∷ xs) u v f (Memᴰ.tail m) (Memᴰ.head q) e =
    let lower = all_in _ xs u f.0 m in absurd (omega (arith, lower, ap (λ (y : Version). y.place) q))
one_at_place (x ∷ xs) u v f (Memᴰ.tail m) (Memᴰ.tail n) e = one_at_place xs u v f.1 m n e

-- what the newest version that passes a test is: one of the list, and the highest of those that pass
pub record Newest (vs : List Version) (test : Version → Bool) (v : Version) : Type 0 where
  pub within : v ∈ vs
  pub passes : test v ≡ true
  pub highest : (u : Version) → u ∈ vs → test u ≡ true → u.place ≤ v.place

pub newest_is : (b : Setup) (test : Version → Bool) (vs : List Version) (w : Version) → Falling vs → w ∈ vs → test w ≡ true → Newest vs test (newest b test vs)
newest_is b test [] w f m p = elim m [ ]
newest_is b test (x ∷ xs) w f m p =
    (elim (test x) as (λ k. test x ≡ k → Newest (x ∷ xs) test (cond k x (newest b test xs))) [
      | true ↦ λ e. record {
        within = Memᴰ.head refl;
        passes = e;
        highest = λ u i _. ⊎_elim (λ q. omega (arith, ap (λ (y : Version). y.place) q)) (λ j. omega (arith, all_in _ xs u f.0 j)) (Memᴰ.cases_cons i);
      }
      | false ↦ λ e.
          let inside : w ∈ xs = ⊎_elim (λ q. absurd (both_ways (test x) e (subst (λ y. test y ≡ true) q p))) (λ j. j) (Memᴰ.cases_cons m) in
          let n = newest_is b test xs w f.1 inside p in
          record {
            within = Memᴰ.tail n.within;
            passes = n.passes;
            highest = λ u i q. ⊎_elim (λ d. absurd (both_ways (test x) e (subst (λ y. test y ≡ true) d q))) (λ j. n.highest u j q) (Memᴰ.cases_cons i);
          }
    ]) refl

-- an item's version belongs to the last of those granted updates that pass a test, or is at rest where none does
pub data Last (b : Setup) (granted : List Grant) (item : ℕ) (Q : Grant → Bool) (v : Version) : Type 0 where
  rests : v ≡ at_rest b → ((f : Grant) → f ∈ granted → Q f ≡ true → (c : ℕ) → Writes f item c → ⊥) → Last b granted item Q v
  stores : (g : Grant) → g ∈ granted → Stores g item v → Q g ≡ true → ((f : Grant) → f ∈ granted → Q f ≡ true → (c : ℕ) → Writes f item c → Ahead g f → ⊥) → Last b granted item Q v

-- the run of those that pass leaves the version's code
pub run_leaves : (b : Setup) (granted : List Grant) (item : ℕ) (Q : Grant → Bool) (v : Version) → InOrder (arranged granted) → Last b granted item Q v → run (filter Q (arranged granted)) (all_rest b) item ≡ v.code
run_leaves b gs item Q v o (rests e free) = run_none Q (arranged gs) _ item (λ f m. free f (in_arranged f gs m)) ∙ sym (ap (λ (y : Version). y.code) e)
run_leaves b gs item Q v o (stores g m st q last) =
    run_last Q (arranged gs) _ item v.code g o (arranged_has g gs m) q st.wrote (λ f k p c w a. last f (in_arranged f gs k) p c w (ahead_told g f a))
