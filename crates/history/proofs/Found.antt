-- What a commit finds, as facts.
use Rattle.std.proofs.Common.{◌≡◌, ℕ, zero, suc, ◌<◌, ◌≤◌, min, Bool, true, false, cond, eqb, ◌⊎◌, List, [], ◌∷◌, Some, None, Option, sym, refl, ap, ◌∙◌, subst, inl, inr, ⊎_elim, arith}
use mathlib.Core.List.Memᴰ
use mathlib.Core.List.{Memᴰ}
use Rattle.std.proofs.lemmas.Bool.{eqb-true, leb-false, le-leb, or_parts, or_left, or_right, cases_lt}
use Rattle.calls.specs.declared.write.Write.{Write}
use Rattle.history.specs.State.{Setup, Version, Transaction, State}
use Rattle.history.specs.Steps.{newest, natural_by, newer, gather, any, earliest, overtaken, listed, least}
use Rattle.history.specs.Promise.{◌∈◌}
use Rattle.history.proofs.Runs.{all_in}
use Rattle.history.proofs.Versions.{Falling}

pub in_gather : {A : Type 0} (n : ℕ) (f : ℕ → List A) (i : ℕ) (x : A) → i < n → x ∈ f i → x ∈ gather n f
in_gather zero f i x lt m = absurd (omega arith)
in_gather (suc n) f i x lt m = ⊎_elim
    (λ l. Memᴰ.append_left (f n) (in_gather n f i x l m))
    (λ l. let e : i ≡ n = omega arith in Memᴰ.append_right (gather n f) (subst (λ j. x ∈ f j) e m))
    (cases_lt i n)

pub gather_in : {A : Type 0} (n : ℕ) (f : ℕ → List A) (x : A) → x ∈ gather n f → (i : ℕ) × (i < n) × (x ∈ f i)
gather_in zero f x m = elim m [ ]
gather_in (suc n) f x m = ⊎_elim
    (λ k. let r = gather_in n f x k in (r.0, omega (arith, r.1), r.2))
    (λ k. (n, omega arith, k))
    (Memᴰ.append_cases (gather n f) m)

pub any_true : {A : Type 0} (test : A → Bool) (xs : List A) (x : A) → x ∈ xs → test x ≡ true → any test xs ≡ true
any_true test [] x m e = elim m [ ]
any_true test (y ∷ ys) x (Memᴰ.head d) e = or_left _ _ (subst (λ z. test z ≡ true) d e)
any_true test (y ∷ ys) x (Memᴰ.tail m) e = or_right (test y) _ (any_true test ys x m e)

pub any_false : {A : Type 0} (test : A → Bool) (xs : List A) (x : A) → any test xs ≡ false → x ∈ xs → test x ≡ false
any_false test [] x e m = elim m [ ]
any_false test (y ∷ ys) x e (Memᴰ.head d) = subst (λ z. test z ≡ false) (sym d) (or_parts (test y) _ e).0
any_false test (y ∷ ys) x e (Memᴰ.tail m) = any_false test ys x (or_parts (test y) _ e).1 m

-- the earliest missed place is that of a missed version, and no missed version has a lower one
pub earliest_least : (vs : List Version) (v : Version) → v ∈ vs → (p : ℕ) × (earliest vs ≡ Some p) × (p ≤ v.place)
earliest_least [] v m = elim m [ ]
earliest_least (u ∷ vs) v m =
    (elim (earliest vs) as (λ o. earliest vs ≡ o → (p : ℕ) × (elim o as (λ _. Option ℕ) [ None ↦ Some u.place | Some p ↦ Some (min u.place p) ] ≡ Some p) × (p ≤ v.place)) [
      | None ↦ λ e. (u.place, refl, ⊎_elim (λ d. omega (arith, ap (λ (y : Version). y.place) d)) (λ k. let r = earliest_least vs v k in let z : ◌≡◌ {A = ℕ} 0 1 = cc (r.1, e) in absurd (omega arith)) (Memᴰ.cases_cons m))
      | Some q ↦ λ e. (min u.place q, refl, ⊎_elim (λ d. omega (arith, ap (λ (y : Version). y.place) d)) (λ k. let r = earliest_least vs v k in let z : r.0 ≡ q = cc (r.1, e) in omega (arith, r.2)) (Memᴰ.cases_cons m))
    ]) refl

pub earliest_in : (vs : List Version) (p : ℕ) → earliest vs ≡ Some p → (v : Version) × (v ∈ vs) × (v.place ≡ p)
earliest_in [] p e = let z : ◌≡◌ {A = ℕ} 0 1 = cc in absurd (omega arith)
earliest_in (u ∷ vs) p e =
    (elim (earliest vs) as (λ o. earliest vs ≡ o → elim o as (λ _. Option ℕ) [ None ↦ Some u.place | Some p ↦ Some (min u.place p) ] ≡ Some p → (v : Version) × (v ∈ u ∷ vs) × (v.place ≡ p)) [
      | None ↦ λ _ d. (u, Memᴰ.head refl, (cc))
      | Some q ↦ λ o d.
          let is : min u.place q ≡ p = cc in
          let r = earliest_in vs q o in
          ⊎_elim
          (λ l. (u, Memᴰ.head refl, omega arith))
          (λ l. (r.0, Memᴰ.tail r.1, omega (arith, r.2)))
          (cases_lt u.place q)
    ]) refl e

-- what stands above the newest version with natural number not above the start is newer than it
pub in_newer : (b : Setup) (start : ℕ) (vs : List Version) (u : Version) → Falling vs → u ∈ vs → (newest b (natural_by start) vs).place < u.place → u ∈ newer start vs
in_newer b start [] u f m l = elim m [ ]
in_newer b start (v ∷ vs) u f m l =
    (elim (natural_by start v) as (λ k. (cond k v (newest b (natural_by start) vs)).place < u.place → u ∈ cond k [] (v ∷ newer start vs)) [
      | true ↦ λ l. absurd (⊎_elim (λ d. omega (arith, ap (λ (y : Version). y.place) d)) (λ k. omega (arith, all_in _ vs u f.0 k)) (Memᴰ.cases_cons m))
      | false ↦ λ l. ⊎_elim (λ d. Memᴰ.head d) (λ k. Memᴰ.tail (in_newer b start vs u f.1 k l)) (Memᴰ.cases_cons m)
    ]) l

pub newer_in : (start : ℕ) (vs : List Version) (u : Version) → u ∈ newer start vs → (u ∈ vs) × (start < u.natural)
newer_in start [] u m = elim m [ ]
newer_in start (v ∷ vs) u m =
    (elim (natural_by start v) as (λ k. natural_by start v ≡ k → u ∈ cond k [] (v ∷ newer start vs) → (u ∈ v ∷ vs) × (start < u.natural)) [
      | true ↦ λ _ m. elim m [ ]
      | false ↦ λ e m. ⊎_elim
          (λ d. (Memᴰ.head d, omega (arith, leb-false _ _ e, ap (λ (y : Version). y.natural) d)))
          (λ k. let r = newer_in start vs u k in (Memᴰ.tail r.0, r.1))
          (Memᴰ.cases_cons m)
    ]) refl m

pub listed_in : (i c : ℕ) (ws : List Write) → listed i ws ≡ Some c → (w : Write) × (w ∈ ws) × (w.item ≡ i)
listed_in i c [] e = let z : ◌≡◌ {A = ℕ} 0 1 = cc in absurd (omega arith)
listed_in i c (w ∷ ws) e =
    (elim (eqb w.item i) as (λ k. eqb w.item i ≡ k → cond k (Some w.code) (listed i ws) ≡ Some c → (w' : Write) × (w' ∈ w ∷ ws) × (w'.item ≡ i)) [
      | true ↦ λ d _. (w, Memᴰ.head refl, eqb-true _ _ d)
      | false ↦ λ _ d. let r = listed_in i c ws d in (r.0, Memᴰ.tail r.1, r.2)
    ]) refl e

-- a listed item with a stamp not below the start: overtaken
pub overtaken_by : (s : State) (x : Transaction) (i c : ℕ) → listed i x.writes ≡ Some c → x.start ≤ (s.items i).stamp → overtaken s x ≡ true
overtaken_by s x i c e le =
    let r = listed_in i c x.writes e in
    any_true _ x.writes r.0 r.1 (le-leb _ _ (subst (λ j. x.start ≤ (s.items j).stamp) (sym r.2) le))

---- the least start

pub least_first : (m : ℕ) (xs : List ℕ) → least m xs ≤ m
least_first m [] = omega arith
least_first m (x ∷ xs) = omega (arith, least_first m xs)

pub least_each : (m : ℕ) (xs : List ℕ) (x : ℕ) → x ∈ xs → least m xs ≤ x
least_each m [] x i = elim i [ ]
least_each m (y ∷ ys) x (Memᴰ.head e) = omega arith
least_each m (y ∷ ys) x (Memᴰ.tail i) = omega (arith, least_each m ys x i)

-- it is one of them
pub least_in : (m : ℕ) (xs : List ℕ) → (least m xs ≡ m) ⊎ (least m xs ∈ xs)
least_in m [] = inl refl
least_in m (x ∷ xs) = ⊎_elim
    (λ l. let e : min x (least m xs) ≡ x = omega arith in inr (Memᴰ.head e))
    (λ l. let e : min x (least m xs) ≡ least m xs = omega arith in ⊎_elim (λ d. inl (e ∙ d)) (λ k. inr (Memᴰ.tail (subst (λ y. y ∈ xs) (sym e) k))) (least_in m xs))
    (cases_lt x (least m xs))
