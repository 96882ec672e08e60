-- A read that the published algorithm would have aborted leaves the transaction doomed: validation comes by the time-warped version again.
use Rattle.std.proofs.Common.{◌≡◌, ℕ, zero, suc, ◌<◌, ◌≤◌, true, false, cond, eqb, ltb, List, [], ◌∷◌, ◌++◌, map, sym, refl, ap, ◌∙◌, subst, ⊎_elim, arith}
use mathlib.Core.List.Memᴰ
use Rattle.std.proofs.lemmas.Bool.{lt-ltb, le-leb, leb-false, not-true, or_left, or_right, or_cases, and_parts, cases_lt, cond-true}
use Rattle.calls.specs.declared.call.Mode.TheVariants.{Update}
use Rattle.history.specs.State.{Version}
use Rattle.history.specs.Steps.{natural_by}
use Rattle.history.specs.Promise.{◌∈◌}
use Rattle.published.specs.Algorithm.{Ver, Tx, Machine, Validation, nothing_found, misses, handle_read, create_new_version, early_abort, is_time_warped, passes_over, each_var}
use Rattle.published.specs.Beside.{as_ver}
use Rattle.published.proofs.Fronts.{update_passes, further}
use Rattle.published.proofs.Same.{Dooms}

abbrev Warped : Validation → Type 0
Warped f = f.missed_warped ≡ true

-- what was found before only adds to it
dooms_any : (start : ℕ) (l : List Ver) (f g : Validation) → (Warped f → Warped g) → Warped (handle_read start l f) → Warped (handle_read start l g)
dooms_any start [] f g h e = h e
dooms_any start (v ∷ older) f g h e =
    (elim (ltb start v.nat_order) as (λ k. Warped (cond k (handle_read start older (misses v f)) f) → Warped (cond k (handle_read start older (misses v g)) g)) [
      | true ↦ dooms_any start older (misses v f) (misses v g) (λ d. ⊎_elim (λ c. or_left _ _ c) (λ c. or_right (is_time_warped v) _ (h c)) (or_cases (is_time_warped v) _ d))
      | false ↦ h
    ]) e

stays : (start : ℕ) (l : List Ver) (f : Validation) → Warped f → Warped (handle_read start l f)
stays start [] f e = e
stays start (v ∷ older) f e =
    elim (ltb start v.nat_order) as (λ k. Warped (cond k (handle_read start older (misses v f)) f)) [
      | true ↦ stays start older (misses v f) (or_right (is_time_warped v) _ e)
      | false ↦ e
    ]

-- the read passed over a time-warped version
pub early_dooms : (start : ℕ) (older : List Ver) (vs : List Version) (w : Version) (f : Validation)
    → ((v : Version) → v ∈ vs → v.place ≤ v.natural) → w ∈ vs → w.natural ≤ start
    → early_abort start (map as_ver vs ++ older) ≡ true → Warped (handle_read start (map as_ver vs ++ older) f)
early_dooms start older [] w f by m le e = elim m [ ]
early_dooms start older (v ∷ vs) w f by m le e =
    let r = and_parts (passes_over Update start (as_ver v)) _ e in
    let later = not-true _ (sym (update_passes start v (by v (Memᴰ.head refl))) ∙ r.0) in
    let inside = further (natural_by start) v vs w m (le-leb w.natural start le) later in
    subst Warped (sym (cond-true _ _ _ (lt-ltb start v.natural (leb-false _ _ later))))
    (⊎_elim
    (λ d. stays start (map as_ver vs ++ older) (misses (as_ver v) f) (or_left _ _ d))
    (λ d. early_dooms start older vs w (misses (as_ver v) f) (λ u n. by u (Memᴰ.tail n)) inside le d)
    (or_cases (is_time_warped (as_ver v)) _ r.1))

-- later commits leave it there
pub create_dooms : (start : ℕ) (n : Ver) (l : List Ver) (f : Validation) → start < n.nat_order → Warped (handle_read start l f) → Warped (handle_read start (create_new_version n l) f)
create_dooms start n [] f lt e = stays start (n ∷ []) f e
create_dooms start n (v ∷ older) f lt e =
    elim (ltb n.tw_order v.tw_order) as (λ k. Warped (handle_read start (cond k (v ∷ create_new_version n older) (cond (eqb n.tw_order v.tw_order) (v ∷ older) (n ∷ v ∷ older))) f)) [
      | true ↦ (elim (ltb start v.nat_order) as (λ k. Warped (cond k (handle_read start older (misses v f)) f) → Warped (cond k (handle_read start (create_new_version n older) (misses v f)) f)) [
        | true ↦ create_dooms start n older (misses v f) lt
        | false ↦ λ d. d
      ]) e
      | false ↦ elim (eqb n.tw_order v.tw_order) as (λ k. Warped (handle_read start (cond k (v ∷ older) (n ∷ v ∷ older)) f)) [
        | true ↦ e
        | false ↦ subst Warped (sym (cond-true _ _ _ (lt-ltb start n.nat_order lt))) (dooms_any start (v ∷ older) f (misses n f) (λ d. or_right (is_time_warped n) _ d) e)
      ]
    ]

-- so its commit finds it
pub each_dooms : (m : Machine) (tx : Tx) (n i : ℕ) (f : Validation) → i < n → tx.read_set i ≡ true → Dooms tx.start (m.vars i).versions
    → Warped (each_var n (λ var g. cond (tx.read_set var) (handle_read tx.start (m.vars var).versions g) g) f)
each_dooms m tx zero i f lt e d = absurd (omega arith)
each_dooms m tx (suc n) i f lt e d =
    let rest : Validation = each_var n (λ var g. cond (tx.read_set var) (handle_read tx.start (m.vars var).versions g) g) f in
    ⊎_elim
    (λ l. elim (tx.read_set n) as (λ k. Warped (cond k (handle_read tx.start (m.vars n).versions rest) rest)) [
      | true ↦ stays tx.start (m.vars n).versions rest (each_dooms m tx n i f l e d)
      | false ↦ each_dooms m tx n i f l e d
    ])
    (λ l.
    let is : i ≡ n = omega arith in
    subst Warped (sym (cond-true (tx.read_set n) (handle_read tx.start (m.vars n).versions rest) rest (ap tx.read_set (sym is) ∙ e)))
    (dooms_any tx.start (m.vars n).versions nothing_found rest (λ c. let z : ◌≡◌ {A = ℕ} 0 1 = cc in absurd (omega arith)) (subst (λ j. Dooms tx.start (m.vars j).versions) is d)))
    (cases_lt i n)
