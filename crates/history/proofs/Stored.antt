-- Version lists at a grant: they are cut below the anchor, and the new version goes in by its place.
use Rattle.std.proofs.Common.{◌≡◌, ℕ, ◌<◌, ◌≤◌, true, false, cond, eqb, ltb, ◌⊎◌, List, [], ◌∷◌, None, sym, refl, ap, subst, inl, inr, ⊎_elim, arith}
use mathlib.Core.List.Memᴰ
use mathlib.Core.List.{Memᴰ}
use Rattle.std.specs.List.{AllByRecursion}
use Rattle.std.proofs.lemmas.Bool.{ltb-true, ltb-false, eqb-true, eqb-false, leb-true, leb-false}
use Rattle.history.specs.State.{Setup, Version, Item}
use Rattle.history.specs.Steps.{natural_by, down_to_anchor, insert_version}
use Rattle.history.specs.Log.{Grant}
use Rattle.history.specs.Promise.{◌∈◌}
use Rattle.history.proofs.Runs.{written, Writes, all_in}
use Rattle.history.proofs.Arranged.{all_map}
use Rattle.history.proofs.Versions.{Falling, Stores, Keeps}
use Rattle.history.proofs.Invariant.{Sound}
use Rattle.history.proofs.Picks.{version_by}

-- a list cut at its anchor, the newest version with natural number not above m
pub record Cut (m : ℕ) (vs : List Version) (cut : List Version) : Type 0 where
  pub anchor : Version
  pub within : anchor ∈ cut
  pub old : anchor.natural ≤ m
  pub lowest : (u : Version) → u ∈ cut → anchor.place ≤ u.place
  pub from_list : (u : Version) → u ∈ cut → u ∈ vs
  pub below : (u : Version) → u ∈ vs → (u ∈ cut) ⊎ (u.place < anchor.place)
  pub falling : Falling cut

place_of : {u v : Version} → u ≡ v → u.place ≡ v.place
place_of e = ap (λ (y : Version). y.place) e

all_from : (P : Version → Type 0) (vs : List Version) → ((v : Version) → v ∈ vs → P v) → AllByRecursion P vs
all_from P [] f = tt
all_from P (v ∷ vs) f = (f v (Memᴰ.head refl), all_from P vs (λ u m. f u (Memᴰ.tail m)))

pub cut_down_is : (m : ℕ) (vs : List Version) (w : Version) → Falling vs → w ∈ vs → w.natural ≤ m → Cut m vs (down_to_anchor m vs)
cut_down_is m [] w f i p = elim i [ ]
cut_down_is m (x ∷ xs) w f i p =
    (elim (natural_by m x) as (λ k. natural_by m x ≡ k → Cut m (x ∷ xs) (x ∷ cond k [] (down_to_anchor m xs))) [
      | true ↦ λ e. record {
        anchor = x;
        within = Memᴰ.head refl;
        old = leb-true _ _ e;
        lowest = λ u j. ⊎_elim (λ d. omega (arith, place_of d)) (λ k. elim k [ ]) (Memᴰ.cases_cons j);
        from_list = λ u j. ⊎_elim (λ d. Memᴰ.head d) (λ k. elim k [ ]) (Memᴰ.cases_cons j);
        below = λ u j. ⊎_elim (λ d. inl (Memᴰ.head d)) (λ k. inr (all_in _ xs u f.0 k)) (Memᴰ.cases_cons j);
        falling = (tt, tt);
      }
      | false ↦ λ e.
          let inside : w ∈ xs = ⊎_elim (λ d. absurd (omega (arith, leb-false _ _ e, ap (λ (y : Version). y.natural) d))) (λ k. k) (Memᴰ.cases_cons i) in
          let r = cut_down_is m xs w f.1 inside p in
          record {
            anchor = r.anchor;
            within = Memᴰ.tail r.within;
            old = r.old;
            lowest = λ u j. ⊎_elim (λ d. omega (arith, place_of d, all_in _ xs r.anchor f.0 (r.from_list _ r.within))) (r.lowest u) (Memᴰ.cases_cons j);
            from_list = λ u j. ⊎_elim (λ d. Memᴰ.head d) (λ k. Memᴰ.tail (r.from_list u k)) (Memᴰ.cases_cons j);
            below = λ u j. ⊎_elim (λ d. inl (Memᴰ.head d)) (λ k. ⊎_elim (λ q. inl (Memᴰ.tail q)) inr (r.below u k)) (Memᴰ.cases_cons j);
            falling = (all_from _ _ (λ u j. all_in _ xs u f.0 (r.from_list u j)), r.falling);
          }
    ]) refl

---- insertion

-- the three ways of an insertion at a head
by_place : (P : List Version → Type 0) (n v : Version) (vs : List Version) → (v.place < n.place → P (n ∷ v ∷ vs)) → (v.place ≡ n.place → P (v ∷ vs)) → (n.place < v.place → P (v ∷ insert_version n vs)) → P (insert_version n (v ∷ vs))
by_place P n v vs above same under =
    (elim (ltb v.place n.place) as (λ k. ltb v.place n.place ≡ k → P (cond k (n ∷ v ∷ vs) (cond (eqb v.place n.place) (v ∷ vs) (v ∷ insert_version n vs)))) [
      | true ↦ λ e. above (ltb-true _ _ e)
      | false ↦ λ e. (elim (eqb v.place n.place) as (λ k. eqb v.place n.place ≡ k → P (cond k (v ∷ vs) (v ∷ insert_version n vs))) [
        | true ↦ λ d. same (eqb-true _ _ d)
        | false ↦ λ d. let other = eqb-false _ _ d in let not_above = ltb-false _ _ e in under (omega arith)
      ]) refl
    ]) refl

pub in_insert : (n u : Version) (vs : List Version) → u ∈ insert_version n vs → (u ≡ n) ⊎ (u ∈ vs)
in_insert n u [] m = ⊎_elim inl (λ k. elim k [ ]) (Memᴰ.cases_cons m)
in_insert n u (v ∷ vs) m =
    by_place (λ l. u ∈ l → (u ≡ n) ⊎ (u ∈ v ∷ vs)) n v vs
    (λ _ j. Memᴰ.cases_cons j)
    (λ _ j. inr j)
    (λ _ j. ⊎_elim (λ d. inr (Memᴰ.head d)) (λ k. ⊎_elim inl (λ q. inr (Memᴰ.tail q)) (in_insert n u vs k)) (Memᴰ.cases_cons j))
    m

pub insert_keeps : (n u : Version) (vs : List Version) → u ∈ vs → u ∈ insert_version n vs
insert_keeps n u [] m = elim m [ ]
insert_keeps n u (v ∷ vs) m =
    by_place (λ l. u ∈ l) n v vs
    (λ _. Memᴰ.tail m)
    (λ _. m)
    (λ _. ⊎_elim (λ d. Memᴰ.head d) (λ k. Memᴰ.tail (insert_keeps n u vs k)) (Memᴰ.cases_cons m))

-- the place is taken, by the new version or by the one for which it is skipped
pub insert_has : (n : Version) (vs : List Version) → (n ∈ insert_version n vs) ⊎ ((u : Version) × (u ∈ vs) × (u.place ≡ n.place))
insert_has n [] = inl (Memᴰ.head refl)
insert_has n (v ∷ vs) =
    by_place (λ l. (n ∈ l) ⊎ ((u : Version) × (u ∈ v ∷ vs) × (u.place ≡ n.place))) n v vs
    (λ _. inl (Memᴰ.head refl))
    (λ e. inr (v, Memᴰ.head refl, e))
    (λ _. ⊎_elim (λ m. inl (Memᴰ.tail m)) (λ u. inr (u.0, Memᴰ.tail u.1, u.2)) (insert_has n vs))

pub falling_insert : (n : Version) (vs : List Version) → Falling vs → Falling (insert_version n vs)
falling_insert n [] f = (tt, tt)
falling_insert n (v ∷ vs) f =
    by_place Falling n v vs
    (λ l. ((l, all_map (λ (u : Version). u.place < v.place) (λ u. u.place < n.place) (λ u p. omega arith) vs f.0), f))
    (λ _. f)
    (λ l. (all_from _ _ (λ u m. ⊎_elim (λ d. omega (arith, place_of d)) (λ k. all_in _ vs u f.0 k) (in_insert n u vs m)), falling_insert n vs f.1))

---- an item's list once a transaction is granted

module _ {b : Setup} {clock calls : ℕ} {items : ℕ → Item} {granted : List Grant} (sound : (g : Grant) → g ∈ granted → Sound clock calls items g) (i : ℕ) (vs : List Version) (k : Keeps b granted i vs) (T : Grant) where
  -- it did not write the item
  pub keeps_unwritten : written T.trace.deeds i ≡ None → Keeps b (T ∷ granted) i vs
  keeps_unwritten none = record {
    falling = k.falling;
    some = k.some;
    from_writers = λ v m. ⊎_elim inl (λ p. inr (p.0, Memᴰ.tail p.1, p.2)) (k.from_writers v m);
    to_versions = λ g m c w. ⊎_elim
        (λ e. let z : ◌≡◌ {A = ℕ} 0 1 = cc (none, ap (λ (y : Grant). written y.trace.deeds i) e) in absurd (omega arith))
        (λ m. k.to_versions g m c w)
        (Memᴰ.cases_cons m);
  }

  -- it did
  pub keeps_written : (n : Version) (m : ℕ) (cut : List Version) → Stores T i n → Cut m vs cut → m < n.place → clock < n.natural → Keeps b (T ∷ granted) i (insert_version n cut)
  keeps_written n m cut st c above later = record {
    falling = falling_insert n cut c.falling;
    some = (c.anchor, insert_keeps n c.anchor cut c.within);
    from_writers = λ v j. ⊎_elim
        (λ e. inr (T, Memᴰ.head refl, subst (Stores T i) (sym e) st))
        (λ j. ⊎_elim inl (λ p. inr (p.0, Memᴰ.tail p.1, p.2)) (k.from_writers v (c.from_list v j)))
        (in_insert n v cut j);
    to_versions = λ g j x w. ⊎_elim (λ e. inl (subst Placed (sym e) own)) (λ j. earlier g j x w) (Memᴰ.cases_cons j);
  }
    where
      Placed : Grant → Type 0
      Placed g = (v : Version) × (v ∈ insert_version n cut) × (v.place ≡ g.place) × (v.natural ≤ g.natural)

      known : (v : Version) → v ∈ vs → (v.place ≤ v.natural) × (v.natural ≤ clock)
      known v j = version_by sound i vs v k j

      own : Placed T
      own = ⊎_elim
          (λ j. (n, j, sym st.place, omega (arith, st.natural)))
          (λ u. (u.0, insert_keeps n u.0 cut u.1, omega (arith, u.2, st.place), omega (arith, st.natural, (known u.0 (c.from_list _ u.1)).1)))
          (insert_has n cut)

      under : (g : Grant) → g.place < c.anchor.place → (v : Version) → v ∈ insert_version n cut → g.place < v.place
      under g low v j = ⊎_elim
          (λ e. omega (arith, place_of e, c.old, (known c.anchor (c.from_list _ c.within)).0))
          (λ j. omega (arith, c.lowest v j))
          (in_insert n v cut j)

      earlier : (g : Grant) → g ∈ granted → (x : ℕ) → Writes g i x → Placed g ⊎ ((v : Version) → v ∈ insert_version n cut → g.place < v.place)
      earlier g j x w = ⊎_elim
          (λ u. ⊎_elim (λ q. inl (u.0, insert_keeps n u.0 cut q, u.2, u.3)) (λ low. inr (under g (omega (arith, u.2)))) (c.below u.0 u.1))
          (λ low. inr (under g (low c.anchor (c.from_list _ c.within))))
          (k.to_versions g j x w)
