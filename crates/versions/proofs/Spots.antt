-- Where versions stay and where a new one goes in.
use Rattle.std.proofs.Common.{◌≡◌, ◌≢◌, ℕ, suc, ◌<◌, ◌≤◌, Bool, true, false, cond, eqb, ltb, leb, List, [], ◌∷◌, length, get_or, take, Some, None, Option, IfSome, position, option_map, sym, refl, ap, ◌∙◌, subst, ⊎_elim, arith}
use Rattle.std.specs.List.{slice_get}
use Rattle.std.specs.Option.{option_map_or}
use Rattle.std.proofs.lemmas.Bool.{cond-true, cond-false, le-leb, lt-leb, lt-ltb, le-ltb, eq-eqb, ne_eqb, cases_order}
use Rattle.std.proofs.lemmas.List.{length-take-le}
use Rattle.std.proofs.lemmas.Option.{slice_get-get_or}
use Rattle.history.specs.State.{Version as Kept}
use Rattle.history.specs.Steps.{down_to_anchor, insert_version}
use Rattle.versions.specs.declared.version.Version.{Version}
use Rattle.versions.specs.declared.sight.Sight.TheVariants.{ByPlace}
use Rattle.versions.specs.Slots.{as_code, as_codes, in_sight}
use Rattle.versions.specs.Plans.{put_in, Spotted}
use Rattle.versions.proofs.Positions.{position-cons, position_inside}

-- the index for a new version with the place, by that of the first whose place is not above it
abbrev pub free_at : {S : Type 0} → ℕ → List (Version S) → Option ℕ → Option ℕ
free_at place vs None = Some (length vs)
free_at place vs (Some i) = option_map_or (λ v. cond (eqb v.place place) None (Some i)) (slice_get vs i) None

module _ {S : Type 0} (place : ℕ) (vs : List (Version S)) (i : ℕ) (d : Version S) (lt : i < length vs) where
  here : free_at place vs (Some i) ≡ cond (eqb (get_or vs i d).place place) None (Some i)
  here = ap (λ o. option_map_or (λ (w : Version S). cond {A = Option ℕ} (eqb w.place place) None (Some i)) o None) (slice_get-get_or vs i d lt)

  pub at_taken : (get_or vs i d).place ≡ place → free_at place vs (Some i) ≡ None
  at_taken e = here ∙ cond-true (eqb (get_or vs i d).place place) None (Some i) (eq-eqb (get_or vs i d).place place e)

  pub at_free : (get_or vs i d).place ≢ place → free_at place vs (Some i) ≡ Some i
  at_free e = here ∙ cond-false (eqb (get_or vs i d).place place) None (Some i) (ne_eqb (get_or vs i d).place place e)

free_inside : {S : Type 0} (place : ℕ) (vs : List (Version S)) (o : Option ℕ) → IfSome o (λ i. i < length vs) → IfSome (free_at place vs o) (λ i. i ≤ length vs)
free_inside place vs None h = omega arith
free_inside {S} place vs (Some i) h = go (slice_get vs i)
  where
    go : (o : Option (Version S)) → IfSome (option_map_or (λ (w : Version S). cond {A = Option ℕ} (eqb w.place place) None (Some i)) o None) (λ i. i ≤ length vs)
    go None = tt
    go (Some w) = elim (eqb w.place place) as (λ k. IfSome (cond {A = Option ℕ} k None (Some i)) (λ i. i ≤ length vs)) [ true ↦ tt | false ↦ omega arith ]

module _ {S : Type 0} (coded : S → ℕ) (n : Kept) where
  put_below : (v : Version S) (vs : List (Version S)) (o : Option ℕ) → put_in n (free_at n.place (v ∷ vs) (option_map (λ i. suc i) o)) (as_codes coded (v ∷ vs)) ≡ as_code coded v ∷ put_in n (free_at n.place vs o) (as_codes coded vs)
  put_below v vs None = refl
  put_below v vs (Some i) = go (slice_get vs i)
    where
      go : (o : Option (Version S)) → put_in n (option_map_or (λ (w : Version S). cond {A = Option ℕ} (eqb w.place n.place) None (Some (suc i))) o None) (as_codes coded (v ∷ vs)) ≡ as_code coded v ∷ put_in n (option_map_or (λ (w : Version S). cond {A = Option ℕ} (eqb w.place n.place) None (Some i)) o None) (as_codes coded vs)
      go None = refl
      go (Some w) = elim (eqb w.place n.place) as (λ k. put_in n (cond {A = Option ℕ} k None (Some (suc i))) (as_codes coded (v ∷ vs)) ≡ as_code coded v ∷ put_in n (cond {A = Option ℕ} k None (Some i)) (as_codes coded vs)) [ true ↦ refl | false ↦ refl ]

  -- the new version goes in by its place
  pub insert_is : (vs : List (Version S)) → insert_version n (as_codes coded vs) ≡ put_in n (free_at n.place vs (position (in_sight ByPlace n.place) vs)) (as_codes coded vs)
  insert_is [] = refl
  insert_is (v ∷ vs) = ⊎_elim
      (λ same.
      cond-false (ltb v.place n.place) (n ∷ all) rest (le-ltb v.place n.place (omega arith)) ∙ cond-true (eqb v.place n.place) all (as_code coded v ∷ insert_version n (as_codes coded vs)) (eq-eqb v.place n.place same)
      ∙ sym (head (omega arith) ∙ ap (λ k. put_in n (cond {A = Option ℕ} k None (Some 0)) all) (eq-eqb v.place n.place same)))
      (⊎_elim
      (λ low. cond-true (ltb v.place n.place) (n ∷ all) rest (lt-ltb v.place n.place low) ∙ sym (head (omega arith) ∙ ap (λ k. put_in n (cond {A = Option ℕ} k None (Some 0)) all) (ne_eqb v.place n.place (λ e. omega arith))))
      (λ high.
      cond-false (ltb v.place n.place) (n ∷ all) rest (le-ltb v.place n.place (omega arith)) ∙ cond-false (eqb v.place n.place) all (as_code coded v ∷ insert_version n (as_codes coded vs)) (ne_eqb v.place n.place (λ e. omega arith))
      ∙ ap (λ ws. as_code coded v ∷ ws) (insert_is vs)
      ∙ sym (ap (λ o. put_in n (free_at n.place (v ∷ vs) o) all) (position-cons test v vs ∙ cond-false (leb v.place n.place) (Some 0) next (lt-leb v.place n.place high)) ∙ put_below v vs (position test vs))))
      (cases_order v.place n.place)
    where
      test : Version S → Bool
      test = in_sight ByPlace n.place

      all : List Kept
      all = as_codes coded (v ∷ vs)

      rest : List Kept
      rest = cond (eqb v.place n.place) all (as_code coded v ∷ insert_version n (as_codes coded vs))

      next : Option ℕ
      next = option_map (λ i. suc i) (position test vs)

      head : v.place ≤ n.place → put_in n (free_at n.place (v ∷ vs) (position test (v ∷ vs))) all ≡ put_in n (cond {A = Option ℕ} (eqb v.place n.place) None (Some 0)) all
      head le = ap (λ o. put_in n (free_at n.place (v ∷ vs) o) all) (position-cons test v vs ∙ cond-true (leb v.place n.place) (Some 0) next (le-leb v.place n.place le))

-- what is found among the versions that stay
pub spot_is : {S : Type 0} (slots : List (Version S)) (keep least place : ℕ) (o at : Option ℕ) → keep ≤ length slots → ((coded : S → ℕ) → as_codes coded (take keep slots) ≡ down_to_anchor least (as_codes coded slots))
    → o ≡ position (in_sight ByPlace place) (take keep slots) → at ≡ free_at place (take keep slots) o → Spotted (record { keep = keep; at = at }) slots least place
spot_is {S} slots keep least place o at within stays found is = record {
  within = within;
  inside = subst (λ m. IfSome at (λ i. i ≤ m)) (length-take-le keep slots within) (subst (λ p. IfSome p (λ i. i ≤ length stay)) (sym free) (free_inside place stay (position (in_sight ByPlace place) stay) (position_inside (in_sight ByPlace place) stay _ refl)));
  stays = stays;
  goes = λ coded n same.
      insert_is coded n stay
      ∙ ap (λ p. put_in n (free_at p stay (position (in_sight ByPlace p) stay)) (as_codes coded stay)) same
      ∙ ap (λ p. put_in n p (as_codes coded stay)) (sym free);
}
  where
    stay : List (Version S)
    stay = take keep slots

    free : at ≡ free_at place stay (position (in_sight ByPlace place) stay)
    free = is ∙ ap (free_at place stay) found
