-- What is known of missed versions, one more after another.
use Rattle.std.proofs.Common.{◌≡◌, ℕ, min, Bool, true, false, cond, not, ◌||◌, leb, ltb, List, [], ◌∷◌, ◌++◌, Some, None, Option, sym, refl, ap, ◌∙◌, subst, append-nil, append_assoc, arith}
use Rattle.std.specs.List.{fold, take_while}
use Rattle.std.proofs.lemmas.Bool.Decides.{nat_tests}
use Rattle.std.proofs.lemmas.List.Sums.{take_while-cons}
use Rattle.history.specs.State.{Version as Kept}
use Rattle.history.specs.Steps.{newer, earliest, any, is_warped}
use Rattle.versions.specs.declared.version.Version.{Version}
use Rattle.versions.specs.declared.missed.Missed.{Missed}
use Rattle.versions.specs.Slots.{as_code, as_codes}
use Rattle.versions.specs.Plans.{Tells, least_with, missed_with}

earliest-snoc : (vs : List Kept) (v : Kept) → earliest (vs ++ v ∷ []) ≡ Some (least_with (earliest vs) v.place)
earliest-snoc [] v = refl
earliest-snoc (u ∷ vs) v =
    ap (λ o. elim o as (λ _. Option ℕ) [ None ↦ Some u.place | Some p ↦ Some (min u.place p) ]) (earliest-snoc vs v) ∙ go (earliest vs)
  where
    go : (o : Option ℕ) → ◌≡◌ {A = Option ℕ} (Some (min u.place (least_with o v.place))) (Some (least_with (elim o as (λ _. Option ℕ) [ None ↦ Some u.place | Some p ↦ Some (min u.place p) ]) v.place))
    go None = refl
    go (Some p) = ap Some (omega arith)

pub any_snoc : {A : Type 0} (test : A → Bool) (xs : List A) (x : A) → any test (xs ++ x ∷ []) ≡ (any test xs || test x)
any_snoc test [] x = elim (test x) as (λ k. (k || false) ≡ k) [ true ↦ refl | false ↦ refl ]
any_snoc test (y ∷ ys) x = ap (λ k. test y || k) (any_snoc test ys x) ∙ elim (test y) as (λ k. (k || (any test ys || test x)) ≡ ((k || any test ys) || test x)) [ true ↦ refl | false ↦ refl ]

ltb-not : (a b : ℕ) → ltb a b ≡ not (leb b a)
ltb-not a b = grind (arith, nat_tests)

module _ {S : Type 0} (coded : S → ℕ) where
  tells_more : (m : Missed) (vs : List Kept) (v : Version S) → Tells m vs → Tells (missed_with m v) (vs ++ as_code coded v ∷ [])
  tells_more m vs v t = record {
    earliest_is = ap (λ o. Some (least_with o v.place)) t.earliest_is ∙ sym (earliest-snoc vs (as_code coded v));
    warped_is = ap (λ k. k || is_warped (as_code coded v)) t.warped_is ∙ sym (any_snoc is_warped vs (as_code coded v));
  }

  -- all that are newer
  pub tells_newer : (start : ℕ) (slots : List (Version S)) (m : Missed) (vs : List Kept) → Tells m vs
      → Tells (fold missed_with m (take_while (λ v. ltb start v.natural) slots)) (vs ++ newer start (as_codes coded slots))
  tells_newer start [] m vs t = subst (Tells m) (sym (append-nil vs)) t
  tells_newer start (v ∷ slots) m vs t =
      let rest = take_while (λ (v : Version S). ltb start v.natural) slots in
      subst (λ l. Tells (fold missed_with m l) (vs ++ newer start (as_codes coded (v ∷ slots)))) (sym (take_while-cons (λ v. ltb start v.natural) v slots ∙ ap (λ k. cond k (v ∷ rest) []) (ltb-not start v.natural)))
      (elim (leb v.natural start) as (λ k. Tells (fold missed_with m (cond (not k) (v ∷ rest) [])) (vs ++ cond k [] (as_code coded v ∷ newer start (as_codes coded slots)))) [
        | true ↦ subst (Tells m) (sym (append-nil vs)) t
        | false ↦ subst (Tells (fold missed_with (missed_with m v) rest)) (append_assoc vs (as_code coded v ∷ []) (newer start (as_codes coded slots))) (tells_newer start slots (missed_with m v) (vs ++ as_code coded v ∷ []) (tells_more m vs v t))
      ])
