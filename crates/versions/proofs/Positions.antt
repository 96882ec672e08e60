-- The index of the first element that passes a test, by recursion on the list.
use Rattle.std.proofs.Common.{◌≡◌, ℕ, suc, ◌+◌, ◌<◌, Bool, true, false, cond, not, ltb, List, [], ◌∷◌, length, get_or, Bor, MatchOption, option_copied, Some, None, Option, IfSome, position, option_map, sym, refl, ap, ◌∙◌, arith}
use Rattle.std.proofs.lemmas.Bool.Decides.{nat_tests}
use Rattle.std.proofs.lemmas.List.Quantifiers.{position-Some}
use Rattle.std.specs.List.{position_or_len, slice_get, find}
use Rattle.std.specs.Option.{option_and_then, IsSomeAnd}
use Rattle.std.proofs.lemmas.Option.{slice_get_read}

-- a list whose first element does not pass, and one whose first does
shifted : (n m : ℕ) → ◌≡◌ {A = Option ℕ} (cond (ltb (1 + n) (suc m)) (Some (1 + n)) None) (option_map (λ i. suc i) (cond (ltb n m) (Some n) None))
shifted n m = grind (arith, nat_tests)

at_once : (m : ℕ) → ◌≡◌ {A = Option ℕ} (cond (ltb 0 (suc m)) (Some 0) None) (Some 0)
at_once m = grind (arith, nat_tests)

module _ {X : Type 0} (test : X → Bool) where
  pub position-cons : (x : X) (xs : List X) → position test (x ∷ xs) ≡ cond (test x) (Some 0) (option_map (λ i. suc i) (position test xs))
  position-cons x xs =
      let n = position_or_len test xs in
      elim (test x) as (λ k. ◌≡◌ {A = Option ℕ} (cond (ltb (cond (not k) (1 + n) 0) (suc (length xs))) (Some (cond (not k) (1 + n) 0)) None) (cond k (Some 0) (option_map (λ i. suc i) (position test xs)))) [
        | true ↦ at_once (length xs)
        | false ↦ shifted n (length xs)
      ]

  -- an index that is found is in the list
  pub position_inside : (xs : List X) (o : Option ℕ) → o ≡ position test xs → IfSome o (λ i. i < length xs)
  position_inside xs None found = tt
  position_inside [] (Some i) found = cc
  position_inside (x ∷ xs) (Some i) found = (position-Some test (x ∷ xs) i x (sym found)).0

  -- the element there is the first that passes
  position-find : (xs : List X) → option_and_then (slice_get xs) (position test xs) ≡ find test xs
  position-find [] = refl
  position-find (x ∷ xs) =
      ap (option_and_then (slice_get (x ∷ xs))) (position-cons x xs)
      ∙ elim (test x) as (λ k. option_and_then (slice_get (x ∷ xs)) (cond k (Some 0) (option_map (λ i. suc i) (position test xs))) ≡ cond k (Some x) (find test xs)) [
        | true ↦ refl
        | false ↦ below (position test xs) ∙ position-find xs
      ]
    where
      below : (o : Option ℕ) → option_and_then (slice_get (x ∷ xs)) (option_map (λ i. suc i) o) ≡ option_and_then (slice_get xs) o
      below None = refl
      below (Some i) = refl

-- what is read at the index that is found
pub read_found : {X : Type 0} (test : X → Bool) (xs : List X) (o : Option ℕ) (r : Option (Bor X)) → o ≡ position test xs → MatchOption o (r ≡ None) (λ i. IsSomeAnd r (λ x. x.now ≡ get_or xs i x.now)) → option_copied r ≡ find test xs
read_found {X} test xs o r found read = go o r (position_inside test xs o found) read ∙ ap (option_and_then (slice_get xs)) found ∙ position-find test xs
  where
    go : (o : Option ℕ) (r : Option (Bor X)) → IfSome o (λ i. i < length xs) → MatchOption o (r ≡ None) (λ i. IsSomeAnd r (λ x. x.now ≡ get_or xs i x.now)) → option_copied r ≡ option_and_then (slice_get xs) o
    go None r inside read = ap option_copied read
    go (Some i) None inside read = absurd read
    go (Some i) (Some x) inside read = sym (slice_get_read xs (length xs) i x.now refl inside read)
