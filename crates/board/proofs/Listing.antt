-- Write lists.
use Rattle.std.proofs.Common.{◌≡◌, ℕ, zero, suc, ◌+◌, ◌<◌, min, Bool, true, false, cond, eqb, List, [], ◌∷◌, ◌++◌, length, get_or, take, set, position, option_map, is_some, MatchOption, Some, None, Option, sym, refl, ap, ◌∙◌, subst, ⊎_elim, add-one, arith}
use Rattle.std.proofs.lemmas.Bool.{both_ways, cases_lt}
use Rattle.std.proofs.lemmas.List.{take_all, length-take}
use Rattle.calls.specs.declared.write.Write.{Write}
use Rattle.history.specs.Steps.{listed, list_code}
use Rattle.versions.proofs.Positions.{position-cons, position_inside}
use Rattle.board.specs.Lists.{is_for}

some_is : (i j : ℕ) → ◌≡◌ {A = Option ℕ} (Some i) (Some j) → i ≡ j
some_is i j e = ap (λ (o : Option ℕ). elim o as (λ _. ℕ) [ None ↦ 0 | Some k ↦ k ]) e

none_some : {A : Type 0} (i : ℕ) → ◌≡◌ {A = Option ℕ} None (Some i) → A
none_some i e = absurd (both_ways false refl (ap is_some e))

-- where an item stands in a list that begins with a write: at the front, or behind it, or nowhere
module _ (item : ℕ) (w : Write) (ws : List Write) (P : Bool → Option ℕ → Type 0) where
  cases_cons : (o : Option ℕ) → position (is_for item) (w ∷ ws) ≡ o → P true (Some 0) → ((p : Option ℕ) → position (is_for item) ws ≡ p → P false (option_map (λ i. suc i) p)) → P (eqb w.item item) o
  cases_cons o e here behind = subst (P (eqb w.item item)) (sym (position-cons (is_for item) w ws) ∙ e) (elim (eqb w.item item) as (λ k. P k (cond k (Some 0) (option_map (λ i. suc i) (position (is_for item) ws)))) [ true ↦ here | false ↦ behind _ refl ])

module _ (item : ℕ) where
  -- its code is the one listed
  pub listed_found : (ws : List Write) (d : Write) (at : ℕ) → position (is_for item) ws ≡ Some at → listed item ws ≡ Some (get_or ws at d).code
  listed_found [] d at e = none_some at e
  listed_found (w ∷ ws) d at e = cases_cons item w ws (λ k o. o ≡ Some at → cond k (Some w.code) (listed item ws) ≡ Some (get_or (w ∷ ws) at d).code) (Some at) e
      (λ f. ap (λ n. Some (get_or (w ∷ ws) n d).code) (some_is 0 at f))
      (elim [
        | None ↦ λ q f. none_some at f
        | Some k ↦ λ q f. listed_found ws d k q ∙ ap (λ n. Some (get_or (w ∷ ws) n d).code) (some_is (suc k) at f)
      ]) refl

  pub listed_lost : (ws : List Write) → position (is_for item) ws ≡ None → listed item ws ≡ None
  listed_lost [] e = refl
  listed_lost (w ∷ ws) e = cases_cons item w ws (λ k o. o ≡ None → cond k (Some w.code) (listed item ws) ≡ None) None e
      (λ f. none_some 0 (sym f))
      (elim [
        | None ↦ λ q f. listed_lost ws q
        | Some k ↦ λ q f. none_some (suc k) (sym f)
      ]) refl

  -- what is read where it stands is what is listed
  pub listed_read : (ws : List Write) (d : Write) (o r : Option ℕ) → o ≡ position (is_for item) ws → MatchOption o (r ≡ None) (λ at. r ≡ Some (get_or ws at d).code) → r ≡ listed item ws
  listed_read ws d None r e m = m ∙ sym (listed_lost ws (sym e))
  listed_read ws d (Some at) r e m = m ∙ sym (listed_found ws d at (sym e))

  -- a code listed again stands in the place of the other
  pub list_found : (code : ℕ) (ws : List Write) (at : ℕ) → position (is_for item) ws ≡ Some at → list_code item code ws ≡ set ws at (record { item = item; code = code })
  list_found code [] at e = none_some at e
  list_found code (w ∷ ws) at e = cases_cons item w ws (λ k o. o ≡ Some at → cond k (record { item = item; code = code } ∷ ws) (w ∷ list_code item code ws) ≡ set (w ∷ ws) at (record { item = item; code = code })) (Some at) e
      (λ f. ap (λ n. set (w ∷ ws) n (record { item = item; code = code })) (some_is 0 at f))
      (elim [
        | None ↦ λ q f. none_some at f
        | Some k ↦ λ q f. ap (λ us. w ∷ us) (list_found code ws k q) ∙ ap (λ n. set (w ∷ ws) n (record { item = item; code = code })) (some_is (suc k) at f)
      ]) refl

  pub list_lost : (code : ℕ) (ws : List Write) → position (is_for item) ws ≡ None → list_code item code ws ≡ ws ++ record { item = item; code = code } ∷ []
  list_lost code [] e = refl
  list_lost code (w ∷ ws) e = cases_cons item w ws (λ k o. o ≡ None → cond k (record { item = item; code = code } ∷ ws) (w ∷ list_code item code ws) ≡ w ∷ (ws ++ record { item = item; code = code } ∷ [])) None e
      (λ f. none_some 0 (sym f))
      (elim [
        | None ↦ λ q f. ap (λ us. w ∷ us) (list_lost code ws q)
        | Some k ↦ λ q f. none_some (suc k) (sym f)
      ]) refl

-- a write within the front, and one just behind it
pub take_set_inside : {X : Type 0} (n : ℕ) (xs : List X) (i : ℕ) (x : X) → i < length (take n xs) → take n (set xs i x) ≡ set (take n xs) i x
take_set_inside zero xs i x lt = absurd (omega arith)
take_set_inside (suc n) [] i x lt = absurd (omega arith)
take_set_inside (suc n) (y ∷ ys) zero x lt = refl
take_set_inside (suc n) (y ∷ ys) (suc i) x lt = ap (λ l. y ∷ l) (take_set_inside n ys i x (omega arith))

pub take_set_behind : {X : Type 0} (n : ℕ) (xs : List X) (x : X) → n < length xs → take (suc n) (set xs n x) ≡ take n xs ++ x ∷ []
take_set_behind n [] x lt = absurd (omega arith)
take_set_behind zero (y ∷ ys) x lt = refl
take_set_behind (suc n) (y ∷ ys) x lt = ap (λ l. y ∷ l) (take_set_behind n ys x (omega arith))

pub take_within : {X : Type 0} (n : ℕ) (xs : List X) → take (min n (length xs)) xs ≡ take n xs
take_within n xs = ⊎_elim
    (λ l. ap (λ k. take k xs) (let e : min n (length xs) ≡ n = omega arith in e))
    (λ le. take_all (min n (length xs)) xs (omega arith) ∙ sym (take_all n xs le))
    (cases_lt n (length xs))

---- one code more

module _ (all : List Write) (count item code : ℕ) (eight : length all ≡ 8) where
  -- the item is listed
  pub listed_again : (at : ℕ) → position (is_for item) (take count all) ≡ Some at → take count (set all at (record { item = item; code = code })) ≡ list_code item code (take count all)
  listed_again at e = take_set_inside count all at (record { item = item; code = code }) (position_inside (is_for item) (take count all) (Some at) (sym e)) ∙ sym (list_found item code (take count all) at e)

  -- it is not, and goes behind
  pub listed_new : (at : ℕ) → position (is_for item) (take count all) ≡ None → at ≡ length (take count all) → at < 8 → take (at + 1) (set all at (record { item = item; code = code })) ≡ list_code item code (take count all)
  listed_new at e long lt =
      ap (λ k. take k (set all at (record { item = item; code = code }))) (add-one at)
      ∙ take_set_behind at all (record { item = item; code = code }) (omega arith)
      ∙ ap (λ l. l ++ record { item = item; code = code } ∷ []) (ap (λ k. take k all) (long ∙ length-take count all) ∙ take_within count all)
      ∙ sym (list_lost item code (take count all) e)
