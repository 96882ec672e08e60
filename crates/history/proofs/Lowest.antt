-- The lowest number that passes a test.
use Rattle.std.proofs.Common.{◌≡◌, ℕ, zero, suc, ◌<◌, ◌≤◌, Bool, true, false, cond, ltb, refl, ap, ◌∙◌, ⊎_elim, arith}
use Rattle.std.proofs.lemmas.Bool.{ltb-true, ltb-false, cases_lt, both_ways}
use Rattle.history.specs.Steps.{lowest}

pub record Lowest (n : ℕ) (test : ℕ → Bool) (k : ℕ) : Type 0 where
  pub within : k ≤ n
  pub passes : k < n → test k ≡ true
  pub lower : (j : ℕ) → j < k → test j ≡ false

pub lowest_is : (n : ℕ) (test : ℕ → Bool) → Lowest n test (lowest n test)
lowest_is zero test = record { within = omega arith; passes = λ l. absurd (omega arith); lower = λ j l. absurd (omega arith) }
lowest_is (suc n) test =
    let r = lowest_is n test in
    (elim (ltb (lowest n test) n) as (λ k. ltb (lowest n test) n ≡ k → Lowest (suc n) test (cond k (lowest n test) (cond (test n) n (suc n)))) [
      | true ↦ λ e. record { within = omega (arith, r.within); passes = λ _. r.passes (ltb-true _ _ e); lower = r.lower }
      | false ↦ λ e.
          let all : lowest n test ≡ n = omega (arith, ltb-false _ _ e, r.within) in
          (elim (test n) as (λ k. test n ≡ k → Lowest (suc n) test (cond k n (suc n))) [
            | true ↦ λ d. record { within = omega arith; passes = λ _. d; lower = λ j l. r.lower j (omega (arith, all)) }
            | false ↦ λ d. record {
              within = omega arith;
              passes = λ l. absurd (omega arith);
              lower = λ j l. ⊎_elim (λ m. r.lower j (omega (arith, all))) (λ m. let is : j ≡ n = omega arith in ap test is ∙ d) (cases_lt j n);
            }
          ]) refl
    ]) refl

-- where one passes, the lowest is below the count
pub lowest_below : (n : ℕ) (test : ℕ → Bool) (i : ℕ) → i < n → test i ≡ true → lowest n test < n
lowest_below n test i l e = ⊎_elim (λ m. m) (λ m. absurd (both_ways (test i) ((lowest_is n test).lower i (omega arith)) e)) (cases_lt (lowest n test) n)

-- where none does, it is the count
pub lowest_none : (n : ℕ) (test : ℕ → Bool) → ((i : ℕ) → i < n → test i ≡ false) → lowest n test ≡ n
lowest_none n test none =
    let r = lowest_is n test in
    ⊎_elim (λ m. absurd (both_ways _ (none _ m) (r.passes m))) (λ m. omega (arith, r.within)) (cases_lt (lowest n test) n)
