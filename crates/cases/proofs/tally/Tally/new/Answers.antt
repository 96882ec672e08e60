use Rattle.std.proofs.Common.{◌≡◌, ℕ, ◌<◌, List, replicate, sym, ◌∙◌, arith}
use Rattle.std.specs.Array.{AllOfLen}
use Rattle.std.proofs.lemmas.List.{ext_get_or, get_or-replicate, length-replicate}
use Rattle.cases.specs.declared.tally.Tally.{Tally}
use Rattle.cases.specs.Counting.{nothing_noted}
use Rattle.cases.proofs.tally.Tally.new.Goals as goal

zeros : (xs : List ℕ) → AllOfLen (λ x. x ≡ 0) xs 19 → xs ≡ replicate 19 0
zeros xs all =
    ext_get_or 0 xs (replicate 19 0) (all.long ∙ sym (length-replicate {A = ℕ} 19 0)) (λ i below. let inside : i < 19 = omega (arith, all.long) in all.at i 0 inside ∙ sym (get_or-replicate 19 i 0 0 inside))

all_zero : (t : Tally) → t.scripts ≡ 0 → t.lines ≡ 0 → t.refusals ≡ replicate 19 0 → t.granted ≡ 0 → t.warped ≡ 0 → t ≡ nothing_noted
all_zero t scripts lines refusals granted warped = λ i. record { scripts = scripts i; lines = lines i; refusals = refusals i; granted = granted i; warped = warped i }

pub returns : goal.returns
returns c = let e = c.default.ensures in all_zero c.default.result e.0 e.1.0 (zeros c.default.result.refusals e.1.1.0) e.1.1.1.0 e.1.1.1.1
