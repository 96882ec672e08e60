use Rattle.std.proofs.Common.{◌≡◌, rules, sym, subst}
use Rattle.std.proofs.lemmas.Iterator.{YieldsList-from_slice, IsFirst-from_position}
use Rattle.script.proofs.Cutting.{Cuts, cuts}
use Rattle.script.proofs.cut.cut_once.Goals as goal
use Rattle.script.proofs.cut.cut_once.Goals.{After-position}
use borrow.Author.Tests.{tests}

found : (c : After-position) → Cuts c.args.mark c.args.bytes.now c.position.result
found c = cuts _ _ _ (IsFirst-from_position _ _ c.position.result (λ x. x ≡ c.args.mark) (λ x. x ≡ c.args.mark → ⊥) c.position.ensures.ran (YieldsList-from_slice c.args.bytes.now cc) (λ x q k. search (rules, tests)) (λ x q k. search (rules, tests)))

pub returns-in-Some : goal.returns-in-Some
returns-in-Some c = let e = subst (Cuts c.args.mark c.args.bytes.now) c.in-Some.is (found (goal.at.returns-in-Some c).After-position) in record { front = e.0; rest = e.1 }

pub returns-in-None : goal.returns-in-None
returns-in-None c = let e = subst (Cuts c.args.mark c.args.bytes.now) c.in-None.is (found (goal.at.returns-in-None c).After-position) in record { front = sym e.0; rest = sym e.1 }
