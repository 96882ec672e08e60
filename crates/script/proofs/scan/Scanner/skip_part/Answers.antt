use Rattle.std.proofs.Common.{ap, ◌∙◌, arith}
use Rattle.script.specs.Parts.{left, next}
use Rattle.script.proofs.Cutting.{Passed, passed, place_is}
use Rattle.script.proofs.scan.Scanner.skip_part.Goals as goal
use Rattle.script.proofs.scan.Scanner.skip_part.Goals.{After-from}

step : (c : After-from) → Passed c.self.inside.at c.from.result c.cut_once.result.0.now c.self.inside.rest c.cut_once.result.1
step c = passed _ _ _ _ _ _ _ c.in-Some.is c.cut_once.ensures.front c.cut_once.ensures.rest c.is_some.ensures c.from.ensures

pub invariant_of-self : goal.invariant_of-self
invariant_of-self c = omega (arith, (step (goal.at.invariant_of-self c).After-from).room_left, c.self.invariant)

pub returns-in-Some : goal.returns-in-Some
returns-in-Some c = let s = step (goal.at.returns-in-Some c).After-from in place_is (s.place ∙ ap (λ p. next p.at p.parts) c.self.view_is) (s.parts_left ∙ ap (λ p. left p.parts) c.self.view_is)
