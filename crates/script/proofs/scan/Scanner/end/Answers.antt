use Rattle.std.proofs.Common.{Err, ap, ◌∙◌}
use Rattle.script.specs.Reading.{end_at}
use Rattle.script.proofs.Cutting.{not_ended}
use Rattle.script.proofs.scan.Scanner.end.Goals as goal

pub returns-in-Some : goal.returns-in-Some
returns-in-Some c = ap Err c.wrong_part.ensures ∙ not_ended c.args.self.now.at _ _ c.in-Some.is ∙ ap (λ p. end_at c.args.self.now.at p.parts) c.self.view_is
