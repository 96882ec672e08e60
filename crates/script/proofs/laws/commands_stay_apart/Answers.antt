use Rattle.script.proofs.Matching.{commands_stay_apart}
use Rattle.script.proofs.laws.commands_stay_apart.Goals as goal

pub returns : goal.returns
returns c = commands_stay_apart
