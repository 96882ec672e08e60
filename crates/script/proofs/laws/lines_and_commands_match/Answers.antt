use Rattle.script.proofs.Matching.{lines_and_commands_match}
use Rattle.script.proofs.laws.lines_and_commands_match.Goals as goal

pub returns : goal.returns
returns c = lines_and_commands_match
