use Rattle.script.proofs.Newlines.{lines_make_the_script}
use Rattle.script.proofs.laws.lines_make_the_script.Goals as goal

pub returns : goal.returns
returns c = lines_make_the_script
