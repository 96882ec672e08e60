use Rattle.script.proofs.Faulty.{faults_lie_in_their_line}
use Rattle.script.proofs.laws.faults_lie_in_their_line.Goals as goal

pub returns : goal.returns
returns c = faults_lie_in_their_line
