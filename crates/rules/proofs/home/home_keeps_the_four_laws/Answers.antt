use Rattle.rules.specs.HomeLaws.{home_keeps}
use Rattle.rules.proofs.home.home_keeps_the_four_laws.Goals as goal

pub returns : goal.returns
returns c = home_keeps
