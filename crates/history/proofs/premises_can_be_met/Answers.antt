use Rattle.history.proofs.Meeting.{premises_met}
use Rattle.history.proofs.premises_can_be_met.Goals as goal

pub returns : goal.returns
returns c = premises_met c.now_keeps_the_four_laws.ensures
