use Rattle.history.proofs.Progressing.{only_the_rule_refuses}
use Rattle.history.proofs.only_the_rule_refuses.Goals as goal

pub returns : goal.returns
returns c = only_the_rule_refuses
