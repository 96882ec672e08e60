use Rattle.history.proofs.Progressing.{only_full_lists_refuse}
use Rattle.history.proofs.only_full_lists_refuse.Goals as goal

pub returns : goal.returns
returns c = only_full_lists_refuse
