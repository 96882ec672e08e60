use Rattle.history.proofs.Counting.{naturals_count_grants}
use Rattle.history.proofs.naturals_count_grants.Goals as goal

pub returns : goal.returns
returns c = naturals_count_grants
