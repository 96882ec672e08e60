use Rattle.published.proofs.Followed.{spared_is_refused}
use Rattle.published.proofs.what_a_published_read_aborts_is_refused_at_its_commit.Goals as goal

pub returns : goal.returns
returns c = spared_is_refused
