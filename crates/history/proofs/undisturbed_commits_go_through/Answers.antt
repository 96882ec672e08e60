use Rattle.history.proofs.Progressing.{undisturbed_commits_go_through}
use Rattle.history.proofs.undisturbed_commits_go_through.Goals as goal

pub returns : goal.returns
returns c = undisturbed_commits_go_through
