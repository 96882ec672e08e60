use Rattle.history.proofs.PromiseKept.{every_history}
use Rattle.history.proofs.every_history_keeps_the_promise.Goals as goal

pub returns : goal.returns
returns c = every_history
