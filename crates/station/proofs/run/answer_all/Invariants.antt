use Rattle.station.proofs.Answering.{Reached}
use Rattle.station.proofs.run.answer_all.Given as goal

abbrev pub invariant-loop-i : goal.invariant-loop-i
invariant-loop-i g l = Reached g.R.Rule.answers l.initial.board l.board l.requests l.i l.answers
