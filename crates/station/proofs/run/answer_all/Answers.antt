use Rattle.std.proofs.Common.{rules}
use Rattle.station.proofs.Answering.{reached_more, reached_all}
use Rattle.station.proofs.run.answer_all.Goals as goal

pub loop-i-preserved : goal.loop-i-preserved
loop-i-preserved g c =
    reached_more g.R.Rule.answers c.args.board.now c.loop-i.board c.outcome_of.new.board c.args.requests.now c.loop-i.i _ c.loop-i.answers c.outcome_of.result c.into.result (search rules) c.loop-i-test.true c.loop-i.invariant c.outcome_of.ensures c.into.ensures

pub returns : goal.returns
returns g c =
    reached_all g.R.Rule.answers c.args.board.now c.loop-i.board c.args.requests.now c.loop-i.i c.loop-i.answers (search rules) c.loop-i-test.false c.loop-i.invariant
