use Rattle.std.proofs.Common.{rules}
use Rattle.station.proofs.Answering.{told_call, told_fault}
use Rattle.station.proofs.run.outcome_of.Goals as goal

pub returns-in_err-call : goal.returns-in_err-call
returns-in_err-call g c =
    told_fault g.R.Rule.answers c.args.board.now c.args.request _ c.in_err-call.field-0.0 (search rules) (search rules)

pub returns-in_err-call-2 : goal.returns-in_err-call-2
returns-in_err-call-2 g c =
    told_call g.R.Rule.answers c.args.board.now c.call.new.self c.args.request _ c.in_ok-call.call c.call.result (search rules) c.call.ensures (search rules)

pub returns : goal.returns
returns g c =
    told_call g.R.Rule.answers c.args.board.now c.call.new.self c.args.request _ c.in_ok-call.call c.call.result (search rules) c.call.ensures (search rules)
