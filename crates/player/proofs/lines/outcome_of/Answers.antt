use Rattle.std.proofs.Common.{Err, sym, ap, ◌∙◌}
use Rattle.std.proofs.lemmas.Result.{err_from_is_err_and}
use Rattle.player.proofs.Faults.{unplayed}
use Rattle.player.proofs.lines.outcome_of.Goals as goal

pub returns-in_err-call : goal.returns-in_err-call
returns-in_err-call g c =
    let fault = err_from_is_err_and c.from_residual.result c.from_residual.ensures.1 in
    unplayed g.R.Rule.answers c.args.board.now c.args.line.now c.from_residual.result c.in_err-call.field-0.0 c.is_lawful.ensures.setup (sym c.in_err-call.ensures) (fault.1 ∙ ap Err fault.2)
