use Rattle.std.proofs.Common.{◌<◌, subst}
use Rattle.std.specs.List.{AllByRecursion}
use Rattle.history.specs.State.{Version as Kept}
use Rattle.board.specs.Contents.{Contents}
use Rattle.board.proofs.Known.{codes_known}
use Rattle.board.proofs.board.Board.is_lawful.Goals as goal

pub returns-clause-codes : goal.returns-clause-codes
returns-clause-codes g c =
    subst (λ (b : Contents g.row.R.Denot). AllByRecursion (λ (v : Kept). v.code < b.codes) b.versions) c.self.view_is
    (codes_known g.K.Kind.state g.K.Kind.coded g.K.Kind.COUNT g.met.K.Kind.code_is_below_count c.self.inside.versions.now c.self.invariant.states)
