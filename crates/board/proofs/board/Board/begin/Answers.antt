use Rattle.std.proofs.Common.{sym, ap, ◌∙◌}
use Rattle.board.specs.Contents.{Contents}
use Rattle.board.proofs.Opening.{begins}
use Rattle.board.proofs.board.Board.begin.Goals as goal

pub returns : goal.returns
returns g c h s l k =
    begins g.R.Rule.answers c.args.self.now c.set_running.new.self c.args.seat c.args.pass c.self.inside.clock c.args.mode c.in_ok-at.field-0 c.new.result s (ap (λ (b : Contents g.row.R.Denot). b.clock) c.self.view_is) k
    (c.in_ok-at.ensures.asked s k) (sym c.is_some.ensures ∙ c.if-is_some.false) c.new.ensures.mode c.new.ensures.start c.new.ensures.marks c.new.ensures.count c.set_running.ensures
