use Rattle.std.proofs.Common.{◌<◌, ◌-◌, get_or, None, ap, ◌∙◌, arith, length-take}
use Rattle.std.proofs.lemmas.List.{get_or-take}
use Rattle.board.specs.Contents.{Contents}
use Rattle.board.proofs.Finding.{least_more}
use Rattle.board.proofs.board.Board.least_start.Goals as goal

pub loop-seat-preserved : goal.loop-seat-preserved
loop-seat-preserved g c =
    let known : c.loop-seat.seat-index < c.self.inside.seat_count = omega (arith, c.loop-seat-test.true, length-take (c.self.inside.seat_count - 0) c.self.inside.seats) in
    least_more g.R.Rule.answers c.args.self.now c.loop-seat.seat-index c.args.start c.loop-seat.least _ _ (omega (arith, known, ap (λ (b : Contents g.row.R.Denot). b.seat_count) c.self.view_is))
    (get_or-take (c.self.inside.seat_count - 0) c.self.inside.seats c.loop-seat.seat-index None (omega (arith, known)) ∙ ap (λ (b : Contents g.row.R.Denot). get_or b.seats c.loop-seat.seat-index None) c.self.view_is)
    c.least_with-least.ensures c.loop-seat.invariant
