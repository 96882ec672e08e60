use Rattle.std.proofs.Common.{◌++◌, vec_items, ap, ◌∙◌}
use Rattle.script.proofs.Pushing.{front}
use Rattle.player.proofs.Playing.{at_start, one_line_more, at_end}
use Rattle.player.proofs.scripts.play_commands.Goals as goal

pub loop-line-init : goal.loop-line-init
loop-line-init g c = record {
  can_next = tt;
  is_finite = tt;
  reached = at_start g.R.Rule.answers c.args.board.now c.args.lines c.into_iter-line-iterator.result (vec_items c.new-answers.result) c.into_iter-line-iterator.ensures.into_iter_gives c.new-answers.ensures.items;
}

pub loop-line-preserved : goal.loop-line-preserved
loop-line-preserved g c =
    let line = c.play_line-len.ensures in
    record {
      can_next = tt;
      is_finite = tt;
      reached = one_line_more g.R.Rule.answers c.args.board.now c.loop-line.board c.play_line-len.new.board
          c.args.lines c.loop-line.line-iterator c.next.new.self c.loop-line.number c.next_line_number-number.result c.in-Some.line.now (vec_items c.loop-line.answers) (vec_items c.extend_from_slice.new.self) line.outcome
          c.in-Some.ensures.steps c.next_line_number-number.ensures (c.in_ok-extend_from_slice.ensures.items ∙ ap (λ t. vec_items c.loop-line.answers ++ t) (front _ _ _ line.bytes line.long)) line.line_told c.loop-line.invariant.reached;
    }

pub returns : goal.returns
returns g c = at_end g.R.Rule.answers c.args.board.now c.loop-line.board c.args.lines c.loop-line.line-iterator c.loop-line.number (vec_items c.loop-line.answers) c.is_lawful.ensures.setup c.in-None.ensures.steps.0 c.loop-line.invariant.reached
