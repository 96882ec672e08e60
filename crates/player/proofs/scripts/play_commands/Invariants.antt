use Rattle.std.proofs.Common.{vec_items}
use Rattle.player.proofs.Playing.{Reached}
use Rattle.player.proofs.scripts.play_commands.Given as goal

abbrev pub invariant-loop-line : goal.invariant-loop-line
invariant-loop-line g l = record {
  can_next : (goal.iterator-loop-line g).can_next l.line-iterator;
  is_finite : (goal.iterator-loop-line g).is_finite l.line-iterator;
  reached : Reached g.R.Rule.answers l.initial.board l.board l.fn.lines l.line-iterator l.number (vec_items l.answers);
}
