use Rattle.std.proofs.Common.{◌≡◌, ◌++◌, vec_items}
use Rattle.lint.specs.Answers.{answers_from}
use Rattle.lint.proofs.answers.answer_commands.Given as goal

abbrev pub invariant-loop-line : goal.invariant-loop-line
invariant-loop-line l = record {
  can_next : goal.iterator-loop-line.can_next l.line-iterator;
  is_finite : goal.iterator-loop-line.is_finite l.line-iterator;
  told : vec_items l.answers ++ answers_from l.number l.line-iterator ≡ answers_from 2 l.fn.lines;
}
