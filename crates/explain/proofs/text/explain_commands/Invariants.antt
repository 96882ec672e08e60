use Rattle.std.proofs.Common.{◌≡◌, ◌++◌, string_bytes}
use Rattle.explain.specs.Words.{told_from}
use Rattle.explain.proofs.text.explain_commands.Given as goal

abbrev pub invariant-loop-line : goal.invariant-loop-line
invariant-loop-line l = record {
  can_next : goal.iterator-loop-line.can_next l.line-iterator;
  is_finite : goal.iterator-loop-line.is_finite l.line-iterator;
  told : string_bytes l.text ++ told_from l.board l.number l.line-iterator ≡ told_from l.board 2 l.fn.lines;
}
