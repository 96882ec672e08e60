use Rattle.std.proofs.Common.{rules, sym, ◌∙◌}
use Rattle.script.proofs.Newlines.{line_taken, kept}
use Rattle.script.proofs.lines.Lines.next_line.Goals as goal
use borrow.Author.Tests.{tests}

pub returns : goal.returns
returns c =
    sym c.self.view_is
    ∙ line_taken _ _ _ c.cut_once.result.1 c.filter-self-inside.result c.in_ok-self.was c.cut_once.ensures.front c.cut_once.ensures.rest (kept _ _ _ (λ x b k. search (rules, tests)) c.filter-self-inside.ensures)
