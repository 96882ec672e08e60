use Rattle.std.proofs.Common.{vec_items, ◌∙◌}
use Rattle.std.proofs.lemmas.Result.{IfOk-weaker}
use Rattle.rules.specs.NamedAnswers.{named_answers}
use Rattle.player.proofs.NewBoards.{answered_from_new}
use Rattle.player.proofs.scripts.play_on.Goals as goal

pub returns-in-Ok : goal.returns-in-Ok
returns-in-Ok g c =
    let new = c.in-Ok.ensures in
    IfOk-weaker c.play_commands.result _ _ (λ v played. answered_from_new named_answers _ _ c.in-Ok.board _ c.args.lines (vec_items v)
    (c.deref_mut.ensures.len ∙ c.in_ok-memory.ensures.long) new.0 new.1 played) c.play_commands.ensures
