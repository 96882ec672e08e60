use Rattle.std.proofs.Common.{◌≡◌, ap, ◌∙◌}
use Rattle.script.specs.Answers.{answer, padded}
use Rattle.script.proofs.Pasting.{answered}
use Rattle.script.proofs.answer.write_answer.Goals as goal

pub returns-clause-bytes : goal.returns-clause-bytes
returns-clause-bytes c =
    let told = c.answer_numbers-refusal.ensures in
    let fields = answered _ _ _ _ _ _ _ _ _ c.new-text.ensures c.push_field.ensures.text c.push_field-2.ensures.text c.push_field-3.ensures.text c.push_field-4.ensures.text in
    let whole : c.push_field-4.new.self ≡ answer c.args.line c.args.outcome.now = simp (told.refusal, told.first, told.second) at fields in
    c.text.invariant.1 ∙ ap padded (c.text.view_is ∙ whole)
