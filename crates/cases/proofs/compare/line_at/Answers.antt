use Rattle.std.proofs.Common.{◌≡◌, [], eqb, get_or, unwrap_or, slice_get, option_map, ap, ◌∙◌, rules}
use Rattle.std.specs.List.{slice_split}
use Rattle.std.proofs.lemmas.Iterator.Consumers.{nth_from_yields_List}
use Rattle.std.proofs.lemmas.Iterator.Splits.{YieldsList-from_slice_split}
use Rattle.std.proofs.lemmas.Option.{unwrap_or-slice_get}
use Rattle.cases.proofs.Parting.{or_nothing, pieces, same_lines}
use Rattle.cases.proofs.compare.line_at.Goals as goal

pub returns : goal.returns
returns c =
    let text = c.args.text.now in
    let found : option_map (λ x. x.now) c.nth.result ≡ slice_get (slice_split (λ b. eqb b 10) text) c.args.index =
    nth_from_yields_List _ _ _ c.nth.ensures.ran (YieldsList-from_slice_split _ (λ b. eqb b 10) text c.split.ensures.rest c.split.ensures.done c.split.ensures.closure (λ x b q called. search rules)) in
    or_nothing c.nth.result _ c.unwrap_or_default.result c.unwrap_or_default.ensures (λ empty. empty) ∙ ap (λ r. unwrap_or r []) found ∙ unwrap_or-slice_get _ c.args.index [] ∙ ap (λ ps. get_or ps c.args.index []) (pieces text) ∙ same_lines text c.args.index
