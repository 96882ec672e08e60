use Rattle.std.proofs.Common.{◌++◌, Some, None, codes, sym, ap, ◌∙◌}
use Rattle.std.specs.Option.{option_map}
use Rattle.std.proofs.lemmas.Slice.Eq.{strip_prefix_is}
use Rattle.script.specs.Parts.{past}
use Rattle.script.proofs.Cutting.{past_two, past_not}
use Rattle.script.proofs.cut.look_up.Goals as goal
use Rattle.std.proofs.lemmas.Bool.Decides.{Decides-eqb}

pub returns-in_err-strip_prefix : goal.returns-in_err-strip_prefix
returns-in_err-strip_prefix c =
    let e = past_not c.args.key.now (codes "=") _ (strip_prefix_is Decides-eqb _ c.args.key.now None c.in_err-strip_prefix.ensures.cases) in
    ap (option_map (λ x. x.now)) c.from_residual.ensures ∙ sym e ∙ ap (past (c.args.key.now ++ codes "=")) c.cut_once.ensures.front

pub returns : goal.returns
returns c =
    let value = c.in_ok-strip_prefix.field-0 in
    let front = strip_prefix_is Decides-eqb _ c.args.key.now (Some value) c.in_ok-strip_prefix.ensures.cases in
    let e = past_two c.args.key.now (codes "=") _ c.strip_prefix-2.result _ front (strip_prefix_is Decides-eqb _ (codes "=") _ c.strip_prefix-2.ensures.cases) in
    e ∙ ap (past (c.args.key.now ++ codes "=")) c.cut_once.ensures.front
