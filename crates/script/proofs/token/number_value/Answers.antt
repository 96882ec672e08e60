use Rattle.std.proofs.Common.{◌∙◌, rules}
use Rattle.std.proofs.lemmas.Iterator.{YieldsList-from_slice}
use Rattle.std.proofs.lemmas.Iterator.Consumers.{fold_from_yields_List}
use borrow.Author.Tests.{tests}
use Rattle.script.proofs.Figures.{with_digit, folded, formed, value_small}
use Rattle.script.proofs.token.number_value.Goals as goal

pub returns : goal.returns
returns c = fold_from_yields_List _ with_digit _ _ c.fold.ensures.ran (YieldsList-from_slice c.args.text.now cc) (λ a x b q k. search (rules, tests))
    ∙ folded 0 c.args.text.now (formed c.args.text.now c.requires).digits (value_small c.args.text.now c.requires)
