use Rattle.std.proofs.Common.{Some, sym, ap, ◌∙◌, arith, length, ◌+◌}
use Rattle.script.specs.Numbers.{is_number}
use Rattle.script.specs.Parts.{room, value_at}
use Rattle.script.proofs.Cutting.{first_value, value_fits}
use Rattle.script.proofs.scan.Scanner.pair.Goals as goal

pub returns-in-Some-look_up-clause-value : goal.returns-in-Some-look_up-clause-value
returns-in-Some-look_up-clause-value c =
    let token = c.new.ensures in
    record {
      value = sym (ap (λ p. value_at c.args.key.now p.parts) c.self.view_is) ∙ first_value c.args.key.now _ _ _ c.in-Some.is c.in-Some-look_up.ensures ∙ ap Some (sym token.text);
      place = token.at ∙ ap (λ p. p.at + length c.args.key.now + 1) c.self.view_is;
      near = omega (arith, token.at, value_fits c.args.key.now c.in-Some.rest.now c.in-Some-look_up.text.now c.in-Some-look_up.ensures, ap room c.in-Some.is, c.self.invariant);
      form = token.case ∙ ap is_number (sym token.text);
    }

pub returns-in-None-clause-value : goal.returns-in-None-clause-value
returns-in-None-clause-value c =
    (sym (ap (λ p. value_at c.args.key.now p.parts) c.self.view_is) ∙ first_value c.args.key.now _ _ _ c.in-Some.is c.in-None.ensures, c.wrong_part-wrong.ensures)
