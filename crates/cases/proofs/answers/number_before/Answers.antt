use Rattle.std.proofs.Common.{◌+◌, ◌∷◌, ◌++◌, decimal, sym, ap, ◌∙◌}
use Rattle.std.proofs.lemmas.List.{take_rest}
use Rattle.cases.proofs.Numbered.{was_written, end_there, number_found, stands, found_there, read_there, none_of, one_value}
use Rattle.cases.proofs.answers.number_before.Goals as goal

pub returns-in_err-at-clause-each : goal.returns-in_err-at-clause-each
returns-in_err-at-clause-each c = λ n rest small e.
    absurd (found_there c.args.bytes.now rest c.place.result c.args.end n c.place.ensures c.in_err-at.was (stands c.args.bytes.now c.args.end n rest c.requires small e))

pub returns-in_err-n-clause-each : goal.returns-in_err-n-clause-each
returns-in_err-n-clause-each c = λ n rest small e.
    let s = stands c.args.bytes.now c.args.end n rest c.requires small e in
    let x = read_there c.args.bytes.now rest c.place.result c.number.result c.args.end n c.in_ok-at.at small c.place.ensures c.in_ok-at.was c.number.ensures s in
    none_of c.number.result n c.in_err-n.was x.0

pub returns-clause-read : goal.returns-clause-read
returns-clause-read c =
    let there = end_there c.args.bytes.now c.args.end c.in_ok-at.at (sym c.place.ensures ∙ c.in_ok-at.was) in
    number_found c.args.bytes.now c.in_ok-at.at c.in_ok-n.n c.args.end there.0 (was_written _ _ (sym c.number.ensures ∙ c.in_ok-n.was)) there.1
    ∙ ap (λ z. decimal c.in_ok-n.n ++ (c.args.end ∷ z)) (sym (take_rest c.args.bytes.now (c.in_ok-at.at + 1)))

pub returns-clause-each : goal.returns-clause-each
returns-clause-each c = λ n rest small e.
    let s = stands c.args.bytes.now c.args.end n rest c.requires small e in
    let x = read_there c.args.bytes.now rest c.place.result c.number.result c.args.end n c.in_ok-at.at small c.place.ensures c.in_ok-at.was c.number.ensures s in
    (one_value c.number.result c.in_ok-n.n n c.in_ok-n.was x.0, take_rest c.args.bytes.now (c.in_ok-at.at + 1) ∙ x.1)
