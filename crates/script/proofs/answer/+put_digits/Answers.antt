use Rattle.std.proofs.Common.{◌+◌, ◌%◌, ◌++◌, length, take, inl, ap, ◌∙◌, sym, arith}
use Rattle.std.proofs.lemmas.Fmt.{decimal_digit, decimal_step}
use Rattle.std.proofs.lemmas.List.{length_push, take_more_set}
use Rattle.script.proofs.Pasting.{last_digit}
use Rattle.script.proofs.answer.+put_digits.Goals as goal

pub bounds-bytes-at : goal.bounds-bytes-at
bounds-bytes-at t c = omega (arith, ap length (decimal_digit c.args.n (omega arith)))

pub returns-then-n-lt10-clause-end : goal.returns-then-n-lt10-clause-end
returns-then-n-lt10-clause-end t c = omega (arith, ap length (decimal_digit c.args.n (omega arith)))

pub returns-then-n-lt10-clause-front : goal.returns-then-n-lt10-clause-front
returns-then-n-lt10-clause-front t c =
    let e = decimal_digit c.args.n (omega arith) in
    take_more_set c.args.bytes.now c.args.at (48 + c.args.n) (omega (arith, ap length e)) ∙ ap (λ l. take c.args.at c.args.bytes.now ++ l) (sym e)

pub put_digits-last-requires : goal.put_digits-last-requires
put_digits-last-requires t c =
    let e = ap length (decimal_step c.args.n (omega arith) (omega arith)) ∙ length_push _ _ in
    (omega arith, omega (arith, e))

pub bounds-bytes-last : goal.bounds-bytes-last
bounds-bytes-last t c =
    let e = ap length (decimal_step c.args.n (omega arith) (omega arith)) ∙ length_push _ _ in
    omega (arith, e, c.put_digits-last.ensures.end)

pub returns-clause-end : goal.returns-clause-end
returns-clause-end t c =
    let e = ap length (decimal_step c.args.n (omega arith) (omega arith)) ∙ length_push _ _ in
    omega (arith, e, c.put_digits-last.ensures.end)

pub returns-clause-front : goal.returns-clause-front
returns-clause-front t c =
    let e = ap length (decimal_step c.args.n (omega arith) (omega arith)) ∙ length_push _ _ in
    take_more_set c.put_digits-last.new.bytes c.put_digits-last.result (48 + c.args.n % 10) (omega (arith, e, c.put_digits-last.ensures.end))
    ∙ last_digit c.args.n (take c.args.at c.args.bytes.now) (take c.put_digits-last.result c.put_digits-last.new.bytes) (omega arith) (inl (c.if-n-lt10.false, c.put_digits-last.ensures.front))
