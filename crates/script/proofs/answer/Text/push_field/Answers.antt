use Rattle.std.proofs.Common.{◌≡◌, ◌<◌, ◌++◌, [], ◌∷◌, length, slice_set, decimal, sym, ap, ◌∙◌, arith, length-append}
use Rattle.std.proofs.lemmas.List.{length-take-le}
use Rattle.script.specs.Answers.{shown}
use Rattle.script.proofs.Figures.{shown_short}
use Rattle.script.proofs.Pasting.{Added, added}
use Rattle.script.proofs.answer.Text.push_field.Goals as goal
use Rattle.script.proofs.answer.Text.push_field.Goals.{After-put_digits-at}

-- the text is as long as the count of bytes says
long : (c : After-put_digits-at) → length c.args.self.now ≡ c.self.inside.len
long c = ap length (sym c.self.view_is) ∙ length-take-le c.self.inside.len c.self.inside.bytes (omega (arith, c.self.invariant.0))

room : (c : After-put_digits-at) → c.put_digits-at.result < 32
room c = omega (arith, long c, c.put_digits-at.ensures.end, ap (λ m. length (decimal m)) c.min.ensures, shown_short c.args.n)

field : (c : After-put_digits-at) → Added c.self.inside.bytes (slice_set c.put_digits-at.new.bytes c.put_digits-at.result c.args.end) c.self.inside.len c.put_digits-at.result (decimal c.min.result ++ c.args.end ∷ [])
field c = added c.self.inside.bytes c.put_digits-at.new.bytes (decimal c.min.result) c.self.inside.len c.put_digits-at.result c.args.end c.self.told c.self.invariant.0 c.self.invariant.1 c.put_digits-at.ensures.end (room c) c.put_digits-at.ensures.front c.put_digits-at.ensures.behind

pub put_digits-at-requires : goal.put_digits-at-requires
put_digits-at-requires c =
    let before = ap length (sym c.self.view_is) ∙ length-take-le c.self.inside.len c.self.inside.bytes (omega (arith, c.self.invariant.0)) in
    omega (arith, before, ap (λ m. length (decimal m)) c.min.ensures, shown_short c.args.n)

pub bounds-self-inside-at : goal.bounds-self-inside-at
bounds-self-inside-at c = room (goal.at.bounds-self-inside-at c).After-put_digits-at

pub invariant_of-self : goal.invariant_of-self
invariant_of-self c = let d = (goal.at.invariant_of-self c).After-put_digits-at in (omega (arith, room d), (field d).zeros)

pub returns-clause-text : goal.returns-clause-text
returns-clause-text c =
    let d = (goal.at.returns-clause-text c).After-put_digits-at in
    (field d).text ∙ ap (λ l. l ++ (decimal c.min.result ++ c.args.end ∷ [])) c.self.view_is ∙ ap (λ m. c.args.self.now ++ (decimal m ++ c.args.end ∷ [])) c.min.ensures

pub returns-clause-short : goal.returns-clause-short
returns-clause-short c =
    let e = ap length (returns-clause-text c) in
    omega (arith, e, length-append c.args.self.now (shown c.args.n ++ c.args.end ∷ []), length-append (shown c.args.n) (c.args.end ∷ []), shown_short c.args.n)
