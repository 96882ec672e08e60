use Rattle.std.proofs.Common.{◌≡◌, ◌<◌, [], ◌∷◌, ◌++◌, length, Some, None, IfSome, IsSomeAnd, sym, ap, ◌∙◌, subst, rules}
use Rattle.std.proofs.lemmas.List.{nil_from_length}
use Rattle.cases.specs.Counting.{written, all_written, all_noted, Noted}
use Rattle.cases.proofs.Numbered.{begins}
use Rattle.cases.proofs.tally.Tally.note_all.Goals as goal

pub returns-in_err-answer-clause-each : goal.returns-in_err-answer-clause-each
returns-in_err-answer-clause-each c = λ answers fit e.
    let m = c.loop-rest.invariant.each answers fit e in
    let some : 0 < length c.loop-rest.rest.now = search rules in
    let b = begins m.0 c.loop-rest.rest.now m.1 m.2 some in
    let none : c.first_answer.result ≡ None = search rules in
    let there = c.first_answer.ensures.each b.first (all_written b.more) b.first_fits b.is in
    absurd (subst (λ r. IsSomeAnd r (λ p. (p.0 ≡ b.first) × (p.1.now ≡ all_written b.more))) none there)

pub loop-rest-preserved : goal.loop-rest-preserved
loop-rest-preserved c =
    let is : c.first_answer.result ≡ Some (c.in_ok-answer.answer, c.in_ok-answer.after) = search rules in
    record {
      noted = λ more e.
          let read = subst (λ r. IfSome r (λ p. c.loop-rest.rest.now ≡ written p.0 ++ p.1.now)) is c.first_answer.ensures.read in
          subst (λ t. Noted c.args.self.now c.args.text.now (all_noted t more)) (sym c.note.ensures) (c.loop-rest.invariant.noted (c.in_ok-answer.answer ∷ more) (read ∙ ap (λ z. written c.in_ok-answer.answer ++ z) e));
      each = λ answers fit e.
          let m = c.loop-rest.invariant.each answers fit e in
          let some : 0 < length c.loop-rest.rest.now = search rules in
          let b = begins m.0 c.loop-rest.rest.now m.1 m.2 some in
          let there = subst (λ r. IsSomeAnd r (λ p. (p.0 ≡ b.first) × (p.1.now ≡ all_written b.more))) is (c.first_answer.ensures.each b.first (all_written b.more) b.first_fits b.is) in
          (b.more, b.more_fit, there.1);
    }

pub returns-clause-noted : goal.returns-clause-noted
returns-clause-noted c = c.loop-rest.invariant.noted [] (nil_from_length _ (search rules))
