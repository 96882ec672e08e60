use Rattle.std.proofs.Common.{◌≡◌, ℕ, eqb, ◌∙◌, sym, ap, take, length-take, arith}
use Rattle.std.proofs.lemmas.List.Folds.{length-prefix_len}
use Rattle.std.proofs.lemmas.Bool.Decides.{not_from_Decides}
use Rattle.std.proofs.lemmas.Slice.Eq.{bytes_eq-Decides}
use Rattle.std.specs.List.{zip}
use Rattle.cases.specs.Comparing.{newlines}
use Rattle.cases.proofs.Parting.{alike, alike_within, parted}
use Rattle.cases.proofs.compare.first_difference.Goals as goal

pub slice_bounds-newlines-end : goal.slice_bounds-newlines-end
slice_bounds-newlines-end c =
    let a = c.args.a.now in
    let b = c.args.b.now in
    let at : c.alike.result ≡ alike a b = c.alike.ensures ∙ length-prefix_len (λ (p : ℕ × ℕ). eqb p.0 p.1) (zip a b) in
    omega (arith, at, alike_within a b, length-take c.alike.result a)

pub returns : goal.returns
returns c =
    let a = c.args.a.now in
    let b = c.args.b.now in
    let at : c.alike.result ≡ alike a b = c.alike.ensures ∙ length-prefix_len (λ (p : ℕ × ℕ). eqb p.0 p.1) (zip a b) in
    let p = parted a b in
    record {
      at = alike a b;
      alike = p.same;
      differ = p.differ (not_from_Decides _ (bytes_eq-Decides a b) (sym c.eq.ensures ∙ c.if-eq.false));
      on_line = c.newlines.ensures ∙ ap (λ n. newlines (take n a)) at;
    }
