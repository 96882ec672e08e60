-- Versions are told whole by their codes.
use Rattle.std.proofs.Common.{◌≡◌, ℕ, [], ◌∷◌, length, get_or, drop, refl, sym, ap, ◌∙◌, arith}
use Rattle.history.specs.State.{Version as Kept}
use Rattle.versions.specs.declared.version.Version.{Version}
use Rattle.versions.specs.Slots.{as_code}
use Rattle.versions.specs.Codes.{CodesTellVersions}

module _ {S : Type 0} (state : S → Type 0) (coded : S → ℕ) (decoded : ℕ → S) (back : (s : S) → state s → decoded (coded s) ≡ s) where
  same_version : (v w : Version S) → state v.state → state w.state → as_code coded v ≡ as_code coded w → v ≡ w
  same_version v w sv sw e =
      λ i. record {
        state = (sym (back v.state sv) ∙ ap (λ (k : Kept). decoded k.code) e ∙ back w.state sw) i;
        natural = ap (λ (k : Kept). k.natural) e i;
        place = ap (λ (k : Kept). k.place) e i;
      }

  pub told_whole : CodesTellVersions state coded
  told_whole [] [] sv sw e = refl
  told_whole [] (w ∷ ws) sv sw e = absurd (omega (arith, ap length e))
  told_whole (v ∷ vs) [] sv sw e = absurd (omega (arith, ap length e))
  told_whole (v ∷ vs) (w ∷ ws) sv sw e =
      let first = same_version v w sv.0 sw.0 (ap (λ l. get_or l 0 (as_code coded v)) e) in
      let others = told_whole vs ws sv.1 sw.1 (ap (λ l. drop 1 l) e) in
      (λ i. first i ∷ others i)
