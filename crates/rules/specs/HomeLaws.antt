-- `home` keeps each law that the rule below keeps: what it grants is granted below, and it lets next pass.
use Rattle.std.specs.Prelude.{◌≡◌, ℕ, Some, Option}
use Rattle.std.proofs.Common.{rules}
use Rattle.rules.specs.declared.findings.Findings.{Findings}
use Rattle.rules.specs.HomeAnswers.{home_answers}
use Rattle.rules.specs.Laws.{GrantsInRange, GrantsUpToMissed, GrantsNextIfOvertaken, GrantsNextIfNoneMissed, FourLaws}

module _ (below : Findings → Option ℕ) where
  granted_below : (f : Findings) (place : ℕ) → home_answers below f ≡ Some place → below f ≡ Some place
  granted_below f place e = search rules

  next_passes : (f : Findings) → below f ≡ Some f.next → home_answers below f ≡ Some f.next
  next_passes f e = search rules

  pub home_in_range : GrantsInRange below → GrantsInRange (home_answers below)
  home_in_range law f b place e = law f b place (granted_below f place e)

  pub home_up_to_missed : GrantsUpToMissed below → GrantsUpToMissed (home_answers below)
  home_up_to_missed law f b missed place m e = law f b missed place m (granted_below f place e)

  pub home_next_if_overtaken : GrantsNextIfOvertaken below → GrantsNextIfOvertaken (home_answers below)
  home_next_if_overtaken law f b o place e = law f b o place (granted_below f place e)

  pub home_next_if_none_missed : GrantsNextIfNoneMissed below → GrantsNextIfNoneMissed (home_answers below)
  home_next_if_none_missed law f b m = next_passes f (law f b m)

  pub home_keeps : FourLaws below → FourLaws (home_answers below)
  home_keeps laws =
      record {
        in_range = home_in_range laws.in_range;
        up_to_missed = home_up_to_missed laws.up_to_missed;
        next_if_overtaken = home_next_if_overtaken laws.next_if_overtaken;
        next_if_none_missed = home_next_if_none_missed laws.next_if_none_missed;
      }
