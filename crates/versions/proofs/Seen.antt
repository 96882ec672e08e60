-- What the walk down the slots sees of the list that they hold.
use Rattle.std.proofs.Common.{◌≡◌, ℕ, suc, ◌+◌, true, false, cond, leb, List, [], ◌∷◌, length, take, Some, None, Option, position, option_map, sym, refl, ap, ◌∙◌, add-one}
use Rattle.std.specs.List.{find}
use Rattle.std.specs.Option.{option_map_or}
use Rattle.history.specs.State.{Setup}
use Rattle.history.specs.Steps.{newest, down_to_anchor}
use Rattle.versions.specs.declared.version.Version.{Version}
use Rattle.versions.specs.declared.sight.Sight.{Sight}
use Rattle.versions.specs.declared.sight.Sight.TheVariants.{ByNatural, ByPlace}
use Rattle.versions.specs.Slots.{as_code, as_codes, in_sight, sees}
use Rattle.versions.proofs.Positions.{position-cons}

module _ {S : Type 0} (coded : S → ℕ) where
  sees_is : (sight : Sight) (limit : ℕ) (v : Version S) → sees sight limit (as_code coded v) ≡ in_sight sight limit v
  sees_is ByNatural limit v = refl
  sees_is ByPlace limit v = refl

  -- the newest version in sight is the first, or there is none and it is the rest version
  pub newest-find : (rest : S) (b : Setup) → b.rest ≡ coded rest → (sight : Sight) (limit : ℕ) (vs : List (Version S)) → (newest b (sees sight limit) (as_codes coded vs)).code ≡ option_map_or (λ (v : Version S). coded v.state) (find (in_sight sight limit) vs) (coded rest)
  newest-find rest b e sight limit [] = e
  newest-find rest b e sight limit (v ∷ vs) =
      ap (λ k. (cond k (as_code coded v) (newest b (sees sight limit) (as_codes coded vs))).code) (sees_is sight limit v)
      ∙ elim (in_sight sight limit v) as (λ k. (cond k (as_code coded v) (newest b (sees sight limit) (as_codes coded vs))).code ≡ option_map_or (λ (v : Version S). coded v.state) (cond k (Some v) (find (in_sight sight limit) vs)) (coded rest)) [
        | true ↦ refl
        | false ↦ newest-find rest b e sight limit vs
      ]

  -- the anchor is the last that stays
  pub cut-position : (least : ℕ) (vs : List (Version S)) → as_codes coded (take (option_map_or (λ i. i + 1) (position (in_sight ByNatural least) vs) (length vs)) vs) ≡ down_to_anchor least (as_codes coded vs)
  cut-position least [] = refl
  cut-position least (v ∷ vs) =
      ap (λ o. as_codes coded (take (option_map_or (λ i. i + 1) o (suc (length vs))) (v ∷ vs))) (position-cons (in_sight ByNatural least) v vs)
      ∙ elim (leb v.natural least) as (λ k. as_codes coded (take (option_map_or (λ i. i + 1) (cond k (Some 0) (option_map (λ i. suc i) (position (in_sight ByNatural least) vs))) (suc (length vs))) (v ∷ vs)) ≡ as_code coded v ∷ cond k [] (down_to_anchor least (as_codes coded vs))) [
        | true ↦ refl
        | false ↦ below (position (in_sight ByNatural least) vs) ∙ ap (λ ws. as_code coded v ∷ ws) (cut-position least vs)
      ]
    where
      below : (o : Option ℕ) → as_codes coded (take (option_map_or (λ i. i + 1) (option_map (λ i. suc i) o) (suc (length vs))) (v ∷ vs)) ≡ as_code coded v ∷ as_codes coded (take (option_map_or (λ i. i + 1) o (length vs)) vs)
      below None = refl
      below (Some i) = ap (λ n. as_codes coded (take n (v ∷ vs))) (add-one (suc i) ∙ ap (λ n. suc n) (sym (add-one i)))
