-- What slots hold once a version is stored.
use Rattle.std.proofs.Common.{◌≡◌, ℕ, zero, suc, ◌+◌, ◌-◌, ◌<◌, ◌≤◌, List, ◌∷◌, ◌++◌, length, take, drop, replicate, Some, None, IfSome, sym, refl, ap, ◌∙◌, subst, arith}
use Rattle.std.specs.List.{AllByRecursion, insert}
use Rattle.std.proofs.lemmas.List.{length-replicate, map-append, take-map, drop-map, take_at, length-take-le, length-append, length-drop, length-map}
use Rattle.std.proofs.lemmas.List.Edits.{length-insert}
use Rattle.std.proofs.ByRecursion.{All-append, All-take, All-drop}
use lib.LanesLaws.{map-replicate}
use Rattle.history.specs.Steps.{down_to_anchor, insert_version}
use Rattle.versions.specs.declared.version.Version.{Version}
use Rattle.versions.specs.declared.spot.Spot.{Spot}
use Rattle.versions.specs.Slots.{as_code, as_codes, rest_version}
use Rattle.versions.specs.Plans.{put_in, Spotted, Stored}

pub all_replicate : {X : Type 0} (P : X → Type 0) (n : ℕ) (x : X) → P x → AllByRecursion P (replicate n x)
all_replicate P zero x p = tt
all_replicate P (suc n) x p = (p, all_replicate P n x p)

module _ {S : Type 0} (state : S → Type 0) (coded : S → ℕ) (rest : S) (before : List (Version S)) (new : Version S) (least : ℕ) (spot : Spot) (at : Spotted spot before least new.place) where
  -- the front, and rest versions behind it
  laid : (after front : List (Version S)) (keep : ℕ) → after ≡ front ++ replicate (length before - keep) (rest_version rest) → length front ≡ keep → keep ≤ length before
      → insert_version (as_code coded new) (down_to_anchor least (as_codes coded before)) ≡ as_codes coded front
      → (AllByRecursion (λ (v : Version S). state v.state) before → state new.state → AllByRecursion (λ (v : Version S). state v.state) front)
      → Stored state coded rest before after new least
  laid after front keep e long le is holds = record {
    long = ap length e ∙ length-append front (replicate (length before - keep) (rest_version rest)) ∙ omega (arith, length-replicate (length before - keep) (rest_version rest));
    list = λ _.
        let same : length (as_codes coded front) ≡ keep = length-map front (as_code coded) ∙ long in
        ap (as_codes coded) e
        ∙ map-append (as_code coded) front (replicate (length before - keep) (rest_version rest))
        ∙ ap (λ l. as_codes coded front ++ l) (map-replicate (as_code coded) (length before - keep) (rest_version rest) ∙ ap (λ n. replicate (length before - n) (as_code coded (rest_version rest))) (sym same))
        ∙ ap (λ l. l ++ replicate (length before - length l) (as_code coded (rest_version rest))) (sym is);
    unchanged = λ more. absurd (omega (arith, ap length is, length-map front (as_code coded), long, le));
    states = λ all n r. subst (AllByRecursion (λ (v : Version S). state v.state)) (sym e) (All-append (λ (v : Version S). state v.state) front _ (holds all n) (all_replicate (λ (v : Version S). state v.state) (length before - keep) (rest_version rest) r));
  }

  stored : insert_version (as_code coded new) (down_to_anchor least (as_codes coded before)) ≡ put_in (as_code coded new) spot.at (as_codes coded (take spot.keep before))
  stored = ap (insert_version (as_code coded new)) (sym (at.stays coded)) ∙ at.goes coded (as_code coded new) refl

  pub kept_taken : (after : List (Version S)) → spot.at ≡ None → after ≡ take spot.keep before ++ replicate (length before - spot.keep) (rest_version rest) → Stored state coded rest before after new least
  kept_taken after none e = laid after (take spot.keep before) spot.keep e (length-take-le spot.keep before at.within) at.within
      (stored ∙ ap (λ o. put_in (as_code coded new) o (as_codes coded (take spot.keep before))) none) (λ all n. All-take (λ (v : Version S). state v.state) spot.keep before all)

  pub kept_free : (i : ℕ) (middle after : List (Version S)) → spot.at ≡ Some i → spot.keep < length before → middle ≡ insert (take spot.keep before) i new ++ drop (spot.keep + 1) before
      → after ≡ take (spot.keep + 1) middle ++ replicate (length middle - (spot.keep + 1)) (rest_version rest) → Stored state coded rest before after new least
  kept_free i middle after some lt m e =
      laid after front (spot.keep + 1)
      (e
      ∙ ap (λ l. l ++ replicate (length middle - (spot.keep + 1)) (rest_version rest)) (ap (take (spot.keep + 1)) m ∙ take_at front (drop (spot.keep + 1) before) (spot.keep + 1) long)
      ∙ ap (λ n. front ++ replicate (n - (spot.keep + 1)) (rest_version rest)) same_long)
      long (omega arith)
      (stored ∙ ap (λ o. put_in (as_code coded new) o (as_codes coded stay)) some ∙ sym (map-append (as_code coded) (take i stay) (new ∷ drop i stay) ∙ ap (λ l. l ++ as_code coded new ∷ as_codes coded (drop i stay)) (sym (take-map (as_code coded) i stay)) ∙ ap (λ l. take i (as_codes coded stay) ++ as_code coded new ∷ l) (sym (drop-map (as_code coded) i stay))))
      (λ all n.
      let stays = All-take (λ (v : Version S). state v.state) spot.keep before all in
      All-append (λ (v : Version S). state v.state) (take i stay) (new ∷ drop i stay) (All-take (λ (v : Version S). state v.state) i stay stays) (n, All-drop (λ (v : Version S). state v.state) i stay stays))
    where
      stay : List (Version S)
      stay = take spot.keep before

      front : List (Version S)
      front = insert stay i new

      inside : i ≤ spot.keep
      inside = subst (λ o. IfSome o (λ k. k ≤ spot.keep)) some at.inside

      long : length front ≡ spot.keep + 1
      long = length-insert stay i new (omega (arith, inside, length-take-le spot.keep before at.within)) ∙ ap (λ n. n + 1) (length-take-le spot.keep before at.within)

      same_long : length middle ≡ length before
      same_long = ap length m ∙ length-append front (drop (spot.keep + 1) before) ∙ omega (arith, long, length-drop (spot.keep + 1) before)
