-- One listed item after the other is stored.
use Rattle.std.proofs.Common.{◌≡◌, ℕ, zero, suc, ◌+◌, ◌<◌, ◌≤◌, true, false, cond, eqb, List, [], ◌∷◌, ◌++◌, length, get_or, take, Some, None, Option, sym, refl, ap, ◌∙◌, subst, ⊎_elim, arith}
use Rattle.std.proofs.lemmas.Bool.{cond-true, cond-false, eq-eqb, ne_eqb, ltb-false, cases_eq}
use Rattle.std.proofs.lemmas.List.{take_more}
use Rattle.calls.specs.declared.write.Write.{Write}
use Rattle.history.specs.State.{Setup, State, Version, Transaction as Running, at_rest}
use Rattle.history.specs.Steps.{listed, stored, overfull, is_full, least_start, down_to_anchor, insert_version}
use Rattle.rules.specs.declared.findings.Findings.{Findings}
use Rattle.versions.specs.Slots.{padded}
use Rattle.board.specs.Contents.{Contents, setup_of}
use Rattle.board.specs.Lists.{slots_of}
use Rattle.board.specs.Holding.{OnceEach, rest_of}
use Rattle.board.specs.Memory.{StoredAt, StoredAll}
use Rattle.board.specs.Room.{Reaches}
use Rattle.board.proofs.Roomy.{down_padded}

listed_behind : (item : ℕ) (ws : List Write) (w : Write) → listed item ws ≡ None → w.item ≡ item → listed item (ws ++ w ∷ []) ≡ Some w.code
listed_behind item [] w none e = cond-true _ _ _ (eq-eqb _ _ e)
listed_behind item (v ∷ ws) w none e =
    (elim (eqb v.item item) as (λ k. cond k (Some v.code) (listed item ws) ≡ None → cond k (Some v.code) (listed item (ws ++ w ∷ [])) ≡ Some w.code) [
      | true ↦ λ d. let z : ◌≡◌ {A = ℕ} 0 1 = cc in absurd (omega arith)
      | false ↦ λ d. listed_behind item ws w d e
    ]) none

listed_other : (item : ℕ) (ws : List Write) (w : Write) → (w.item ≡ item → ⊥) → listed item (ws ++ w ∷ []) ≡ listed item ws
listed_other item [] w far = cond-false _ _ _ (ne_eqb _ _ far)
listed_other item (v ∷ ws) w far = ap (cond (eqb v.item item) (Some v.code)) (listed_other item ws w far)

-- what stands at k is listed with its own code, and nothing before it is of its item
once_at : (ws : List Write) (k : ℕ) (d : Write) → OnceEach ws → k < length ws → (listed (get_or ws k d).item ws ≡ Some (get_or ws k d).code) × (listed (get_or ws k d).item (take k ws) ≡ None)
once_at [] k d o lt = absurd (omega arith)
once_at (w ∷ ws) zero d o lt = (cond-true _ _ _ (eq-eqb w.item w.item refl), refl)
once_at (w ∷ ws) (suc k) d o lt =
    let below = once_at ws k d o.1 (omega arith) in
    let other : eqb w.item (get_or ws k d).item ≡ false = ne_eqb _ _ (λ e. let z : ◌≡◌ {A = ℕ} 0 1 = cc (o.0, below.0, ap (λ i. listed i ws) e) in absurd (omega arith)) in
    (cond-false _ _ _ other ∙ below.0, cond-false _ _ _ other ∙ below.1)

module _ {R : Type 0} (answers : R → Findings → Option ℕ) (first : Contents R) (s : State) (x : Running) (place least : ℕ)
    (reach : Reaches least s) (is_least : least ≡ least_start (setup_of answers first) s x) (not_full : (item : ℕ) → item < first.items → is_full (setup_of answers first) s x place item ≡ false) where
  abbrev b : Setup
  b = setup_of answers first

  -- one write more
  pub stored_more : (before after : Contents R) (ws : List Write) (k : ℕ) (d : Write) (new : Version) → rest_of before ≡ at_rest b
      → ws ≡ x.writes → OnceEach x.writes → k < length ws → (get_or ws k d).item < b.items
      → new ≡ record { code = (get_or ws k d).code; natural = s.clock + 1; place = place }
      → StoredAt before after (get_or ws k d).item new least
      → StoredAll b s x place (take k ws) before.versions → StoredAll b s x place (take (k + 1) ws) after.versions
  stored_more before after ws k d new resting e once lt known is_new at so_far item l =
      subst (λ us. slots_of after.versions item ≡ padded 8 (at_rest b) (stored b s x place item (listed item us))) (sym (take_more ws k d lt))
      (⊎_elim (λ same. subst (λ i. slots_of after.versions i ≡ padded 8 (at_rest b) (stored b s x place i (listed i (take k ws ++ w ∷ [])))) (sym same) here)
      (λ far. at.elsewhere item far ∙ so_far item l ∙ ap (λ o. padded 8 (at_rest b) (stored b s x place item o)) (sym (listed_other item (take k ws) w (λ q. far (sym q)))))
      (cases_eq item w.item))
    where
      w : Write
      w = get_or ws k d

      at_k : (listed w.item ws ≡ Some w.code) × (listed w.item (take k ws) ≡ None)
      at_k = once_at ws k d (subst OnceEach (sym e) once) lt

      was : slots_of before.versions w.item ≡ padded 8 (at_rest b) (s.items w.item).versions
      was = so_far w.item known ∙ ap (λ o. padded 8 (at_rest b) (stored b s x place w.item o)) at_k.1

      list : insert_version new (down_to_anchor least (slots_of before.versions w.item)) ≡ stored b s x place w.item (Some w.code)
      list =
          let v = reach w.item in
          ap (λ n. insert_version n (down_to_anchor least (slots_of before.versions w.item))) is_new
          ∙ ap (insert_version _) (ap (down_to_anchor least) was ∙ down_padded least _ (at_rest b) (s.items w.item).versions v.0 v.1 v.2 ∙ ap (λ m. down_to_anchor m (s.items w.item).versions) is_least)

      fits : length (insert_version new (down_to_anchor least (slots_of before.versions w.item))) ≤ 8
      fits = omega (arith, ap length list, ltb-false 8 (length (stored b s x place w.item (Some w.code))) (ap (overfull b s x place w.item) (sym (ap (listed w.item) (sym e) ∙ at_k.0)) ∙ not_full w.item known))

      here : slots_of after.versions w.item ≡ padded 8 (at_rest b) (stored b s x place w.item (listed w.item (take k ws ++ w ∷ [])))
      here =
          at.here fits
          ∙ ap (λ l. padded 8 (rest_of before) l) list
          ∙ ap (λ r. padded 8 r (stored b s x place w.item (Some w.code))) resting
          ∙ ap (λ o. padded 8 (at_rest b) (stored b s x place w.item o)) (sym (listed_behind w.item (take k ws) w at_k.1 refl))
