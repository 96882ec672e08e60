-- The lemma that carries the reads: the newest version that passes a test belongs to the last granted update, in the serial order, that passes it.
use Rattle.std.proofs.Common.{◌≡◌, ℕ, ◌≤◌, Bool, true, ◌&&◌, leb, ◌⊎◌, List, sym, refl, ap, ◌∙◌, subst, inl, inr, ⊎_elim, arith}
use Rattle.std.proofs.lemmas.Bool.{leb-true, le-leb, and_parts, and_from}
use Rattle.calls.specs.declared.call.Mode.{Mode}
use Rattle.calls.specs.declared.call.Mode.TheVariants.{Reader, Update}
use Rattle.history.specs.State.{Setup, Version, Item, at_rest}
use Rattle.history.specs.Steps.{newest, natural_by, place_by, is_update}
use Rattle.history.specs.Log.{Grant}
use Rattle.history.specs.Promise.{◌∈◌}
use Rattle.history.proofs.Runs.{Writes}
use Rattle.history.proofs.Arranged.{ahead_place, first_updates}
use Rattle.history.proofs.Versions.{Stores, Keeps, Newest, newest_is, one_at_place, Last, rests, stores}
use Rattle.history.proofs.Invariant.{Sound, Updated}

pub update_or_reader : (m : Mode) → (m ≡ Update) ⊎ (m ≡ Reader)
update_or_reader Update = inl refl
update_or_reader Reader = inr refl

module _ {clock calls : ℕ} {items : ℕ → Item} {granted : List Grant} (sound : (g : Grant) → g ∈ granted → Sound clock calls items g) where
  -- only updates write
  pub writer_updates : (g : Grant) (i c : ℕ) → g ∈ granted → Writes g i c → g.trace.mode ≡ Update
  writer_updates g i c m w = ⊎_elim (λ e. e) (λ e. let z : ◌≡◌ {A = ℕ} 0 1 = cc (((sound g m).as_reader e).clean i) in absurd (omega arith)) (update_or_reader g.trace.mode)

  pub writer : (g : Grant) (i c : ℕ) → g ∈ granted → Writes g i c → Updated clock items g
  writer g i c m w = (sound g m).as_update (writer_updates g i c m w)

  -- places are not above natural numbers, and these not above the clock
  pub version_by : {b : Setup} (i : ℕ) (vs : List Version) (v : Version) → Keeps b granted i vs → v ∈ vs → (v.place ≤ v.natural) × (v.natural ≤ clock)
  version_by i vs v k m = ⊎_elim
      (λ e. (omega (arith, ap (λ (y : Version). y.place) e), omega (arith, ap (λ (y : Version). y.natural) e)))
      (λ p. let u = (sound p.0 p.1).as_update p.2.update in (omega (arith, p.2.natural, p.2.place, u.place_by), omega (arith, p.2.natural, u.natural_by)))
      (k.from_writers v m)

  -- q tests versions, and Q the granted updates: what a stored version passes its update passes, and what an update passes a version at its place with no larger natural number passes
  pub picked : (b : Setup) (i : ℕ) (vs : List Version) (q : Version → Bool) (Q : Grant → Bool)
      → Keeps b granted i vs
      → ((g : Grant) (v : Version) → Stores g i v → q v ≡ true → Q g ≡ true)
      → ((g : Grant) (v : Version) → Q g ≡ true → v.place ≡ g.place → v.natural ≤ g.natural → q v ≡ true)
      → (w : Version) → w ∈ vs → q w ≡ true
      → Last b granted i Q (newest b q vs)
  picked b i vs q Q k up down w m p = ⊎_elim at_rest_case stored_case (k.from_writers v n.within)
    where
      v : Version
      v = newest b q vs

      n : Newest vs q v
      n = newest_is b q vs w k.falling m p

      at_rest_case : v ≡ at_rest b → Last b granted i Q v
      at_rest_case e = rests e (λ f mf pf c wf.
          let above = (writer f i c mf wf).above_start in
          let zero_place = ap (λ (y : Version). y.place) e in
          ⊎_elim
          (λ u. omega (arith, n.highest u.0 u.1 (down f u.0 pf u.2 u.3), u.2))
          (λ below. omega (arith, below v n.within))
          (k.to_versions f mf c wf))

      stored_case : ((g : Grant) × (g ∈ granted) × Stores g i v) → Last b granted i Q v
      stored_case (g, mg, st) = stores g mg st (up g v st n.passes) (λ f mf pf c wf a.
          let e = st.place in
          let behind = ahead_place g f a in
          ⊎_elim
          (λ u.
          let high = n.highest u.0 u.1 (down f u.0 pf u.2 u.3) in
          let level : u.0.place ≡ v.place = omega (arith, u.2) in
          let one = ap (λ (y : Version). y.natural) (one_at_place vs u.0 v k.falling u.1 n.within level) in
          ⊎_elim
          (λ lower. omega (arith, u.2))
          (λ same. omega (arith, first_updates g f st.update (writer_updates f i c mf wf) same.1, u.3, st.natural))
          a)
          (λ below. omega (arith, below v n.within))
          (k.to_versions f mf c wf))

  -- an update that starts at `start` reads what the granted updates with natural number not above it leave
  pub natural_picked : (b : Setup) (i start : ℕ) (vs : List Version) (Q : Grant → Bool)
      → Keeps b granted i vs → ((g : Grant) → Q g ≡ (is_update g.trace.mode && leb g.natural start))
      → (w : Version) → w ∈ vs → w.natural ≤ start → Last b granted i Q (newest b (natural_by start) vs)
  natural_picked b i start vs Q k is w m p = picked b i vs (natural_by start) Q k
      (λ g v st e. is g ∙ and_from _ _ (ap is_update st.update) (subst (λ n. leb n start ≡ true) (sym st.natural) e))
      (λ g v e _ le. let t = leb-true g.natural start (and_parts (is_update g.trace.mode) _ (sym (is g) ∙ e)).1 in le-leb _ _ (omega arith))
      w m (le-leb _ _ p)

  -- a reader reads what those with place not above its start leave
  pub place_picked : (b : Setup) (i start : ℕ) (vs : List Version) (Q : Grant → Bool)
      → Keeps b granted i vs → ((g : Grant) → Q g ≡ (is_update g.trace.mode && leb g.place start))
      → (w : Version) → w ∈ vs → w.place ≤ start → Last b granted i Q (newest b (place_by start) vs)
  place_picked b i start vs Q k is w m p = picked b i vs (place_by start) Q k
      (λ g v st e. is g ∙ and_from _ _ (ap is_update st.update) (subst (λ n. leb n start ≡ true) (sym st.place) e))
      (λ g v e at _. let t = leb-true g.place start (and_parts (is_update g.trace.mode) _ (sym (is g) ∙ e)).1 in le-leb _ _ (omega arith))
      w m (le-leb _ _ p)

  -- show reads what all leave
  pub all_picked : (b : Setup) (i : ℕ) (vs : List Version) → Keeps b granted i vs → Last b granted i (λ _. true) (newest b (λ _. true) vs)
  all_picked b i vs k = picked b i vs (λ _. true) (λ _. true) k (λ _ _ _ _. refl) (λ _ _ _ _ _. refl) k.some.0 k.some.1 refl
