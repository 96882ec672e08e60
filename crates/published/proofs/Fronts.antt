-- Where what a walk looks for stands in the front part of a version list, the front part does for the whole.
use Rattle.std.proofs.Common.{◌≡◌, ℕ, ◌<◌, ◌≤◌, Bool, true, false, cond, not, ltb, leb, List, [], ◌∷◌, ◌++◌, map, sym, refl, ap, ◌∙◌, subst, ⊎_elim, append_assoc, arith}
use mathlib.Core.List.Memᴰ
use mathlib.Core.List.{map-append}
use Rattle.std.proofs.lemmas.Bool.{lt-ltb, le-ltb, lt-leb, le-leb, eq-eqb, ne_eqb, both_ways, or_right, or_from, cases_lt, cases_eq, cond-true, cond-false}
use Rattle.calls.specs.declared.call.Mode.{Mode}
use Rattle.calls.specs.declared.call.Mode.TheVariants.{Reader, Update}
use Rattle.history.specs.State.{Setup, Version}
use Rattle.history.specs.Steps.{newest, natural_by, place_by, newer, down_to_anchor, insert_version}
use Rattle.history.specs.Promise.{◌∈◌}
use Rattle.published.specs.Algorithm.{Ver, passes_over, visible, latest, Validation, misses, handle_read, create_new_version}
use Rattle.published.specs.Beside.{as_ver, FrontPart}

pub ltb_not : (m n : ℕ) → ltb m n ≡ not (leb n m)
ltb_not m n = ⊎_elim
    (λ lt. lt-ltb m n lt ∙ sym (ap not (lt-leb n m lt)))
    (λ le. le-ltb m n le ∙ sym (ap not (le-leb n m le)))
    (cases_lt m n)

-- a reader passes over what is not by its start in place
pub reader_passes : (start : ℕ) (v : Version) → passes_over Reader start (as_ver v) ≡ not (place_by start v)
reader_passes start v = ltb_not start v.place

-- an update passes over what is not by its start in natural number, since no place is above its natural number
pub update_passes : (start : ℕ) (v : Version) → v.place ≤ v.natural → passes_over Update start (as_ver v) ≡ not (natural_by start v)
update_passes start v le = ⊎_elim
    (λ lt. or_right (ltb start v.place) _ (lt-ltb _ _ lt) ∙ sym (ap not (lt-leb _ _ lt)))
    (λ by. or_from (ltb start v.place) _ (le-ltb _ _ (omega arith)) (le-ltb _ _ by) ∙ sym (ap not (le-leb _ _ by)))
    (cases_lt start v.natural)

-- a version that passes, of a list whose head does not, stands in the rest
pub further : (test : Version → Bool) (v : Version) (vs : List Version) (w : Version) → w ∈ v ∷ vs → test w ≡ true → test v ≡ false → w ∈ vs
further test v vs w m p e = ⊎_elim (λ d. absurd (both_ways (test v) e (subst (λ u. test u ≡ true) d p))) (λ n. n) (Memᴰ.cases_cons m)

-- what is read
pub visible_front : (b : Setup) (mode : Mode) (start : ℕ) (test : Version → Bool) (older : List Ver) (vs : List Version) (w : Version)
    → ((v : Version) → v ∈ vs → passes_over mode start (as_ver v) ≡ not (test v))
    → w ∈ vs → test w ≡ true
    → visible b.rest mode start (map as_ver vs ++ older) ≡ (newest b test vs).code
visible_front b mode start test older [] w same m p = elim m [ ]
visible_front b mode start test older (v ∷ vs) w same m p =
    ap (λ k. cond k (visible b.rest mode start (map as_ver vs ++ older)) v.code) (same v (Memᴰ.head refl))
    ∙ (elim (test v) as (λ k. test v ≡ k → cond (not k) (visible b.rest mode start (map as_ver vs ++ older)) v.code ≡ (cond k v (newest b test vs)).code) [
      | true ↦ λ _. refl
      | false ↦ λ e. visible_front b mode start test older vs w (λ u n. same u (Memᴰ.tail n)) (further test v vs w m p e) p
    ]) refl

pub latest_front : (b : Setup) (older : List Ver) (vs : List Version) (w : Version) → w ∈ vs → latest b.rest (map as_ver vs ++ older) ≡ (newest b (λ _. true) vs).code
latest_front b older [] w m = elim m [ ]
latest_front b older (v ∷ vs) w m = refl

-- what validation walks over
abbrev pub notes : List Version → Validation → Validation
notes [] f = f
notes (v ∷ vs) f = notes vs (misses (as_ver v) f)

pub notes-++ : (us vs : List Version) (f : Validation) → notes (us ++ vs) f ≡ notes vs (notes us f)
notes-++ [] vs f = refl
notes-++ (u ∷ us) vs f = notes-++ us vs (misses (as_ver u) f)

pub walk_front : (start : ℕ) (older : List Ver) (vs : List Version) (w : Version) (f : Validation) → w ∈ vs → w.natural ≤ start
    → handle_read start (map as_ver vs ++ older) f ≡ notes (newer start vs) f
walk_front start older [] w f m le = elim m [ ]
walk_front start older (v ∷ vs) w f m le =
    ap (λ k. cond k (handle_read start (map as_ver vs ++ older) (misses (as_ver v) f)) f) (ltb_not start v.natural)
    ∙ (elim (natural_by start v) as (λ k. natural_by start v ≡ k → cond (not k) (handle_read start (map as_ver vs ++ older) (misses (as_ver v) f)) f ≡ notes (cond k [] (v ∷ newer start vs)) f) [
      | true ↦ λ _. refl
      | false ↦ λ e. walk_front start older vs w (misses (as_ver v) f) (further (natural_by start) v vs w m (le-leb _ _ le) e) le
    ]) refl

---- a commit's new version

-- it goes into the front part, where this reaches below its place
pub create_front : (n : Version) (older : List Ver) (vs : List Version) (w : Version) → w ∈ vs → w.place < n.place
    → create_new_version (as_ver n) (map as_ver vs ++ older) ≡ map as_ver (insert_version n vs) ++ older
create_front n older [] w m lt = elim m [ ]
create_front n older (v ∷ vs) w m lt = ⊎_elim
    (λ under.
    let inside : w ∈ vs = ⊎_elim (λ d. absurd (omega (arith, ap (λ (y : Version). y.place) d))) (λ k. k) (Memᴰ.cases_cons m) in
    cond-true _ _ _ (lt-ltb _ _ under)
    ∙ ap (λ l. as_ver v ∷ l) (create_front n older vs w inside lt)
    ∙ sym (ap (λ l. map as_ver l ++ older) (cond-false _ _ _ (le-ltb v.place n.place (omega arith)) ∙ cond-false _ _ _ (ne_eqb v.place n.place (λ e. omega arith)))))
    (λ by. cond-false _ _ _ (le-ltb _ _ by) ∙ ⊎_elim
    (λ same. cond-true _ _ _ (eq-eqb _ _ same) ∙ sym (ap (λ l. map as_ver l ++ older) (cond-false _ _ _ (le-ltb v.place n.place (omega arith)) ∙ cond-true _ _ _ (eq-eqb _ _ (sym same)))))
    (λ far. cond-false _ _ _ (ne_eqb _ _ far) ∙ sym (ap (λ l. map as_ver l ++ older) (cond-true _ _ _ (lt-ltb v.place n.place (omega arith)))))
    (cases_eq n.place v.place))
    (cases_lt n.place v.place)

-- a list that is cut at its anchor is a front part of what it was
pub cut_front : (m : ℕ) (vs : List Version) → (rest : List Version) × (vs ≡ down_to_anchor m vs ++ rest)
cut_front m [] = ([], refl)
cut_front m (v ∷ vs) =
    elim (natural_by m v) as (λ k. (rest : List Version) × (v ∷ vs ≡ (v ∷ cond k [] (down_to_anchor m vs)) ++ rest)) [
      | true ↦ (vs, refl)
      | false ↦ let r = cut_front m vs in (r.0, ap (λ l. v ∷ l) r.1)
    ]

pub front_of_front : (m : ℕ) (vs : List Version) (all : List Ver) → FrontPart vs all → FrontPart (down_to_anchor m vs) all
front_of_front m vs all p =
    let r = cut_front m vs in (
      map as_ver r.0 ++ p.0,
      p.1 ∙ ap (λ l. map as_ver l ++ p.0) r.1 ∙ ap (λ l. l ++ p.0) (map-append as_ver (down_to_anchor m vs) r.0) ∙ append_assoc (map as_ver (down_to_anchor m vs)) (map as_ver r.0) p.0,
    )
