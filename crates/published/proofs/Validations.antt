-- What the machine's validation finds is what the board's commit finds.
use Rattle.std.proofs.Common.{◌≡◌, ℕ, zero, suc, ◌+◌, ◌<◌, ◌≤◌, min, Bool, true, false, cond, not, ◌&&◌, ◌||◌, eqb, ltb, leb, ◌⊎◌, List, [], ◌∷◌, length, is_some, Some, None, Option, sym, refl, ap, ◌∙◌, subst, inl, inr, ⊎_elim, arith}
use mathlib.Core.List.Memᴰ
use Rattle.std.proofs.lemmas.Bool.{lt-ltb, le-ltb, eq-eqb, ne_eqb, eqb-true, eqb-false, not-false, or_left, or_right, or_from, or_cases, and_from, and_left, and_right, cases_lt, cases_eq, cond-true, cond-false}
use Rattle.calls.specs.declared.call.Class.{Class}
use Rattle.rules.specs.WarpAnswers.{warp_answers}
use Rattle.calls.specs.declared.write.Write.{Write}
use Rattle.history.specs.State.{Setup, Version, Transaction, State}
use Rattle.history.specs.Steps.{newer, gather, any, earliest, is_warped, lowest, listed, missed_of, missed, overtaken, findings}
use Rattle.history.specs.Promise.{◌∈◌}
use Rattle.history.proofs.Found.{any_false, earliest_least, earliest_in, listed_in}
use Rattle.history.proofs.Lowest.{lowest_is}
use Rattle.published.specs.Algorithm.{Tx, Machine, Validation, nothing_found, handle_write, misses, handle_read, each_var, validated, fails, least, time_warp, first_that, has_missed, is_time_warped}
use Rattle.published.specs.Beside.{as_ver}
use Rattle.published.proofs.Fronts.{notes, notes-++, walk_front}
use Rattle.published.proofs.Same.{Same, Good, lists_of}

eqb_swap : (m n : ℕ) → eqb m n ≡ eqb n m
eqb_swap m n = ⊎_elim (λ e. eq-eqb m n e ∙ sym (eq-eqb n m (sym e))) (λ far. ne_eqb m n far ∙ sym (ne_eqb n m (λ e. far (sym e)))) (cases_eq m n)

warped_same : (v : Version) → is_time_warped (as_ver v) ≡ is_warped v
warped_same v = ap not (eqb_swap v.natural v.place)

---- what is noted of a list of missed versions

pub notes_target : (vs : List Version) (f : Validation) → (notes vs f).target ≡ f.target
notes_target [] f = refl
notes_target (v ∷ vs) f = notes_target vs (misses (as_ver v) f)

source_stays : (vs : List Version) (f : Validation) → f.source ≡ true → (notes vs f).source ≡ true
source_stays [] f e = e
source_stays (v ∷ vs) f e = source_stays vs (misses (as_ver v) f) refl

or_turn : (p q r : Bool) → (p || (q || r)) ≡ ((q || p) || r)
or_turn true true r = refl
or_turn true false r = refl
or_turn false true r = refl
or_turn false false r = refl

pub notes_warped : (vs : List Version) (f : Validation) → (notes vs f).missed_warped ≡ (any is_warped vs || f.missed_warped)
notes_warped [] f = refl
notes_warped (v ∷ vs) f =
    notes_warped vs (misses (as_ver v) f)
    ∙ ap (λ k. any is_warped vs || (k || f.missed_warped)) (warped_same v)
    ∙ or_turn (any is_warped vs) (is_warped v) f.missed_warped

deps_stay : (vs : List Version) (f : Validation) (n : ℕ) → n ∈ f.anti_deps → n ∈ (notes vs f).anti_deps
deps_stay [] f n m = m
deps_stay (v ∷ vs) f n m = deps_stay vs (misses (as_ver v) f) n (Memᴰ.tail m)

missed_dep : (vs : List Version) (f : Validation) (v : Version) → v ∈ vs → v.natural ∈ (notes vs f).anti_deps
missed_dep [] f v m = elim m [ ]
missed_dep (u ∷ vs) f v (Memᴰ.head e) = deps_stay vs (misses (as_ver u) f) v.natural (Memᴰ.head (ap (λ (y : Version). y.natural) e))
missed_dep (u ∷ vs) f v (Memᴰ.tail m) = missed_dep vs (misses (as_ver u) f) v m

dep_missed : (vs : List Version) (f : Validation) (n : ℕ) → n ∈ (notes vs f).anti_deps → (n ∈ f.anti_deps) ⊎ ((v : Version) × (v ∈ vs) × (v.natural ≡ n))
dep_missed [] f n m = inl m
dep_missed (u ∷ vs) f n m = ⊎_elim
    (λ d. ⊎_elim (λ e. inr (u, Memᴰ.head refl, sym e)) inl (Memᴰ.cases_cons d))
    (λ r. inr (r.0, Memᴰ.tail r.1, r.2))
    (dep_missed vs (misses (as_ver u) f) n m)

---- the least of them

least_in : (n : ℕ) (ds : List ℕ) → least n ds ∈ n ∷ ds
least_in n [] = Memᴰ.head refl
least_in n (d ∷ ds) = ⊎_elim
    (λ l. let e : min n (least d ds) ≡ n = omega arith in Memᴰ.head e)
    (λ l. let e : min n (least d ds) ≡ least d ds = omega arith in Memᴰ.tail (subst (λ y. y ∈ d ∷ ds) (sym e) (least_in d ds)))
    (cases_lt n (least d ds))

least_by : (n : ℕ) (ds : List ℕ) (k : ℕ) → k ∈ n ∷ ds → least n ds ≤ k
least_by n [] k m = ⊎_elim (λ e. omega arith) (λ j. elim j [ ]) (Memᴰ.cases_cons m)
least_by n (d ∷ ds) k m = ⊎_elim (λ e. omega arith) (λ j. omega (arith, least_by d ds k j)) (Memᴰ.cases_cons m)

-- the number that is among them and not above any
warp_is : (natural : ℕ) (ds : List ℕ) (p : ℕ) → p ∈ ds → ((n : ℕ) → n ∈ ds → p ≤ n) → time_warp natural ds ≡ p
warp_is natural [] p m by = elim m [ ]
warp_is natural (d ∷ ds) p m by = omega (arith, least_by d ds p m, by (least d ds) (least_in d ds))

---- the flags of a write

abbrev targeted : Bool → Validation
targeted k = record { target = k; source = false; anti_deps = []; missed_warped = false }

abbrev some_below : ℕ → (ℕ → Bool) → Bool
some_below zero test = false
some_below (suc n) test = test n || some_below n test

below_none : (n : ℕ) (test : ℕ → Bool) → ((i : ℕ) → test i ≡ false) → some_below n test ≡ false
below_none zero test none = refl
below_none (suc n) test none = or_from (test n) _ (none n) (below_none n test none)

below_some : (n : ℕ) (test : ℕ → Bool) (i : ℕ) → i < n → test i ≡ true → some_below n test ≡ true
below_some zero test i l e = absurd (omega arith)
below_some (suc n) test i l e = ⊎_elim
    (λ m. or_right (test n) _ (below_some n test i m e))
    (λ m. let is : i ≡ n = omega arith in or_left (test n) _ (ap test (sym is) ∙ e))
    (cases_lt i n)

any_some : {A : Type 0} (test : A → Bool) (xs : List A) → any test xs ≡ true → (x : A) × (x ∈ xs) × (test x ≡ true)
any_some test [] e = let z : ◌≡◌ {A = ℕ} 0 1 = cc in absurd (omega arith)
any_some test (x ∷ xs) e = ⊎_elim
    (λ d. (x, Memᴰ.head refl, d))
    (λ d. let r = any_some test xs d in (r.0, Memᴰ.tail r.1, r.2))
    (or_cases (test x) _ e)

in_listed : (ws : List Write) (w : Write) → w ∈ ws → (c : ℕ) × (listed w.item ws ≡ Some c)
in_listed [] w m = elim m [ ]
in_listed (u ∷ ws) w m =
    elim (eqb u.item w.item) as (λ k. eqb u.item w.item ≡ k → (c : ℕ) × (cond k (Some u.code) (listed w.item ws) ≡ Some c)) [
      | true ↦ λ _. (u.code, refl)
      | false ↦ λ e. ⊎_elim (λ d. absurd (eqb-false _ _ e (ap (λ (y : Write). y.item) (sym d)))) (λ j. in_listed ws w j) (Memᴰ.cases_cons m)
    ] refl

---- the whole validation

module _ {b : Setup} {s : State} {m : Machine} (both : Same b s m) (x : Transaction) (tx : Tx) (good : Good b (lists_of m) x tx)
    (reach : (i : ℕ) → (v : Version) × (v ∈ (s.items i).versions) × (v.natural ≤ x.start)) where
  walk : (i : ℕ) (f : Validation) → handle_read tx.start (m.vars i).versions f ≡ notes (newer x.start (s.items i).versions) f
  walk i f =
      let r = reach i in
      let p = both.lists i in
      ap (λ n. handle_read n (m.vars i).versions f) (sym good.same.start)
      ∙ ap (λ l. handle_read x.start l f) p.1
      ∙ walk_front x.start p.0 (s.items i).versions r.0 f r.1 r.2

  read_found : (i : ℕ) (f : Validation) → cond (tx.read_set i) (handle_read tx.start (m.vars i).versions f) f ≡ notes (missed_of s x i) f
  read_found i f =
      ap (λ k. cond k (handle_read tx.start (m.vars i).versions f) f) (sym (good.same.marks i))
      ∙ elim (x.marked i) as (λ k. cond k (handle_read tx.start (m.vars i).versions f) f ≡ notes (cond k (newer x.start (s.items i).versions) []) f) [ true ↦ walk i f | false ↦ refl ]

  reads_found : (n : ℕ) (f : Validation) → each_var n (λ var g. cond (tx.read_set var) (handle_read tx.start (m.vars var).versions g) g) f ≡ notes (gather n (missed_of s x)) f
  reads_found zero f = refl
  reads_found (suc n) f = read_found n _ ∙ ap (notes (missed_of s x n)) (reads_found n f) ∙ sym (notes-++ (gather n (missed_of s x)) (missed_of s x n) f)

  abbrev overtaken_at : ℕ → Bool
  overtaken_at i = is_some (tx.write_set i) && leb tx.start (m.vars i).read_stamp

  writes_found : (n : ℕ) → each_var n (λ var f. cond (is_some (tx.write_set var)) (handle_write tx.start (m.vars var) f) f) nothing_found ≡ targeted (some_below n overtaken_at)
  writes_found zero = refl
  writes_found (suc n) =
      ap (λ f. cond (is_some (tx.write_set n)) (handle_write tx.start (m.vars n) f) f) (writes_found n)
      ∙ elim (is_some (tx.write_set n)) as (λ k. cond k (handle_write tx.start (m.vars n) (targeted (some_below n overtaken_at))) (targeted (some_below n overtaken_at)) ≡ targeted ((k && leb tx.start (m.vars n).read_stamp) || some_below n overtaken_at)) [ true ↦ refl | false ↦ refl ]

  overtaken_is : (i : ℕ) → leb tx.start (m.vars i).read_stamp ≡ leb x.start (s.items i).stamp
  overtaken_is i = ap (λ n. leb n (m.vars i).read_stamp) (sym good.same.start) ∙ ap (leb x.start) (sym (both.stamps i))

  same_target : some_below b.items overtaken_at ≡ overtaken s x
  same_target = elim (overtaken s x) as (λ k. overtaken s x ≡ k → some_below b.items overtaken_at ≡ k) [
    | true ↦ λ e.
        let w = any_some _ x.writes e in
        let c = in_listed x.writes w.0 w.1 in
        below_some b.items overtaken_at w.0.item (good.known _ c.0 c.1)
        (and_from _ _ (ap is_some (sym (good.same.writes w.0.item) ∙ c.1)) (overtaken_is w.0.item ∙ w.2))
    | false ↦ λ e. below_none b.items overtaken_at (λ i. none i e (listed i x.writes) refl)
  ] refl
    where
      none : (i : ℕ) → overtaken s x ≡ false → (o : Option ℕ) → listed i x.writes ≡ o → overtaken_at i ≡ false
      none i e None d = and_left _ _ (ap is_some (sym (good.same.writes i) ∙ d))
      none i e (Some c) d =
          let w = listed_in i c x.writes d in
          and_right (is_some (tx.write_set i)) _ (overtaken_is i ∙ subst (λ j. leb x.start (s.items j).stamp ≡ false) w.2 (any_false _ x.writes w.0 e w.1))

  pub found : validated b m tx ≡ notes (missed b s x) (targeted (overtaken s x))
  found = reads_found b.items _ ∙ ap (notes (missed b s x)) (writes_found b.items ∙ ap targeted same_target)

  ---- the verdict

  abbrev pub Verdict : Option ℕ → Validation → Type 0
  Verdict None f = fails f ≡ true
  Verdict (Some place) f = (fails f ≡ false) × (time_warp (s.clock + 1) f.anti_deps ≡ place)

  -- nothing missed, or something
  judged : (class : Class) (ms : List Version) (k : Bool)
      → Verdict (warp_answers (record { start = x.start; next = s.clock + 1; class = class; overtaken = k; missed = earliest ms; warped = any is_warped ms })) (notes ms (targeted k))
  judged class [] k = (and_right k false refl, refl)
  judged class (v ∷ vs) k = go (earliest (v ∷ vs)) refl (any is_warped (v ∷ vs)) refl k refl
    where
      f : Validation
      f = notes (v ∷ vs) (targeted k)

      warped : f.missed_warped ≡ any is_warped (v ∷ vs)
      warped = notes_warped (v ∷ vs) (targeted k) ∙ or_none (any is_warped (v ∷ vs))
        where
          or_none : (p : Bool) → (p || false) ≡ p
          or_none true = refl
          or_none false = refl

      source : f.source ≡ true
      source = source_stays vs (misses (as_ver v) (targeted k)) refl

      target : f.target ≡ k
      target = notes_target (v ∷ vs) (targeted k)

      go : (o : Option ℕ) → earliest (v ∷ vs) ≡ o → (w : Bool) → any is_warped (v ∷ vs) ≡ w → (t : Bool) → k ≡ t
          → Verdict (elim o as (λ _. Option ℕ) [ None ↦ Some (s.clock + 1) | Some missed ↦ cond w None (cond t None (Some missed)) ]) f
      go None e w d t c = let r = earliest_least (v ∷ vs) v (Memᴰ.head refl) in let z : ◌≡◌ {A = ℕ} 0 1 = cc (r.1, e) in absurd (omega arith)
      go (Some p) e true d t c = or_left _ _ (warped ∙ d)
      go (Some p) e false d true c = or_right f.missed_warped _ (and_from _ _ (target ∙ c) source)
      go (Some p) e false d false c = (
        or_from f.missed_warped _ (warped ∙ d) (and_left f.target _ (target ∙ c)),
        let r = earliest_in (v ∷ vs) p e in
            let level : (u : Version) → u ∈ v ∷ vs → u.place ≡ u.natural = λ u n. eqb-true _ _ (not-false _ (any_false is_warped (v ∷ vs) u d n)) in
            warp_is (s.clock + 1) f.anti_deps p
            (subst (λ n. n ∈ f.anti_deps) (sym (level r.0 r.1) ∙ r.2) (missed_dep (v ∷ vs) (targeted k) r.0 r.1))
            (λ n j. ⊎_elim
            (λ i. elim i [ ])
            (λ q. let l = earliest_least (v ∷ vs) q.0 q.1 in let same : l.0 ≡ p = cc (l.1, e) in omega (arith, l.2, level q.0 q.1, q.2))
            (dep_missed (v ∷ vs) (targeted k) n j)),
      )

  pub verdict : (class : Class) → Verdict (warp_answers (findings b s class x)) (validated b m tx)
  verdict class = subst (Verdict (warp_answers (findings b s class x))) (sym found) (judged class (missed b s x) (overtaken s x))

  ---- the variable that an abort names

  missed_same : (i : ℕ) → ltb 0 (length (missed_of s x i)) ≡ has_missed m tx i
  missed_same i = sym (
      ap (λ k. k && (handle_read tx.start (m.vars i).versions nothing_found).source) (sym (good.same.marks i))
      ∙ elim (x.marked i) as (λ k. (k && (handle_read tx.start (m.vars i).versions nothing_found).source) ≡ ltb 0 (length (cond k (newer x.start (s.items i).versions) []))) [
        | true ↦ ap (λ (f : Validation). f.source) (walk i nothing_found) ∙ has (newer x.start (s.items i).versions)
        | false ↦ refl
      ])
    where
      has : (vs : List Version) → (notes vs nothing_found).source ≡ ltb 0 (length vs)
      has [] = refl
      has (v ∷ vs) = source_stays vs (misses (as_ver v) nothing_found) refl ∙ sym (lt-ltb _ _ (omega arith))

  first_same : (n : ℕ) → lowest n (λ i. ltb 0 (length (missed_of s x i))) ≡ first_that n (has_missed m tx)
  first_same zero = refl
  first_same (suc n) =
      let e = first_same n in
      let by = (lowest_is n (λ i. ltb 0 (length (missed_of s x i)))).within in
      ⊎_elim
      (λ l. cond-true _ _ _ (lt-ltb _ _ l) ∙ e ∙ sym (cond-false _ _ _ (ne_eqb (first_that n (has_missed m tx)) n (λ d. omega arith))))
      (λ l. cond-false _ _ _ (le-ltb _ _ l) ∙ ap (λ k. cond k n (suc n)) (missed_same n) ∙ sym (cond-true _ _ _ (eq-eqb (first_that n (has_missed m tx)) n (omega arith))))
      (cases_lt (lowest n (λ i. ltb 0 (length (missed_of s x i)))) n)

  pub named_same : lowest b.items (λ i. ltb 0 (length (missed_of s x i))) ≡ first_that b.items (has_missed m tx)
  named_same = first_same b.items
