-- Listed items whose lists have no room.
use Rattle.std.proofs.Common.{◌≡◌, ℕ, zero, suc, ◌+◌, ◌-◌, ◌<◌, ◌≤◌, min, Bool, true, false, cond, not, eqb, ltb, leb, ◌⊎◌, List, [], ◌∷◌, ◌++◌, length, get_or, take, replicate, Some, None, Option, sym, refl, ap, ◌∙◌, subst, ⊎_elim, arith, MatchOption}
use mathlib.Core.List.Memᴰ
use mathlib.Core.List.{Memᴰ}
use lib.ListN.{length-replicate}
use Rattle.std.specs.List.{AllByRecursion}
use Rattle.std.proofs.lemmas.Bool.{cond-true, le-leb, lt-leb, leb-false, lt-ltb, le-ltb, eq-eqb, eqb-true, both_ways, cases_lt, cases_Bool}
use Rattle.std.proofs.lemmas.List.{take_more, length-append}
use Rattle.std.proofs.ByRecursion.{All-push, All-weaker}
use Rattle.calls.specs.declared.write.Write.{Write}
use Rattle.rules.specs.declared.findings.Findings.{Findings}
use Rattle.history.specs.State.{Setup, State, Version as Kept, Transaction as Running, at_rest}
use Rattle.history.specs.Steps.{listed, natural_by, down_to_anchor, insert_version, stored, overfull, is_full, lowest, least_start}
use Rattle.history.proofs.Lowest.{lowest_none}
use Rattle.versions.specs.Slots.{padded}
use Rattle.board.specs.Contents.{Contents, setup_of}
use Rattle.board.specs.Lists.{slots_of}
use Rattle.board.specs.Holding.{Holds}
use Rattle.versions.specs.Plans.{least_with}
use Rattle.board.specs.Room.{Reaches}
use Rattle.board.proofs.Finding.{lowest_at}

-- rest versions behind a list that has its anchor do not matter
pub down_padded : (m n : ℕ) (rest : Kept) (vs : List Kept) (w : Kept) → Memᴰ w vs → w.natural ≤ m → down_to_anchor m (vs ++ replicate n rest) ≡ down_to_anchor m vs
down_padded m n rest [] w i le = elim i [ ]
down_padded m n rest (v ∷ vs) w i le =
    (elim (natural_by m v) as (λ k. natural_by m v ≡ k → ◌≡◌ {A = List Kept} (v ∷ cond k [] (down_to_anchor m (vs ++ replicate n rest))) (v ∷ cond k [] (down_to_anchor m vs))) [
      | true ↦ λ _. refl
      | false ↦ λ e. ap (λ l. v ∷ l) (⊎_elim (λ d. absurd (omega (arith, leb-false _ _ e, ap (λ (y : Kept). y.natural) d))) (λ j. down_padded m n rest vs w j le) (Memᴰ.cases_cons i))
    ]) refl

not_leb : (a b : ℕ) → not (leb a b) ≡ ltb b a
not_leb a b = ⊎_elim (λ l. ap not (lt-leb a b l) ∙ sym (lt-ltb b a l)) (λ l. ap not (le-leb a b l) ∙ sym (le-ltb b a l)) (cases_lt b a)

-- what holds of all items of a list holds of a listed one
pub at_listed : (P : ℕ → Type 0) (ws : List Write) (item code : ℕ) → listed item ws ≡ Some code → AllByRecursion (λ (w : Write). P w.item) ws → P item
at_listed P [] item code e k = let z : ◌≡◌ {A = ℕ} 0 1 = cc in absurd (omega arith)
at_listed P (w ∷ ws) item code e k =
    (elim (eqb w.item item) as (λ t. eqb w.item item ≡ t → cond t (Some w.code) (listed item ws) ≡ Some code → P item) [
      | true ↦ λ d _. subst P (eqb-true _ _ d) k.0
      | false ↦ λ _ d. at_listed P ws item code d k.1
    ]) refl e

module _ {R : Type 0} (answers : R → Findings → Option ℕ) (board : Contents R) where
  -- the slots of a listed item have room just if its list is not overfull
  pub room_is : (item least place : ℕ) (slots : List Kept) (r : Bool) (s : State) (x : Running) → Holds board s → slots ≡ slots_of board.versions item
      → ((n : Kept) → n.place ≡ place → r ≡ leb (length (insert_version n (down_to_anchor least slots))) (length slots))
      → Reaches least s → least ≡ least_start (setup_of answers board) s x
      → item < board.items → (code : ℕ) → listed item x.writes ≡ Some code → not r ≡ is_full (setup_of answers board) s x place item
  room_is item least place slots r s x h at room reach is lt code e =
      let b = setup_of answers board in
      let new : Kept = record { code = code; natural = s.clock + 1; place = place } in
      let codes : slots ≡ padded 8 (at_rest b) (s.items item).versions = at ∙ h.lists item lt in
      let long : length slots ≡ 8 = ap length codes ∙ length-append (s.items item).versions _ ∙ omega (arith, length-replicate (8 - length (s.items item).versions) (at_rest b), h.few_versions item lt) in
      let w = reach item in
      let list : insert_version new (down_to_anchor least slots) ≡ stored b s x place item (Some code) =
      ap (insert_version new) (ap (down_to_anchor least) codes ∙ down_padded least _ (at_rest b) (s.items item).versions w.0 w.1 w.2 ∙ ap (λ m. down_to_anchor m (s.items item).versions) is) in
      ap not (room new refl ∙ ap (λ l. leb (length l) (length slots)) list ∙ ap (leb (length (stored b s x place item (Some code)))) long)
      ∙ not_leb (length (stored b s x place item (Some code))) 8
      ∙ ap (overfull b s x place item) (sym e)

-- among the items of a list the lowest that passes the test, so far as is known
abbrev pub LowestOf : ℕ → (ℕ → Bool) → List Write → Option ℕ → Type 0
LowestOf n test ws None = AllByRecursion (λ (w : Write). test w.item ≡ false) ws
LowestOf n test ws (Some item) = (item < n) × (test item ≡ true) × AllByRecursion (λ (w : Write). test w.item ≡ true → item ≤ w.item) ws

module _ (n : ℕ) (test : ℕ → Bool) where
  pub lowest_passing : (ws : List Write) (w : Write) (o : Option ℕ) → w.item < n → test w.item ≡ true → LowestOf n test ws o → LowestOf n test (ws ++ w ∷ []) (Some (least_with o w.item))
  lowest_passing ws w None lt e k = (lt, e, All-push (λ (v : Write). test v.item ≡ true → w.item ≤ v.item) ws w (All-weaker _ _ (λ v f t. absurd (both_ways _ f t)) ws k) (λ _. omega arith))
  lowest_passing ws w (Some item) lt e k = ⊎_elim
      (λ l. let is : min item w.item ≡ item = omega arith in subst (λ i. LowestOf n test (ws ++ w ∷ []) (Some i)) (sym is) (k.0, k.1, All-push (λ (v : Write). test v.item ≡ true → item ≤ v.item) ws w k.2 (λ _. omega arith)))
      (λ l. let is : min item w.item ≡ w.item = omega arith in subst (λ i. LowestOf n test (ws ++ w ∷ []) (Some i)) (sym is) (lt, e, All-push (λ (v : Write). test v.item ≡ true → w.item ≤ v.item) ws w (All-weaker _ _ (λ v f t. omega (arith, f t)) ws k.2) (λ _. omega arith)))
      (cases_lt item w.item)

  pub lowest_failing : (ws : List Write) (w : Write) (o : Option ℕ) → test w.item ≡ false → LowestOf n test ws o → LowestOf n test (ws ++ w ∷ []) o
  lowest_failing ws w None e k = All-push (λ (v : Write). test v.item ≡ false) ws w k e
  lowest_failing ws w (Some item) e k = (k.0, k.1, All-push (λ (v : Write). test v.item ≡ true → item ≤ v.item) ws w k.2 (λ t. absurd (both_ways _ e t)))

  -- where only items of the list can pass
  pub lowest_found : (ws : List Write) (o : Option ℕ) → ((item : ℕ) → test item ≡ true → (code : ℕ) × (listed item ws ≡ Some code)) → LowestOf n test ws o → MatchOption o (lowest n test ≡ n) (λ item. (item ≡ lowest n test) × (item < n))
  lowest_found ws None only k = lowest_none n test (λ i _. ⊎_elim (λ t. let c = only i t in absurd (both_ways _ (at_listed (λ j. test j ≡ false) ws i c.0 c.1 k) t)) (λ f. f) (cases_Bool (test i)))
  lowest_found ws (Some item) only k = (lowest_at n test item k.0 k.1 (λ j l. ⊎_elim (λ t. let c = only j t in absurd (omega (arith, at_listed (λ i. test i ≡ true → item ≤ i) ws j c.0 c.1 k.2 t))) (λ f. f) (cases_Bool (test j))), k.0)

  -- one item more
  pub lowest_more : (ws : List Write) (k : ℕ) (d : Write) (before after : Option ℕ) (full : Bool) → k < length ws → (get_or ws k d).item < n → full ≡ test (get_or ws k d).item
      → ((full ≡ true) × (after ≡ Some (least_with before (get_or ws k d).item))) ⊎ ((full ≡ false) × (after ≡ before))
      → LowestOf n test (take k ws) before → LowestOf n test (take (k + 1) ws) after
  lowest_more ws k d before after full lt known is way so_far =
      subst (λ l. LowestOf n test l after) (sym (take_more ws k d lt))
      (⊎_elim
      (λ p. subst (LowestOf n test (take k ws ++ get_or ws k d ∷ [])) (sym p.1) (lowest_passing (take k ws) (get_or ws k d) before known (sym is ∙ p.0) so_far))
      (λ p. subst (LowestOf n test (take k ws ++ get_or ws k d ∷ [])) (sym p.1) (lowest_failing (take k ws) (get_or ws k d) before (sym is ∙ p.0) so_far))
      way)

-- what stands in a list is listed
pub listed_at : (ws : List Write) (k : ℕ) (d : Write) → k < length ws → (code : ℕ) × (listed (get_or ws k d).item ws ≡ Some code)
listed_at [] k d lt = absurd (omega arith)
listed_at (w ∷ ws) zero d lt = (w.code, cond-true _ _ _ (eq-eqb w.item w.item refl))
listed_at (w ∷ ws) (suc k) d lt =
    elim (eqb w.item (get_or ws k d).item) as (λ t. (code : ℕ) × (cond t (Some w.code) (listed (get_or ws k d).item ws) ≡ Some code)) [ true ↦ (w.code, refl) | false ↦ listed_at ws k d (omega arith) ]

-- only listed items can be full
pub full_listed : (b : Setup) (s : State) (x : Running) (place item : ℕ) → is_full b s x place item ≡ true → (code : ℕ) × (listed item x.writes ≡ Some code)
full_listed b s x place item e = go (listed item x.writes) e
  where
    go : (o : Option ℕ) → overfull b s x place item o ≡ true → (code : ℕ) × (o ≡ Some code)
    go None e = let z : ◌≡◌ {A = ℕ} 0 1 = cc in absurd (omega arith)
    go (Some code) e = (code, refl)
