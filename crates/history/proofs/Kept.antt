-- The invariant is kept where nothing is granted: at most one seat's transaction changes, and stamps may rise.
use Rattle.std.proofs.Common.{◌≡◌, ℕ, ◌+◌, ◌<◌, ◌≤◌, true, false, cond, eqb, List, ◌∷◌, Some, None, Option, sym, refl, ap, ◌∙◌, subst, ⊎_elim, arith}
use mathlib.Core.List.Memᴰ
use Rattle.std.proofs.lemmas.Bool.{cases_eq, eq-eqb, ne_eqb, cond-true, cond-false, cond_both, eqb-true}
use Rattle.std.specs.Option.{option_map}
use Rattle.history.specs.State.{Setup, Item, Transaction, Seat, empty, held, State, put}
use Rattle.calls.specs.declared.call.Class.{Class}
use Rattle.history.specs.Log.{Deeds, Trace, Grant, Log, count_call, does, drop_it}
use Rattle.history.specs.Promise.{◌∈◌}
use Rattle.history.proofs.Versions.{Keeps}
use Rattle.history.proofs.Invariant.{Sound, Looked, Consistent, Running, Matched, Inv, log_has}

pub put_same : {A : Type 0} (f : ℕ → A) (i : ℕ) (x : A) → put f i x i ≡ x
put_same f i x = cond-true (eqb i i) x (f i) (eq-eqb i i refl)

pub put_other : {A : Type 0} (f : ℕ → A) (i : ℕ) (x : A) (j : ℕ) → (j ≡ i → ⊥) → put f i x j ≡ f j
put_other f i x j other = cond-false (eqb j i) x (f j) (ne_eqb j i other)

pub put_cases : {A : Type 0} (P : A → Type 0) (f : ℕ → A) (i : ℕ) (x : A) (j : ℕ) → (j ≡ i → P x) → P (f j) → P (put f i x j)
put_cases P f i x j here there = cond_both (eqb j i) x (f j) P (λ e. here (eqb-true j i e)) (λ _. there)

pub put_maps : {A B : Type 0} (m : A → B) (f : ℕ → A) (g : ℕ → B) (i : ℕ) (x : A) (j : ℕ) → g j ≡ m (f j) → put g i (m x) j ≡ m (put f i x j)
put_maps m f g i x j e = elim (eqb j i) as (λ k. cond k (m x) (g j) ≡ m (cond k x (f j))) [ true ↦ refl | false ↦ e ]

-- stamps may rise, at most to the clock, and lists stay
pub record Risen (clock : ℕ) (items new : ℕ → Item) : Type 0 where
  pub stamps : (i : ℕ) → (items i).stamp ≤ (new i).stamp
  pub by_clock : (i : ℕ) → (new i).stamp ≤ clock
  pub lists : (i : ℕ) → (new i).versions ≡ (items i).versions

pub risen_same : (clock : ℕ) (items : ℕ → Item) → ((i : ℕ) → (items i).stamp ≤ clock) → Risen clock items items
risen_same clock items by = record { stamps = λ i. omega arith; by_clock = by; lists = λ i. refl }

pub looked_later : {items new : ℕ → Item} → ((i : ℕ) → (items i).stamp ≤ (new i).stamp) → (t : Trace) → Looked items t → Looked new t
looked_later stamps t k = record { clean = k.clean; stamped = λ i sees. omega (arith, k.stamped i sees, stamps i) }

module _ {clock later_clock : ℕ} {items new : ℕ → Item} (forward : clock ≤ later_clock) (stamps : (i : ℕ) → (items i).stamp ≤ (new i).stamp) where
  pub sound_later : {calls later_calls : ℕ} (g : Grant) → calls ≤ later_calls → Sound clock calls items g → Sound later_clock later_calls new g
  sound_later g onward k = record {
    began_by = k.began_by;
    ended_by = omega (arith, k.ended_by);
    start_by = omega (arith, k.start_by);
    as_update = λ e. let u = k.as_update e in record {
      above_start = u.above_start;
      place_by = u.place_by;
      natural_by = omega (arith, u.natural_by);
      stamped = λ i sees. omega (arith, u.stamped i sees, stamps i);
    };
    reader_place = k.reader_place;
    as_reader = λ e. looked_later stamps g.trace (k.as_reader e);
  }

  pub consistent_later : {b : Setup} {granted : List Grant} (t : Trace) → Consistent b clock items granted t → Consistent b later_clock new granted t
  consistent_later t k = record { start_by = omega (arith, k.start_by); as_reader = λ e. looked_later stamps t (k.as_reader e); answered = k.answered }

-- a transaction of another seat, or of the same seat where it did nothing
pub matched_later : (b : Setup) (clock calls : ℕ) (granted : List Grant) {items new : ℕ → Item} → Risen clock items new → (x : Seat) (o : Option Trace) → Matched b clock calls items granted x o → Matched b clock (calls + 1) new granted x o
matched_later b clock calls granted risen empty None k = tt
matched_later b clock calls granted risen empty (Some t) k = k
matched_later b clock calls granted risen (held pass class None) None k = tt
matched_later b clock calls granted risen (held pass class None) (Some t) k = k
matched_later b clock calls granted risen (held pass class (Some x)) None k = k
matched_later b clock calls granted risen (held pass class (Some x)) (Some t) k = record {
  same_mode = k.same_mode;
  same_start = k.same_start;
  same_writes = k.same_writes;
  marks = k.marks;
  began_by = omega (arith, k.began_by);
  consistent = consistent_later (omega arith) risen.stamps t k.consistent;
  reaches = λ i. let w = k.reaches i in (w.0, subst (λ vs. w.0 ∈ vs) (sym (risen.lists i)) w.1, w.2);
  since = k.since;
  new_trace = k.new_trace;
}

-- one seat changes, on the board and in the log
pub record Changed {A : Type 0} (f new : ℕ → A) (k : ℕ) (x : A) : Type 0 where
  pub here : new k ≡ x
  pub elsewhere : (j : ℕ) → (j ≡ k → ⊥) → new j ≡ f j

pub changed_put : {A : Type 0} (f : ℕ → A) (k : ℕ) (x : A) → Changed f (put f k x) k x
changed_put f k x = record { here = put_same f k x; elsewhere = put_other f k x }

pub changed_not : {A : Type 0} (f : ℕ → A) (k : ℕ) (x : A) → f k ≡ x → Changed f f k x
changed_not f k x e = record { here = e; elsewhere = λ _ _. refl }

module _ {b : Setup} {s : State} {l : Log} (inv : Inv b s l) where
  -- the changed seat k has the transaction o
  pub kept : (passes : ℕ) (items : ℕ → Item) (seats : ℕ → Seat) (running : ℕ → Option Trace) (dropped : List Trace) (k : ℕ) (x : Seat) (o : Option Trace)
      → Risen s.clock s.items items → Changed s.seats seats k x → Changed l.running running k o
      → Matched b s.clock (l.calls + 1) items l.granted x o
      → ((t : Trace) → t ∈ dropped → Consistent b s.clock items l.granted t)
      → ((t : Trace) → o ≡ Some t → k < b.seats)
      → ((t : Trace) → o ≡ Some t → (j : ℕ) (u : Trace) → l.running j ≡ Some u → t.began ≡ u.began → j ≡ k)
      → Inv b (record { clock = s.clock; passes = passes; items = items; seats = seats }) (record { calls = l.calls + 1; running = running; granted = l.granted; dropped = dropped })
  kept passes items seats running dropped k x o risen on_board in_log matched drops seated apart = record {
    sound = λ g m. sound_later (omega arith) risen.stamps g (omega arith) (inv.sound g m);
    arrayed = inv.arrayed;
    answered = inv.answered;
    keeps = λ i. subst (Keeps b l.granted i) (sym (risen.lists i)) (inv.keeps i);
    stamps_by = risen.by_clock;
    real_time = inv.real_time;
    dropped = drops;
    seats = λ j. ⊎_elim
        (λ e. subst (λ n. Matched b s.clock (l.calls + 1) items l.granted (seats n) (running n)) (sym e)
        (subst (λ y. Matched b s.clock (l.calls + 1) items l.granted y (running k)) (sym on_board.here)
        (subst (Matched b s.clock (l.calls + 1) items l.granted x) (sym in_log.here) matched)))
        (λ other.
        subst (λ y. Matched b s.clock (l.calls + 1) items l.granted y (running j)) (sym (on_board.elsewhere j other))
        (subst (Matched b s.clock (l.calls + 1) items l.granted (s.seats j)) (sym (in_log.elsewhere j other)) (matched_later b s.clock l.calls l.granted risen (s.seats j) (l.running j) (inv.seats j))))
        (cases_eq j k);
    apart = λ i j t u p q same. ⊎_elim
        (λ e. ⊎_elim
        (λ d. e ∙ sym d)
        (λ other. e ∙ sym (apart t (sym in_log.here ∙ ap running (sym e) ∙ p) j u (sym (in_log.elsewhere j other) ∙ q) same))
        (cases_eq j k))
        (λ other. ⊎_elim
        (λ d. apart u (sym in_log.here ∙ ap running (sym d) ∙ q) i t (sym (in_log.elsewhere i other) ∙ p) (sym same) ∙ sym d)
        (λ far. inv.apart i j t u (sym (in_log.elsewhere i other) ∙ p) (sym (in_log.elsewhere j far) ∙ q) same)
        (cases_eq j k))
        (cases_eq i k);
    seated = λ j t e. ⊎_elim
        (λ d. subst (λ n. n < b.seats) (sym d) (seated t (sym in_log.here ∙ ap running (sym d) ∙ e)))
        (λ other. inv.seated j t (sym (in_log.elsewhere j other) ∙ e))
        (cases_eq j k);
  }

  -- nothing happens
  pub idle : Inv b s (count_call l)
  idle = kept s.passes s.items s.seats l.running l.dropped 0 (s.seats 0) (l.running 0) (risen_same s.clock s.items inv.stamps_by) (changed_not s.seats 0 _ refl) (changed_not l.running 0 _ refl)
      (matched_later b s.clock l.calls l.granted (risen_same s.clock s.items inv.stamps_by) (s.seats 0) (l.running 0) (inv.seats 0)) (λ t m. inv.dropped t m) (λ t e. inv.seated 0 t e) (λ t e j u d same. inv.apart j 0 u t d e (sym same))

  -- the seat's transaction does something
  pub does_kept : (passes : ℕ) (items : ℕ → Item) (seats : ℕ → Seat) (k pass : ℕ) (class : Class) (y : Transaction) (t : Trace) (deed : Deeds → Deeds)
      → l.running k ≡ Some t → Risen s.clock s.items items → Changed s.seats seats k (held pass class (Some y))
      → Running b s.clock (l.calls + 1) items l.granted y (record { began = t.began; mode = t.mode; start = t.start; deeds = deed t.deeds })
      → Inv b (record { clock = s.clock; passes = passes; items = items; seats = seats }) (count_call (does l k deed))
  does_kept passes items seats k pass class y t deed has risen on_board now-running =
      kept passes items seats _ l.dropped k (held pass class (Some y)) (Some (record { began = t.began; mode = t.mode; start = t.start; deeds = deed t.deeds })) risen on_board
      (record { here = put_same l.running k _ ∙ ap (option_map (λ (u : Trace). record { began = u.began; mode = u.mode; start = u.start; deeds = deed u.deeds })) has; elsewhere = put_other l.running k _ })
      now-running (λ u m. consistent_later (omega arith) risen.stamps u (inv.dropped u m)) (λ _ _. inv.seated k t has)
      (λ u e j v d same. let is : t.began ≡ u.began = cc in inv.apart j k v t d has (sym same ∙ sym is))

  -- the seat's transaction, if any, is dropped
  pub drop_kept : (passes : ℕ) (items : ℕ → Item) (seats : ℕ → Seat) (k : ℕ) (x : Seat)
      → Risen s.clock s.items items → Changed s.seats seats k x → Matched b s.clock (l.calls + 1) items l.granted x None
      → Inv b (record { clock = s.clock; passes = passes; items = items; seats = seats }) (count_call (drop_it l k (l.running k)))
  drop_kept passes items seats k x risen on_board empty-now = go (l.running k) refl
    where
      go : (o : Option Trace) → l.running k ≡ o → Inv b (record { clock = s.clock; passes = passes; items = items; seats = seats }) (count_call (drop_it l k o))
      go None e = kept passes items seats l.running l.dropped k x None risen on_board (changed_not l.running k None e) empty-now
          (λ u m. consistent_later (omega arith) risen.stamps u (inv.dropped u m)) (λ u d. let z : ◌≡◌ {A = ℕ} 0 1 = cc in absurd (omega arith)) (λ u d. let z : ◌≡◌ {A = ℕ} 0 1 = cc in absurd (omega arith))
      go (Some t) e = kept passes items seats _ (t ∷ l.dropped) k x None risen on_board (changed_put l.running k None) empty-now
          (λ u m. consistent_later (omega arith) risen.stamps u (⊎_elim (λ d. subst (Consistent b s.clock s.items l.granted) (sym d) (log_has inv k t e).1.both.consistent) (inv.dropped u) (Memᴰ.cases_cons m)))
          (λ u d. let z : ◌≡◌ {A = ℕ} 0 1 = cc in absurd (omega arith)) (λ u d. let z : ◌≡◌ {A = ℕ} 0 1 = cc in absurd (omega arith))
