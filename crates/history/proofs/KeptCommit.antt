-- A commit keeps the invariant.
use Rattle.std.proofs.Common.{◌≡◌, ℕ, ◌+◌, ◌≤◌, false, not, ◌&&◌, eqb, ltb, leb, ◌⊎◌, Some, None, Option, sym, refl, ap, ◌∙◌, subst, inl, inr, ⊎_elim, arith}
use Rattle.std.proofs.lemmas.Bool.{cond_both, cond-true, le-leb, lt-leb, le-ltb, lt-ltb, or_left, or_from, and_right, cases_lt}
use Rattle.calls.specs.declared.call.Class.{Class}
use Rattle.calls.specs.declared.call.Mode.{Mode}
use Rattle.calls.specs.declared.call.Mode.TheVariants.{Reader, Update}
use Rattle.calls.specs.declared.call.Call.TheVariants.{Commit}
use Rattle.rules.specs.Laws.{FourLaws}
use Rattle.history.specs.State.{Setup, Item, Transaction, Seat, held, State, put}
use Rattle.history.specs.Steps.{commit_in, settle, is_update, raised, store, lowest, is_full, limit, runs, findings}
use Rattle.history.specs.Log.{Trace, Grant, Log, count_call, grant_it}
use Rattle.history.specs.Order.{first_at_place, arranged}
use Rattle.history.specs.Run.{Answered, run, all_rest, seen_by, within_start}
use Rattle.history.specs.Promise.{◌∈◌}
use Rattle.history.proofs.Runs.{written, answered_agrees, kept_put_in, run_same}
use Rattle.history.proofs.Arranged.{Apart, ahead_decided, not_behind, each_put_in, in_arranged}
use Rattle.history.proofs.Invariant.{Running, Inv, AtSeat}
use Rattle.history.proofs.Picks.{update_or_reader}
use Rattle.history.proofs.Stored.{keeps_unwritten}
use Rattle.history.proofs.Kept.{put_same, put_other, Risen, risen_same, Changed, drop_kept, looked_later}
use Rattle.history.proofs.Granting.{Fair, fair, free_behind, consistent_still, own_reads, lists_keep, lists_reach}
use Rattle.history.proofs.KeptGrant.{Granting, kept_grant}
use Rattle.history.proofs.KeptCalls.{Kept}

module _ {b : Setup} {s : State} {l : Log} (inv : Inv b s l) (seat pass : ℕ) (class : Class) (x : Transaction) (t : Trace) (on_board : s.seats seat ≡ held pass class (Some x)) (at : AtSeat b s l seat x t) where
  r : Running b s.clock l.calls s.items l.granted x t
  r = at.both

  leaves : Changed s.seats (put s.seats seat (runs None (s.seats seat))) seat (held pass class None)
  leaves = record { here = put_same s.seats seat _ ∙ ap (runs None) on_board; elsewhere = put_other s.seats seat _ }

  ---- a reader

  module _ (reading : t.mode ≡ Reader) where
    abbrev R : Grant
    R = record { trace = t; natural = 0; place = x.start; ended = l.calls }

    reader_apart : (f : Grant) → f ∈ l.granted → Apart t.mode f.trace.mode R f
    reader_apart f m = subst (λ k. Apart k f.trace.mode R f) (sym reading) (go f.trace.mode)
      where
        go : (k : Mode) → Apart Reader k R f
        go Update = tt
        go Reader = λ same. r.new_trace f m (sym same)

    -- of the updates just those with place not above the start stand before it
    same_updates : (i : ℕ) (f : Grant) → f ∈ arranged l.granted → (written f.trace.deeds i ≡ None) ⊎ (seen_by t f ≡ not_behind R f)
    same_updates i f m = ⊎_elim
        (λ e. inr (
        let seen : seen_by t f ≡ leb f.place t.start = ap (λ k. is_update k && within_start t.mode t.start f) e ∙ ap (λ k. within_start k t.start f) reading in
        let first : first_at_place t.mode f.trace.mode R f ≡ false = ap (λ k. first_at_place k f.trace.mode R f) reading ∙ ap (λ k. first_at_place Reader k R f) e in
        seen ∙ ⊎_elim
        (λ lt. lt-leb _ _ lt ∙ sym (ap not (or_left (ltb x.start f.place) _ (lt-ltb _ _ (omega (arith, r.same_start))))))
        (λ le. le-leb _ _ le ∙ sym (ap not (or_from (ltb x.start f.place) _ (le-ltb _ _ (omega (arith, r.same_start))) (and_right (eqb x.start f.place) _ first))))
        (cases_lt t.start f.place)))
        (λ e. inl (((inv.sound f (in_arranged f l.granted m)).as_reader e).clean i))
        (update_or_reader f.trace.mode)

    reader_granting : Granting inv seat x t at s.clock s.passes s.items 0 x.start
    reader_granting = record {
      onward = omega arith;
      stamps = λ i. omega arith;
      by_clock = inv.stamps_by;
      lists = λ i. keeps_unwritten inv.sound i (s.items i).versions (inv.keeps i) R ((r.consistent.as_reader reading).clean i);
      itself = record {
        began_by = r.began_by;
        ended_by = omega arith;
        start_by = r.consistent.start_by;
        as_update = λ e. let z : ◌≡◌ {A = ℕ} 0 1 = cc in absurd (omega arith);
        reader_place = λ _. r.same_start;
        as_reader = λ _. r.consistent.as_reader reading;
      };
      decided = λ f m. ahead_decided R f (reader_apart f m);
      each = each_put_in R (arranged l.granted) (all_rest b) inv.arrayed (λ f m a i sees. (r.consistent.as_reader reading).clean i)
          (answered_agrees t.deeds _ _ (λ i sees. run_same (seen_by t) (not_behind R) (arranged l.granted) (all_rest b) (all_rest b) i (same_updates i) refl) r.consistent.answered) inv.answered;
      others = λ u c. record {
        start_by = c.start_by;
        as_reader = c.as_reader;
        answered = subst (λ gs. Answered u.deeds (run gs (all_rest b))) (sym (kept_put_in (seen_by u) R (arranged l.granted) (ap (λ k. is_update k && within_start u.mode u.start R) reading))) c.answered;
      };
      reach = λ j y u a. a.both.reaches;
    }

  ---- an update

  raised_risen : Risen s.clock s.items (raised s x)
  raised_risen = record {
    stamps = λ i. cond_both (x.marked i) s.clock (s.items i).stamp (λ n. (s.items i).stamp ≤ n) (λ _. inv.stamps_by i) (λ _. omega arith);
    by_clock = λ i. cond_both (x.marked i) s.clock (s.items i).stamp (λ n. n ≤ s.clock) (λ _. omega arith) (λ _. inv.stamps_by i);
    lists = λ i. refl;
  }

  module _ (updates : t.mode ≡ Update) (place : ℕ) (place_fair : Fair b s x place) where
    abbrev U : Grant
    U = record { trace = t; natural = s.clock + 1; place = place; ended = l.calls }

    update_apart : (f : Grant) → f ∈ l.granted → Apart t.mode f.trace.mode U f
    update_apart f m = subst (λ k. Apart k f.trace.mode U f) (sym updates) (go f.trace.mode refl)
      where
        go : (k : Mode) → f.trace.mode ≡ k → Apart Update k U f
        go Update e = λ same. omega (arith, ((inv.sound f m).as_update e).natural_by)
        go Reader e = tt

    update_granting : Granting inv seat x t at (s.clock + 1) s.passes (store b s seat x place).items (s.clock + 1) place
    update_granting = record {
      onward = omega arith;
      stamps = raised_risen.stamps;
      by_clock = λ i. omega (arith, raised_risen.by_clock i);
      lists = lists_keep inv x t r updates place place_fair;
      itself = record {
        began_by = r.began_by;
        ended_by = omega arith;
        start_by = omega (arith, r.consistent.start_by);
        as_update = λ _. record {
          above_start = omega (arith, r.same_start, place_fair.above_start);
          place_by = place_fair.by_next;
          natural_by = omega arith;
          stamped = λ i sees. omega (arith, cond-true (x.marked i) s.clock (s.items i).stamp (r.marks updates i sees).0);
        };
        reader_place = λ e. let z : ◌≡◌ {A = ℕ} 0 1 = cc in absurd (omega arith);
        as_reader = λ e. let z : ◌≡◌ {A = ℕ} 0 1 = cc in absurd (omega arith);
      };
      decided = λ f m. ahead_decided U f (update_apart f m);
      each = each_put_in U (arranged l.granted) (all_rest b) inv.arrayed (λ f m. free_behind inv x t r updates place place_fair f (in_arranged f l.granted m))
          (own_reads inv x t r updates place place_fair) inv.answered;
      others = λ u c. record {
        start_by = omega (arith, c.start_by);
        as_reader = λ e. looked_later raised_risen.stamps u (c.as_reader e);
        answered = consistent_still inv x t r updates place place_fair u c;
      };
      reach = lists_reach inv x t r updates place place_fair;
    }

  ---- the call

  granted_is : (clock passes : ℕ) (items : ℕ → Item) (seats : ℕ → Seat) (pair : ℕ × ℕ) → Inv b (record { clock = clock; passes = passes; items = items; seats = seats }) (count_call (grant_it l seat pair (Some t))) → Inv b (record { clock = clock; passes = passes; items = items; seats = seats }) (count_call (grant_it l seat pair (l.running seat)))
  granted_is clock passes items seats pair k = subst (λ o. Inv b (record { clock = clock; passes = passes; items = items; seats = seats }) (count_call (grant_it l seat pair o))) (sym at.in_log) k

  settle_kept : FourLaws b.rule → (shown : ℕ) → t.mode ≡ Update → (o : Option ℕ) → b.rule (findings b s class x) ≡ o → Kept b l (Commit seat shown) (settle b seat x s o)
  settle_kept laws shown updates None e = drop_kept inv s.passes (raised s x) _ seat (held pass class None) raised_risen leaves tt
  settle_kept laws shown updates (Some place) e = cond_both (ltb (lowest b.items (is_full b s x place)) b.items) _ _ (Kept b l (Commit seat shown))
      (λ _. drop_kept inv s.passes (raised s x) _ seat (held pass class None) raised_risen leaves tt)
      (λ _. granted_is (s.clock + 1) s.passes (store b s seat x place).items (put s.seats seat (runs None (s.seats seat))) (s.clock + 1, place)
      (kept_grant inv seat x t at (s.clock + 1) s.passes (store b s seat x place).items (s.clock + 1) place
      (update_granting updates place (fair inv class x (omega (arith, r.same_start, r.consistent.start_by)) laws place e)) _ pass class leaves))

  pub commit_here_kept : FourLaws b.rule → (shown : ℕ) → Kept b l (Commit seat shown) (commit_in b seat class x s x.mode)
  commit_here_kept laws shown = go x.mode refl
    where
      go : (m : Mode) → x.mode ≡ m → Kept b l (Commit seat shown) (commit_in b seat class x s m)
      go Reader e = granted_is s.clock s.passes s.items (put s.seats seat (runs None (s.seats seat))) (0, x.start)
          (kept_grant inv seat x t at s.clock s.passes s.items 0 x.start (reader_granting (sym r.same_mode ∙ e)) _ pass class leaves)
      go Update e = cond_both (ltb s.clock limit) _ _ (Kept b l (Commit seat shown))
          (λ _. settle_kept laws shown (sym r.same_mode ∙ e) (b.rule (findings b s class x)) refl)
          (λ _. drop_kept inv s.passes s.items _ seat (held pass class None) (risen_same s.clock s.items inv.stamps_by) leaves tt)
