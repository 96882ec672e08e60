-- Each call keeps the invariant.
use Rattle.std.proofs.Common.{◌≡◌, ℕ, ◌+◌, ◌<◌, ◌≤◌, true, false, cond, ◌&&◌, eqb, List, [], ◌∷◌, Some, None, filter, Option, sym, refl, ap, ◌∙◌, subst, ⊎_elim, arith}
use Rattle.std.proofs.lemmas.Bool.{ltb-true, not-true, cases_eq, eqb-true, eqb-false, eq-eqb, ne_eqb, cond-true, cond-false}
use Rattle.calls.specs.declared.call.Class.{Class}
use Rattle.calls.specs.declared.call.Mode.{Mode}
use Rattle.calls.specs.declared.call.Mode.TheVariants.{Reader, Update}
use Rattle.calls.specs.declared.call.Call.{Call}
use Rattle.calls.specs.declared.call.Call.TheVariants.{Admit, Revoke, Begin, Read, Write as Writing, Abandon, Show}
use Rattle.calls.specs.declared.write.Write.{Write}
use Rattle.history.specs.State.{Setup, Item, Transaction, empty, held, State, put}
use Rattle.calls.specs.declared.reply.Reply.TheVariants.{Done}
use Rattle.history.specs.Steps.{Outcome, asked, accept, set_running, admit, revoke, begin, show, listed, list_code, newest, natural_by, place_by, running_of, runs, read_in, read_by_natural, is_update, admit_questions, revoke_questions, pass_questions, begin_questions, item_questions, write_questions}
use Rattle.history.specs.Log.{begun, and_read, Trace, Grant, Log, note, count_call}
use Rattle.history.specs.Order.{arranged}
use Rattle.history.specs.Run.{run, all_rest, seen_by, after, within_start}
use Rattle.history.specs.Promise.{◌∈◌}
use Rattle.history.proofs.Runs.{written, Sees, after_none, after_some}
use Rattle.history.proofs.Versions.{run_leaves}
use Rattle.history.proofs.Invariant.{Sound, Running, Inv, log_has, log_none}
use Rattle.history.proofs.Picks.{update_or_reader, version_by, natural_picked, place_picked}
use Rattle.history.proofs.Kept.{put_same, put_other, put_cases, Risen, risen_same, Changed, changed_put, changed_not, kept, idle, does_kept, drop_kept}
use Rattle.history.proofs.Asked.{asked_cases, is_held_by, is_empty, is_none}

-- what a call makes of the board and of the log
abbrev pub Kept : Setup → Log → Call → Outcome → Type 0
Kept b l call o = Inv b o.after (count_call (note l call o.answer))

pub place_by_clock : (clock calls : ℕ) (items : ℕ → Item) (g : Grant) → Sound clock calls items g → g.place ≤ clock
place_by_clock clock calls items g k = ⊎_elim
    (λ e. let u = k.as_update e in omega (arith, u.place_by, u.natural_by))
    (λ e. omega (arith, k.reader_place e, k.start_by))
    (update_or_reader g.trace.mode)

-- what is listed once a code is
pub listed_code : (i item code : ℕ) (ws : List Write) → listed i (list_code item code ws) ≡ cond (eqb i item) (Some code) (listed i ws)
listed_code i item code [] = ⊎_elim
    (λ e. cond-true _ _ _ (eq-eqb item i (sym e)) ∙ sym (cond-true _ _ _ (eq-eqb i item e)))
    (λ far. cond-false _ _ _ (ne_eqb item i (λ e. far (sym e))) ∙ sym (cond-false _ _ _ (ne_eqb i item far)))
    (cases_eq i item)
listed_code i item code (w ∷ ws) =
    (elim (eqb w.item item) as (λ k. eqb w.item item ≡ k → listed i (cond k (record { item = item; code = code } ∷ ws) (w ∷ list_code item code ws)) ≡ cond (eqb i item) (Some code) (cond (eqb w.item i) (Some w.code) (listed i ws))) [
      | true ↦ λ e. let same = eqb-true _ _ e in ⊎_elim
          (λ d. cond-true _ _ _ (eq-eqb item i (sym d)) ∙ sym (cond-true _ _ _ (eq-eqb i item d)))
          (λ far. cond-false _ _ _ (ne_eqb item i (λ d. far (sym d))) ∙ sym (cond-false _ _ _ (ne_eqb i item far) ∙ cond-false _ _ _ (ne_eqb w.item i (λ d. far (sym d ∙ same)))))
          (cases_eq i item)
      | false ↦ λ e. let other = eqb-false _ _ e in ap (cond (eqb w.item i) (Some w.code)) (listed_code i item code ws) ∙ ⊎_elim
          (λ d. cond-false _ _ _ (ne_eqb w.item i (λ c. other (c ∙ d))) ∙ cond-true _ _ _ (eq-eqb i item d) ∙ sym (cond-true _ _ _ (eq-eqb i item d)))
          (λ far. ap (cond (eqb w.item i) (Some w.code)) (cond-false _ _ _ (ne_eqb i item far)) ∙ sym (cond-false _ _ _ (ne_eqb i item far)))
          (cases_eq i item)
    ]) refl

updating : (m : Mode) → is_update m ≡ true → m ≡ Update
updating Update e = refl
updating Reader e = let z : ◌≡◌ {A = ℕ} 0 1 = cc in absurd (omega arith)

module _ {b : Setup} {s : State} {l : Log} (inv : Inv b s l) where
  same_items : Risen s.clock s.items s.items
  same_items = risen_same s.clock s.items inv.stamps_by

  pub admit_kept : (seat : ℕ) (class : Class) → Kept b l (Admit seat class) (admit b seat class s)
  admit_kept seat class = asked_cases (Kept b l (Admit seat class)) (admit_questions b seat s) s _ (idle inv, (idle inv, (idle inv, tt))) λ ys.
      let e = is_empty (s.seats seat) (not-true _ ys.1.0) in
      let none = log_none inv seat (ap running_of e) in
      kept inv (s.passes + 1) s.items _ l.running l.dropped seat (held (s.passes + 1) class None) None same_items (changed_put s.seats seat _) (changed_not l.running seat None none)
      tt (λ t m. inv.dropped t m) (λ t d. let z : ◌≡◌ {A = ℕ} 0 1 = cc in absurd (omega arith)) (λ t d. let z : ◌≡◌ {A = ℕ} 0 1 = cc in absurd (omega arith))

  pub revoke_kept : (seat : ℕ) → Kept b l (Revoke seat) (revoke b seat s)
  revoke_kept seat = asked_cases (Kept b l (Revoke seat)) (revoke_questions b seat s) s _ (idle inv, (idle inv, tt)) λ ys.
      drop_kept inv s.passes s.items _ seat empty same_items (changed_put s.seats seat empty) tt

  pub show_kept : (item : ℕ) → Kept b l (Show item) (show b item s)
  show_kept item = asked_cases (Kept b l (Show item)) (item_questions b item) s _ (idle inv, tt) λ ys. idle inv

  -- a new transaction
  begun_now : (mode : Mode) → Running b s.clock (l.calls + 1) s.items l.granted (record { mode = mode; start = s.clock; marked = λ _. false; writes = [] }) (record { began = l.calls; mode = mode; start = s.clock; deeds = begun })
  begun_now mode = record {
    same_mode = refl;
    same_start = refl;
    same_writes = λ i. refl;
    marks = λ _ i sees. absurd sees;
    began_by = omega arith;
    consistent = record { start_by = omega arith; as_reader = λ _. record { clean = λ i. refl; stamped = λ i sees. absurd sees }; answered = tt };
    reaches = λ i. let w = (inv.keeps i).some in (w.0, w.1, (version_by inv.sound i (s.items i).versions w.0 (inv.keeps i) w.1).1);
    since = λ g m _. place_by_clock _ _ _ g (inv.sound g m);
    new_trace = λ g m e. omega (arith, (inv.sound g m).began_by, (inv.sound g m).ended_by);
  }

  pub begin_kept : (seat pass : ℕ) (mode : Mode) → Kept b l (Begin seat pass mode) (begin b seat pass mode s)
  begin_kept seat pass mode = asked_cases (Kept b l (Begin seat pass mode)) (pass_questions b seat pass s) s _ (idle inv, (idle inv, (idle inv, tt))) λ ys.
      asked_cases (Kept b l (Begin seat pass mode)) (begin_questions seat s) s _ (idle inv, tt) λ zs.
      let h = is_held_by (s.seats seat) ys.1.0 in
      let none = is_none _ (not-true _ zs.0) in
      let x : Transaction = record { mode = mode; start = s.clock; marked = λ _. false; writes = [] } in
      let t : Trace = record { began = l.calls; mode = mode; start = s.clock; deeds = begun } in
      kept inv s.passes s.items _ _ l.dropped seat (held h.0 h.1 (Some x)) (Some t) same_items
      (record { here = put_same s.seats seat _ ∙ ap (runs (Some x)) h.2; elsewhere = put_other s.seats seat _ })
      (changed_put l.running seat (Some t)) (begun_now mode) (λ u m. inv.dropped u m) (λ u d. ltb-true _ _ ys.0)
      (λ u d j v e same. let w = (log_has inv j v e).1.both.began_by in let is : u.began ≡ l.calls = cc in absurd (omega arith))

  -- a reader leaves a stamp
  abbrev stamped_at : ℕ → Item
  stamped_at item = record { stamp = s.clock; versions = (s.items item).versions }

  stamp_risen : (item : ℕ) → Risen s.clock s.items (put s.items item (stamped_at item))
  stamp_risen item = record {
    stamps = λ i. put_cases (λ (y : Item). (s.items i).stamp ≤ y.stamp) s.items item (stamped_at item) i (λ _. inv.stamps_by i) (omega arith);
    by_clock = λ i. put_cases (λ (y : Item). y.stamp ≤ s.clock) s.items item (stamped_at item) i (λ _. omega arith) (inv.stamps_by i);
    lists = λ i. put_cases (λ (y : Item). y.versions ≡ (s.items i).versions) s.items item (stamped_at item) i (λ e. ap (λ j. (s.items j).versions) (sym e)) refl;
  }

  ---- a seat's open transaction x, traced by t

  module _ (seat pass : ℕ) (class : Class) (x : Transaction) (on_board : s.seats seat ≡ held pass class (Some x)) (t : Trace) (in_log : l.running seat ≡ Some t) (r : Running b s.clock l.calls s.items l.granted x t) where
    not_reader : t.mode ≡ Update → t.mode ≡ Reader → ⊥
    not_reader p q = let z : ◌≡◌ {A = ℕ} 0 1 = cc in absurd (omega arith)

    still : Changed s.seats s.seats seat (held pass class (Some x))
    still = changed_not s.seats seat _ on_board

    -- the transaction y in its place
    becomes : (y : Transaction) → Changed s.seats (put s.seats seat (runs (Some y) (s.seats seat))) seat (held pass class (Some y))
    becomes y = record { here = put_same s.seats seat _ ∙ ap (runs (Some y)) on_board; elsewhere = put_other s.seats seat _ }

    leaves : Changed s.seats (put s.seats seat (runs None (s.seats seat))) seat (held pass class None)
    leaves = record { here = put_same s.seats seat _ ∙ ap (runs None) on_board; elsewhere = put_other s.seats seat _ }

    -- what a reader reads is what its copy has
    reader_code : (item : ℕ) → t.mode ≡ Reader → (newest b (place_by x.start) (s.items item).versions).code ≡ run (filter (seen_by t) (arranged l.granted)) (all_rest b) item
    reader_code item e =
        let w = r.reaches item in
        let low = (version_by inv.sound item (s.items item).versions w.0 (inv.keeps item) w.1).0 in
        let last = place_picked inv.sound b item t.start (s.items item).versions (seen_by t) (inv.keeps item) (λ g. ap (λ k. is_update g.trace.mode && within_start k t.start g) e) w.0 w.1 (omega (arith, w.2)) in
        ap (λ n. (newest b (place_by n) (s.items item).versions).code) r.same_start ∙ sym (run_leaves b l.granted item (seen_by t) _ inv.arrayed last)

    update_code : (item : ℕ) → t.mode ≡ Update → (newest b (natural_by x.start) (s.items item).versions).code ≡ run (filter (seen_by t) (arranged l.granted)) (all_rest b) item
    update_code item e =
        let w = r.reaches item in
        let last = natural_picked inv.sound b item t.start (s.items item).versions (seen_by t) (inv.keeps item) (λ g. ap (λ k. is_update g.trace.mode && within_start k t.start g) e) w.0 w.1 w.2 in
        ap (λ n. (newest b (natural_by n) (s.items item).versions).code) r.same_start ∙ sym (run_leaves b l.granted item (seen_by t) _ inv.arrayed last)

    -- one read more
    reads : (y : Transaction) (items : ℕ → Item) (item code : ℕ) → y.mode ≡ x.mode → y.start ≡ x.start → y.writes ≡ x.writes
        → Risen s.clock s.items items
        → (t.mode ≡ Update → (i : ℕ) → Sees (and_read t.deeds item code) i → (y.marked i ≡ true) × (i < b.items))
        → (t.mode ≡ Reader → t.start ≤ (items item).stamp)
        → after t.deeds (run (filter (seen_by t) (arranged l.granted)) (all_rest b)) item ≡ code
        → Running b s.clock (l.calls + 1) items l.granted y (record { began = t.began; mode = t.mode; start = t.start; deeds = and_read t.deeds item code })
    reads y items item code em es ew risen marks stamp is = record {
      same_mode = em ∙ r.same_mode;
      same_start = es ∙ r.same_start;
      same_writes = λ i. ap (listed i) ew ∙ r.same_writes i;
      marks = marks;
      began_by = omega (arith, r.began_by);
      consistent = record {
        start_by = r.consistent.start_by;
        as_reader = λ e. let k = r.consistent.as_reader e in record {
          clean = k.clean;
          stamped = λ i sees. ⊎_elim (λ old. omega (arith, k.stamped i old, risen.stamps i)) (λ p. subst (λ j. t.start ≤ (items j).stamp) (sym p.0) (stamp e)) sees;
        };
        answered = (r.consistent.answered, is);
      };
      reaches = λ i. let w = r.reaches i in (w.0, subst (λ vs. w.0 ∈ vs) (sym (risen.lists i)) w.1, w.2);
      since = r.since;
      new_trace = r.new_trace;
    }

    unwritten_reader : t.mode ≡ Reader → (item : ℕ) → written t.deeds item ≡ None
    unwritten_reader e item = (r.consistent.as_reader e).clean item

    read_in_kept : (shown item : ℕ) → item < b.items → Kept b l (Read seat shown item) (read_in b seat item x s x.mode)
    read_in_kept shown item below = by_mode x.mode refl
      where
        by_list : (o : Option ℕ) → listed item x.writes ≡ o → t.mode ≡ Update → Kept b l (Read seat shown item) (read_by_natural b seat item x s o)
        by_list (Some code) e m = does_kept inv s.passes s.items s.seats seat pass class x t (λ d. and_read d item code) in_log same_items still
            (reads x s.items item code refl refl refl same_items
            (λ m i sees. ⊎_elim (r.marks m i) (λ p. let z : ◌≡◌ {A = ℕ} 0 1 = cc (p.1, r.same_writes item, e, ap (written t.deeds) p.0) in absurd (omega arith)) sees)
            (λ q. absurd (not_reader m q))
            (after_some t.deeds _ item code (sym (r.same_writes item) ∙ e)))
        by_list None e m = does_kept inv s.passes s.items _ seat pass class (record { mode = x.mode; start = x.start; marked = put x.marked item true; writes = x.writes }) t _ in_log same_items (becomes _)
            (reads _ s.items item _ refl refl refl same_items
            (λ m i sees. ⊎_elim
            (λ old. let k = r.marks m i old in (put_cases (λ k. k ≡ true) x.marked item true i (λ _. refl) k.0, k.1))
            (λ p. (ap (put x.marked item true) p.0 ∙ put_same x.marked item true, subst (λ j. j < b.items) (sym p.0) below))
            sees)
            (λ q. absurd (not_reader m q))
            (after_none t.deeds _ item (sym (r.same_writes item) ∙ e) ∙ sym (update_code item m)))

        by_mode : (m : Mode) → x.mode ≡ m → Kept b l (Read seat shown item) (read_in b seat item x s m)
        by_mode Reader e =
            let m = sym r.same_mode ∙ e in
            does_kept inv s.passes _ s.seats seat pass class x t _ in_log (stamp_risen item) still
            (reads x _ item _ refl refl refl (stamp_risen item)
            (λ u. absurd (not_reader u m))
            (λ _. subst (λ (y : Item). t.start ≤ y.stamp) (sym (put_same s.items item (stamped_at item))) r.consistent.start_by)
            (after_none t.deeds _ item (unwritten_reader m item) ∙ sym (reader_code item m)))
        by_mode Update e = by_list (listed item x.writes) refl (sym r.same_mode ∙ e)

    pub read_here_kept : (shown item : ℕ) → Kept b l (Read seat shown item) (asked (item_questions b item) s (read_in b seat item x s x.mode))
    read_here_kept shown item = asked_cases (Kept b l (Read seat shown item)) (item_questions b item) s _ (idle inv, tt) λ ys. read_in_kept shown item (ltb-true _ _ ys.0)

    -- one write more
    pub write_here_kept : (shown item code : ℕ) → Kept b l (Writing seat shown item code) (asked (write_questions b item code x) s (accept Done (set_running s seat (Some (record { mode = x.mode; start = x.start; marked = x.marked; writes = list_code item code x.writes })))))
    write_here_kept shown item code = asked_cases (Kept b l (Writing seat shown item code)) (write_questions b item code x) s _ (idle inv, (idle inv, (idle inv, (idle inv, tt)))) λ ys.
        let m = sym r.same_mode ∙ updating x.mode ys.1.0 in
        does_kept inv s.passes s.items _ seat pass class _ t _ in_log same_items (becomes _) (record {
          same_mode = r.same_mode;
          same_start = r.same_start;
          same_writes = λ i. listed_code i item code x.writes ∙ ap (cond (eqb i item) (Some code)) (r.same_writes i);
          marks = r.marks;
          began_by = omega (arith, r.began_by);
          consistent = record { start_by = r.consistent.start_by; as_reader = λ e. absurd (not_reader m e); answered = r.consistent.answered };
          reaches = r.reaches;
          since = r.since;
          new_trace = r.new_trace;
        })

    -- the transaction is dropped
    pub abandon_here_kept : (shown : ℕ) → Kept b l (Abandon seat shown) (accept Done (set_running s seat None))
    abandon_here_kept shown = drop_kept inv s.passes s.items _ seat (held pass class None) same_items leaves tt
