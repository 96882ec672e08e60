-- Each call but commit is answered alike and leaves the two alike.
use Rattle.std.proofs.Common.{◌≡◌, ℕ, ◌+◌, ◌<◌, ◌≤◌, true, false, cond, ◌||◌, eqb, [], Some, None, Ok, Option, sym, refl, ap, ◌∙◌, subst, ⊎_elim, arith}
use Rattle.std.proofs.lemmas.Bool.{ltb-true, le-leb, not-true, or_cases, cases_eq, ne_eqb, cond-false}
use Rattle.calls.specs.declared.call.Class.{Class}
use Rattle.calls.specs.declared.call.Mode.{Mode}
use Rattle.calls.specs.declared.call.Mode.TheVariants.{Reader, Update}
use Rattle.calls.specs.declared.call.Call.TheVariants.{Admit, Revoke, Begin, Read, Write as Writing, Abandon, Show}
use Rattle.calls.specs.declared.reply.Reply.TheVariants.{Done, Start, Code}
use Rattle.history.specs.State.{Setup, Version, Transaction, Seat, empty, held, State, put}
use Rattle.history.specs.Steps.{asked, accept, set_running, runs as seat_runs, admit, revoke, begin, show, newest, natural_by, place_by, read_in, read_by_natural, listed, list_code, running_of, admit_questions, revoke_questions, pass_questions, begin_questions, item_questions, write_questions}
use Rattle.history.specs.Log.{Log}
use Rattle.history.specs.Promise.{◌∈◌}
use Rattle.history.proofs.Invariant.{Inv, board_has}
use Rattle.history.proofs.Picks.{version_by}
use Rattle.history.proofs.Kept.{put_same, put_cases}
use Rattle.history.proofs.KeptCalls.{listed_code}
use Rattle.history.proofs.Asked.{asked_cases, is_empty, is_held_by}
use Rattle.published.specs.Algorithm.{Var, Tx, Machine, visible, latest, read_by, update_read, semi_visible_read, early_abort, nothing_found}
use Rattle.published.specs.Beside.{FrontPart}
use Rattle.published.proofs.Fronts.{reader_passes, update_passes, visible_front, latest_front}
use Rattle.published.proofs.Spared.{early_dooms}
use Rattle.published.proofs.Same.{Dooms, Good, Paired, lists_of, Same, Step, agrees_as, partner, in_tx_is, paired_lists, paired_put, runs_there}

module _ {b : Setup} {s : State} {l : Log} {m : Machine} (inv : Inv b s l) (both : Same b s m) where
  -- every list reaches down to what an open transaction may look at
  pub reach : (seat : ℕ) (x : Transaction) → running_of (s.seats seat) ≡ Some x → (i : ℕ) → (v : Version) × (v ∈ (s.items i).versions) × (v.natural ≤ x.start)
  reach seat x e i =
      let t = board_has inv seat x e in
      let w = t.1.both.reaches i in
      (w.0, w.1, omega (arith, w.2, t.1.both.same_start))

  pub place_by_natural : (i : ℕ) (v : Version) → v ∈ (s.items i).versions → v.place ≤ v.natural
  place_by_natural i v n = (version_by inv.sound i (s.items i).versions v (inv.keeps i) n).0

  -- only the transactions change
  pub others : (seat : ℕ) (y : Seat) (t : Option Tx) (passes : ℕ) → Paired b (lists_of m) (running_of y) t
      → Same b (record { clock = s.clock; passes = passes; items = s.items; seats = put s.seats seat y }) (record { clock = m.clock; vars = m.vars; running = put m.running seat t })
  others seat y t passes p = record {
    clock = both.clock;
    stamps = both.stamps;
    lists = both.lists;
    paired = paired_put b (lists_of m) s.seats m.running seat y t both.paired p;
  }

  pub admit_step : (seat : ℕ) (class : Class) → Step b m (Admit seat class) (admit b seat class s)
  admit_step seat class = asked_cases (Step b m (Admit seat class)) (admit_questions b seat s) s _ ((tt, both), ((tt, both), ((tt, both), tt))) λ ys.
      let e = is_empty (s.seats seat) (not-true _ ys.1.0) in (
        tt,
        record {
          clock = both.clock;
          stamps = both.stamps;
          lists = both.lists;
          paired = λ k. put_cases (λ (y : Seat). Paired b (lists_of m) (running_of y) (m.running k)) s.seats seat (held (s.passes + 1) class None) k
              (λ d. subst (λ (y : Seat). Paired b (lists_of m) (running_of y) (m.running k)) (ap s.seats d ∙ e) (both.paired k)) (both.paired k);
        },
      )

  pub revoke_step : (seat : ℕ) → Step b m (Revoke seat) (revoke b seat s)
  revoke_step seat = asked_cases (Step b m (Revoke seat)) (revoke_questions b seat s) s _ ((tt, both), ((tt, both), tt)) λ ys.
      (refl, others seat empty None s.passes tt)

  pub show_step : (item : ℕ) → Step b m (Show item) (show b item s)
  show_step item = asked_cases (Step b m (Show item)) (item_questions b item) s _ ((tt, both), tt) λ ys.
      let p = both.lists item in
      let w = (inv.keeps item).some in
      (ap (λ c. Ok (Code c)) (ap (latest b.rest) p.1 ∙ latest_front b p.0 (s.items item).versions w.0 w.1), both)

  pub begin_step : (seat pass : ℕ) (mode : Mode) → Step b m (Begin seat pass mode) (begin b seat pass mode s)
  begin_step seat pass mode = asked_cases (Step b m (Begin seat pass mode)) (pass_questions b seat pass s) s _ ((tt, both), ((tt, both), ((tt, both), tt))) λ ys.
      asked_cases (Step b m (Begin seat pass mode)) (begin_questions seat s) s _ ((tt, both), tt) λ zs.
      let h = is_held_by (s.seats seat) ys.1.0 in (
        ap (λ n. Ok (Start n)) (sym both.clock),
        others seat _ _ s.passes (runs_there b (lists_of m) (s.seats seat) h.0 h.1 _ (Some (record { mode = mode; start = s.clock; marked = λ _. false; writes = [] })) _ h.2 (record {
          same = record { mode = refl; start = both.clock; marks = λ _. refl; writes = λ _. refl };
          known = λ i c e. let z : ◌≡◌ {A = ℕ} 0 1 = cc in absurd (omega arith);
          doomed = λ e. let z : ◌≡◌ {A = ℕ} 0 1 = cc in absurd (omega arith);
        })),
      )

  -- a seat's open transaction, on both sides
  pub at_seat : (seat pass : ℕ) (class : Class) (x : Transaction) → s.seats seat ≡ held pass class (Some x) → (tx : Tx) × (m.running seat ≡ Some tx) × Good b (lists_of m) x tx
  at_seat seat pass class x e = partner x (m.running seat) (subst (λ (y : Seat). Paired b (lists_of m) (running_of y) (m.running seat)) e (both.paired seat))

  module _ (seat pass : ℕ) (class : Class) (x : Transaction) (on_board : s.seats seat ≡ held pass class (Some x)) (tx : Tx) (in_machine : m.running seat ≡ Some tx) (good : Good b (lists_of m) x tx) where
    pub reached : (i : ℕ) → (v : Version) × (v ∈ (s.items i).versions) × (v.natural ≤ x.start)
    reached = reach seat x (ap running_of on_board)

    -- the seat's transaction is now y, or none
    pub becomes : (y : Option Transaction) (t : Option Tx) → Paired b (lists_of m) y t → Paired b (lists_of m) (running_of (seat_runs y (s.seats seat))) t
    becomes y t p = runs_there b (lists_of m) (s.seats seat) pass class (Some x) y t on_board p

    ---- a read

    reader_value : (item : ℕ) → visible b.rest Reader tx.start (m.vars item).versions ≡ (newest b (place_by x.start) (s.items item).versions).code
    reader_value item =
        let p = both.lists item in
        let r = reached item in
        ap (λ n. visible b.rest Reader n (m.vars item).versions) (sym good.same.start)
        ∙ ap (visible b.rest Reader x.start) p.1
        ∙ visible_front b Reader x.start (place_by x.start) p.0 (s.items item).versions r.0
        (λ v _. reader_passes x.start v) r.1 (le-leb _ _ (omega (arith, r.2, place_by_natural item r.0 r.1)))

    update_value : (item : ℕ) → visible b.rest Update tx.start (m.vars item).versions ≡ (newest b (natural_by x.start) (s.items item).versions).code
    update_value item =
        let p = both.lists item in
        let r = reached item in
        ap (λ n. visible b.rest Update n (m.vars item).versions) (sym good.same.start)
        ∙ ap (visible b.rest Update x.start) p.1
        ∙ visible_front b Update x.start (natural_by x.start) p.0 (s.items item).versions r.0
        (λ v n. update_passes x.start v (place_by_natural item v n)) r.1 (le-leb _ _ r.2)

    -- a reader leaves a stamp
    stamped : (item : ℕ) → Same b
        (record { clock = s.clock; passes = s.passes; items = put s.items item (record { stamp = s.clock; versions = (s.items item).versions }); seats = s.seats })
        (record { clock = m.clock; vars = put m.vars item (semi_visible_read m.clock (m.vars item)); running = m.running })
    stamped item = record {
      clock = both.clock;
      stamps = λ i. elim (eqb i item) as (λ k. (cond k (record { stamp = s.clock; versions = (s.items item).versions }) (s.items i)).stamp ≡ (cond k (semi_visible_read m.clock (m.vars item)) (m.vars i)).read_stamp) [
        | true ↦ omega (arith, both.clock, both.stamps item, inv.stamps_by item)
        | false ↦ both.stamps i
      ];
      lists = λ i. elim (eqb i item) as (λ k. FrontPart (cond k (record { stamp = s.clock; versions = (s.items item).versions }) (s.items i)).versions (cond k (semi_visible_read m.clock (m.vars item)) (m.vars i)).versions) [
        | true ↦ both.lists item
        | false ↦ both.lists i
      ];
      paired = λ k. paired_lists b (lists_of m) _
          (λ i. put_cases (λ (y : Var). (m.vars i).versions ≡ y.versions) m.vars item (semi_visible_read m.clock (m.vars item)) i (λ e. ap (λ j. (m.vars j).versions) e) refl)
          (running_of (s.seats k)) (m.running k) (both.paired k);
    }

    -- the item that is read joins the read set
    marked_good : (item : ℕ) → item < b.items → tx.mode ≡ Update → Good b (lists_of m)
        (record { mode = x.mode; start = x.start; marked = put x.marked item true; writes = x.writes })
        (record { mode = tx.mode; start = tx.start; read_set = put tx.read_set item true; write_set = tx.write_set; spared = early_abort tx.start (m.vars item).versions || tx.spared })
    marked_good item below mode = record {
      same = record {
        mode = good.same.mode;
        start = good.same.start;
        marks = λ i. elim (eqb i item) as (λ k. cond k true (x.marked i) ≡ cond k true (tx.read_set i)) [ true ↦ refl | false ↦ good.same.marks i ];
        writes = good.same.writes;
      };
      known = good.known;
      doomed = λ e. ⊎_elim
          (λ d. (mode, item, below, put_same tx.read_set item true, dooms d))
          (λ d. let g = good.doomed d in (g.0, g.1, g.2, put_cases (λ k. k ≡ true) tx.read_set item true g.1 (λ _. refl) g.3, g.4))
          (or_cases (early_abort tx.start (m.vars item).versions) _ e);
    }
      where
        dooms : early_abort tx.start (m.vars item).versions ≡ true → Dooms tx.start (m.vars item).versions
        dooms d =
            let p = both.lists item in
            let r = reached item in
            subst (Dooms tx.start) (sym p.1)
            (early_dooms tx.start p.0 (s.items item).versions r.0 nothing_found (place_by_natural item) r.1 (omega (arith, r.2, good.same.start)) (subst (λ vs. early_abort tx.start vs ≡ true) p.1 d))

    read_in_step : (shown item : ℕ) → item < b.items → Step b m (Read seat shown item) (read_in b seat item x s x.mode)
    read_in_step shown item below = by_mode x.mode refl
      where
        by_list : (o : Option ℕ) → listed item x.writes ≡ o → tx.mode ≡ Update → Step b m (Read seat shown item) (read_by_natural b seat item x s o)
        by_list (Some code) e mode = agrees_as b m _ _ _
            (in_tx_is m (m.running seat) _ tx in_machine ∙ ap (read_by b seat item tx m) mode ∙ ap (update_read b seat item tx m) (sym (good.same.writes item) ∙ e))
            (refl, both)
        by_list None e mode = agrees_as b m _ _ _
            (in_tx_is m (m.running seat) _ tx in_machine ∙ ap (read_by b seat item tx m) mode ∙ ap (update_read b seat item tx m) (sym (good.same.writes item) ∙ e))
            (ap (λ c. Ok (Code c)) (update_value item), others seat _ _ s.passes (becomes (Some _) (Some _) (marked_good item below mode)))

        by_mode : (k : Mode) → x.mode ≡ k → Step b m (Read seat shown item) (read_in b seat item x s k)
        by_mode Reader e = agrees_as b m _ _ _
            (in_tx_is m (m.running seat) _ tx in_machine ∙ ap (read_by b seat item tx m) (sym good.same.mode ∙ e))
            (ap (λ c. Ok (Code c)) (reader_value item), stamped item)
        by_mode Update e = by_list (listed item x.writes) refl (sym good.same.mode ∙ e)

    pub read_here : (shown item : ℕ) → Step b m (Read seat shown item) (asked (item_questions b item) s (read_in b seat item x s x.mode))
    read_here shown item = asked_cases (Step b m (Read seat shown item)) (item_questions b item) s _ ((tt, both), tt) λ ys. read_in_step shown item (ltb-true _ _ ys.0)

    ---- a write

    -- a twelfth refusal is told to the machine, which ignores the write
    pub write_here : (shown item code : ℕ) → Step b m (Writing seat shown item code) (asked (write_questions b item code x) s (accept Done (set_running s seat (Some (record { mode = x.mode; start = x.start; marked = x.marked; writes = list_code item code x.writes })))))
    write_here shown item code = asked_cases (Step b m (Writing seat shown item code)) (write_questions b item code x) s _
        ((tt, both), ((tt, both), ((tt, both), (agrees_as b m _ _ _ (in_tx_is m (m.running seat) _ tx in_machine) (refl, both), tt)))) λ ys.
        agrees_as b m _ _ _ (in_tx_is m (m.running seat) _ tx in_machine) (
          refl,
          others seat _ _ s.passes (becomes (Some _) (Some _) (record {
            same = record {
              mode = good.same.mode;
              start = good.same.start;
              marks = good.same.marks;
              writes = λ i. listed_code i item code x.writes ∙ ap (cond (eqb i item) (Some code)) (good.same.writes i);
            };
            known = λ i c e. ⊎_elim
                (λ d. subst (λ j. j < b.items) (sym d) (ltb-true _ _ ys.0))
                (λ far. good.known i c (sym (listed_code i item code x.writes ∙ cond-false (eqb i item) (Some code) (listed i x.writes) (ne_eqb _ _ far)) ∙ e))
                (cases_eq i item);
            doomed = good.doomed;
          })),
        )

    ---- the transaction is dropped

    pub abandon_here : (shown : ℕ) → Step b m (Abandon seat shown) (accept Done (set_running s seat None))
    abandon_here shown = (refl, others seat _ None s.passes (becomes None None tt))
