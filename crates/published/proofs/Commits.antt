-- A commit is answered alike and leaves the two alike.
use Rattle.std.proofs.Common.{◌≡◌, ℕ, ◌+◌, ◌<◌, ◌≤◌, true, false, cond, ltb, List, is_ok, Some, None, Ok, Err, Option, sym, refl, ap, ◌∙◌, subst, arith}
use Rattle.std.proofs.lemmas.Bool.{or_left, both_ways, cond-true, cond-false, cond_both}
use Rattle.calls.specs.declared.call.Class.{Class}
use Rattle.calls.specs.declared.call.Mode.{Mode}
use Rattle.calls.specs.declared.call.Mode.TheVariants.{Reader, Update}
use Rattle.calls.specs.declared.call.Call.TheVariants.{Commit}
use Rattle.calls.specs.declared.reply.Reply.TheVariants.{Granted}
use Rattle.calls.specs.declared.refusal.Refusal.TheVariants.{RuleRefuses, VersionsFull, ClockSpent}
use Rattle.rules.specs.Laws.{FourLaws}
use Rattle.rules.specs.WarpAnswers.{warp_answers}
use Rattle.history.specs.State.{Setup, Version, Transaction, held, State, put}
use Rattle.history.specs.Steps.{Outcome as BoardOutcome, runs as seat_runs, commit_in, settle, raised, raise_and_drop, store, stored, lowest, is_full, limit, findings, listed, running_of, cut_down, least_start}
use Rattle.history.specs.Log.{Log}
use Rattle.history.specs.Promise.{◌∈◌}
use Rattle.history.proofs.Invariant.{Inv, board_has}
use Rattle.history.proofs.Granting.{fair, cut_is, least_below}
use Rattle.published.specs.Algorithm.{in_tx, Ver, Tx, Machine, Bounds, nothing_found, handle_writes, semi_visible_read, read_visibly, drops, abort, validated, fails, time_warp, written, create_new_version, stores, passed, commit_by}
use Rattle.published.specs.Beside.{told, FrontPart, as_ver}
use Rattle.published.proofs.Fronts.{create_front, front_of_front}
use Rattle.published.proofs.Spared.{create_dooms, each_dooms}
use Rattle.published.proofs.Validations.{Verdict, verdict, named_same}
use Rattle.published.proofs.Same.{Dooms, Good, Paired, lists_of, Same, Step, agrees_as, in_tx_is, paired_lists, paired_put, runs_there}
use Rattle.published.proofs.Calls.{place_by_natural, reached}

module _ {b : Setup} {s : State} {l : Log} {m : Machine} (inv : Inv b s l) (both : Same b s m)
    (seat pass : ℕ) (class : Class) (x : Transaction) (on_board : s.seats seat ≡ held pass class (Some x)) (tx : Tx) (in_machine : m.running seat ≡ Some tx) (good : Good b (lists_of m) x tx) where
  -- the transaction ends, on both sides
  leaves : (lists : ℕ → List Ver) → ((k : ℕ) → Paired b lists (running_of (s.seats k)) (m.running k))
      → (k : ℕ) → Paired b lists (running_of (put s.seats seat (seat_runs None (s.seats seat)) k)) (put m.running seat None k)
  leaves lists all = paired_put b lists s.seats m.running seat (seat_runs None (s.seats seat)) None all (runs_there b lists (s.seats seat) pass class (Some x) None None on_board tt)

  ---- the visible reads

  stamps_raised : (i : ℕ) → (raised s x i).stamp ≡ (read_visibly m tx i).read_stamp
  stamps_raised i =
      ap (λ k. cond k s.clock (s.items i).stamp) (good.same.marks i)
      ∙ elim (tx.read_set i) as (λ k. cond k s.clock (s.items i).stamp ≡ (cond k (semi_visible_read m.clock (m.vars i)) (m.vars i)).read_stamp) [
        | true ↦ omega (arith, both.clock, both.stamps i, inv.stamps_by i)
        | false ↦ both.stamps i
      ]

  lists_stay : (i : ℕ) → (m.vars i).versions ≡ (read_visibly m tx i).versions
  lists_stay i = elim (tx.read_set i) as (λ k. (m.vars i).versions ≡ (cond k (semi_visible_read m.clock (m.vars i)) (m.vars i)).versions) [ true ↦ refl | false ↦ refl ]

  dropped : Same b (raise_and_drop s seat x) (drops m tx seat)
  dropped = record {
    clock = both.clock;
    stamps = stamps_raised;
    lists = λ i. subst (FrontPart (s.items i).versions) (lists_stay i) (both.lists i);
    paired = leaves (λ i. (read_visibly m tx i).versions) (λ k. paired_lists b (lists_of m) _ lists_stay (running_of (s.seats k)) (m.running k) (both.paired k));
  }

  ---- the new versions

  module _ (laws : FourLaws b.rule) (updates : x.mode ≡ Update) (place : ℕ) (granted : b.rule (findings b s class x) ≡ Some place) where
    lists_stored : (i : ℕ) → FrontPart (stored b s x place i (listed i x.writes)) (written (s.clock + 1) place (tx.write_set i) (m.vars i).versions)
    lists_stored i = subst (λ o. FrontPart (stored b s x place i (listed i x.writes)) (written (s.clock + 1) place o (m.vars i).versions)) (good.same.writes i) (go (listed i x.writes))
      where
        go : (o : Option ℕ) → FrontPart (stored b s x place i o) (written (s.clock + 1) place o (m.vars i).versions)
        go None = both.lists i
        go (Some c) =
            let t = board_has inv seat x (ap running_of on_board) in
            let r = t.1.both in
            let can = fair inv class x (omega (arith, r.same_start, r.consistent.start_by)) laws place granted in
            let mode = sym r.same_mode ∙ updates in
            let cut = cut_is inv x t.0 r mode place can i in
            let p = front_of_front (least_start b s x) (s.items i).versions (m.vars i).versions (both.lists i) in
            let n : Version = record { code = c; natural = s.clock + 1; place = place } in
            let low : cut.anchor.place < place = omega (arith, cut.old, place_by_natural inv both i cut.anchor (cut.from_list _ cut.within), least_below inv x t.0 r mode place can) in
            (p.0, ap (create_new_version (as_ver n)) p.1 ∙ create_front n p.0 (cut_down b s x i) cut.anchor cut.within low)

    -- who is doomed stays so
    dooms_later : (i start : ℕ) → start ≤ s.clock → Dooms start (m.vars i).versions → Dooms start (written (s.clock + 1) place (tx.write_set i) (m.vars i).versions)
    dooms_later i start by d = go (tx.write_set i)
      where
        go : (o : Option ℕ) → Dooms start (written (s.clock + 1) place o (m.vars i).versions)
        go None = d
        go (Some c) = create_dooms start (record { value = c; nat_order = s.clock + 1; tw_order = place }) (m.vars i).versions nothing_found (omega arith) d

    paired_later : (k : ℕ) (o : Option Transaction) (t : Option Tx) → running_of (s.seats k) ≡ o → Paired b (lists_of m) o t → Paired b (λ i. written (s.clock + 1) place (tx.write_set i) (m.vars i).versions) o t
    paired_later k None None e p = tt
    paired_later k None (Some u) e p = p
    paired_later k (Some y) None e p = p
    paired_later k (Some y) (Some u) e p = record {
      same = p.same;
      known = p.known;
      doomed = λ c.
          let d = p.doomed c in
          let r = (board_has inv k y e).1.both in
          (d.0, d.1, d.2, d.3, dooms_later d.1 u.start (omega (arith, r.same_start, r.consistent.start_by, p.same.start)) d.4);
    }

    stored_same : Same b (store b s seat x place) (stores seat tx m (s.clock + 1) place)
    stored_same = record {
      clock = refl;
      stamps = stamps_raised;
      lists = lists_stored;
      paired = leaves _ (λ k. paired_later k (running_of (s.seats k)) (m.running k) refl (both.paired k));
    }

  ---- the commit

  -- what the machine does of an update's commit, told of these bounds
  as_update : x.mode ≡ Update → (bounds : Bounds) → in_tx m (m.running seat) (λ u. commit_by b bounds seat u m u.mode) ≡ commit_by b bounds seat tx m Update
  as_update updates bounds = in_tx_is m (m.running seat) _ tx in_machine ∙ ap (commit_by b bounds seat tx m) (sym good.same.mode ∙ updates)

  aborts : x.mode ≡ Update → (bounds : Bounds) → bounds.clock_spent ≡ false → fails (validated b m tx) ≡ true
      → in_tx m (m.running seat) (λ u. commit_by b bounds seat u m u.mode) ≡ abort b seat tx m
  aborts updates bounds time failed = as_update updates bounds ∙ cond-false _ _ _ time ∙ cond-true _ _ _ failed

  passes : x.mode ≡ Update → (bounds : Bounds) → bounds.clock_spent ≡ false → (place : ℕ) → fails (validated b m tx) ≡ false → time_warp (s.clock + 1) (validated b m tx).anti_deps ≡ place
      → in_tx m (m.running seat) (λ u. commit_by b bounds seat u m u.mode) ≡ passed seat tx m (s.clock + 1) place bounds.versions_full
  passes updates bounds time place fine warped =
      as_update updates bounds ∙ cond-false _ _ _ time ∙ cond-false _ _ _ fine
      ∙ ap (λ n. passed seat tx m (n + 1) (time_warp (n + 1) (validated b m tx).anti_deps) bounds.versions_full) (sym both.clock)
      ∙ ap (λ w. passed seat tx m (s.clock + 1) w bounds.versions_full) warped

  reaches : (i : ℕ) → (v : Version) × (v ∈ (s.items i).versions) × (v.natural ≤ x.start)
  reaches = reached inv both seat pass class x on_board tx in_machine good

  settle_step : FourLaws b.rule → (shown : ℕ) → x.mode ≡ Update → (o : Option ℕ) → b.rule (findings b s class x) ≡ o → Verdict both x tx good reaches o (validated b m tx) → Step b m (Commit seat shown) (settle b seat x s o)
  settle_step laws shown updates None e failed = agrees_as b m _ _ _ (aborts updates (told (Err (RuleRefuses 0))) refl failed)
      (ap (λ i. Err (RuleRefuses i)) (sym (named_same both x tx good reaches)), dropped)
  settle_step laws shown updates (Some place) e fine = cond_both (ltb (lowest b.items (is_full b s x place)) b.items) _ _ (Step b m (Commit seat shown))
      (λ _. agrees_as b m _ _ _ (passes updates (told (Err (VersionsFull _))) refl place fine.0 fine.1) (refl, dropped))
      (λ _. agrees_as b m _ _ _ (passes updates (told (Ok (Granted (s.clock + 1, place)))) refl place fine.0 fine.1) (refl, stored_same laws updates place e))

  pub commit_here : FourLaws b.rule → b.rule ≡ warp_answers → (shown : ℕ) → Step b m (Commit seat shown) (commit_in b seat class x s x.mode)
  commit_here laws warp shown = go x.mode refl
    where
      go : (k : Mode) → x.mode ≡ k → Step b m (Commit seat shown) (commit_in b seat class x s k)
      go Reader e = agrees_as b m _ _ _ (in_tx_is m (m.running seat) _ tx in_machine ∙ ap (commit_by b (told (Ok (Granted (0, x.start)))) seat tx m) (sym good.same.mode ∙ e))
          (ap (λ n. Ok (Granted (0, n))) (sym good.same.start), record { clock = both.clock; stamps = both.stamps; lists = both.lists; paired = leaves (lists_of m) both.paired })
      go Update e = cond_both (ltb s.clock limit) _ _ (Step b m (Commit seat shown))
          (λ _. settle_step laws shown e (b.rule (findings b s class x)) refl
          (subst (λ o. Verdict both x tx good reaches o (validated b m tx)) (sym (ap (λ rule. rule (findings b s class x)) warp)) (verdict both x tx good reaches class)))
          (λ _. agrees_as b m _ _ _ (as_update e (told (Err ClockSpent))) (refl, record { clock = both.clock; stamps = both.stamps; lists = both.lists; paired = leaves (lists_of m) both.paired }))

  ---- a transaction that was spared at a read

  pub spared_refused : b.rule ≡ warp_answers → tx.spared ≡ true → is_ok (commit_in b seat class x s x.mode).answer ≡ false
  spared_refused warp spared = subst (λ k. is_ok (commit_in b seat class x s k).answer ≡ false) (sym (good.same.mode ∙ d.0))
      (cond_both (ltb s.clock limit) _ _ (λ (o : BoardOutcome). is_ok o.answer ≡ false)
      (λ _. go (b.rule (findings b s class x)) (subst (λ o. Verdict both x tx good reaches o (validated b m tx)) (sym (ap (λ rule. rule (findings b s class x)) warp)) (verdict both x tx good reaches class)))
      (λ _. refl))
    where
      d : (tx.mode ≡ Update) × (i : ℕ) × (i < b.items) × (tx.read_set i ≡ true) × Dooms tx.start (m.vars i).versions
      d = good.doomed spared

      failed : fails (validated b m tx) ≡ true
      failed = or_left _ _ (each_dooms m tx b.items d.1 (handle_writes b m tx nothing_found) d.2 d.3 d.4)

      go : (o : Option ℕ) → Verdict both x tx good reaches o (validated b m tx) → is_ok (settle b seat x s o).answer ≡ false
      go None v = refl
      go (Some place) v = absurd (both_ways _ v.0 failed)
