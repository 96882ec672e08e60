-- What a commit leaves.
use Rattle.std.proofs.Common.{◌≡◌, ℕ, ◌+◌, ◌<◌, ◌≤◌, false, cond, ltb, List, length, get_or, Some, None, Ok, Err, Option, sym, refl, ap, ◌∙◌, subst, ⊎_elim, arith}
use Rattle.std.proofs.lemmas.Bool.{cond-true, cond-false, lt-ltb, le-ltb, ltb-false, cases_eq}
use Rattle.calls.specs.declared.call.Class.{Class}
use Rattle.calls.specs.declared.call.Mode.TheVariants.{Update}
use Rattle.calls.specs.declared.reply.Reply.TheVariants.{Granted}
use Rattle.calls.specs.declared.refusal.Refusal.TheVariants.{ClockSpent, RuleRefuses, VersionsFull}
use Rattle.rules.specs.declared.findings.Findings.{Findings}
use Rattle.history.specs.State.{Setup, State, Version, Transaction as Running, put, at_rest}
use Rattle.history.specs.Steps.{Answer, Outcome, accept, refuse, runs, raised, raise_and_drop, stored, store, listed, overfull, is_full, lowest, missed_of, findings, settle, commit_in, set_running}
use Rattle.history.proofs.Kept.{put_same, put_other}
use Rattle.history.proofs.Lowest.{lowest_is}
use Rattle.versions.specs.Slots.{padded}
use Rattle.board.specs.declared.transaction.Transaction.{Transaction}
use Rattle.board.specs.Contents.{Contents, setup_of, with_clock, with_stamps, with_seats, with_versions}
use Rattle.board.specs.Lists.{slots_of}
use Rattle.board.specs.Ends.{NowRuns, replaced, Raised}
use Rattle.board.specs.Memory.{StoredAll}
use Rattle.board.specs.Commits.{Ended, Comes}
use Rattle.board.specs.Holding.{Runs, Seated, Holds}
use Rattle.board.proofs.Doing.{holds_seat}
use Rattle.board.proofs.Opening.{seated_set}

module _ {R : Type 0} (answers : R → Findings → Option ℕ) (before : Contents R) where
  abbrev its_setup : Setup
  its_setup = setup_of answers before

  -- the board that an end leaves, from the one whose memory is settled
  left_holds : (b after : Contents R) (seat clock next : ℕ) (t : Transaction) (x : Running) (versions : ℕ → List Version) (s : State) → Holds before s → Runs before.items t x → seat < before.seat_count
      → b ≡ with_versions before b.versions → (e : Ended b after seat t) → clock ≡ next
      → ((item : ℕ) → item < before.items → slots_of b.versions item ≡ padded 8 (at_rest its_setup) (versions item))
      → ((item : ℕ) → item < before.items → length (versions item) ≤ 8)
      → (setup_of answers (with_clock after clock) ≡ its_setup)
      × Holds (with_clock after clock) (record { clock = next; passes = s.passes; items = λ item. record { stamp = (raised s x item).stamp; versions = versions item }; seats = put s.seats seat (runs None (s.seats seat)) })
  left_holds b after seat clock next t x versions s k r lt same e ticks lists few =
      let only : after ≡ with_seats (with_stamps (with_versions before b.versions) between.stamps) after.seats = e.closed.only ∙ ap (λ (z : Contents R). with_seats z after.seats) (e.raised.only ∙ ap (λ (z : Contents R). with_stamps z between.stamps) same) in
      subst
      (λ (z : Contents R). (setup_of answers (with_clock z clock) ≡ its_setup)
      × Holds (with_clock z clock) (record { clock = next; passes = s.passes; items = λ item. record { stamp = (raised s x item).stamp; versions = versions item }; seats = put s.seats seat (runs None (s.seats seat)) }))
      (sym only) (
        refl,
        record {
          clock = ticks;
          passes = k.passes;
          stamps = λ item l.
              up.raised item (subst (λ (z : Contents R). item < z.items) (sym same) l)
              ∙ ap (λ m. cond m b.clock (get_or b.stamps item 0)) (r.marks item l)
              ∙ ap (λ (z : Contents R). cond (x.marked item) z.clock (get_or z.stamps item 0)) same
              ∙ ap (λ n. cond (x.marked item) n (get_or before.stamps item 0)) k.clock
              ∙ ap (cond (x.marked item) s.clock) (k.stamps item l);
          seats = λ n l. ⊎_elim
              (λ e'. subst (λ n. Seated before.items (get_or after.seats n None) (put s.seats seat (runs None (s.seats seat)) n)) (sym e')
              (subst (λ z. Seated before.items z (put s.seats seat (runs None (s.seats seat)) seat)) (sym e.closed.here)
              (subst (Seated before.items (replaced None (get_or between.seats seat None))) (sym (put_same s.seats seat (runs None (s.seats seat)))) (seated_set before.items None None (get_or between.seats seat None) (s.seats seat) tt (was seat lt)))))
              (λ far.
              subst (λ z. Seated before.items z (put s.seats seat (runs None (s.seats seat)) n)) (sym (e.closed.elsewhere n far))
              (subst (Seated before.items (get_or between.seats n None)) (sym (put_other s.seats seat (runs None (s.seats seat)) n far)) (was n l)))
              (cases_eq n seat);
          lists = lists;
          few_versions = few;
        },
      )
    where
      between : Contents R
      between = e.between

      up : Raised b between t
      up = e.raised

      was : (n : ℕ) → n < before.seat_count → Seated before.items (get_or between.seats n None) (s.seats n)
      was n l = subst (λ (z : Contents R). Seated before.items (get_or z.seats n None) (s.seats n)) (sym (e.raised.only ∙ ap (λ (z : Contents R). with_stamps z between.stamps) same)) (k.seats n l)

  -- a refused transaction is dropped, and its stamps are raised
  pub drops : (after : Contents R) (seat : ℕ) (t : Transaction) (x : Running) (answer : Answer) (o : Outcome) (s : State) → Holds before s → Runs before.items t x → seat < before.seat_count
      → Ended before after seat t → answer ≡ o.answer → o.after ≡ raise_and_drop s seat x → Comes answers before after answer o
  drops after seat t x answer o s k r lt e told is =
      let same : after.clock ≡ before.clock = ap (λ (z : Contents R). z.clock) e.closed.only ∙ ap (λ (z : Contents R). z.clock) e.raised.only in
      let left = left_holds before after seat after.clock s.clock t x (λ item. (s.items item).versions) s k r lt refl e (same ∙ k.clock) k.lists k.few_versions in
      record { same_setup = left.0; answered = told; holds = subst (Holds after) (sym is) left.1 }

  -- a list that would be too long refuses
  pub fills : (after : Contents R) (seat item place : ℕ) (t : Transaction) (x : Running) (s : State) → Holds before s → Runs before.items t x → seat < before.seat_count
      → Ended before after seat t → (item ≡ lowest before.items (is_full its_setup s x place)) × (item < before.items)
      → Comes answers before after (Err (VersionsFull item)) (settle its_setup seat x s (Some place))
  fills after seat item place t x s k r lt e (is, few) =
      let go : settle its_setup seat x s (Some place) ≡ refuse (VersionsFull (lowest before.items (is_full its_setup s x place))) (raise_and_drop s seat x) = cond-true _ _ _ (lt-ltb (lowest before.items (is_full its_setup s x place)) before.items (omega (arith, is, few))) in
      drops after seat t x (Err (VersionsFull item)) (settle its_setup seat x s (Some place)) s k r lt e (ap (λ n. Err (VersionsFull n)) is ∙ sym (ap (λ (o : Outcome). o.answer) go)) (ap (λ (o : Outcome). o.after) go)

  few_stored : (s : State) (x : Running) (place item : ℕ) (o : Option ℕ) → overfull its_setup s x place item o ≡ false → length (s.items item).versions ≤ 8 → length (stored its_setup s x place item o) ≤ 8
  few_stored s x place item None e few = few
  few_stored s x place item (Some code) e few = ltb-false 8 (length (stored its_setup s x place item (Some code))) e

  pub none_full : (s : State) (x : Running) (place : ℕ) → lowest before.items (is_full its_setup s x place) ≡ before.items → (item : ℕ) → item < before.items → is_full its_setup s x place item ≡ false
  none_full s x place all item l = (lowest_is before.items (is_full its_setup s x place)).lower item (omega (arith, all, l))

  -- a granted transaction is stored
  pub grants : (b ended : Contents R) (seat next place : ℕ) (t : Transaction) (x : Running) (s : State) → Holds before s → Runs before.items t x → seat < before.seat_count
      → next ≡ before.clock + 1 → b ≡ with_versions before b.versions → StoredAll its_setup s x place x.writes b.versions → Ended b ended seat t
      → lowest before.items (is_full its_setup s x place) ≡ before.items
      → Comes answers before (with_clock ended next) (Ok (Granted (next, place))) (settle its_setup seat x s (Some place))
  grants b ended seat next place t x s k r lt ticks only all e none =
      let tick : next ≡ s.clock + 1 = ticks ∙ ap (λ n. n + 1) k.clock in
      let go : settle its_setup seat x s (Some place) ≡ accept (Granted (s.clock + 1, place)) (store its_setup s seat x place) = cond-false _ _ _ (le-ltb (lowest before.items (is_full its_setup s x place)) before.items (omega (arith, none))) in
      let left = left_holds b ended seat next (s.clock + 1) t x (λ item. stored its_setup s x place item (listed item x.writes)) s k r lt only e tick all
      (λ item l. few_stored s x place item (listed item x.writes) (none_full s x place none item l) (k.few_versions item l)) in
      record {
        same_setup = left.0;
        answered = ap (λ n. Ok (Granted (n, place))) tick ∙ sym (ap (λ (o : Outcome). o.answer) go);
        holds = subst (Holds (with_clock ended next)) (sym (ap (λ (o : Outcome). o.after) go)) left.1;
      }

  -- while the clock has not stopped, the rule is asked
  rule_asked : (seat : ℕ) (class : Class) (x : Running) (s : State) (found : Findings) (verdict told : Option ℕ) → Holds before s → before.clock < 1000000
      → found ≡ findings its_setup s class x → verdict ≡ answers before.rule found → verdict ≡ told
      → commit_in its_setup seat class x s Update ≡ settle its_setup seat x s told
  rule_asked seat class x s found verdict told k few is asked e =
      cond-true _ _ _ (lt-ltb s.clock 1000000 (omega (arith, k.clock, few))) ∙ ap (settle its_setup seat x s) (ap (answers before.rule) (sym is) ∙ sym asked ∙ e)

  pub refused_by_rule : (after : Contents R) (seat item : ℕ) (class : Class) (t : Transaction) (x : Running) (s : State) (found : Findings) (verdict : Option ℕ) → Holds before s → Runs before.items t x → seat < before.seat_count
      → before.clock < 1000000 → found ≡ findings its_setup s class x → verdict ≡ answers before.rule found → verdict ≡ None
      → item ≡ lowest before.items (λ item. ltb 0 (length (missed_of s x item))) → Ended before after seat t
      → Comes answers before after (Err (RuleRefuses item)) (commit_in its_setup seat class x s Update)
  refused_by_rule after seat item class t x s found verdict k r lt few is asked none at e =
      let go = rule_asked seat class x s found verdict None k few is asked none in
      drops after seat t x (Err (RuleRefuses item)) (commit_in its_setup seat class x s Update) s k r lt e (ap (λ n. Err (RuleRefuses n)) at ∙ sym (ap (λ (o : Outcome). o.answer) go)) (ap (λ (o : Outcome). o.after) go)

  pub placed_by_rule : (after : Contents R) (seat place : ℕ) (class : Class) (x : Running) (answer : Answer) (s : State) (found : Findings) (verdict : Option ℕ) → Holds before s
      → before.clock < 1000000 → found ≡ findings its_setup s class x → verdict ≡ answers before.rule found → verdict ≡ Some place
      → Comes answers before after answer (settle its_setup seat x s (Some place))
      → Comes answers before after answer (commit_in its_setup seat class x s Update)
  placed_by_rule after seat place class x answer s found verdict k few is asked some comes =
      subst (Comes answers before after answer) (sym (rule_asked seat class x s found verdict (Some place) k few is asked some)) comes

  -- where the clock has stopped, only the transaction is dropped
  pub stopped : (after : Contents R) (seat : ℕ) (class : Class) (x : Running) (s : State) → Holds before s → seat < before.seat_count → 1000000 ≤ before.clock
      → NowRuns before after seat None
      → Comes answers before after (Err ClockSpent) (commit_in its_setup seat class x s Update)
  stopped after seat class x s k lt many is =
      let go : commit_in its_setup seat class x s Update ≡ refuse ClockSpent (set_running s seat None) = cond-false _ _ _ (le-ltb s.clock 1000000 (omega (arith, k.clock, many))) in
      record {
        same_setup = ap (setup_of answers) is.only;
        answered = sym (ap (λ (o : Outcome). o.answer) go);
        holds = subst (Holds after) (sym (ap (λ (o : Outcome). o.after) go))
            (holds_seat answers before after seat before.passes s.passes (replaced None (get_or before.seats seat None)) (runs None (s.seats seat)) s k k.passes is
            (seated_set before.items None None (get_or before.seats seat None) (s.seats seat) tt (k.seats seat lt)));
      }
