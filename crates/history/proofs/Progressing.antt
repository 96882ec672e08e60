-- Commits go through where nothing stands against them, and are refused for the stated reasons alone.
use Rattle.std.proofs.Common.{◌≡◌, ℕ, ◌+◌, ◌<◌, ◌≤◌, true, false, ltb, List, [], ◌∷◌, length, Some, None, Ok, Err, Option, sym, refl, ap, ◌∙◌, subst, ⊎_elim, arith}
use mathlib.Core.List.Memᴰ
use Rattle.std.proofs.lemmas.Bool.{ltb-true, ltb-false, lt-ltb, le-ltb, eqb-true, cond-true, cond-false, cond_both}
use Rattle.calls.specs.Numbers.{number}
use Rattle.calls.specs.declared.call.Class.{Class}
use Rattle.calls.specs.declared.call.Mode.{Mode}
use Rattle.calls.specs.declared.call.Mode.TheVariants.{Reader, Update}
use Rattle.calls.specs.declared.call.Call.TheVariants.{Commit, Show}
use Rattle.calls.specs.declared.reply.Reply.TheVariants.{Code, Granted}
use Rattle.calls.specs.declared.refusal.Refusal.{Refusal}
use Rattle.calls.specs.declared.refusal.Refusal.TheVariants.{UnknownSeat, SeatEmpty, WrongPass, NotBegun, ClockSpent, RuleRefuses, VersionsFull}
use Rattle.rules.specs.Laws.{FourLaws}
use Rattle.history.specs.State.{Setup, Version, Transaction, Seat, held, State}
use Rattle.history.specs.Steps.{Outcome, Answer, step, limit, most, listed, missed_of, missed, earliest, findings, cut_down, overfull, is_full, insert_version, newest, stored, store, settle, commit_in, lowest, accept, refuse, raise_and_drop, has_pass, running_of, item_questions, down_to_anchor, natural_by, least_start}
use Rattle.history.specs.Log.{History, log}
use Rattle.history.specs.Promise.{◌∈◌}
use Rattle.history.specs.Progress.{Committing, UndisturbedCommitsGoThrough, OnlyTheRuleRefuses, OnlyFullListsRefuse}
use Rattle.history.proofs.Invariant.{Inv, board_has}
use Rattle.history.proofs.Picks.{version_by}
use Rattle.history.proofs.Found.{gather_in}
use Rattle.history.proofs.Granting.{board_gives}
use Rattle.history.proofs.Asked.{with_running_cases, with_running_yes, asked_yes}
use Rattle.history.proofs.KeptStep.{invariant}
use Rattle.history.proofs.Lowest.{lowest_is, lowest_below, lowest_none}

has_pass_is : (p pass : ℕ) (class : Class) (o : Option Transaction) (x : Seat) → x ≡ held p class o → has_pass pass x ≡ true → p ≡ pass
has_pass_is p pass class o x e has = eqb-true p pass (ap (has_pass pass) (sym e) ∙ has)

empty_list : {A : Type 0} (xs : List A) → ltb 0 (length xs) ≡ false → xs ≡ []
empty_list [] e = refl
empty_list (x ∷ xs) e = absurd (omega (arith, ltb-false 0 (length (x ∷ xs)) e))

some_list : {A : Type 0} (xs : List A) → ltb 0 (length xs) ≡ true → xs ≡ [] → ⊥
some_list xs e d = omega (arith, ltb-true _ _ e, ap length d)

member_some : {A : Type 0} (xs : List A) (x : A) → x ∈ xs → ltb 0 (length xs) ≡ true
member_some [] x m = elim m [ ]
member_some (y ∷ ys) x m = lt-ltb _ _ (omega arith)

module _ {b : Setup} {s : State} (h : History) (laws : FourLaws b.rule) (inv : Inv b s (log h)) where
  started : (seat pass : ℕ) (class : Class) (x : Transaction) → s.seats seat ≡ held pass class (Some x) → x.start ≤ s.clock
  started seat pass class x e =
      let t = board_has inv seat x (ap running_of e) in
      omega (arith, t.1.both.same_start, t.1.both.consistent.start_by)

  -- a refusing rule means that something was missed
  something_missed : (class : Class) (x : Transaction) → x.start ≤ s.clock → b.rule (findings b s class x) ≡ None → lowest b.items (λ item. ltb 0 (length (missed_of s x item))) < b.items
  something_missed class x by refuses = go (missed b s x) refl
    where
      go : (vs : List Version) → missed b s x ≡ vs → lowest b.items (λ item. ltb 0 (length (missed_of s x item))) < b.items
      go [] e = let granted = laws.next_if_none_missed (findings b s class x) (board_gives inv class x by) (ap earliest e) in let z : ◌≡◌ {A = ℕ} 0 1 = cc in absurd (omega arith)
      go (v ∷ vs) e =
          let r = gather_in b.items (missed_of s x) v (subst (λ l. v ∈ l) (sym e) (Memᴰ.head refl)) in
          lowest_below b.items _ r.0 r.1 (member_some _ v r.2)

  ---- refusals

  module _ (seat pass item : ℕ) where
    abbrev ByRule : Class → Transaction → Type 0
    ByRule class x = (b.rule (findings b s class x) ≡ None) × (item < b.items) × (missed_of s x item ≡ [] → ⊥) × ((lower : ℕ) → lower < item → missed_of s x lower ≡ [])

    abbrev ByList : Class → Transaction → Type 0
    ByList class x = (place : ℕ) × (b.rule (findings b s class x) ≡ Some place) × (item < b.items) × (code : ℕ) × (listed item x.writes ≡ Some code)
        × (most < length (stored b s x place item (Some code))) × ((lower : ℕ) → lower < item → is_full b s x place lower ≡ false)

    settled_none : (class : Class) (x : Transaction) → x.start ≤ s.clock → b.rule (findings b s class x) ≡ None → (settle b seat x s None).answer ≡ Err (RuleRefuses item) → ByRule class x
    settled_none class x by refuses e =
        let is : lowest b.items (λ i. ltb 0 (length (missed_of s x i))) ≡ item = cc in
        let r = lowest_is b.items (λ i. ltb 0 (length (missed_of s x i))) in
        let below = something_missed class x by refuses in
        (refuses, omega (arith, is), some_list _ (subst (λ i. ltb 0 (length (missed_of s x i)) ≡ true) is (r.passes below)), λ lower l. empty_list _ (r.lower lower (omega (arith, is))))

    settled_some : (class : Class) (x : Transaction) (place : ℕ) → b.rule (findings b s class x) ≡ Some place → (settle b seat x s (Some place)).answer ≡ Err (VersionsFull item) → ByList class x
    settled_some class x place grants = cond_both (ltb (lowest b.items (is_full b s x place)) b.items) (refuse (VersionsFull (lowest b.items (is_full b s x place))) (raise_and_drop s seat x)) (accept (Granted (s.clock + 1, place)) (store b s seat x place)) (λ (o : Outcome). o.answer ≡ Err (VersionsFull item) → ByList class x)
        (λ below e.
        let is : lowest b.items (is_full b s x place) ≡ item = cc in
        let r = lowest_is b.items (is_full b s x place) in
        let full : is_full b s x place item ≡ true = subst (λ i. is_full b s x place i ≡ true) is (r.passes (ltb-true _ _ below)) in
        let code = overfull_by (listed item x.writes) full in
        (place, grants, omega (arith, ltb-true _ _ below, is), code.0, code.1, code.2, λ lower l. r.lower lower (omega (arith, is))))
        (λ _ e. let z : ◌≡◌ {A = ℕ} 0 1 = cc in absurd (omega arith))
      where
        overfull_by : (o : Option ℕ) → overfull b s x place item o ≡ true → (code : ℕ) × (o ≡ Some code) × (most < length (stored b s x place item (Some code)))
        overfull_by None e = let z : ◌≡◌ {A = ℕ} 0 1 = cc in absurd (omega arith)
        overfull_by (Some code) e = (code, refl, ltb-true _ _ e)

    -- a commit that ends with one of the two refusals was put to the rule
    committed : (refusal : Refusal) (Goal : Class → Transaction → Type 0) → 14 ≤ number refusal
        → ((class : Class) (x : Transaction) (o : Option ℕ) → x.start ≤ s.clock → b.rule (findings b s class x) ≡ o → (settle b seat x s o).answer ≡ Err refusal → Goal class x)
        → (step b (Commit seat pass) s).answer ≡ Err refusal
        → (class : Class) × (x : Transaction) × Committing b s seat pass class x × Goal class x
    committed refusal Goal late then =
        with_running_cases (λ o. o.answer ≡ Err refusal → Found) b seat pass s _
        (earlier UnknownSeat (omega arith)) (earlier SeatEmpty (omega arith)) (earlier WrongPass (omega arith)) (earlier NotBegun (omega arith))
        λ p class x lt has e. go p class x lt has e x.mode refl
      where
        Found : Type 0
        Found = (class : Class) × (x : Transaction) × Committing b s seat pass class x × Goal class x

        earlier : (a : Refusal) → number a < 14 → ◌≡◌ {A = Answer} (Err a) (Err refusal) → Found
        earlier a low e = let same : a ≡ refusal = cc in absurd (omega (arith, ap number same))

        go : (p : ℕ) (class : Class) (x : Transaction) → ltb seat b.seats ≡ true → has_pass pass (s.seats seat) ≡ true → s.seats seat ≡ held p class (Some x) → (m : Mode) → x.mode ≡ m
            → (commit_in b seat class x s m).answer ≡ Err refusal → Found
        go p class x lt has e Reader em d = let z : ◌≡◌ {A = ℕ} 0 1 = cc in absurd (omega arith)
        go p class x lt has e Update em d = cond_both (ltb s.clock limit) _ _ (λ (o : Outcome). o.answer ≡ Err refusal → Found)
            (λ time d. (
              class,
              x,
              record {
                known_seat = ltb-true _ _ lt;
                open_there = e ∙ ap (λ n. held n class (Some x)) (has_pass_is p pass class (Some x) (s.seats seat) e has);
                updates = em;
                time_left = ltb-true _ _ time;
              },
              then class x (b.rule (findings b s class x)) (started seat p class x e) refl d,
            ))
            (λ _. earlier ClockSpent (omega arith))
            d

pub only_the_rule_refuses : OnlyTheRuleRefuses
only_the_rule_refuses b lawful h s leads seat pass item e =
    let inv = invariant b lawful.lawful_rule leads in
    let r = committed h lawful.lawful_rule inv seat pass item (RuleRefuses item) _ (omega arith) (by_answer inv) e in
    (r.0, r.1, r.2, r.3.0, r.3.1, r.3.2, r.3.3)
  where
    by_answer : (inv : Inv b s (log h)) (class : Class) (x : Transaction) (o : Option ℕ) → x.start ≤ s.clock → b.rule (findings b s class x) ≡ o → (settle b seat x s o).answer ≡ Err (RuleRefuses item)
        → (b.rule (findings b s class x) ≡ None) × (item < b.items) × (missed_of s x item ≡ [] → ⊥) × ((lower : ℕ) → lower < item → missed_of s x lower ≡ [])
    by_answer inv class x None by d e = settled_none h lawful.lawful_rule inv seat pass item class x by d e
    by_answer inv class x (Some place) by d e = absurd (cond_both (ltb (lowest b.items (is_full b s x place)) b.items) (refuse (VersionsFull (lowest b.items (is_full b s x place))) (raise_and_drop s seat x)) (accept (Granted (s.clock + 1, place)) (store b s seat x place)) (λ (o : Outcome). o.answer ≡ Err (RuleRefuses item) → ⊥)
        (λ _ e. let z : ◌≡◌ {A = ℕ} 0 1 = cc in absurd (omega arith)) (λ _ e. let z : ◌≡◌ {A = ℕ} 0 1 = cc in absurd (omega arith)) e)

pub only_full_lists_refuse : OnlyFullListsRefuse
only_full_lists_refuse b lawful h s leads seat pass item e =
    let inv = invariant b lawful.lawful_rule leads in
    let r = committed h lawful.lawful_rule inv seat pass item (VersionsFull item) _ (omega arith) (by_answer inv) e in
    let f = r.3 in
    (r.0, r.1, r.2, f.0, f.1, f.2, f.3, f.4, f.5, f.6)
  where
    by_answer : (inv : Inv b s (log h)) (class : Class) (x : Transaction) (o : Option ℕ) → x.start ≤ s.clock → b.rule (findings b s class x) ≡ o → (settle b seat x s o).answer ≡ Err (VersionsFull item)
        → (place : ℕ) × (b.rule (findings b s class x) ≡ Some place) × (item < b.items) × (code : ℕ) × (listed item x.writes ≡ Some code)
        × (most < length (stored b s x place item (Some code))) × ((lower : ℕ) → lower < item → is_full b s x place lower ≡ false)
    by_answer inv class x None by d e = let z : ◌≡◌ {A = ℕ} 0 1 = cc in absurd (omega arith)
    by_answer inv class x (Some place) by d e = settled_some h lawful.lawful_rule inv seat pass item class x place d e

---- an undisturbed commit

-- what is left above the anchor was there
in_cut : (m : ℕ) (vs : List Version) (v : Version) → v ∈ down_to_anchor m vs → v ∈ vs
in_cut m [] v i = i
in_cut m (x ∷ xs) v i = ⊎_elim (λ e. Memᴰ.head e) (λ j. Memᴰ.tail (cond_both (natural_by m x) [] (down_to_anchor m xs) (λ l. v ∈ l → v ∈ xs) (λ _ k. elim k [ ]) (λ _ k. in_cut m xs v k) j)) (Memᴰ.cases_cons i)

-- a version above all others goes in at the head
insert_high : (n : Version) (vs : List Version) → ((v : Version) → v ∈ vs → v.place < n.place) → insert_version n vs ≡ n ∷ vs
insert_high n [] high = refl
insert_high n (v ∷ vs) high = cond-true (ltb v.place n.place) _ _ (lt-ltb _ _ (high v (Memᴰ.head refl)))

pub undisturbed_commits_go_through : UndisturbedCommitsGoThrough
undisturbed_commits_go_through b lawful h s leads seat pass class x c none roomy =
    (ap (λ (o : Outcome). o.answer) outcome, λ item code lt is. ap (λ (o : Outcome). (step b (Show item) o.after).answer) outcome ∙ shows item code lt is)
  where
    inv : Inv b s (log h)
    inv = invariant b lawful.lawful_rule leads

    next : ℕ
    next = s.clock + 1

    answers_next : b.rule (findings b s class x) ≡ Some next
    answers_next = lawful.lawful_rule.next_if_none_missed (findings b s class x) (board_gives inv class x (started h lawful.lawful_rule inv seat pass class x c.open_there)) (ap earliest none)

    not_full : ltb (lowest b.items (is_full b s x next)) b.items ≡ false
    not_full = le-ltb _ _ (omega (arith, lowest_none b.items (is_full b s x next) roomy))

    outcome : step b (Commit seat pass) s ≡ accept (Granted (next, next)) (store b s seat x next)
    outcome =
        with_running_yes b seat pass s _ class x c.known_seat c.open_there
        ∙ ap (commit_in b seat class x s) c.updates
        ∙ cond-true (ltb s.clock limit) _ _ (lt-ltb _ _ c.time_left)
        ∙ ap (settle b seat x s) answers_next
        ∙ cond-false _ _ _ not_full

    shows : (item code : ℕ) → item < b.items → listed item x.writes ≡ Some code → (step b (Show item) (store b s seat x next)).answer ≡ Ok (Code code)
    shows item code lt is =
        ap (λ (o : Outcome). o.answer) (asked_yes (item_questions b item) (store b s seat x next) _ (lt-ltb _ _ lt, tt))
        ∙ ap (λ (o : Option ℕ). Ok (Code (newest b (λ _. true) (stored b s x next item o)).code)) is
        ∙ ap (λ vs. Ok (Code (newest b (λ _. true) vs).code)) (insert_high _ (cut_down b s x item) (λ v m. omega (arith, version_by inv.sound item (s.items item).versions v (inv.keeps item) (in_cut (least_start b s x) (s.items item).versions v m))))
