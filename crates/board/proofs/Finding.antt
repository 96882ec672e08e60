-- What loops over the items, the write list and the seats find.
use Rattle.std.proofs.Common.{◌≡◌, ℕ, zero, suc, ◌+◌, ◌<◌, min, Bool, true, false, cond, ltb, leb, List, [], ◌∷◌, ◌++◌, length, get_or, replicate, is_some, Some, None, Option, sym, refl, ap, ◌∙◌, subst, ⊎_elim, append-nil, add-one, arith}
use Rattle.std.proofs.lemmas.Bool.{cond-true, cond-false, le-leb, lt-ltb, both_ways, cases_lt}
use Rattle.rules.specs.declared.findings.Findings.{Findings}
use Rattle.history.specs.State.{Setup, State, Version as Kept, Transaction as Running, Seat as Place, empty, held, at_rest}
use Rattle.history.specs.Steps.{gather, missed_of, earliest, lowest, newer, natural_by, least, start_of, running_of}
use Rattle.history.proofs.Lowest.{lowest_is}
use Rattle.versions.specs.declared.missed.Missed.{Missed}
use Rattle.versions.specs.Plans.{Tells}
use Rattle.board.specs.declared.transaction.Transaction.{Transaction}
use Rattle.board.specs.declared.seat.Held.{Held}
use Rattle.board.specs.Contents.{Contents, setup_of}
use Rattle.board.specs.Lists.{slots_of, start_in, starts_in}
use Rattle.board.specs.Holding.{Runs, Opens, Seated, Holds}

some_earliest : (vs : List Kept) → is_some (earliest vs) ≡ ltb 0 (length vs)
some_earliest [] = refl
some_earliest (v ∷ vs) = go (earliest vs) ∙ sym (lt-ltb 0 (length (v ∷ vs)) (omega arith))
  where
    go : (o : Option ℕ) → is_some (elim o as (λ _. Option ℕ) [ None ↦ Some v.place | Some p ↦ Some (min v.place p) ]) ≡ true
    go None = refl
    go (Some p) = refl

-- whether anything was missed
pub some_missed : (m : Missed) (vs : List Kept) → Tells m vs → is_some m.earliest ≡ ltb 0 (length vs)
some_missed m vs t = ap is_some t.earliest_is ∙ some_earliest vs

-- the lowest number that passes, as a loop finds it
pub lowest_at : (n : ℕ) (test : ℕ → Bool) (k : ℕ) → k < n → test k ≡ true → ((j : ℕ) → j < k → test j ≡ false) → k ≡ lowest n test
lowest_at n test k lt e lower =
    let r = lowest_is n test in
    ⊎_elim
    (λ less. absurd (both_ways (test (lowest n test)) (lower (lowest n test) less) (r.passes (omega arith))))
    (λ le. ⊎_elim (λ more. absurd (both_ways (test k) (r.lower k more) e)) (λ ge. omega arith) (cases_lt k (lowest n test)))
    (cases_lt (lowest n test) k)

-- rest versions behind a list are never newer
newer_rests : (b : Setup) (start n : ℕ) → newer start (replicate n (at_rest b)) ≡ []
newer_rests b start zero = refl
newer_rests b start (suc n) = cond-true (leb 0 start) _ _ (le-leb 0 start (omega arith))

pub newer_padded : (b : Setup) (start n : ℕ) (vs : List Kept) → newer start (vs ++ replicate n (at_rest b)) ≡ newer start vs
newer_padded b start n [] = newer_rests b start n
newer_padded b start n (v ∷ vs) = elim (natural_by start v) as (λ k. cond k [] (v ∷ newer start (vs ++ replicate n (at_rest b))) ≡ cond k [] (v ∷ newer start vs)) [ true ↦ refl | false ↦ ap (λ l. v ∷ l) (newer_padded b start n vs) ]

seated_start : (items : ℕ) (x : Option Held) (y : Place) → Seated items x y → starts_in x ≡ start_of (running_of y)
seated_start items None empty k = refl
seated_start items None (held p c o) k = absurd k
seated_start items (Some h) empty k = absurd k
seated_start items (Some h) (held p c o) k = open_start h.running o k.2
  where
    open_start : (t : Option Transaction) (r : Option Running) → Opens items t r → start_in t ≡ start_of r
    open_start None None k = refl
    open_start None (Some x) k = absurd k
    open_start (Some t) None k = absurd k
    open_start (Some t) (Some x) k = ap (λ n. n ∷ []) k.start

least_min : (x m : ℕ) (ys : List ℕ) → least (min x m) ys ≡ min x (least m ys)
least_min x m [] = refl
least_min x m (y ∷ ys) = ap (min y) (least_min x m ys) ∙ omega arith

least_append : (m : ℕ) (xs ys : List ℕ) → least (least m xs) ys ≡ least m (xs ++ ys)
least_append m [] ys = refl
least_append m (x ∷ xs) ys = least_min x (least m xs) ys ∙ ap (min x) (least_append m xs ys)

module _ {R : Type 0} (answers : R → Findings → Option ℕ) (board : Contents R) where
  -- the newer versions in a marked item's slots are its missed ones
  newer_missed : (t : Transaction) (k : ℕ) (slots : List Kept) → k < board.items → get_or t.marks k false ≡ true → slots ≡ slots_of board.versions k
      → (s : State) (x : Running) → Holds board s → Runs board.items t x → newer t.start slots ≡ missed_of s x k
  newer_missed t k slots lt marked at s x h r =
      ap (newer t.start) (at ∙ h.lists k lt) ∙ newer_padded (setup_of answers board) t.start _ (s.items k).versions ∙ ap (λ n. newer n (s.items k).versions) r.start
      ∙ sym (cond-true (x.marked k) _ _ (sym (r.marks k lt) ∙ marked))

  -- those of one item more, marked or not
  pub missed_marked : (t : Transaction) (k : ℕ) (before after : Missed) (slots : List Kept) → k < board.items → get_or t.marks k false ≡ true → slots ≡ slots_of board.versions k
      → ((vs : List Kept) → Tells before vs → Tells after (vs ++ newer t.start slots))
      → (s : State) (x : Running) → Holds board s → Runs board.items t x → (vs : List Kept) → Tells before vs → Tells after (vs ++ missed_of s x k)
  missed_marked t k before after slots lt marked at one s x h r vs so_far = subst (λ l. Tells after (vs ++ l)) (newer_missed t k slots lt marked at s x h r) (one vs so_far)

  pub none_missed : (t : Transaction) (k : ℕ) → k < board.items → get_or t.marks k false ≡ false → (s : State) (x : Running) → Holds board s → Runs board.items t x → missed_of s x k ≡ []
  none_missed t k lt marked s x h r = cond-false (x.marked k) _ _ (sym (r.marks k lt) ∙ marked)

  pub missed_unmarked : (t : Transaction) (k : ℕ) (before : Missed) → k < board.items → get_or t.marks k false ≡ false
      → (s : State) (x : Running) → Holds board s → Runs board.items t x → (vs : List Kept) → Tells before vs → Tells before (vs ++ missed_of s x k)
  missed_unmarked t k before lt marked s x h r vs so_far = subst (Tells before) (sym (ap (λ l. vs ++ l) (none_missed t k lt marked s x h r) ∙ append-nil vs)) so_far

  ---- the seats

  -- one seat more
  pub least_more : (k start before after : ℕ) (x : Option Held) → k < board.seat_count → x ≡ get_or board.seats k None → after ≡ least before (starts_in x)
      → ((s : State) → Holds board s → before ≡ least start (gather k (λ seat. start_of (running_of (s.seats seat)))))
      → (s : State) → Holds board s → after ≡ least start (gather (k + 1) (λ seat. start_of (running_of (s.seats seat))))
  least_more k start before after x lt is one so_far s h =
      one ∙ go (starts_in x) ∙ ap (λ l. least start (gather k (λ seat. start_of (running_of (s.seats seat))) ++ l)) same ∙ ap (λ n. least start (gather n (λ seat. start_of (running_of (s.seats seat))))) (sym (add-one k))
    where
      same : starts_in x ≡ start_of (running_of (s.seats k))
      same = seated_start board.items x (s.seats k) (subst (λ y. Seated board.items y (s.seats k)) (sym is) (h.seats k lt))

      go : (ys : List ℕ) → least before ys ≡ least start (gather k (λ seat. start_of (running_of (s.seats seat))) ++ ys)
      go ys = ap (λ n. least n ys) (so_far s h) ∙ least_append start (gather k (λ seat. start_of (running_of (s.seats seat)))) ys
