-- The serial order: `ahead` is a strict order that decides between any two distinct granted transactions, and putting in keeps a list in order.
use Rattle.std.proofs.Common.{◌≡◌, ℕ, ◌<◌, ◌≤◌, Bool, true, false, cond, not, ltb, ◌⊎◌, List, [], ◌∷◌, None, filter, sym, refl, ap, ◌∙◌, subst, inl, inr, ⊎_elim, arith}
use mathlib.Core.List.Memᴰ
use mathlib.Core.List.{Memᴰ}
use Rattle.std.specs.List.{AllByRecursion}
use Rattle.std.specs.List.Sorted.{IsPermutation}
use Rattle.std.proofs.lemmas.Bool.{ltb-true, eqb-true, lt-ltb, eq-eqb, or_cases, or_left, or_right, and_parts, and_from, cond-false, both_ways, cases_order}
use Rattle.std.proofs.lemmas.List.Sorted.{IsPermutation-refl, IsPermutation-trans, IsPermutation-cons, IsPermutation-swap}
use Rattle.calls.specs.declared.call.Mode.{Mode}
use Rattle.calls.specs.declared.call.Mode.TheVariants.{Reader, Update}
use Rattle.history.specs.Log.{Grant}
use Rattle.history.specs.Order.{first_at_place, ahead, put_in, arranged}
use Rattle.history.specs.Run.{Table, Answered, run, EachAnswered}
use Rattle.history.specs.Promise.{◌∈◌, InOrder, StandsAhead}
use Rattle.history.proofs.Runs.{written, Sees, all_in, each_agrees, after_none}

-- what a test of the order says
abbrev pub First : Mode → Mode → Grant → Grant → Type 0
First Update Update f g = g.natural < f.natural
First Update Reader f g = Unit {0}
First Reader Update f g = ⊥
First Reader Reader f g = f.trace.began < g.trace.began

abbrev pub Ahead : Grant → Grant → Type 0
Ahead f g = (f.place < g.place) ⊎ ((f.place ≡ g.place) × First f.trace.mode g.trace.mode f g)

first_told : (m n : Mode) (f g : Grant) → first_at_place m n f g ≡ true → First m n f g
first_told Update Update f g e = ltb-true _ _ e
first_told Update Reader f g e = tt
first_told Reader Update f g e = both_ways _ refl e
first_told Reader Reader f g e = ltb-true _ _ e

tell_first : (m n : Mode) (f g : Grant) → First m n f g → first_at_place m n f g ≡ true
tell_first Update Update f g e = lt-ltb _ _ e
tell_first Update Reader f g e = refl
tell_first Reader Update f g e = absurd e
tell_first Reader Reader f g e = lt-ltb _ _ e

pub ahead_told : (f g : Grant) → ahead f g ≡ true → Ahead f g
ahead_told f g e = ⊎_elim (λ l. inl (ltb-true _ _ l)) (λ p. let q = and_parts _ _ p in inr (eqb-true _ _ q.0, first_told f.trace.mode g.trace.mode f g q.1)) (or_cases _ _ e)

pub tell_ahead : (f g : Grant) → Ahead f g → ahead f g ≡ true
tell_ahead f g (inl l) = or_left _ _ (lt-ltb _ _ l)
tell_ahead f g (inr p) = or_right (ltb f.place g.place) _ (and_from _ _ (eq-eqb _ _ p.0) (tell_first f.trace.mode g.trace.mode f g p.1))

first_trans : (l m n : Mode) (f g h : Grant) → First l m f g → First m n g h → First l n f h
first_trans Update Update Update f g h p q = omega arith
first_trans Update Update Reader f g h p q = tt
first_trans Update Reader Update f g h p q = absurd q
first_trans Update Reader Reader f g h p q = tt
first_trans Reader Update Update f g h p q = absurd p
first_trans Reader Update Reader f g h p q = absurd p
first_trans Reader Reader Update f g h p q = absurd q
first_trans Reader Reader Reader f g h p q = omega arith

pub ahead_trans : (f g h : Grant) → Ahead f g → Ahead g h → Ahead f h
ahead_trans f g h (inl p) (inl q) = inl (omega arith)
ahead_trans f g h (inl p) (inr q) = inl (omega arith)
ahead_trans f g h (inr p) (inl q) = inl (omega arith)
ahead_trans f g h (inr p) (inr q) = inr (omega arith, first_trans f.trace.mode g.trace.mode h.trace.mode f g h p.1 q.1)

pub ahead_place : (f g : Grant) → Ahead f g → f.place ≤ g.place
ahead_place f g (inl p) = omega arith
ahead_place f g (inr p) = omega arith

-- of two updates at one place the one with the larger natural number is first
pub first_updates : (f g : Grant) → f.trace.mode ≡ Update → g.trace.mode ≡ Update → First f.trace.mode g.trace.mode f g → g.natural < f.natural
first_updates f g p q a = subst (λ m. First m Update f g) p (subst (λ m. First f.trace.mode m f g) q a)

first_irrefl : (m : Mode) (f : Grant) → First m m f f → ⊥
first_irrefl Update f p = omega arith
first_irrefl Reader f p = omega arith

pub ahead_irrefl : (f : Grant) → Ahead f f → ⊥
ahead_irrefl f (inl p) = omega arith
ahead_irrefl f (inr p) = first_irrefl f.trace.mode f p.1

-- two transactions are told apart by their natural numbers, or by when they began
abbrev pub Apart : Mode → Mode → Grant → Grant → Type 0
Apart Update Update f g = f.natural ≡ g.natural → ⊥
Apart Update Reader f g = Unit {0}
Apart Reader Update f g = Unit {0}
Apart Reader Reader f g = f.trace.began ≡ g.trace.began → ⊥

first_decided : (m n : Mode) (f g : Grant) → Apart m n f g → First m n f g ⊎ First n m g f
first_decided Update Update f g p = ⊎_elim (λ e. absurd (p e)) (⊎_elim inr inl) (cases_order f.natural g.natural)
first_decided Update Reader f g p = inl tt
first_decided Reader Update f g p = inr tt
first_decided Reader Reader f g p = ⊎_elim (λ e. absurd (p e)) (⊎_elim inl inr) (cases_order f.trace.began g.trace.began)

pub ahead_decided : (f g : Grant) → Apart f.trace.mode g.trace.mode f g → Ahead f g ⊎ Ahead g f
ahead_decided f g p =
    ⊎_elim
    (λ e. ⊎_elim (λ a. inl (inr (e, a))) (λ a. inr (inr (sym e, a))) (first_decided f.trace.mode g.trace.mode f g p))
    (⊎_elim (λ l. inl (inl l)) (λ l. inr (inl l)))
    (cases_order f.place g.place)

pub all_map : {X : Type 0} (P Q : X → Type 0) → ((x : X) → P x → Q x) → (xs : List X) → AllByRecursion P xs → AllByRecursion Q xs
all_map P Q f [] a = tt
all_map P Q f (x ∷ xs) a = (f x a.0, all_map P Q f xs a.1)

all_put_in : (P : Grant → Type 0) (g : Grant) (gs : List Grant) → P g → AllByRecursion P gs → AllByRecursion P (put_in g gs)
all_put_in P g [] p a = (p, tt)
all_put_in P g (f ∷ fs) p a =
    elim (ahead g f) as (λ k. AllByRecursion P (cond k (g ∷ f ∷ fs) (f ∷ put_in g fs))) [ true ↦ (p, a) | false ↦ (a.0, all_put_in P g fs p a.1) ]

-- where g stands ahead of the first, it stands ahead of all
ahead_of_all : (g f : Grant) (fs : List Grant) → Ahead g f → AllByRecursion (λ x. ahead f x ≡ true) fs → AllByRecursion (λ x. ahead g x ≡ true) (f ∷ fs)
ahead_of_all g f fs p a = (tell_ahead g f p, all_map _ _ (λ x q. tell_ahead g x (ahead_trans g f x p (ahead_told f x q))) fs a)

pub in_order_put_in : (g : Grant) (gs : List Grant) → ((f : Grant) → f ∈ gs → Ahead g f ⊎ Ahead f g) → InOrder gs → InOrder (put_in g gs)
in_order_put_in g [] apart o = (tt, tt)
in_order_put_in g (f ∷ fs) apart o =
    (elim (ahead g f) as (λ k. ahead g f ≡ k → InOrder (cond k (g ∷ f ∷ fs) (f ∷ put_in g fs))) [
      | true ↦ λ e. (ahead_of_all g f fs (ahead_told g f e) o.0, o)
      | false ↦ λ e. (
        all_put_in (λ x. ahead f x ≡ true) g fs
            (⊎_elim (λ p. absurd (both_ways _ e (tell_ahead g f p))) (tell_ahead f g) (apart f (Memᴰ.head refl))) o.0,
        in_order_put_in g fs (λ x m. apart x (Memᴰ.tail m)) o.1,
      )
    ]) refl

pub in_put_in : (g f : Grant) (gs : List Grant) → f ∈ put_in g gs → (f ≡ g) ⊎ (f ∈ gs)
in_put_in g f [] (Memᴰ.head e) = inl e
in_put_in g f [] (Memᴰ.tail m) = elim m [ ]
in_put_in g f (x ∷ xs) m =
    (elim (ahead g x) as (λ k. f ∈ cond k (g ∷ x ∷ xs) (x ∷ put_in g xs) → (f ≡ g) ⊎ (f ∈ x ∷ xs)) [
      | true ↦ λ k. Memᴰ.cases_cons k
      | false ↦ λ k. ⊎_elim (λ e. inr (Memᴰ.head e)) (λ j. ⊎_elim inl (λ i. inr (Memᴰ.tail i)) (in_put_in g f xs j)) (Memᴰ.cases_cons k)
    ]) m

pub put_in_has : (g : Grant) (gs : List Grant) → g ∈ put_in g gs
put_in_has g [] = Memᴰ.head refl
put_in_has g (x ∷ xs) = elim (ahead g x) as (λ k. g ∈ cond k (g ∷ x ∷ xs) (x ∷ put_in g xs)) [ true ↦ Memᴰ.head refl | false ↦ Memᴰ.tail (put_in_has g xs) ]

pub put_in_keeps : (g f : Grant) (gs : List Grant) → f ∈ gs → f ∈ put_in g gs
put_in_keeps g f [] m = elim m [ ]
put_in_keeps g f (x ∷ xs) m =
    elim (ahead g x) as (λ k. f ∈ cond k (g ∷ x ∷ xs) (x ∷ put_in g xs)) [
      | true ↦ Memᴰ.tail m
      | false ↦ ⊎_elim (λ e. Memᴰ.head e) (λ j. Memᴰ.tail (put_in_keeps g f xs j)) (Memᴰ.cases_cons m)
    ]

-- what is granted stands in the order, and nothing else
pub in_arranged : (f : Grant) (gs : List Grant) → f ∈ arranged gs → f ∈ gs
in_arranged f [] m = m
in_arranged f (g ∷ gs) m = ⊎_elim (λ e. Memᴰ.head e) (λ j. Memᴰ.tail (in_arranged f gs j)) (in_put_in g f (arranged gs) m)

pub arranged_has : (f : Grant) (gs : List Grant) → f ∈ gs → f ∈ arranged gs
arranged_has f [] m = m
arranged_has f (g ∷ gs) m = ⊎_elim (λ e. subst (λ x. x ∈ put_in g (arranged gs)) (sym e) (put_in_has g (arranged gs))) (λ j. put_in_keeps g f (arranged gs) (arranged_has f gs j)) (Memᴰ.cases_cons m)

-- exactly once
shuffled_front : (g f : Grant) (fs : List Grant) → IsPermutation (g ∷ f ∷ fs) (f ∷ g ∷ fs)
shuffled_front g f fs = IsPermutation-swap (g ∷ f ∷ fs) (f ∷ g ∷ fs) 0 1 (omega arith) (omega arith) refl

shuffled_put_in : (g : Grant) (gs : List Grant) → IsPermutation (g ∷ gs) (put_in g gs)
shuffled_put_in g [] = IsPermutation-refl (g ∷ [])
shuffled_put_in g (f ∷ fs) =
    elim (ahead g f) as (λ k. IsPermutation (g ∷ f ∷ fs) (cond k (g ∷ f ∷ fs) (f ∷ put_in g fs))) [
      | true ↦ IsPermutation-refl (g ∷ f ∷ fs)
      | false ↦ IsPermutation-trans _ _ _ (shuffled_front g f fs) (IsPermutation-cons f _ _ (shuffled_put_in g fs))
    ]

pub shuffled_arranged : (gs : List Grant) → IsPermutation gs (arranged gs)
shuffled_arranged [] = IsPermutation-refl []
shuffled_arranged (g ∷ gs) = IsPermutation-trans _ _ _ (IsPermutation-cons g _ _ (shuffled_arranged gs)) (shuffled_put_in g (arranged gs))

-- in a list in order, of two that stand in it the one that is ahead stands ahead
pub stands_ahead : (f g : Grant) (gs : List Grant) → InOrder gs → f ∈ gs → g ∈ gs → Ahead f g → StandsAhead f g gs
stands_ahead f g [] o m n p = elim m [ ]
stands_ahead f g (x ∷ xs) o (Memᴰ.head e) n p =
    ([], xs, ap (λ y. y ∷ xs) (sym e), ⊎_elim (λ d. absurd (ahead_irrefl f (subst (Ahead f) (d ∙ sym e) p))) (λ k. k) (Memᴰ.cases_cons n))
stands_ahead f g (x ∷ xs) o (Memᴰ.tail m) n p =
    let k : g ∈ xs = ⊎_elim (λ d. absurd (ahead_irrefl f (ahead_trans f g f p (subst (λ y. Ahead y f) (sym d) (ahead_told x f (all_in _ xs f o.0 m)))))) (λ k. k) (Memᴰ.cases_cons n) in
    let r = stands_ahead f g xs o.1 m k p in
    (x ∷ r.0, r.1, ap (λ l. x ∷ l) r.2, r.3)

-- those that do not stand behind g
abbrev pub not_behind : Grant → Grant → Bool
not_behind g f = not (ahead g f)

kept_none : (Q : Grant → Bool) (gs : List Grant) → AllByRecursion (λ x. Q x ≡ false) gs → filter Q gs ≡ []
kept_none Q [] a = refl
kept_none Q (x ∷ xs) a = cond-false (Q x) _ _ a.0 ∙ kept_none Q xs a.1

-- a transaction put in reads at its place what it was answered, and writes nothing that those behind it look at
pub each_put_in : (g : Grant) (gs : List Grant) (t : Table) → InOrder gs
    → ((f : Grant) → f ∈ gs → Ahead g f → (i : ℕ) → Sees f.trace.deeds i → written g.trace.deeds i ≡ None)
    → Answered g.trace.deeds (run (filter (not_behind g) gs) t) → EachAnswered gs t → EachAnswered (put_in g gs) t
each_put_in g [] t o free own a = (own, tt)
each_put_in g (f ∷ fs) t o free own a =
    (elim (ahead g f) as (λ k. ahead g f ≡ k → Answered g.trace.deeds (run (cond (not k) (f ∷ filter (not_behind g) fs) (filter (not_behind g) fs)) t) → EachAnswered (cond k (g ∷ f ∷ fs) (f ∷ put_in g fs)) t) [
      | true ↦ λ e own.
          let all = ahead_of_all g f fs (ahead_told g f e) o.0 in (
            subst (λ l. Answered g.trace.deeds (run l t)) (kept_none (not_behind g) fs (all_map _ _ (λ x q. ap not q) fs all.1)) own,
            each_agrees g (f ∷ fs) t _ (λ x m. free x m (ahead_told g x (all_in _ (f ∷ fs) x all m))) (λ i n. sym (after_none g.trace.deeds t i n)) a,
          )
      | false ↦ λ e own. (a.0, each_put_in g fs _ o.1 (λ x m. free x (Memᴰ.tail m)) own a.1)
    ]) refl own
