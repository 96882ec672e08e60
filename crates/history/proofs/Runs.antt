-- Serial runs: what a run leaves at an item, and which tables make no difference to a transaction.
use Rattle.std.proofs.Common.{◌≡◌, ℕ, Bool, true, false, cond, eqb, ◌⊎◌, List, [], ◌∷◌, Some, None, filter, Option, unwrap_or, sym, refl, ap, ◌∙◌, subst, inl, inr}
use mathlib.Core.List.{Memᴰ}
use Rattle.std.specs.List.{AllByRecursion}
use Rattle.std.proofs.lemmas.Bool.{cond-false}
use Rattle.history.specs.Log.{Deeds, begun, and_read, and_wrote, Grant}
use Rattle.history.specs.Order.{ahead, put_in}
use Rattle.history.specs.Run.{Table, after, Answered, run, EachAnswered}
use Rattle.history.specs.Promise.{◌∈◌, InOrder}

pub all_in : {X : Type 0} (P : X → Type 0) (xs : List X) (x : X) → AllByRecursion P xs → x ∈ xs → P x
all_in P [] x a m = elim m [ ]
all_in P (y ∷ ys) x a (Memᴰ.head e) = subst P (sym e) a.0
all_in P (y ∷ ys) x a (Memᴰ.tail m) = all_in P ys x a.1 m

-- the code that deeds write last to an item
abbrev pub written : Deeds → ℕ → Option ℕ
written begun i = None
written (and_read d j c) i = written d i
written (and_wrote d j c) i = cond (eqb i j) (Some c) (written d i)

-- deeds read the item before they write it
abbrev pub Sees : Deeds → ℕ → Type 0
Sees begun i = ⊥
Sees (and_read d j c) i = Sees d i ⊎ ((i ≡ j) × (written d i ≡ None))
Sees (and_wrote d j c) i = Sees d i

pub after_written : (d : Deeds) (t : Table) (i : ℕ) → after d t i ≡ unwrap_or (written d i) (t i)
after_written begun t i = refl
after_written (and_read d j c) t i = after_written d t i
after_written (and_wrote d j c) t i =
    elim (eqb i j) as (λ e. cond e c (after d t i) ≡ unwrap_or (cond e (Some c) (written d i)) (t i)) [ true ↦ refl | false ↦ after_written d t i ]

pub after_agrees : (d : Deeds) (t u : Table) (i : ℕ) → t i ≡ u i → after d t i ≡ after d u i
after_agrees d t u i e = after_written d t i ∙ ap (unwrap_or (written d i)) e ∙ sym (after_written d u i)

pub after_none : (d : Deeds) (t : Table) (i : ℕ) → written d i ≡ None → after d t i ≡ t i
after_none d t i e = after_written d t i ∙ ap (λ w. unwrap_or w (t i)) e

pub after_some : (d : Deeds) (t : Table) (i c : ℕ) → written d i ≡ Some c → after d t i ≡ c
after_some d t i c e = after_written d t i ∙ ap (λ w. unwrap_or w (t i)) e

-- tables that agree where deeds look make no difference
pub answered_agrees : (d : Deeds) (t u : Table) → ((i : ℕ) → Sees d i → t i ≡ u i) → Answered d t → Answered d u
answered_agrees begun t u same a = tt
answered_agrees (and_wrote d j c) t u same a = answered_agrees d t u same a
answered_agrees (and_read d j c) t u same a = (answered_agrees d t u (λ i s. same i (inl s)) a.0, read (written d j) refl ∙ a.1)
  where
    read : (w : Option ℕ) → written d j ≡ w → after d u j ≡ after d t j
    read None e = after_agrees d u t j (sym (same j (inr (refl, e))))
    read (Some x) e = after_some d u j x e ∙ sym (after_some d t j x e)

pub run_agrees : (gs : List Grant) (t u : Table) (i : ℕ) → t i ≡ u i → run gs t i ≡ run gs u i
run_agrees [] t u i e = e
run_agrees (g ∷ gs) t u i e = run_agrees gs _ _ i (after_agrees g.trace.deeds t u i e)

abbrev pub Writes : Grant → ℕ → ℕ → Type 0
Writes g i c = written g.trace.deeds i ≡ Some c

unwritten : (w : Option ℕ) → ((c : ℕ) → w ≡ Some c → ⊥) → w ≡ None
unwritten None free = refl
unwritten (Some c) free = absurd (free c refl)

-- no transaction that is kept writes the item
pub run_none : (Q : Grant → Bool) (gs : List Grant) (t : Table) (i : ℕ) → ((f : Grant) → f ∈ gs → Q f ≡ true → (c : ℕ) → Writes f i c → ⊥) → run (filter Q gs) t i ≡ t i
run_none Q [] t i free = refl
run_none Q (g ∷ gs) t i free =
    (elim (Q g) as (λ q. Q g ≡ q → run (cond q (g ∷ filter Q gs) (filter Q gs)) t i ≡ t i) [
      | true ↦ λ e. run_none Q gs _ i (λ f m. free f (Memᴰ.tail m)) ∙ after_none g.trace.deeds t i (unwritten _ (free g (Memᴰ.head refl) e))
      | false ↦ λ e. run_none Q gs t i (λ f m. free f (Memᴰ.tail m))
    ]) refl

-- g is the last that is kept and writes the item
pub run_last : (Q : Grant → Bool) (gs : List Grant) (t : Table) (i c : ℕ) (g : Grant) → InOrder gs → g ∈ gs → Q g ≡ true → Writes g i c → ((f : Grant) → f ∈ gs → Q f ≡ true → (x : ℕ) → Writes f i x → ahead g f ≡ true → ⊥) → run (filter Q gs) t i ≡ c
run_last Q [] t i c g o m q w last = elim m [ ]
run_last Q (x ∷ gs) t i c g o (Memᴰ.head is) q w last =
    subst (λ k. run (cond k (x ∷ filter Q gs) (filter Q gs)) t i ≡ c) (sym (subst (λ y. Q y ≡ true) is q))
    (run_none Q gs _ i (λ f m p y wy. last f (Memᴰ.tail m) p y wy (subst (λ y. ahead y f ≡ true) (sym is) (all_in _ gs f o.0 m))) ∙ after_some x.trace.deeds t i c (subst (λ y. Writes y i c) is w))
run_last Q (x ∷ gs) t i c g o (Memᴰ.tail m) q w last =
    (elim (Q x) as (λ k. run (cond k (x ∷ filter Q gs) (filter Q gs)) t i ≡ c) [
      | true ↦ run_last Q gs _ i c g o.1 m q w (λ f k. last f (Memᴰ.tail k))
      | false ↦ run_last Q gs t i c g o.1 m q w (λ f k. last f (Memᴰ.tail k))
    ])

-- one more that does not write the item
pub run_put_in : (Q : Grant → Bool) (g : Grant) (gs : List Grant) (t : Table) (i : ℕ) → written g.trace.deeds i ≡ None → run (filter Q (put_in g gs)) t i ≡ run (filter Q gs) t i
run_put_in Q g [] t i none =
    elim (Q g) as (λ k. run (cond k (g ∷ []) []) t i ≡ t i) [ true ↦ after_none g.trace.deeds t i none | false ↦ refl ]
run_put_in Q g (f ∷ fs) t i none =
    elim (ahead g f) as (λ k. run (filter Q (cond k (g ∷ f ∷ fs) (f ∷ put_in g fs))) t i ≡ run (filter Q (f ∷ fs)) t i) [
      | true ↦ elim (Q g) as (λ k. run (cond k (g ∷ filter Q (f ∷ fs)) (filter Q (f ∷ fs))) t i ≡ run (filter Q (f ∷ fs)) t i) [
        | true ↦ run_agrees (filter Q (f ∷ fs)) _ t i (after_none g.trace.deeds t i none)
        | false ↦ refl
      ]
      | false ↦ elim (Q f) as (λ k. run (cond k (f ∷ filter Q (put_in g fs)) (filter Q (put_in g fs))) t i ≡ run (cond k (f ∷ filter Q fs) (filter Q fs)) t i) [
        | true ↦ run_put_in Q g fs _ i none
        | false ↦ run_put_in Q g fs t i none
      ]
    ]

-- one more that is not kept
pub kept_put_in : (Q : Grant → Bool) (g : Grant) (gs : List Grant) → Q g ≡ false → filter Q (put_in g gs) ≡ filter Q gs
kept_put_in Q g [] out = cond-false (Q g) _ _ out
kept_put_in Q g (f ∷ fs) out =
    elim (ahead g f) as (λ k. filter Q (cond k (g ∷ f ∷ fs) (f ∷ put_in g fs)) ≡ filter Q (f ∷ fs)) [
      | true ↦ cond-false (Q g) _ _ out
      | false ↦ ap (λ l. cond (Q f) (f ∷ l) l) (kept_put_in Q g fs out)
    ]

-- g writes nothing that the transactions of the list look at
pub each_agrees : (g : Grant) (gs : List Grant) (t u : Table) → ((f : Grant) → f ∈ gs → (i : ℕ) → Sees f.trace.deeds i → written g.trace.deeds i ≡ None) → ((i : ℕ) → written g.trace.deeds i ≡ None → t i ≡ u i) → EachAnswered gs t → EachAnswered gs u
each_agrees g [] t u free same a = tt
each_agrees g (f ∷ fs) t u free same a = (
  answered_agrees f.trace.deeds t u (λ i s. same i (free f (Memᴰ.head refl) i s)) a.0,
  each_agrees g fs _ _ (λ x m. free x (Memᴰ.tail m)) (λ i n. after_agrees f.trace.deeds t u i (same i n)) a.1,
)

-- two tests that agree on those that write the item keep the same of it
pub run_same : (P Q : Grant → Bool) (gs : List Grant) (t u : Table) (i : ℕ) → ((f : Grant) → f ∈ gs → (written f.trace.deeds i ≡ None) ⊎ (P f ≡ Q f)) → t i ≡ u i → run (filter P gs) t i ≡ run (filter Q gs) u i
run_same P Q [] t u i same e = e
run_same P Q (g ∷ gs) t u i same e = go (same g (Memᴰ.head refl)) (λ v w d. run_same P Q gs v w i (λ f m. same f (Memᴰ.tail m)) d)
  where
    go : (written g.trace.deeds i ≡ None) ⊎ (P g ≡ Q g) → ((v w : Table) → v i ≡ w i → run (filter P gs) v i ≡ run (filter Q gs) w i) → run (filter P (g ∷ gs)) t i ≡ run (filter Q (g ∷ gs)) u i
    go (inl none) rest =
        elim (P g) as (λ p. run (cond p (g ∷ filter P gs) (filter P gs)) t i ≡ run (filter Q (g ∷ gs)) u i) [
          | true ↦ elim (Q g) as (λ q. run (filter P gs) (after g.trace.deeds t) i ≡ run (cond q (g ∷ filter Q gs) (filter Q gs)) u i) [
            | true ↦ rest _ _ (after_agrees g.trace.deeds t u i e)
            | false ↦ rest _ u (after_none g.trace.deeds t i none ∙ e)
          ]
          | false ↦ elim (Q g) as (λ q. run (filter P gs) t i ≡ run (cond q (g ∷ filter Q gs) (filter Q gs)) u i) [
            | true ↦ rest t _ (e ∙ sym (after_none g.trace.deeds u i none))
            | false ↦ rest t u e
          ]
        ]
    go (inr is) rest =
        subst (λ q. run (filter P (g ∷ gs)) t i ≡ run (cond q (g ∷ filter Q gs) (filter Q gs)) u i) is
        (elim (P g) as (λ p. run (cond p (g ∷ filter P gs) (filter P gs)) t i ≡ run (cond p (g ∷ filter Q gs) (filter Q gs)) u i) [
          | true ↦ rest _ _ (after_agrees g.trace.deeds t u i e)
          | false ↦ rest t u e
        ])
