-- Lemmas on the lines of a script.
use Rattle.std.proofs.Common.{◌≡◌, ℕ, zero, suc, ◌<◌, true, false, cond, eqb, ◌⊎◌, List, [], ◌∷◌, ◌++◌, length, get_or, Some, None, Option, MatchOption, IsSome, Bool, not, sym, refl, ap, ◌∙◌, inl, inr, ⊎_elim, arith, Bor}
use Rattle.std.specs.Option.{option_map}
use Rattle.std.specs.Bool.{then_some}
use Rattle.std.proofs.lemmas.Bool.{cases_Bool, cond_both, eqb-true, eqb-false, ne_eqb}
use Rattle.std.specs.List.{AllByRecursion}
use Rattle.script.specs.Laws.{LinesMakeTheScript}
use Rattle.script.specs.Lines.{unended, lines_of, lines_left}
use Rattle.script.specs.Parts.{until, after, cut, onto}
use Rattle.script.proofs.Cutting.{pieces, cut_first, joined_cut}

-- the lines of what stands after a line, if it has a newline
abbrev pub lines_after : Option (List ℕ) → List (List ℕ)
lines_after None = []
lines_after (Some []) = []
lines_after (Some (c ∷ cs)) = lines_of (c ∷ cs)

-- one byte, which may be a newline
last_until : (d : ℕ) → until 10 (unended (d ∷ [])) ≡ until 10 (d ∷ [])
last_until d =
    ⊎_elim
    (λ e. rw e)
    (λ e. rw e (rw e))
    (cases_Bool (eqb d 10))

last_after : (d : ℕ) → pieces 10 (after 10 (unended (d ∷ []))) ≡ lines_after (after 10 (d ∷ []))
last_after d =
    ⊎_elim
    (λ e. rw e)
    (λ e. rw e (rw e))
    (cases_Bool (eqb d 10))

until_unended : (s : List ℕ) → until 10 (unended s) ≡ until 10 s
until_unended [] = refl
until_unended (d ∷ []) = last_until d
until_unended (d ∷ e ∷ s) = ap (λ r. cond (eqb d 10) [] (d ∷ r)) (until_unended (e ∷ s))

after_unended : (s : List ℕ) → pieces 10 (after 10 (unended s)) ≡ lines_after (after 10 s)
after_unended [] = refl
after_unended (d ∷ []) = last_after d
after_unended (d ∷ e ∷ s) =
    elim (eqb d 10) as (λ t. pieces 10 (cond t (Some (unended (e ∷ s))) (after 10 (unended (e ∷ s)))) ≡ lines_after (cond t (Some (e ∷ s)) (after 10 (e ∷ s)))) [ true ↦ refl | false ↦ after_unended (e ∷ s) ]

first_line : (s : List ℕ) → lines_of s ≡ until 10 s ∷ lines_after (after 10 s)
first_line s = cut_first 10 (unended s) ∙ (λ i. until_unended s i ∷ after_unended s i)

-- the first line of what is left, and the lines after it
pub line_taken : (was : Option (Bor (List ℕ))) (x : Bor (List ℕ)) (line : List ℕ) (o is : Option (Bor (List ℕ))) → was ≡ Some x → line ≡ until 10 x.now → option_map (λ y. y.now) o ≡ after 10 x.now → lines_left is ≡ lines_after (option_map (λ y. y.now) o) → lines_left was ≡ line ∷ lines_left is
line_taken was x line o is e f g h = rw (e, f, h, g) (first_line x.now)

some_kept : (x : Bor (List ℕ)) (s : List ℕ) → x.now ≡ s → lines_left (then_some (not (eqb (length s) 0)) x) ≡ lines_after (Some s)
some_kept x [] e = refl
some_kept x (c ∷ cs) e = rw (ne_eqb (suc (length cs)) 0 (λ z. omega arith)) (ap lines_of e)

-- a newline at the end begins no line: what stands behind it is kept if it is not empty
pub kept : (rest is : Option (Bor (List ℕ))) (Answers : Bor (List ℕ) → Bool → Type 0) → ((x : Bor (List ℕ)) (b : Bool) → Answers x b → b ≡ not (eqb (length x.now) 0)) → MatchOption rest (is ≡ None) (λ x. (b : Bool) × Answers x b × (is ≡ then_some b x)) → lines_left is ≡ lines_after (option_map (λ y. y.now) rest)
kept None is A test h = ap lines_left h
kept (Some x) is A test h = ap lines_left h.2 ∙ ap (λ b. lines_left (then_some b x)) (test x h.0 h.1) ∙ some_kept x x.now refl

-- a script has a line
pub some_line : (script : List ℕ) (lines left : List (List ℕ)) (r : Option (Bor (List ℕ))) → lines ≡ lines_of script → MatchOption r ((lines ≡ []) × (left ≡ [])) (λ line. lines ≡ line.now ∷ left) → IsSome r
some_line script lines left None e h = let long = ap length (sym (first_line script) ∙ sym e ∙ h.0) in absurd (omega arith)
some_line script lines left (Some line) e h = refl

-- no piece holds the byte that it was cut at
abbrev Free : ℕ → List ℕ → Type 0
Free b p = (i : ℕ) → i < length p → get_or p i 0 ≡ b → ⊥

free_more : (b c : ℕ) (p : List ℕ) → eqb c b ≡ false → Free b p → Free b (c ∷ p)
free_more b c p n h zero l e = eqb-false c b n e
free_more b c p n h (suc i) l e = h i (omega arith) e

free_onto : (b c : ℕ) (ps : List (List ℕ)) → eqb c b ≡ false → AllByRecursion (Free b) ps → AllByRecursion (Free b) (onto c ps)
free_onto b c [] n h = (free_more b c [] n (λ i l. absurd (omega arith)), tt)
free_onto b c (p ∷ ps) n h = (free_more b c p n h.0, h.1)

free_pieces : (b : ℕ) (s : List ℕ) → AllByRecursion (Free b) (cut b s)
free_pieces b [] = (λ i l. absurd (omega arith), tt)
free_pieces b (c ∷ cs) =
    cond_both (eqb c b) ([] ∷ cut b cs) (onto c (cut b cs)) (AllByRecursion (Free b)) (λ e. (λ i l. absurd (omega arith), free_pieces b cs)) (λ e. free_onto b c (cut b cs) e (free_pieces b cs))

ended : (s : List ℕ) → (unended s ≡ s) ⊎ (unended s ++ (10 ∷ []) ≡ s)
ended [] = inl refl
ended (c ∷ []) =
    cond_both (eqb c 10) [] (c ∷ []) (λ l. (l ≡ c ∷ []) ⊎ (l ++ (10 ∷ []) ≡ c ∷ []))
    (λ e. inr (ap (λ d. d ∷ []) (sym (eqb-true c 10 e))))
    (λ e. inl refl)
ended (c ∷ d ∷ s) = ⊎_elim (λ e. inl (ap (λ l. c ∷ l) e)) (λ e. inr (ap (λ l. c ∷ l) e)) (ended (d ∷ s))

pub lines_make_the_script : LinesMakeTheScript
lines_make_the_script s =
    let whole = joined_cut 10 (unended s) in
    (free_pieces 10 (unended s), ⊎_elim (λ e. inl (whole ∙ e)) (λ e. inr (ap (λ l. l ++ (10 ∷ [])) whole ∙ e)) (ended s))
