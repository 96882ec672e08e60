-- Lemmas on cutting bytes at a byte.
use Rattle.std.proofs.Common.{◌≡◌, ℕ, zero, suc, ◌+◌, ◌-◌, ◌<◌, ◌≤◌, Bool, true, false, cond, eqb, List, [], ◌∷◌, ◌++◌, length, get_or, take, drop, is_some, Some, None, Err, codes, Option, sym, refl, ap, ◌∙◌, ⊎_elim, add-one, arith, Bor, MatchOption}
use mir.Val.{bool_byte}
use Rattle.std.specs.List.{AllWithin, HoldsAt}
use Rattle.std.specs.Option.{option_map}
use Rattle.std.proofs.lemmas.List.{take_rest, append_assoc, length-append}
use Rattle.std.proofs.lemmas.Bool.{eq-eqb, ne_eqb, eqb-true, cond_both, cond-true, cond-false, cases_Bool}
use Rattle.calls.specs.declared.fault.Fault.TheVariants.{WrongPart}
use Rattle.script.specs.Reading.{end_at}
use Rattle.script.specs.Parts.{Place, until, after, past, onto, cut, parts, room, left, next, joined_by, value_in, value_at}

-- the first b of xs stands at i
found : (b : ℕ) (xs : List ℕ) (i : ℕ) → i < length xs → ((k : ℕ) → k < i → get_or xs k 0 ≡ b → ⊥) → get_or xs i 0 ≡ b → (until b xs ≡ take i xs) × (after b xs ≡ Some (drop (suc i) xs))
found b [] i h n e = absurd (omega arith)
found b (x ∷ xs) zero h n e = rw (eq-eqb x b e) (refl, refl)
found b (x ∷ xs) (suc i) h n e =
    let r = found b xs i (omega arith) (λ k l. n (suc k) (omega arith)) e in
    rw (ne_eqb x b (n 0 (omega arith))) (ap (λ l. x ∷ l) r.0, r.1)

-- the same, as the checker reads `&s[0..i]` and `&s[i + 1..]`
cut_found : (b : ℕ) (xs : List ℕ) (i : ℕ) → i < length xs → ((k : ℕ) → k < i → get_or xs k 0 ≡ b → ⊥) → get_or xs i 0 ≡ b → (take i xs ≡ until b xs) × (Some (take (length xs - (i + 1)) (drop (i + 1) xs)) ≡ after b xs)
cut_found b xs i h n e =
    let r = found b xs i h n e in
    (sym r.0, rw (take_rest xs (i + 1), add-one) (sym r.1))

-- no byte of xs is b
cut_none : (b : ℕ) (xs : List ℕ) → ((k : ℕ) → k < length xs → get_or xs k 0 ≡ b → ⊥) → (until b xs ≡ xs) × (after b xs ≡ None)
cut_none b [] n = (refl, refl)
cut_none b (x ∷ xs) n =
    let r = cut_none b xs (λ k l. n (suc k) (omega arith)) in
    rw (ne_eqb x b (n 0 (omega arith))) (ap (λ l. x ∷ l) r.0, r.1)

-- what is cut where `position` finds the first b, or finds none
abbrev pub Cuts : ℕ → List ℕ → Option ℕ → Type 0
Cuts b xs None = (until b xs ≡ xs) × (after b xs ≡ None)
Cuts b xs (Some i) = (take i xs ≡ until b xs) × (Some (take (length xs - (i + 1)) (drop (i + 1) xs)) ≡ after b xs)

pub cuts : (b : ℕ) (xs : List ℕ) (r : Option ℕ) → MatchOption r (AllWithin (λ x. x ≡ b → ⊥) xs 0 (length xs)) (λ i. (i < length xs) × HoldsAt (λ x. x ≡ b) xs i × AllWithin (λ x. x ≡ b → ⊥) xs 0 i) → Cuts b xs r
cuts b xs None n = cut_none b xs (λ k l. n k 0 (omega arith) l)
cuts b xs (Some i) f = cut_found b xs i f.0 (λ k l. f.2 k 0 (omega arith) l) (f.1 0)

-- what stands after a front, by cases on whether the front stands there
pub past_front : (p s : List ℕ) → past p (p ++ s) ≡ Some s
past_front [] s = refl
past_front (c ∷ p) s = rw (eq-eqb c c refl) (past_front p s)

past_both : (p q s : List ℕ) → past (p ++ q) (p ++ s) ≡ past q s
past_both [] q s = refl
past_both (c ∷ p) q s = rw (eq-eqb c c refl) (past_both p q s)

past_none : (p s : List ℕ) → ((rest : List ℕ) → s ≡ p ++ rest → ⊥) → past p s ≡ None
past_none [] s n = absurd (n s refl)
past_none (c ∷ p) [] n = refl
past_none (c ∷ p) (d ∷ s) n =
    cond_both (eqb c d) (past p s) None (λ r. r ≡ None)
    (λ e. past_none p s (λ rest f. n rest (λ i. sym (eqb-true c d e) i ∷ f i)))
    (λ e. refl)

-- what `strip_prefix` gives
pub stripped : (p s : List ℕ) (r : Option (Bor (List ℕ))) → MatchOption r ((rest : List ℕ) → s ≡ p ++ rest → ⊥) (λ x. s ≡ p ++ x.now) → option_map (λ x. x.now) r ≡ past p s
stripped p s None h = sym (past_none p s h)
stripped p s (Some x) h = sym (rw h (past_front p x.now))

-- two fronts, one after the other
pub past_two : (p q s : List ℕ) (r : Option (Bor (List ℕ))) (t : List ℕ) → s ≡ p ++ t → MatchOption r ((rest : List ℕ) → t ≡ q ++ rest → ⊥) (λ x. t ≡ q ++ x.now) → option_map (λ x. x.now) r ≡ past (p ++ q) s
past_two p q s r t e h = stripped q t r h ∙ sym (rw e (past_both p q t))

pub past_not : (p q s : List ℕ) → ((rest : List ℕ) → s ≡ p ++ rest → ⊥) → past (p ++ q) s ≡ None
past_not p q s n = past_none (p ++ q) s (λ rest e. n (q ++ rest) (e ∙ append_assoc p q rest))

-- the pieces of what is left
abbrev pub pieces : ℕ → Option (List ℕ) → List (List ℕ)
pieces b None = []
pieces b (Some s) = cut b s

pub cut_first : (b : ℕ) (s : List ℕ) → cut b s ≡ until b s ∷ pieces b (after b s)
cut_first b [] = refl
cut_first b (c ∷ cs) =
    elim (eqb c b) as (λ t. cond t ([] ∷ cut b cs) (onto c (cut b cs)) ≡ cond t [] (c ∷ until b cs) ∷ pieces b (cond t (Some cs) (after b cs))) [ true ↦ refl | false ↦ ap (onto c) (cut_first b cs) ]

-- the bytes of what is left, with the mark before them
abbrev marked : Option (List ℕ) → ℕ
marked None = 0
marked (Some s) = suc (length s)

length_cut : (b : ℕ) (s : List ℕ) → length (until b s) + marked (after b s) ≡ length s
length_cut b [] = refl
length_cut b (c ∷ cs) =
    elim (eqb c b) as (λ t. length (cond t [] (c ∷ until b cs)) + marked (cond t (Some cs) (after b cs)) ≡ suc (length cs)) [ true ↦ omega arith | false ↦ omega (arith, length_cut b cs) ]

after_first : (at : ℕ) (part : List ℕ) (b : ℕ) (cs : List ℕ) → next at (part ∷ cut b cs) ≡ at + length part + 1
after_first at part b cs = rw (cut_first b cs)

-- a place is its byte and its parts
pub place_is : {at byte : ℕ} {ps qs : List (List ℕ)} → at ≡ byte → ps ≡ qs → ◌≡◌ {A = Place} (record { at = at; parts = ps }) (record { at = byte; parts = qs })
place_is e f = λ i. record { at = e i; parts = f i }

-- a scanner passes over the first part of what is left, and over n spaces
pub record Passed (at n : ℕ) (part : List ℕ) (was is : Option (Bor (List ℕ))) : Type 0 where
  pub parts_left : parts is ≡ left (parts was)
  pub place : at + (length part + n) ≡ next at (parts was)
  pub room_left : length part + n + room is ≡ room was

passed_all : (at : ℕ) (rest part : List ℕ) (o : Option (Bor (List ℕ))) → part ≡ until 32 rest → option_map (λ x. x.now) o ≡ after 32 rest → (x : Bor (List ℕ)) → x.now ≡ rest → Passed at (bool_byte (is_some o)) part (Some x) o
passed_all at rest part None e f x is =
    let cuts : cut 32 x.now ≡ part ∷ [] = rw (is, e, ap (pieces 32) f) (cut_first 32 rest) in
    let long : length part + 0 ≡ length x.now = rw (is, e, ap marked f) (length_cut 32 rest) in
    record { parts_left = rw cuts; place = rw cuts (omega arith); room_left = omega arith }
passed_all at rest part (Some y) e f x is =
    let cuts : cut 32 x.now ≡ part ∷ cut 32 y.now = rw (is, e, ap (pieces 32) f) (cut_first 32 rest) in
    let long : length part + suc (length y.now) ≡ length x.now = rw (is, e, ap marked f) (length_cut 32 rest) in
    record { parts_left = rw cuts; place = rw (cuts, after_first at part 32 y.now) (omega arith); room_left = omega arith }

pub passed : (at n : ℕ) (t : Bool) (part : List ℕ) (was is : Option (Bor (List ℕ))) (x : Bor (List ℕ)) → was ≡ Some x → part ≡ until 32 x.now → option_map (λ y. y.now) is ≡ after 32 x.now → t ≡ is_some is → n ≡ bool_byte t → Passed at n part was is
passed at n t part was is x e f g h k = rw (e, k, h) (passed_all at x.now part is f g x refl)

-- the value that the first part gives to a key
pub first_value : (key : List ℕ) (was : Option (Bor (List ℕ))) (x : Bor (List ℕ)) (v : Option (List ℕ)) → was ≡ Some x → v ≡ value_in key (until 32 x.now) → value_at key (parts was) ≡ v
first_value key was x v e f = rw (e, cut_first 32 x.now) (sym f)

pub past_some : (p s t : List ℕ) → past p s ≡ Some t → s ≡ p ++ t
past_some [] s t e = cc
past_some (c ∷ p) [] t e = let z : ◌≡◌ {A = ℕ} 0 1 = cc in absurd (omega arith)
past_some (c ∷ p) (d ∷ s) t e =
    ⊎_elim
    (λ same. λ i. sym (eqb-true c d same) i ∷ past_some p s t (sym (cond-true (eqb c d) (past p s) None same) ∙ e) i)
    (λ apart. let f = sym (cond-false (eqb c d) (past p s) None apart) ∙ e in let z : ◌≡◌ {A = ℕ} 0 1 = cc in absurd (omega arith))
    (cases_Bool (eqb c d))

pub value_fits : (key rest text : List ℕ) → Some text ≡ value_in key (until 32 rest) → length key + 1 ≤ length rest
value_fits key rest text e =
    let f = ap length (past_some (key ++ codes "=") (until 32 rest) text (sym e)) in
    omega (arith, simp length-append at f, length_cut 32 rest)

-- a part is left
pub not_ended : (at : ℕ) (was : Option (Bor (List ℕ))) (x : Bor (List ℕ)) → was ≡ Some x → Err (WrongPart at) ≡ end_at at (parts was)
not_ended at was x e = rw (e, cut_first 32 x.now)

-- pieces, put together again
some_pieces : (b : ℕ) (s : List ℕ) → 0 < length (cut b s)
some_pieces b s = rw (cut_first b s) (omega arith)

joined_empty : (b : ℕ) (ps : List (List ℕ)) → 0 < length ps → joined_by b ([] ∷ ps) ≡ b ∷ joined_by b ps
joined_empty b [] h = absurd (omega arith)
joined_empty b (p ∷ ps) h = refl

joined_onto : (b c : ℕ) (ps : List (List ℕ)) → 0 < length ps → joined_by b (onto c ps) ≡ c ∷ joined_by b ps
joined_onto b c [] h = absurd (omega arith)
joined_onto b c (p ∷ []) h = refl
joined_onto b c (p ∷ q ∷ ps) h = refl

pub joined_cut : (b : ℕ) (s : List ℕ) → joined_by b (cut b s) ≡ s
joined_cut b [] = refl
joined_cut b (c ∷ cs) =
    cond_both (eqb c b) ([] ∷ cut b cs) (onto c (cut b cs)) (λ ps. joined_by b ps ≡ c ∷ cs)
    (λ e. joined_empty b (cut b cs) (some_pieces b cs) ∙ (λ i. sym (eqb-true c b e) i ∷ joined_cut b cs i))
    (λ e. joined_onto b c (cut b cs) (some_pieces b cs) ∙ ap (λ s. c ∷ s) (joined_cut b cs))
