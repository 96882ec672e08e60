-- Two texts, byte by byte, and the lines of one.
use Rattle.std.proofs.Common.{◌≡◌, ℕ, zero, suc, ◌+◌, ◌≤◌, Bool, true, false, cond, eqb, List, [], ◌∷◌, length, get_or, take, drop, Bor, Option, Some, None, unwrap_or, option_map, sym, refl, ap, ◌∙◌, subst, arith}
use Rattle.std.proofs.Math.Numerals.{one-add}
use Rattle.std.specs.List.{zip, prefix_len, slice_split, onto_first}
use Rattle.std.specs.Option.{UnwrapsOrElse}
use Rattle.std.proofs.lemmas.Bool.{eqb-true, eq-eqb}
use Rattle.script.specs.Parts.{cut, onto}
use Rattle.script.specs.Lines.{unended, lines_of}
use Rattle.cases.specs.Comparing.{DifferHere}

-- how many bytes two texts begin with alike
abbrev pub alike : List ℕ → List ℕ → ℕ
alike xs ys = prefix_len (λ (p : ℕ × ℕ). eqb p.0 p.1) (zip xs ys)

pub alike_within : (xs ys : List ℕ) → alike xs ys ≤ length xs
alike_within [] ys = omega arith
alike_within (x ∷ xs) [] = omega arith
alike_within (x ∷ xs) (y ∷ ys) =
    elim (eqb x y) as (λ b. cond b (1 + alike xs ys) 0 ≤ suc (length xs)) [ true ↦ omega (arith, alike_within xs ys) | false ↦ omega arith ]

-- up to there they are the same, and there they differ, unless they are the same to the end
pub record Parted (xs ys : List ℕ) (n : ℕ) : Type 0 where
  pub same : take n xs ≡ take n ys
  pub differ : (xs ≡ ys → ⊥) → DifferHere (drop n xs) (drop n ys)

one_more : (x y : ℕ) (xs ys : List ℕ) (b : Bool) (n : ℕ) → eqb x y ≡ b → Parted xs ys n → Parted (x ∷ xs) (y ∷ ys) (cond b (1 + n) 0)
one_more x y xs ys true n e p =
    let here : x ≡ y = eqb-true x y e in
    subst (Parted (x ∷ xs) (y ∷ ys)) (sym (one-add n)) (record {
      same = cc (here, p.same);
      differ = λ ne. p.differ (λ rest. ne (cc (here, rest)));
    })
one_more x y xs ys false n e p = record { same = refl; differ = λ ne same. let t : eqb x y ≡ true = eq-eqb x y same in cc }

pub parted : (xs ys : List ℕ) → Parted xs ys (alike xs ys)
parted [] [] = record { same = refl; differ = λ ne. ne refl }
parted [] (y ∷ ys) = record { same = refl; differ = λ ne. tt }
parted (x ∷ xs) [] = record { same = refl; differ = λ ne. tt }
parted (x ∷ xs) (y ∷ ys) = one_more x y xs ys (eqb x y) (alike xs ys) refl (parted xs ys)

-- a text is cut into the same pieces by the library
first_onto : (x : ℕ) (ps : List (List ℕ)) → onto_first x ps ≡ onto x ps
first_onto x [] = refl
first_onto x (p ∷ ps) = refl

pub pieces : (xs : List ℕ) → slice_split (λ c. eqb c 10) xs ≡ cut 10 xs
pieces [] = refl
pieces (x ∷ xs) = ap (λ ps. cond (eqb x 10) ([] ∷ ps) (onto_first x ps)) (pieces xs) ∙ ap (λ ps. cond (eqb x 10) ([] ∷ cut 10 xs) ps) (first_onto x (cut 10 xs))

-- pieces that are the same at each index stay so behind one more byte
begun : (b : Bool) (x : ℕ) (ps qs : List (List ℕ)) → ((i : ℕ) → get_or ps i [] ≡ get_or qs i []) → (i : ℕ) → get_or (cond b ([] ∷ ps) (onto x ps)) i [] ≡ get_or (cond b ([] ∷ qs) (onto x qs)) i []
begun true x ps qs same zero = refl
begun true x ps qs same (suc i) = same i
begun false x [] [] same i = refl
begun false x [] (q ∷ qs) same zero = ap (λ z. x ∷ z) (same 0)
begun false x [] (q ∷ qs) same (suc i) = same (suc i)
begun false x (p ∷ ps) [] same zero = ap (λ z. x ∷ z) (same 0)
begun false x (p ∷ ps) [] same (suc i) = same (suc i)
begun false x (p ∷ ps) (q ∷ qs) same zero = ap (λ z. x ∷ z) (same 0)
begun false x (p ∷ ps) (q ∷ qs) same (suc i) = same (suc i)

-- a newline at the end begins only an empty piece
ended : (b : Bool) (x i : ℕ) → eqb x 10 ≡ b → get_or (cond b ([] ∷ [] ∷ []) ((x ∷ []) ∷ [])) i [] ≡ get_or (cut 10 (cond b [] (x ∷ []))) i []
ended true x zero e = refl
ended true x (suc zero) e = refl
ended true x (suc (suc i)) e = refl
ended false x i e = sym (ap (λ b. get_or (cond b ([] ∷ [] ∷ []) ((x ∷ []) ∷ [])) i []) e)

pub same_lines : (xs : List ℕ) (i : ℕ) → get_or (cut 10 xs) i [] ≡ get_or (lines_of xs) i []
same_lines [] i = refl
same_lines (x ∷ []) i = ended (eqb x 10) x i refl
same_lines (x ∷ y ∷ xs) i = begun (eqb x 10) x (cut 10 (y ∷ xs)) (cut 10 (unended (y ∷ xs))) (same_lines (y ∷ xs)) i

pub or_nothing : (line : Option (Bor (List ℕ))) (P : Bor (List ℕ) → Type 0) (x : Bor (List ℕ)) → UnwrapsOrElse line P x → (P x → x.now ≡ []) → x.now ≡ unwrap_or (option_map (λ y. y.now) line) []
or_nothing None P x h empty = empty h
or_nothing (Some y) P x h empty = ap (λ z. z.now) h
