-- Numbers and answers, read off a text.
use Rattle.std.proofs.Common.{◌≡◌, ℕ, ◌+◌, ◌<◌, ◌≤◌, Bool, true, false, cond, not, eqb, ltb, List, [], ◌∷◌, ◌++◌, length, get_or, take, drop, decimal, Option, Some, None, position, sym, refl, ap, ◌∙◌, arith}
use Rattle.std.specs.Str.Parse.{AllDigits}
use Rattle.std.specs.List.{position_or_len, AllByRecursion}
use Rattle.std.proofs.Math.Numerals.{one-add}
use Rattle.std.proofs.Math.Seq.{take-append_seam, drop-append-add}
use Rattle.std.proofs.lemmas.Bool.{ltb-true, lt-ltb, eqb-true, eq-eqb, ne_eqb}
use Rattle.std.proofs.lemmas.List.{length-append, take-append-drop, drop_more}
use Rattle.std.proofs.lemmas.List.Sums.{passes_at_first}
use Rattle.std.proofs.lemmas.Str.Parse.{digit_from_value}
use Rattle.script.specs.Numbers.{is_number, value}
use Rattle.cases.specs.declared.answers.Answer.{Answer}
use Rattle.cases.specs.Counting.{written, all_written, IsWritable}
use Rattle.script.proofs.Figures.{own, formed, decimal_formed, value_written, written_value}

written_if : (b : Bool) (text : List ℕ) (n : ℕ) → is_number text ≡ b → cond b (Some (value text)) None ≡ Some n → text ≡ decimal n
written_if true text n e h = let same : value text ≡ n = cc in sym (written_value text e) ∙ ap decimal same
written_if false text n e h = cc

pub was_written : (text : List ℕ) (n : ℕ) → cond (is_number text) (Some (value text)) None ≡ Some n → text ≡ decimal n
was_written text n h = written_if (is_number text) text n refl h

pub is_read : (n : ℕ) → n ≤ 9999999 → cond (is_number (decimal n)) (Some (value (decimal n))) None ≡ Some n
is_read n h = ap (λ b. cond b (Some (value (decimal n))) None) (decimal_formed n h) ∙ ap (λ v. Some v) (value_written n h)

-- the first place of a byte
place_if : (b : Bool) (bs : List ℕ) (end at : ℕ) → ltb (position_or_len (λ x. eqb x end) bs) (length bs) ≡ b → cond b (Some (position_or_len (λ x. eqb x end) bs)) None ≡ Some at → (at < length bs) × (get_or bs at 0 ≡ end)
place_if true bs end at e h =
    let first = position_or_len (λ x. eqb x end) bs in
    let same : first ≡ at = cc in
    let inside : first < length bs = ltb-true _ _ e in
    (omega arith, ap (λ k. get_or bs k 0) (sym same) ∙ eqb-true _ _ (passes_at_first (λ x. eqb x end) bs 0 inside))
place_if false bs end at e h = cc

pub end_there : (bs : List ℕ) (end at : ℕ) → position (λ x. eqb x end) bs ≡ Some at → (at < length bs) × (get_or bs at 0 ≡ end)
end_there bs end at h = place_if (ltb (position_or_len (λ x. eqb x end) bs) (length bs)) bs end at refl h

-- a number ends
pub number_found : (bs : List ℕ) (i n end : ℕ) → i < length bs → take i bs ≡ decimal n → get_or bs i 0 ≡ end → bs ≡ decimal n ++ (end ∷ drop (i + 1) bs)
number_found bs i n end h front e =
    sym (take-append-drop i bs) ∙ ap (λ z. z ++ drop i bs) front ∙ ap (λ z. decimal n ++ z) (drop_more bs i 0 h ∙ ap (λ k. k ∷ drop (i + 1) bs) e)

-- no digit ends a number
past_digits : (ds rest : List ℕ) (end : ℕ) → end < 48 → AllDigits 10 ds → position_or_len (λ x. eqb x end) (ds ++ end ∷ rest) ≡ length ds
past_digits [] rest end low digits = ap (λ b. cond (not b) (1 + position_or_len (λ x. eqb x end) rest) 0) (eq-eqb end end refl)
past_digits (d ∷ ds) rest end low digits =
    let range = digit_from_value d digits.0 in
    let other : eqb d end ≡ false = ne_eqb d end (λ same. omega arith) in
    ap (λ b. cond (not b) (1 + position_or_len (λ x. eqb x end) (ds ++ end ∷ rest)) 0) other ∙ ap (λ n. 1 + n) (past_digits ds rest end low digits.1) ∙ one-add (length ds)

-- a number stands in front of the first end
pub record Stands (bs : List ℕ) (end n : ℕ) (rest : List ℕ) : Type 0 where
  pub place : position (λ x. eqb x end) bs ≡ Some (length (decimal n))
  pub front : take (length (decimal n)) bs ≡ decimal n
  pub behind : drop (length (decimal n) + 1) bs ≡ rest

pub stands : (bs : List ℕ) (end n : ℕ) (rest : List ℕ) → end < 48 → n ≤ 9999999 → bs ≡ decimal n ++ (end ∷ rest) → Stands bs end n rest
stands bs end n rest low small e =
    let ds = decimal n in
    let p = λ (x : ℕ). eqb x end in
    let first : position_or_len p bs ≡ length ds = ap (position_or_len p) e ∙ past_digits ds rest end low (own.to ds (formed ds (decimal_formed n small)).digits) in
    let inside : length ds < length bs = omega (arith, ap length e ∙ length-append ds (end ∷ rest)) in
    record {
      place = ap (λ k. cond (ltb k (length bs)) (Some k) None) first ∙ ap (λ b. cond b (Some (length ds)) None) (lt-ltb _ _ inside);
      front = ap (take (length ds)) e ∙ take-append_seam ds (end ∷ rest);
      behind = ap (drop (length ds + 1)) e ∙ drop-append-add ds (end ∷ rest) 1;
    }

-- where it stands it is found and read
pub found_there : (bs rest : List ℕ) (r : Option ℕ) (end n : ℕ) → r ≡ position (λ x. eqb x end) bs → r ≡ None → Stands bs end n rest → ⊥
found_there bs rest r end n gives none s = let p = s.place in let z : ◌≡◌ {A = ℕ} 0 1 = cc in omega arith

pub read_there : (bs rest : List ℕ) (o r : Option ℕ) (end n at : ℕ) → n ≤ 9999999 → o ≡ position (λ x. eqb x end) bs → o ≡ Some at → r ≡ cond (is_number (take at bs)) (Some (value (take at bs))) None → Stands bs end n rest → (r ≡ Some n) × (drop (at + 1) bs ≡ rest)
read_there bs rest o r end n at small gives is reads s =
    let p = s.place in
    let same : at ≡ length (decimal n) = cc in
    let front : take at bs ≡ decimal n = ap (λ k. take k bs) same ∙ s.front in
    (reads ∙ ap (λ t. cond (is_number t) (Some (value t)) None) front ∙ is_read n small, ap (λ k. drop (k + 1) bs) same ∙ s.behind)

pub none_of : {A : Type 0} (r : Option ℕ) (n : ℕ) → r ≡ None → r ≡ Some n → A
none_of r n none some = let z : ◌≡◌ {A = ℕ} 0 1 = cc in absurd (omega arith)

pub one_value : (r : Option ℕ) (m n : ℕ) → r ≡ Some m → r ≡ Some n → m ≡ n
one_value r m n a b = cc

-- a text of answers is empty or begins with one
pub record Begins (text : List ℕ) : Type 0 where
  pub first : Answer
  pub more : List Answer
  pub first_fits : IsWritable first
  pub more_fit : AllByRecursion IsWritable more
  pub is : text ≡ written first ++ all_written more

pub begins : (answers : List Answer) (text : List ℕ) → AllByRecursion IsWritable answers → text ≡ all_written answers → 0 < length text → Begins text
begins [] text fit e some = absurd (omega (arith, ap length e))
begins (a ∷ more) text fit e some = record { first = a; more = more; first_fits = fit.0; more_fit = fit.1; is = e }
