-- Lemmas on the digits of a number.
use Rattle.std.proofs.Common.{◌≡◌, ℕ, ◌+◌, ◌-◌, ◌*◌, ◌%◌, ◌^◌, ◌<◌, ◌≤◌, min, [], ◌∷◌, refl, ◌∙◌, fold, true, not, ◌||◌, eqb, List, length, get_or, decimal, ap, ⊎_elim, arith, rules}
use Rattle.std.specs.Char.{is_ascii_digit}
use Rattle.std.specs.Str.{all_ascii_digits}
use Rattle.std.proofs.lemmas.Fmt.{decimal_digit, decimal_nonempty, decimal-digits_value, digits_decimal, first_decimal, length-decimal-le, digits_value-decimal}
use Rattle.std.proofs.lemmas.Str.Parse.{IsNumeralModel, numerals_by_fold, digits_value_short, digit_from_value}
use Rattle.std.proofs.lemmas.Bool.{and_from, and_parts, or_left, or_right, not_from_false, cases_lt, eq-eqb, ne_eqb, lt-ltb, le-leb, ltb-true, leb-true}
use Rattle.std.proofs.lemmas.Bool.Decides.{nat_tests}
use Rattle.script.specs.Answers.{shown}
use Rattle.script.specs.Numbers.{value_after, value, is_number}

pub own : IsNumeralModel (λ ds. all_ascii_digits ds ≡ true) value
own = numerals_by_fold _ (search rules) value_after (search rules)

-- a text that has the form of a number
pub record Formed (text : List ℕ) : Type 0 where
  pub some : 0 < length text
  pub short : length text ≤ 7
  pub lead : get_or text 0 0 ≡ 48 → length text ≡ 1
  pub digits : all_ascii_digits text ≡ true

pub formed : (text : List ℕ) → is_number text ≡ true → Formed text
formed text e =
    let p = and_parts _ _ e in
    let q = and_parts _ _ p.0 in
    let r = and_parts _ _ q.0 in
    record { some = ltb-true _ _ r.0; short = leb-true _ _ r.1; lead = λ z. grind (arith, nat_tests); digits = p.1 }

pub value_small : (text : List ℕ) → is_number text ≡ true → value text < 10000000
value_small text e = let f = formed text e in digits_value_short own text 7 f.digits f.short

lead : (n : ℕ) → n ≤ 9999999 → (not (eqb (get_or (decimal n) 0 0) 48) || eqb (length (decimal n)) 1) ≡ true
lead n h =
    ⊎_elim
    (λ some. or_left _ _ (not_from_false _ (ne_eqb (get_or (decimal n) 0 0) 48 (λ e. omega (arith, first_decimal n some (omega arith))))))
    (λ none. or_right _ _ (eq-eqb _ _ (ap length (decimal_digit n (omega arith)))))
    (cases_lt 0 n)

-- the decimal digits of a number of seven digits
pub decimal_formed : (n : ℕ) → n ≤ 9999999 → is_number (decimal n) ≡ true
decimal_formed n h =
    and_from _ _
    (and_from _ _ (and_from _ _ (lt-ltb _ _ (decimal_nonempty n (omega arith))) (le-leb _ _ (length-decimal-le 7 n (omega arith) (omega arith) (omega arith)))) (lead n h))
    (digits_decimal own n (omega arith))

pub value_written : (n : ℕ) → n ≤ 9999999 → value (decimal n) ≡ n
value_written n h = digits_value-decimal own n (omega arith)

-- a text that has the form of a number is what is written of its value
pub written_value : (text : List ℕ) → is_number text ≡ true → decimal (value text) ≡ text
written_value text e = let f = formed text e in decimal-digits_value own text f.digits f.some f.lead (omega (arith, value_small text e))

pub shown_short : (n : ℕ) → length (shown n) ≤ 7
shown_short n = length-decimal-le 7 (min n 9999999) (omega arith) (omega arith) (omega arith)

-- one digit more, as 32 bits hold it
abbrev pub with_digit : ℕ → ℕ → ℕ
with_digit n c = (n * 10 % 2 ^ 32 + (c + (2 ^ 8 - 48)) % 2 ^ 8) % 2 ^ 32

value_grows : (n : ℕ) (ds : List ℕ) → n ≤ value_after n ds
value_grows n [] = omega arith
value_grows n (c ∷ cs) = omega (arith, value_grows (n * 10 + (c - 48)) cs)

-- a small number does not wrap
no_wrap : (n c : ℕ) → 48 ≤ c → c < 58 → n * 10 + (c - 48) < 10000000 → with_digit n c ≡ n * 10 + (c - 48)
no_wrap n c low high small = omega arith

pub folded : (n : ℕ) (ds : List ℕ) → all_ascii_digits ds ≡ true → value_after n ds < 10000000 → fold with_digit n ds ≡ value_after n ds
folded n [] digits small = refl
folded n (c ∷ cs) digits small =
    let range = digit_from_value c (own.to (c ∷ cs) digits).0 in
    let next = n * 10 + (c - 48) in
    ap (λ m. fold with_digit m cs) (no_wrap n c (omega (arith, range)) (omega (arith, range)) (omega (arith, small, value_grows next cs))) ∙ folded next cs (and_parts (is_ascii_digit c) (all_ascii_digits cs) digits).1 small
