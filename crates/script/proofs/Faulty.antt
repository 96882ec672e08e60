-- Where the faults of a line lie.
use Rattle.std.proofs.Common.{◌≡◌, ℕ, ◌+◌, ◌≤◌, cond, leb, ◌⊎◌, List, [], ◌∷◌, ◌++◌, length, Some, None, Ok, Err, codes, Option, Result, sym, refl, ap, ◌∙◌, subst, inl, inr, ⊎_elim, arith}
use Rattle.std.specs.Option.{ok_or}
use Rattle.std.proofs.lemmas.List.{length-append}
use Rattle.std.proofs.lemmas.Bool.{cases_Bool, cond-true, cond-false, leb-true, leb-false}
use Rattle.calls.specs.declared.fault.Fault.{Fault}
use Rattle.calls.specs.declared.fault.Fault.TheVariants.{TooLong, WrongPart, BadNumber, Refused}
use Rattle.script.specs.Laws.{FaultIn, FaultsLieInTheirLine}
use Rattle.script.specs.Numbers.{is_number, value}
use Rattle.script.specs.Parts.{cut, joined_by, value_at, left, next}
use Rattle.script.specs.Reading.{meant, read_value, then, column_at, row_at, call_at, command_at, header_at, of_line}
use Rattle.script.specs.Table.{Column, number, word, Values, spelled, every, row, op_column, header_row, call, header}
use Rattle.script.proofs.Cutting.{joined_cut}
use Rattle.script.proofs.Rows.{by_value}

-- the fault names a byte up to end
abbrev UpTo : ℕ → Fault → Type 0
UpTo end TooLong = ⊥
UpTo end (WrongPart at) = at ≤ end
UpTo end (BadNumber at) = at ≤ end
UpTo end (Refused refusal) = ⊥

-- the bytes of the parts, with the spaces between them
abbrev span : List (List ℕ) → ℕ
span ps = length (joined_by 32 ps)

span_first : (p : List ℕ) (ps : List (List ℕ)) → length p ≤ span (p ∷ ps)
span_first p [] = omega arith
span_first p (q ∷ ps) = rw (length-append p (32 ∷ joined_by 32 (q ∷ ps))) (omega arith)

span_next : (at : ℕ) (ps : List (List ℕ)) → next at ps + span (left ps) ≤ at + span ps
span_next at [] = omega arith
span_next at (p ∷ []) = omega arith
span_next at (p ∷ q ∷ ps) = rw (length-append p (32 ∷ joined_by 32 (q ∷ ps))) (omega arith)

-- what `then` refuses was refused first or later
fell_from : {A B : Type 0} (r : Result A Fault) (g : A → Result B Fault) (f : Fault) → then r g ≡ Err f → (r ≡ Err f) ⊎ ((x : A) × (g x ≡ Err f))
fell_from (Ok x) g f e = inr (x, e)
fell_from (Err d) g f e = inl (let same : d ≡ f = cc in ap (λ h. Err h) same)

module _ (end at : ℕ) where
  at_part : (f : Fault) → at ≤ end → WrongPart at ≡ f → UpTo end f
  at_part f h e = subst (UpTo end) e h

  value_faults : {V : Type 0} (read : List ℕ → Result V Fault) (o : Option (List ℕ)) (f : Fault) → at ≤ end → ((text : List ℕ) → o ≡ Some text → read text ≡ Err f → UpTo end f) → read_value read at o ≡ Err f → UpTo end f
  value_faults read None f h g e = at_part f h (let same : WrongPart at ≡ f = cc in same)
  value_faults read (Some text) f h g e = g text refl e

  number_faults : (key text : List ℕ) (f : Fault) → at + length key + 1 ≤ end → cond (is_number text) (Ok (value text)) (Err (BadNumber (at + length key + 1))) ≡ Err f → UpTo end f
  number_faults key text f h e =
      ⊎_elim
      (λ good. let k = sym (cond-true _ _ _ good) ∙ e in let z : ◌≡◌ {A = ℕ} 0 1 = cc in absurd (omega arith))
      (λ bad.
      let k = sym (cond-false _ _ _ bad) ∙ e in
      let same : BadNumber (at + length key + 1) ≡ f = cc in
      subst (UpTo end) same h)
      (cases_Bool (is_number text))

  word_faults : {W : Type 0} (o : Option W) (f : Fault) → at ≤ end → ok_or o (WrongPart at) ≡ Err f → UpTo end f
  word_faults None f h e = at_part f h (let same : WrongPart at ≡ f = cc in same)
  word_faults (Some w) f h e = let z : ◌≡◌ {A = ℕ} 0 1 = cc in absurd (omega arith)

  key_fits : (key text : List ℕ) (ps : List (List ℕ)) → value_at key ps ≡ Some text → length key + 1 ≤ span ps
  key_fits key text ps e =
      let long : span ps ≡ span (((key ++ codes "=") ++ text) ∷ left ps) = ap span (by_value key ps text e) in
      let first : length ((key ++ codes "=") ++ text) ≤ span (((key ++ codes "=") ++ text) ∷ left ps) = span_first ((key ++ codes "=") ++ text) (left ps) in
      omega (arith, long, simp length-append at first)

  column_faults : (c : Column) (ps : List (List ℕ)) (f : Fault) → at + span ps ≤ end → column_at c at ps ≡ Err f → UpTo end f
  column_faults (number key) ps f h e =
      value_faults _ (value_at key ps) f (omega arith) (λ text v r. number_faults key text f (omega (arith, key_fits key text ps v)) r) e
  column_faults (word key k) ps f h e =
      value_faults _ (value_at key ps) f (omega arith) (λ text v r. word_faults (meant (spelled k) (every k) text) f (omega arith) r) e

row_faults : (end : ℕ) (cs : List Column) (at : ℕ) (ps : List (List ℕ)) (f : Fault) → at + span ps ≤ end → row_at cs at ps ≡ Err f → UpTo end f
row_faults end [] at [] f h e = let z : ◌≡◌ {A = ℕ} 0 1 = cc in absurd (omega arith)
row_faults end [] at (p ∷ ps) f h e = at_part end at f (omega arith) (let same : WrongPart at ≡ f = cc in same)
row_faults end (c ∷ cs) at ps f h e =
    ⊎_elim
    (column_faults end at c ps f h)
    (λ later.
    ⊎_elim
    (row_faults end cs (next at ps) (left ps) f (omega (arith, span_next at ps)))
    (λ never. let k = never.1 in let z : ◌≡◌ {A = ℕ} 0 1 = cc in absurd (omega arith))
    (fell_from (row_at cs (next at ps) (left ps)) (λ vs. Ok (later.0, vs)) f later.1))
    (fell_from (column_at c at ps) (λ v. then (row_at cs (next at ps) (left ps)) (λ vs. Ok (v, vs))) f e)

made_faults : {A : Type 0} (end : ℕ) (cs : List Column) (at : ℕ) (ps : List (List ℕ)) (make : Values cs → A) (f : Fault) → at + span ps ≤ end → then (row_at cs at ps) (λ vs. Ok (make vs)) ≡ Err f → UpTo end f
made_faults end cs at ps make f h e =
    ⊎_elim
    (row_faults end cs at ps f h)
    (λ never. let k = never.1 in let z : ◌≡◌ {A = ℕ} 0 1 = cc in absurd (omega arith))
    (fell_from (row_at cs at ps) (λ vs. Ok (make vs)) f e)

command_faults : (end : ℕ) (ps : List (List ℕ)) (f : Fault) → span ps ≤ end → command_at 0 ps ≡ Err f → UpTo end f
command_faults end ps f h e =
    ⊎_elim
    (column_faults end 0 op_column ps f (omega arith))
    (λ later. made_faults end (row later.0) (next 0 ps) (left ps) (call later.0) f (omega (arith, span_next 0 ps)) later.1)
    (fell_from (column_at op_column 0 ps) (λ o. call_at o (next 0 ps) (left ps)) f e)

in_line : (line : List ℕ) (f : Fault) → length line ≤ 96 → UpTo (length line) f → FaultIn line f
in_line line TooLong h u = absurd u
in_line line (WrongPart at) h u = (h, u)
in_line line (BadNumber at) h u = (h, u)
in_line line (Refused refusal) h u = u

line_faults : {A : Type 0} (read : List (List ℕ) → Result A Fault) (line : List ℕ) (f : Fault) → ((ps : List (List ℕ)) → span ps ≤ length line → read ps ≡ Err f → UpTo (length line) f) → of_line read line ≡ Err f → FaultIn line f
line_faults read line f each e =
    ⊎_elim
    (λ short. in_line line f (leb-true _ _ short) (each (cut 32 line) (omega (arith, ap length (joined_cut 32 line))) (sym (cond-true _ _ _ short) ∙ e)))
    (λ long.
    let k = sym (cond-false _ _ _ long) ∙ e in
    let same : TooLong ≡ f = cc in
    subst (FaultIn line) same (leb-false (length line) 96 long))
    (cases_Bool (leb (length line) 96))

pub faults_lie_in_their_line : FaultsLieInTheirLine
faults_lie_in_their_line line f = (
  line_faults (command_at 0) line f (λ ps h. command_faults (length line) ps f h),
  line_faults (header_at 0) line f (λ ps h. made_faults (length line) header_row 0 ps header f (omega arith)),
)
