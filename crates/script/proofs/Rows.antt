-- What is read of a row is what is written of it, and back.
use Rattle.std.proofs.Common.{◌≡◌, ℕ, ◌+◌, cond, List, [], ◌∷◌, ◌++◌, length, Some, None, Ok, Err, codes, decimal, Option, Result, sym, refl, ap, ◌∙◌, subst, ⊎_elim, arith}
use Rattle.std.specs.Option.{ok_or}
use Rattle.std.specs.Str.{bytes_eq}
use Rattle.std.proofs.lemmas.Slice.Eq.{bytes_eq-Decides}
use Rattle.std.proofs.lemmas.Bool.{cases_Bool, cond-true, cond-false}
use Rattle.calls.specs.declared.call.Class.TheVariants.{Member, Guest}
use Rattle.calls.specs.declared.call.Mode.TheVariants.{Reader, Update}
use Rattle.calls.specs.declared.header.BoardKind.TheVariants.{Drive, Switch}
use Rattle.calls.specs.declared.header.RuleName.TheVariants.{Now, Warp, HomeNow, HomeWarp}
use Rattle.calls.specs.declared.fault.Fault.{Fault}
use Rattle.calls.specs.declared.fault.Fault.TheVariants.{WrongPart, BadNumber}
use Rattle.script.specs.declared.words.Op.TheVariants.{Admit, Revoke, Begin, Read, Write, Commit, Abandon, Show}
use Rattle.script.specs.Numbers.{is_number, value}
use Rattle.script.specs.Parts.{value_at, left, next}
use Rattle.script.specs.Reading.{meant, read_value, then, column_at, row_at}
use Rattle.script.specs.Table.{Words, classes, modes, boards, rules, ops, Word, Column, number, word, Value, Values, spelled, every}
use Rattle.script.specs.Writing.{pair_text, row_text, WritableValue, WritableRow}
use Rattle.script.proofs.Cutting.{past_front, past_some}
use Rattle.script.proofs.Figures.{decimal_formed, value_small, value_written, written_value}

-- a word is found by its spelling, and a spelling has one word
meant_spelled : {W : Type 0} (spell : W → List ℕ) (ws : List W) (text : List ℕ) (w : W) → meant spell ws text ≡ Some w → spell w ≡ text
meant_spelled spell [] text w e = let z : ◌≡◌ {A = ℕ} 0 1 = cc in absurd (omega arith)
meant_spelled spell (v ∷ ws) text w e =
    ⊎_elim
    (λ same. let f : Some v ≡ Some w = sym (cond-true _ _ _ same) ∙ e in let g : v ≡ w = cc in ap spell (sym g) ∙ (bytes_eq-Decides (spell v) text).0 same)
    (λ apart. meant_spelled spell ws text w (sym (cond-false _ _ _ apart) ∙ e))
    (cases_Bool (bytes_eq (spell v) text))

spelled_meant : (k : Words) (w : Word k) → meant (spelled k) (every k) (spelled k w) ≡ Some w
spelled_meant classes Member = refl
spelled_meant classes Guest = refl
spelled_meant modes Reader = refl
spelled_meant modes Update = refl
spelled_meant boards Drive = refl
spelled_meant boards Switch = refl
spelled_meant rules Now = refl
spelled_meant rules Warp = refl
spelled_meant rules HomeNow = refl
spelled_meant rules HomeWarp = refl
spelled_meant ops Admit = refl
spelled_meant ops Revoke = refl
spelled_meant ops Begin = refl
spelled_meant ops Read = refl
spelled_meant ops Write = refl
spelled_meant ops Commit = refl
spelled_meant ops Abandon = refl
spelled_meant ops Show = refl

-- what `then` gives came from what was read first
pub came_from : {A B : Type 0} (r : Result A Fault) (f : A → Result B Fault) (y : B) → then r f ≡ Ok y → (x : A) × (r ≡ Ok x) × (f x ≡ Ok y)
came_from (Ok x) f y e = (x, refl, e)
came_from (Err d) f y e = let z : ◌≡◌ {A = ℕ} 0 1 = cc in absurd (omega arith)

-- a pair that was read as x is what is written of x, and x can be written
pub record Reads (c : Column) (ps : List (List ℕ)) (x : Value c) : Type 0 where
  pub fits : WritableValue c x
  pub pair : ps ≡ pair_text c x ∷ left ps

pub by_value : (key : List ℕ) (ps : List (List ℕ)) (text : List ℕ) → value_at key ps ≡ Some text → ps ≡ ((key ++ codes "=") ++ text) ∷ left ps
by_value key [] text e = let z : ◌≡◌ {A = ℕ} 0 1 = cc in absurd (omega arith)
by_value key (p ∷ ps) text e = ap (λ q. q ∷ ps) (past_some (key ++ codes "=") p text e)

module _ (at : ℕ) (key : List ℕ) where
  read_number : (ps : List (List ℕ)) (o : Option (List ℕ)) (n : ℕ) → value_at key ps ≡ o → read_value (λ text. cond (is_number text) (Ok (value text)) (Err (BadNumber (at + length key + 1)))) at o ≡ Ok n → Reads (number key) ps n
  read_number ps None n v e = let z : ◌≡◌ {A = ℕ} 0 1 = cc in absurd (omega arith)
  read_number ps (Some text) n v e =
      ⊎_elim
      (λ good.
      let f : Ok (value text) ≡ Ok n = sym (cond-true _ _ _ good) ∙ e in
      let same : value text ≡ n = cc in
      record { fits = omega (arith, value_small text good, same); pair = by_value key ps text v ∙ ap (λ t. ((key ++ codes "=") ++ t) ∷ left ps) (sym (written_value text good) ∙ ap decimal same) })
      (λ bad. let f = sym (cond-false _ _ _ bad) ∙ e in let z : ◌≡◌ {A = ℕ} 0 1 = cc in absurd (omega arith))
      (cases_Bool (is_number text))

  found_word : (k : Words) (o : Option (Word k)) (w : Word k) → ok_or o (WrongPart at) ≡ Ok w → o ≡ Some w
  found_word k None w e = let z : ◌≡◌ {A = ℕ} 0 1 = cc in absurd (omega arith)
  found_word k (Some v) w e = cc

  read_word : (k : Words) (ps : List (List ℕ)) (o : Option (List ℕ)) (w : Word k) → value_at key ps ≡ o → read_value (λ text. ok_or (meant (spelled k) (every k) text) (WrongPart at)) at o ≡ Ok w → Reads (word key k) ps w
  read_word k ps None w v e = let z : ◌≡◌ {A = ℕ} 0 1 = cc in absurd (omega arith)
  read_word k ps (Some text) w v e =
      let same = meant_spelled (spelled k) (every k) text w (found_word k _ w e) in
      record { fits = tt; pair = by_value key ps text v ∙ ap (λ t. ((key ++ codes "=") ++ t) ∷ left ps) (sym same) }

pub column_reads : (c : Column) (at : ℕ) (ps : List (List ℕ)) (x : Value c) → column_at c at ps ≡ Ok x → Reads c ps x
column_reads (number key) at ps x e = read_number at key ps (value_at key ps) x refl e
column_reads (word key k) at ps x e = read_word at key k ps (value_at key ps) x refl e

pub column_written : (c : Column) (at : ℕ) (ps : List (List ℕ)) (x : Value c) → WritableValue c x → column_at c at (pair_text c x ∷ ps) ≡ Ok x
column_written (number key) at ps x fits =
    rw (past_front (key ++ codes "=") (decimal x), decimal_formed x fits, value_written x fits)
column_written (word key k) at ps x fits = rw (past_front (key ++ codes "=") (spelled k x), spelled_meant k x)

pub row_reads : (cs : List Column) (at : ℕ) (ps : List (List ℕ)) (vs : Values cs) → row_at cs at ps ≡ Ok vs → WritableRow cs vs × (ps ≡ row_text cs vs)
row_reads [] at [] vs e = (tt, refl)
row_reads [] at (p ∷ ps) vs e = let z : ◌≡◌ {A = ℕ} 0 1 = cc in absurd (omega arith)
row_reads (c ∷ cs) at ps vs e =
    let first = came_from (column_at c at ps) (λ v. then (row_at cs (next at ps) (left ps)) (λ ws. Ok (v, ws))) vs e in
    let rest = came_from (row_at cs (next at ps) (left ps)) (λ ws. Ok (first.0, ws)) vs first.2 in
    let read = column_reads c at ps first.0 first.1 in
    let more = row_reads cs (next at ps) (left ps) rest.0 rest.1 in
    let same : (first.0, rest.0) ≡ vs = cc rest.2 in
    subst (λ us. WritableRow (c ∷ cs) us × (ps ≡ row_text (c ∷ cs) us)) same
    ((read.fits, more.0), read.pair ∙ ap (λ qs. pair_text c first.0 ∷ qs) more.1)

pub row_written : (cs : List Column) (at : ℕ) (vs : Values cs) → WritableRow cs vs → row_at cs at (row_text cs vs) ≡ Ok vs
row_written [] at vs fits = refl
row_written (c ∷ cs) at vs fits =
    rw (column_written c at (row_text cs vs.1) vs.0 fits.0, row_written cs (next at (row_text (c ∷ cs) vs)) vs.1 fits.1)
