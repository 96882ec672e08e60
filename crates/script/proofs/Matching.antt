-- The laws of lines: a line is read as a command exactly if it is that command's line.
use Rattle.std.proofs.Common.{◌≡◌, ℕ, ◌+◌, ◌<◌, ◌≤◌, Bool, true, not, ◌&&◌, eqb, leb, List, [], ◌∷◌, ◌++◌, length, Ok, codes, decimal, Result, sym, refl, ap, ◌∙◌, subst, ⊎_elim, arith}
use Rattle.std.specs.Char.{is_ascii_digit}
use Rattle.std.specs.Str.{all_ascii_digits}
use Rattle.std.proofs.lemmas.Fmt.{digits_decimal, length-decimal-le}
use Rattle.std.proofs.lemmas.List.{length-append}
use Rattle.std.proofs.lemmas.Bool.{and_from, and_parts, cases_Bool, cond-true, cond-false, not-true, leb-true, le-leb}
use Rattle.std.proofs.lemmas.Bool.Decides.{nat_tests}
use Rattle.calls.specs.declared.call.Call.{Call}
use Rattle.calls.specs.declared.call.Call.TheVariants as call
use Rattle.calls.specs.declared.call.Class.TheVariants.{Member, Guest}
use Rattle.calls.specs.declared.call.Mode.TheVariants.{Reader, Update}
use Rattle.calls.specs.declared.header.BoardKind.TheVariants.{Drive, Switch}
use Rattle.calls.specs.declared.header.Header.{Header}
use Rattle.calls.specs.declared.header.RuleName.TheVariants.{Now, Warp, HomeNow, HomeWarp}
use Rattle.calls.specs.declared.fault.Fault.{Fault}
use Rattle.script.specs.declared.words.Op.{Op}
use Rattle.script.specs.declared.words.Op.TheVariants.{Admit, Revoke, Begin, Read, Write, Commit, Abandon, Show}
use Rattle.script.specs.Laws.{LinesAndCommandsMatch, LinesAndHeadersMatch, CommandsStayApart}
use Rattle.script.specs.Parts.{cut, left, next, joined_by}
use Rattle.script.specs.Reading.{column_at, row_at, call_at, command_at, command_of, header_at, header_of, of_line}
use Rattle.script.specs.Table as table
use Rattle.script.specs.Table.{Words, classes, modes, boards, rules, ops, Word, Column, number, word, Value, Values, spelled, row, op_column, op_of, values_of, header_row, header_values}
use Rattle.script.specs.Writing.{key_of, value_text, pair_text, row_text, command_parts, line_of, WritableValue, WritableRow, Writable, WritableHeader}
use Rattle.script.proofs.Cutting.{joined_cut}
use Rattle.script.proofs.Figures.{own}
use Rattle.script.proofs.Rows.{came_from, column_reads, column_written, row_reads, row_written}

-- no space stands in s
abbrev plain : List ℕ → Bool
plain [] = true
plain (c ∷ cs) = not (eqb c 32) && plain cs

plain_append : (p q : List ℕ) → plain p ≡ true → plain q ≡ true → plain (p ++ q) ≡ true
plain_append [] q e f = f
plain_append (c ∷ p) q e f = let h = and_parts _ _ e in and_from _ _ h.0 (plain_append p q h.1 f)

plain_digits : (ds : List ℕ) → all_ascii_digits ds ≡ true → plain ds ≡ true
plain_digits [] e = refl
plain_digits (d ∷ ds) e =
    let h = and_parts (is_ascii_digit d) (all_ascii_digits ds) e in
    let digit : not (eqb d 32) ≡ true = grind (arith, nat_tests, h.0) in
    and_from _ _ digit (plain_digits ds h.1)

plain_word : (k : Words) (w : Word k) → plain (spelled k w) ≡ true
plain_word classes Member = refl
plain_word classes Guest = refl
plain_word modes Reader = refl
plain_word modes Update = refl
plain_word boards Drive = refl
plain_word boards Switch = refl
plain_word rules Now = refl
plain_word rules Warp = refl
plain_word rules HomeNow = refl
plain_word rules HomeWarp = refl
plain_word ops Admit = refl
plain_word ops Revoke = refl
plain_word ops Begin = refl
plain_word ops Read = refl
plain_word ops Write = refl
plain_word ops Commit = refl
plain_word ops Abandon = refl
plain_word ops Show = refl

short_word : (k : Words) (w : Word k) → leb (length (spelled k w)) 9 ≡ true
short_word classes Member = refl
short_word classes Guest = refl
short_word modes Reader = refl
short_word modes Update = refl
short_word boards Drive = refl
short_word boards Switch = refl
short_word rules Now = refl
short_word rules Warp = refl
short_word rules HomeNow = refl
short_word rules HomeWarp = refl
short_word ops Admit = refl
short_word ops Revoke = refl
short_word ops Begin = refl
short_word ops Read = refl
short_word ops Write = refl
short_word ops Commit = refl
short_word ops Abandon = refl
short_word ops Show = refl

-- a plain text is one part
cut_plain : (p : List ℕ) → plain p ≡ true → cut 32 p ≡ p ∷ []
cut_plain [] e = refl
cut_plain (c ∷ p) e =
    let h = and_parts _ _ e in
    rw (not-true (eqb c 32) h.0, cut_plain p h.1)

cut_front : (p s : List ℕ) → plain p ≡ true → cut 32 (p ++ (32 ∷ s)) ≡ p ∷ cut 32 s
cut_front [] s e = refl
cut_front (c ∷ p) s e =
    let h = and_parts _ _ e in
    rw (not-true (eqb c 32) h.0, cut_front p s h.1)

abbrev AllPlain : List (List ℕ) → Type 0
AllPlain [] = Unit {0}
AllPlain (p ∷ ps) = (plain p ≡ true) × AllPlain ps

cut_joined : (p : List ℕ) (ps : List (List ℕ)) → AllPlain (p ∷ ps) → cut 32 (joined_by 32 (p ∷ ps)) ≡ p ∷ ps
cut_joined p [] h = cut_plain p h.0
cut_joined p (q ∷ ps) h = cut_front p (joined_by 32 (q ∷ ps)) h.0 ∙ ap (λ qs. p ∷ qs) (cut_joined q ps h.1)

-- what is written of a value has no space, and at most nine bytes
value_plain : (c : Column) (v : Value c) → WritableValue c v → plain (value_text c v) ≡ true
value_plain (number key) v h = plain_digits (decimal v) (digits_decimal own v (omega arith))
value_plain (word key k) v h = plain_word k v

value_short : (c : Column) (v : Value c) → WritableValue c v → length (value_text c v) ≤ 9
value_short (number key) v h = omega (arith, length-decimal-le 7 v (omega arith) (omega arith) (omega arith))
value_short (word key k) v h = leb-true _ _ (short_word k v)

abbrev plain_keys : List Column → Bool
plain_keys [] = true
plain_keys (c ∷ cs) = plain (key_of c) && plain_keys cs

row_plain : (cs : List Column) (vs : Values cs) → plain_keys cs ≡ true → WritableRow cs vs → AllPlain (row_text cs vs)
row_plain [] vs e h = tt
row_plain (c ∷ cs) vs e h =
    let k = and_parts _ _ e in
    (plain_append (key_of c ++ codes "=") (value_text c vs.0) (plain_append (key_of c) (codes "=") k.0 refl) (value_plain c vs.0 h.0), row_plain cs vs.1 k.1 h.1)

-- the bytes that a row can take, with the spaces
abbrev width : List Column → ℕ
width [] = 0
width (c ∷ cs) = length (key_of c) + 11 + width cs

pair_short : (c : Column) (v : Value c) → WritableValue c v → length (pair_text c v) ≤ length (key_of c) + 10
pair_short c v h = simp length-append (omega (arith, value_short c v h))

row_short : (cs : List Column) (vs : Values cs) → WritableRow cs vs → length (joined_by 32 (row_text cs vs)) ≤ width cs
row_short [] vs h = omega arith
row_short (c ∷ []) vs h = omega (arith, pair_short c vs.0 h.0)
row_short (c ∷ d ∷ cs) vs h =
    let rest = row_short (d ∷ cs) vs.1 h.1 in
    rw (length-append (pair_text c vs.0) (32 ∷ joined_by 32 (row_text (d ∷ cs) vs.1))) (omega (arith, rest, pair_short c vs.0 h.0))

-- a line is read if it is short, and then from its parts
read_short : {A : Type 0} (read : List (List ℕ) → Result A Fault) (line : List ℕ) (x : A) → of_line read line ≡ Ok x → read (cut 32 line) ≡ Ok x
read_short read line x e =
    ⊎_elim
    (λ short. sym (cond-true _ _ _ short) ∙ e)
    (λ long. let f = sym (cond-false _ _ _ long) ∙ e in let z : ◌≡◌ {A = ℕ} 0 1 = cc in absurd (omega arith))
    (cases_Bool (leb (length line) 96))

-- the same of the line that is written of a row
read_written : {A : Type 0} (read : List (List ℕ) → Result A Fault) (cs : List Column) (vs : Values cs) → 0 < length cs → plain_keys cs ≡ true → leb (width cs) 96 ≡ true → WritableRow cs vs → of_line read (joined_by 32 (row_text cs vs)) ≡ read (row_text cs vs)
read_written read [] vs n p w h = absurd (omega arith)
read_written read (c ∷ cs) vs n p w h =
    cond-true _ _ _ (le-leb (length (joined_by 32 (row_text (c ∷ cs) vs))) 96 (omega (arith, row_short (c ∷ cs) vs h, leb-true (width (c ∷ cs)) 96 w)))
    ∙ ap read (cut_joined (pair_text c vs.0) (row_text cs vs.1) (row_plain (c ∷ cs) vs p h))

-- the table's rows have plain keys and fit a line
row_keys : (o : Op) → plain_keys (op_column ∷ row o) ≡ true
row_keys Admit = refl
row_keys Revoke = refl
row_keys Begin = refl
row_keys Read = refl
row_keys Write = refl
row_keys Commit = refl
row_keys Abandon = refl
row_keys Show = refl

row_width : (o : Op) → leb (width (op_column ∷ row o)) 96 ≡ true
row_width Admit = refl
row_width Revoke = refl
row_width Begin = refl
row_width Read = refl
row_width Write = refl
row_width Commit = refl
row_width Abandon = refl
row_width Show = refl

-- a call is its op and its values
abbrev Written : Op → (c : Call) → List (List ℕ) → Type 0
Written o c ps = Writable c × (pair_text op_column o ∷ ps ≡ command_parts c)

call_written : (o : Op) (vs : Values (row o)) → WritableRow (row o) vs → Written o (table.call o vs) (row_text (row o) vs)
call_written Admit vs h = (h, refl)
call_written Revoke vs h = (h, refl)
call_written Begin vs h = (h, refl)
call_written Read vs h = (h, refl)
call_written Write vs h = (h, refl)
call_written Commit vs h = (h, refl)
call_written Abandon vs h = (h, refl)
call_written Show vs h = (h, refl)

call_again : (c : Call) → table.call (op_of c) (values_of c) ≡ c
call_again (call.Admit s c) = refl
call_again (call.Revoke s) = refl
call_again (call.Begin s p m) = refl
call_again (call.Read s p i) = refl
call_again (call.Write s p i c) = refl
call_again (call.Commit s p) = refl
call_again (call.Abandon s p) = refl
call_again (call.Show i) = refl

command_reads : (ps : List (List ℕ)) (c : Call) → command_at 0 ps ≡ Ok c → Writable c × (ps ≡ command_parts c)
command_reads ps c e =
    let first = came_from (column_at op_column 0 ps) (λ o. call_at o (next 0 ps) (left ps)) c e in
    let o = first.0 in
    let rest = came_from (row_at (row o) (next 0 ps) (left ps)) (λ vs. Ok (table.call o vs)) c first.2 in
    let op = column_reads op_column 0 ps o first.1 in
    let args = row_reads (row o) (next 0 ps) (left ps) rest.0 rest.1 in
    let same : table.call o rest.0 ≡ c = cc rest.2 in
    let w = subst (λ d. Written o d (row_text (row o) rest.0)) same (call_written o rest.0 args.0) in
    (w.0, op.pair ∙ ap (λ qs. pair_text op_column o ∷ qs) args.1 ∙ w.1)

command_written : (c : Call) → Writable c → command_at 0 (command_parts c) ≡ Ok c
command_written c h =
    rw (column_written op_column 0 (row_text (row (op_of c)) (values_of c)) (op_of c) tt, row_written (row (op_of c)) (next 0 (command_parts c)) (values_of c) h) (ap Ok (call_again c))

pub lines_and_commands_match : LinesAndCommandsMatch
lines_and_commands_match line c = (
  λ e. let r = command_reads (cut 32 line) c (read_short (command_at 0) line c e) in (r.0, sym (joined_cut 32 line) ∙ ap (joined_by 32) r.1),
  λ w. ap command_of w.1 ∙ read_written (command_at 0) (op_column ∷ row (op_of c)) (op_of c, values_of c) (omega arith) (row_keys (op_of c)) (row_width (op_of c)) (tt, w.0) ∙ command_written c w.0,
)

header_reads : (ps : List (List ℕ)) (h : Header) → header_at 0 ps ≡ Ok h → WritableHeader h × (ps ≡ row_text header_row (header_values h))
header_reads ps h e =
    let first = came_from (row_at header_row 0 ps) (λ vs. Ok (table.header vs)) h e in
    let same : table.header first.0 ≡ h = cc first.2 in
    subst (λ g. WritableHeader g × (ps ≡ row_text header_row (header_values g))) same (row_reads header_row 0 ps first.0 first.1)

header_written : (h : Header) → WritableHeader h → header_at 0 (row_text header_row (header_values h)) ≡ Ok h
header_written h w = rw (row_written header_row 0 (header_values h) w)

pub lines_and_headers_match : LinesAndHeadersMatch
lines_and_headers_match line h = (
  λ e. let r = header_reads (cut 32 line) h (read_short (header_at 0) line h e) in (r.0, sym (joined_cut 32 line) ∙ ap (joined_by 32) r.1),
  λ w. ap header_of w.1 ∙ read_written (header_at 0) header_row (header_values h) (omega arith) refl refl w.0 ∙ header_written h w.0,
)

pub commands_stay_apart : CommandsStayApart
commands_stay_apart b c x y e =
    let f = (lines_and_commands_match (line_of b) b).1 (x, refl) in
    let g = (lines_and_commands_match (line_of b) c).1 (y, e) in
    cc
