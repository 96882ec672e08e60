-- The table of lines: key by key, a number or its listed words.
use Rattle.std.specs.Prelude.{ℕ, List, [], ◌∷◌, codes}
use Rattle.calls.specs.declared.call.Call.{Call}
use Rattle.calls.specs.declared.call.Call.TheVariants.{Admit, Revoke, Begin, Read, Write, Commit, Abandon, Show}
use Rattle.calls.specs.declared.call.Class.{Class}
use Rattle.calls.specs.declared.call.Class.TheVariants.{Member, Guest}
use Rattle.calls.specs.declared.call.Mode.{Mode}
use Rattle.calls.specs.declared.call.Mode.TheVariants.{Reader, Update}
use Rattle.calls.specs.declared.header.BoardKind.{BoardKind}
use Rattle.calls.specs.declared.header.BoardKind.TheVariants.{Drive, Switch}
use Rattle.calls.specs.declared.header.Header.{Header}
use Rattle.calls.specs.declared.header.RuleName.{RuleName}
use Rattle.calls.specs.declared.header.RuleName.TheVariants.{Now, Warp, HomeNow, HomeWarp}
use Rattle.script.specs.declared.words.Op.{Op}
use Rattle.script.specs.declared.words.Op.TheVariants as op

-- the lists of words
pub data Words : Type 0 where
  classes modes boards rules ops : Words

abbrev pub Word : Words → Type 0
Word classes = Class
Word modes = Mode
Word boards = BoardKind
Word rules = RuleName
Word ops = Op

abbrev pub class_word : Class → List ℕ
class_word Member = codes "member"
class_word Guest = codes "guest"

abbrev pub mode_word : Mode → List ℕ
mode_word Reader = codes "reader"
mode_word Update = codes "update"

abbrev pub board_word : BoardKind → List ℕ
board_word Drive = codes "drive"
board_word Switch = codes "switch"

abbrev pub rule_word : RuleName → List ℕ
rule_word Now = codes "now"
rule_word Warp = codes "warp"
rule_word HomeNow = codes "home-now"
rule_word HomeWarp = codes "home-warp"

abbrev pub op_word : Op → List ℕ
op_word op.Admit = codes "admit"
op_word op.Revoke = codes "revoke"
op_word op.Begin = codes "begin"
op_word op.Read = codes "read"
op_word op.Write = codes "write"
op_word op.Commit = codes "commit"
op_word op.Abandon = codes "abandon"
op_word op.Show = codes "show"

abbrev pub all_classes : List Class
all_classes = Member ∷ Guest ∷ []

abbrev pub all_modes : List Mode
all_modes = Reader ∷ Update ∷ []

abbrev pub all_boards : List BoardKind
all_boards = Drive ∷ Switch ∷ []

abbrev pub all_rules : List RuleName
all_rules = Now ∷ Warp ∷ HomeNow ∷ HomeWarp ∷ []

abbrev pub all_ops : List Op
all_ops = op.Admit ∷ op.Revoke ∷ op.Begin ∷ op.Read ∷ op.Write ∷ op.Commit ∷ op.Abandon ∷ op.Show ∷ []

abbrev pub spelled : (k : Words) → Word k → List ℕ
spelled classes = class_word
spelled modes = mode_word
spelled boards = board_word
spelled rules = rule_word
spelled ops = op_word

abbrev pub every : (k : Words) → List (Word k)
every classes = all_classes
every modes = all_modes
every boards = all_boards
every rules = all_rules
every ops = all_ops

-- a key with what stands for its value
pub data Column : Type 0 where
  number : List ℕ → Column
  word : List ℕ → Words → Column

abbrev pub Value : Column → Type 0
Value (number key) = ℕ
Value (word key k) = Word k

-- the values of a line, in its columns' order
abbrev pub Values : List Column → Type 0
Values [] = Unit {0}
Values (c ∷ cs) = Value c × Values cs

abbrev seat : Column
seat = number (codes "seat")

abbrev pass : Column
pass = number (codes "pass")

abbrev item : Column
item = number (codes "item")

abbrev code : Column
code = number (codes "code")

-- THE TABLE: what follows the op of each command, and the header's line
abbrev pub row : Op → List Column
row op.Admit = seat ∷ word (codes "class") classes ∷ []
row op.Revoke = seat ∷ []
row op.Begin = seat ∷ pass ∷ word (codes "mode") modes ∷ []
row op.Read = seat ∷ pass ∷ item ∷ []
row op.Write = seat ∷ pass ∷ item ∷ code ∷ []
row op.Commit = seat ∷ pass ∷ []
row op.Abandon = seat ∷ pass ∷ []
row op.Show = item ∷ []

abbrev pub op_column : Column
op_column = word (codes "op") ops

abbrev pub header_row : List Column
header_row = word (codes "board") boards ∷ number (codes "items") ∷ number (codes "seats") ∷ word (codes "rule") rules ∷ []

-- the call that an op and its values stand for, and back
abbrev pub call : (o : Op) → Values (row o) → Call
call op.Admit v = Admit v.0 v.1.0
call op.Revoke v = Revoke v.0
call op.Begin v = Begin v.0 v.1.0 v.1.1.0
call op.Read v = Read v.0 v.1.0 v.1.1.0
call op.Write v = Write v.0 v.1.0 v.1.1.0 v.1.1.1.0
call op.Commit v = Commit v.0 v.1.0
call op.Abandon v = Abandon v.0 v.1.0
call op.Show v = Show v.0

abbrev pub op_of : Call → Op
op_of (Admit s c) = op.Admit
op_of (Revoke s) = op.Revoke
op_of (Begin s p m) = op.Begin
op_of (Read s p i) = op.Read
op_of (Write s p i c) = op.Write
op_of (Commit s p) = op.Commit
op_of (Abandon s p) = op.Abandon
op_of (Show i) = op.Show

abbrev pub values_of : (c : Call) → Values (row (op_of c))
values_of (Admit s c) = (s, (c, tt))
values_of (Revoke s) = (s, tt)
values_of (Begin s p m) = (s, (p, (m, tt)))
values_of (Read s p i) = (s, (p, (i, tt)))
values_of (Write s p i c) = (s, (p, (i, (c, tt))))
values_of (Commit s p) = (s, (p, tt))
values_of (Abandon s p) = (s, (p, tt))
values_of (Show i) = (i, tt)

abbrev pub header : Values header_row → Header
header v = record { board = v.0; items = v.1.0; seats = v.1.1.0; rule = v.1.1.1.0 }

abbrev pub header_values : Header → Values header_row
header_values h = (h.board, (h.items, (h.seats, (h.rule, tt))))
