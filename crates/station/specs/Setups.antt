-- The board that is asked for.
use Rattle.std.specs.Prelude.{ℕ, cond, [], ◌∷◌, Some, None, Option, slice_get}
use Rattle.calls.specs.declared.header.BoardKind.{BoardKind}
use Rattle.calls.specs.declared.header.BoardKind.TheVariants.{Drive, Switch}
use Rattle.calls.specs.declared.header.RuleName.{RuleName}
use Rattle.calls.specs.declared.header.RuleName.TheVariants.{Now, Warp, HomeNow, HomeWarp}
use Rattle.calls.specs.declared.header.Header.{Header}
use Rattle.board.specs.Sizes.{fits}
use Rattle.player.specs.Scripts.{slots_lent}

-- the kinds and the rules are numbered from 0
abbrev pub kind_of : ℕ → Option BoardKind
kind_of n = slice_get (Drive ∷ Switch ∷ []) n

abbrev pub rule_of : ℕ → Option RuleName
rule_of n = slice_get (Now ∷ Warp ∷ HomeNow ∷ HomeWarp ∷ []) n

abbrev pub header_for : Option BoardKind → Option RuleName → ℕ → ℕ → Option Header
header_for None rule items seats = None
header_for (Some kind) None items seats = None
header_for (Some kind) (Some rule) items seats =
    cond (fits items seats slots_lent) (Some (record { board = kind; items = items; seats = seats; rule = rule })) None

-- none where the kind or the rule is not known or a count is out of range
abbrev pub header_of : ℕ → ℕ → ℕ → ℕ → Option Header
header_of kind rule items seats = header_for (kind_of kind) (rule_of rule) items seats
