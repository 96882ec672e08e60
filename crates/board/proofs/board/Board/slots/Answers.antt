use Rattle.std.proofs.Common.{◌≡◌, ◌+◌, ◌-◌, ◌*◌, take, drop, sym, ap, ◌∙◌, arith}
use Rattle.versions.specs.Slots.{as_codes}
use Rattle.board.specs.Contents.{Contents}
use Rattle.board.specs.Lists.{slots_of}
use Rattle.board.proofs.Remembering.{told}
use Rattle.board.proofs.board.Board.slots.Goals as goal

pub returns-clause-slots : goal.returns-clause-slots
returns-clause-slots g c =
    ap (λ n. as_codes g.K.Kind.coded (take n (drop (8 * c.args.item) c.self.inside.versions.now))) (let e : 8 * c.args.item + 8 - 8 * c.args.item ≡ 8 = omega arith in e)
    ∙ sym (told g.K.Kind.coded c.args.item c.self.inside.versions.now) ∙ ap (λ (b : Contents g.row.R.Denot). slots_of b.versions c.args.item) c.self.view_is
