use Rattle.std.proofs.Common.{◌+◌, ◌*◌, ◌≤◌, length, sym, ap, arith}
use Rattle.versions.specs.Slots.{as_codes}
use Rattle.board.specs.Contents.{Contents, with_versions}
use Rattle.board.proofs.Remembering.{left, stored_at}
use Rattle.board.proofs.board.Board.store_one.Goals as goal

pub returns : goal.returns
returns g c =
    let fits : 8 * c.args.item + 8 ≤ length c.self.inside.versions.now = omega (arith, c.requires.known, c.self.invariant.memory, ap (λ (b : Contents g.row.R.Denot). b.items) c.self.view_is) in
    stored_at g.K.Kind.state g.K.Kind.coded g.K.Kind.REST c.args.item c.args.new c.args.least c.self.inside.versions.now c.store.new.slots
    fits c.store.ensures c.args.self.now _
    (ap (λ (b : Contents g.row.R.Denot). b.rest) (sym c.self.view_is)) (ap (λ (b : Contents g.row.R.Denot). b.versions) (sym c.self.view_is)) (ap (λ (b : Contents g.row.R.Denot). with_versions b (as_codes g.K.Kind.coded (left g.K.Kind.state g.K.Kind.coded g.K.Kind.REST c.args.item c.args.new c.args.least c.self.inside.versions.now c.store.new.slots fits c.store.ensures))) c.self.view_is)
