use Rattle.std.proofs.Common.{◌≡◌, leb, not, get_or, sym, ap, ◌∙◌, subst, inl, inr, rules}
use Rattle.std.proofs.lemmas.List.{take_all, length-map}
use Rattle.history.specs.Steps.{listed, is_full}
use Rattle.versions.specs.Slots.{as_code}
use Rattle.board.specs.Contents.{setup_of}
use Rattle.board.proofs.Roomy.{LowestOf, room_is, lowest_more, lowest_found, listed_at, full_listed}
use Rattle.board.proofs.Known.{known_at}
use Rattle.board.proofs.board.Board.lowest_full.Goals as goal
use Rattle.board.proofs.board.Board.lowest_full.Goals.{then-not-has_room, else-not-has_room}

pub loop-w-preserved : goal.loop-w-preserved
loop-w-preserved g c s x h r reach is e =
    let ws = c.writes_listed-w-items.result.now in
    let w = get_or ws c.loop-w.w-index (record { item = 0; code = 0 }) in
    let known = known_at c.args.self.now.items c.args.self.now.codes c.args.txn.now c.requires ws c.loop-w.w-index (record { item = 0; code = 0 }) c.writes_listed-w-items.ensures.value c.loop-w-test.true in
    let there = listed_at ws c.loop-w.w-index (record { item = 0; code = 0 }) c.loop-w-test.true in
    lowest_more c.args.self.now.items _ ws c.loop-w.w-index (record { item = 0; code = 0 }) c.loop-w.lowest c.if-not-has_room.lowest (not c.has_room.result) c.loop-w-test.true known.0
    (room_is g.R.Rule.answers c.args.self.now w.item c.args.least c.args.place _ c.has_room.result s x h c.slots.ensures.slots (λ n p. c.has_room.ensures g.K.Kind.coded n p ∙ ap (leb _) (sym (length-map c.slots.result.now (as_code g.K.Kind.coded)))) reach is known.0 there.0 (ap (listed w.item) (sym e) ∙ there.1))
    (elim c.if-not-has_room.branch [
      | then-not-has_room p ↦ inl (ap not p.if-not-has_room.true, search rules)
      | else-not-has_room p ↦ inr (ap not p.if-not-has_room.false, p.lowest-is)
    ])
    (c.loop-w.invariant s x h r reach is e)

pub returns : goal.returns
returns g c s x h r reach is =
    let ws = c.writes_listed-w-items.result.now in
    let e : ws ≡ x.writes = c.writes_listed-w-items.ensures.value ∙ r.writes in
    let b = setup_of g.R.Rule.answers c.args.self.now in
    lowest_found c.args.self.now.items (is_full b s x c.args.place) x.writes c.loop-w.lowest (full_listed b s x c.args.place)
    (subst (λ l. LowestOf c.args.self.now.items (is_full b s x c.args.place) l c.loop-w.lowest) (take_all c.loop-w.w-index ws c.loop-w-test.false ∙ e) (c.loop-w.invariant s x h r reach is e))
