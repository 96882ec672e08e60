use Rattle.std.proofs.Common.{◌≡◌, get_or, sym, ap, ◌∙◌, subst, arith}
use Rattle.std.proofs.lemmas.List.{take_all}
use Rattle.board.specs.Contents.{Contents, setup_of, with_versions}
use Rattle.board.specs.Holding.{rest_of}
use Rattle.board.specs.Memory.{StoredAll}
use Rattle.board.proofs.Known.{known_at}
use Rattle.board.proofs.StoredAlls.{stored_more}
use Rattle.board.proofs.board.Board.store_all.Goals as goal

pub store_one-requires-clause-state : goal.store_one-requires-clause-state
store_one-requires-clause-state g c =
    let known = known_at c.args.self.now.items c.args.self.now.codes c.args.txn.now c.requires c.writes_listed-w-items.result.now c.loop-w.w-index (record { item = 0; code = 0 }) c.writes_listed-w-items.ensures.value c.loop-w-test.true in
    subst g.K.Kind.state (sym c.from_code-state.ensures) (g.met.K.Kind.code_below_count_gives_state _ (omega (arith, known.1, c.is_lawful.ensures.kind)))

pub loop-w-preserved : goal.loop-w-preserved
loop-w-preserved g c = (
  c.store_one.ensures.only ∙ ap (λ (b : Contents g.row.R.Denot). with_versions b c.store_one.new.self.versions) c.loop-w.invariant.0,
  λ s x h r reach is nat room e.
      let ws = c.writes_listed-w-items.result.now in
      let w = get_or ws c.loop-w.w-index (record { item = 0; code = 0 }) in
      let known = known_at c.args.self.now.items c.args.self.now.codes c.args.txn.now c.requires ws c.loop-w.w-index (record { item = 0; code = 0 }) c.writes_listed-w-items.ensures.value c.loop-w-test.true in
      stored_more g.R.Rule.answers c.args.self.now s x c.args.place c.args.least reach is room c.loop-w.self c.store_one.new.self ws c.loop-w.w-index (record { item = 0; code = 0 }) _
      (ap (λ (b : Contents g.row.R.Denot). rest_of b) c.loop-w.invariant.0) e r.once c.loop-w-test.true known.0
      (λ i. record { code = (ap g.K.Kind.coded c.from_code-state.ensures ∙ g.met.K.Kind.state_gives_code_back w.code (omega (arith, known.1, c.is_lawful.ensures.kind))) i; natural = nat i; place = c.args.place })
      c.store_one.ensures (c.loop-w.invariant.1 s x h r reach is nat room e),
)

pub returns-clause-lists : goal.returns-clause-lists
returns-clause-lists g c s x h r reach is nat room =
    let ws = c.writes_listed-w-items.result.now in
    let e : ws ≡ x.writes = c.writes_listed-w-items.ensures.value ∙ r.writes in
    subst (λ l. StoredAll (setup_of g.R.Rule.answers c.args.self.now) s x c.args.place l c.loop-w.self.versions) (take_all c.loop-w.w-index ws c.loop-w-test.false ∙ e) (c.loop-w.invariant.1 s x h r reach is nat room e)
