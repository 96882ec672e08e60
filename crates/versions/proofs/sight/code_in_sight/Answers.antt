use Rattle.std.proofs.Common.{◌≡◌, None, MatchOption, get_or, sym, ap, ◌∙◌, rules}
use Rattle.std.specs.Option.{IsSomeAnd, option_map_or}
use Rattle.versions.specs.declared.version.Version.{Version}
use Rattle.versions.specs.Slots.{in_sight}
use Rattle.versions.proofs.Positions.{position_inside, read_found}
use Rattle.versions.proofs.Seen.{newest-find}
use Rattle.versions.proofs.sight.code_in_sight.Goals as goal

pub map-requires : goal.map-requires
map-requires g c =
    let inside = position_inside (in_sight c.args.sight c.args.limit) c.args.slots.now _ c.find.ensures in
    search rules

pub returns : goal.returns
returns g c b e =
    let read : MatchOption c.find.result (c.map.result ≡ None) (λ at. IsSomeAnd c.map.result (λ v. v.now ≡ get_or c.args.slots.now at v.now)) = search rules in
    c.code_of.ensures
    ∙ ap (λ o. option_map_or (λ (v : Version g.row.K.Denot). g.K.Kind.coded v.state) o (g.K.Kind.coded g.K.Kind.REST)) (read_found (in_sight c.args.sight c.args.limit) c.args.slots.now _ _ c.find.ensures read)
    ∙ sym (newest-find g.K.Kind.coded g.K.Kind.REST b e c.args.sight c.args.limit c.args.slots.now)
