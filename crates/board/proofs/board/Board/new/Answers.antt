use Rattle.std.proofs.Common.{replicate, sym, refl, ap, ◌∙◌}
use lib.LanesLaws.{map-replicate}
use Rattle.history.specs.Log.{from_new}
use Rattle.versions.specs.Slots.{as_code, as_codes, rest_version}
use Rattle.board.proofs.Making.{new_sound, new_holds}
use Rattle.board.proofs.board.Board.new.Goals as goal

pub invariant_of-result : goal.invariant_of-result
invariant_of-result g c =
    new_sound g.K.Kind.state g.K.Kind.COUNT c.args.items c.args.seats _ g.K.Kind.REST c.lay_at_rest.new.slots g.met.K.Kind.rest_is_state (sym c.setup_fits.ensures ∙ c.if-not-setup_fits.false)
    (c.lay_at_rest.ensures ∙ ap (λ n. replicate n (rest_version g.K.Kind.REST)) c.split_at_mut-versions.ensures.front_len)

pub returns : goal.returns
returns g c = (
  sym c.setup_fits.ensures ∙ c.if-not-setup_fits.false,
  record {
    made_for = refl;
    leads = from_new;
    holds =
        new_holds g.R.Rule.answers c.args.items c.args.seats g.K.Kind.COUNT (g.K.Kind.coded g.K.Kind.REST) c.args.rule (as_codes g.K.Kind.coded c.lay_at_rest.new.slots) _
        (ap (as_codes g.K.Kind.coded) (c.lay_at_rest.ensures ∙ ap (λ n. replicate n (rest_version g.K.Kind.REST)) c.split_at_mut-versions.ensures.front_len) ∙ map-replicate (as_code g.K.Kind.coded) _ (rest_version g.K.Kind.REST)) _ refl;
  },
)
