use Rattle.versions.proofs.Coded.{told_whole}
use Rattle.versions.proofs.version.codes_tell_versions.Goals as goal

pub returns : goal.returns
returns g c = told_whole g.K.Kind.state g.K.Kind.coded g.K.Kind.decoded g.met.K.Kind.code_gives_state_back
