use Rattle.std.proofs.Common.{refl}
use Rattle.history.proofs.each_example_comes_out.Goals as goal

pub returns : goal.returns
returns c = (refl, (refl, (refl, (refl, (refl, (refl, (refl, (refl, (refl, (refl, tt))))))))))
