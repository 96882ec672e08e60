use Rattle.versions.proofs.Edited.{put_at}
use Rattle.versions.proofs.storing.insert_at.Goals as goal

pub returns : goal.returns
returns g c = put_at c.args.slots.now c.rotate_right.new.self c.args.at c.args.keep c.args.new c.requires.within c.requires.room c.rotate_right.ensures.after
