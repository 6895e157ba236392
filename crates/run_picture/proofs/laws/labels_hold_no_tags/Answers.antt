use Rattle.run_picture.proofs.Escapes.{text_is_between}
use Rattle.run_picture.proofs.laws.labels_hold_no_tags.Goals as goal

pub returns : goal.returns
returns _ = text_is_between
