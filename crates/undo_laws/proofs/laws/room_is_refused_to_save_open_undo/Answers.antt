use Rattle.undo_laws.proofs.Room.{overwrites, refuses}
use Rattle.undo_laws.proofs.laws.room_is_refused_to_save_open_undo.Goals as goal

pub returns : goal.returns
returns c own is header = (overwrites own is header, refuses own is header)
