-- A player may go to another thread.
use denote.RattleType.{RattleType}
use denote.Ref.{NamedLft}
use denote.Param.Send.{IsSend, IsSync, sendable}
use Rattle.step_book.specs.declared.machine.Machine.{Ghosts}
use Rattle.step_book.proofs.Crosses.{Seat_field-send}
use Rattle.std.proofs.Crossing.{crosses}
use Rattle.std.specs.contracts.sync.atomic.AtomicBool as flag
use Rattle.step_book.proofs.Crosses.{Book-sync}
use Rattle.node_threads.specs.contracts.threads.Player as player
use Rattle.node_threads.specs.contracts.threads.Crew as crew

module _ (M N P H S : RattleType) (g : Ghosts M.Denot P.Denot H.Denot S.Denot) where
  pub Player-send : IsSend N → IsSend P → IsSend H → IsSend S → IsSend (player.the_row M N P H S g)
  Player-send n p h s = let a = Seat_field-send M P H S g h s in search sendable depth 20

pub flag_sync : IsSync flag.the_row
flag_sync = search (crosses, sendable) depth 20

pub flag_field_sync : IsSync flag.the_field.row
flag_field_sync = search (crosses, sendable) depth 20

module _ (κ : NamedLft) (M G R P H S : RattleType) (g : Ghosts M.Denot P.Denot H.Denot S.Denot) where
  pub Crew-sync : IsSync G → IsSync R → IsSend H → IsSend S → IsSync (crew.the_row κ M G R P H S g)
  Crew-sync gate rt h s = search (Book-sync, flag_sync, sendable) depth 20
