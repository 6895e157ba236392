-- A seat and a book may cross threads. Each step states what `search` finds at once, since a search that goes down through all fields runs out of steps.
use denote.RattleType.{RattleType}
use denote.Param.Send.{IsSend, IsSync, Frees, sendable, part_keyless}
use denote.Struct.Struct.{Struct}
use denote.Struct.Owning.{shape}
use Rattle.std.proofs.Crossing.{crosses}
use Rattle.atomic_table.proofs.Sent.{seat_keyless, shares_keyless}
use Rattle.step_book.specs.declared.machine.Machine.{Ghosts}
use Rattle.step_book.specs.contracts.board.Board as board
use Rattle.step_book.specs.contracts.board.Known as known
use Rattle.step_book.specs.contracts.seat.Seat as seat
use Rattle.step_book.specs.contracts.book.Book as book
use Rattle.atomic_table.specs.contracts.shared.Seat as place
use Rattle.atomic_table.specs.contracts.shared.Shared as shared
use Rattle.atomic_table.specs.contracts.send_lease.SendLease as lease
use Rattle.atomic_table.specs.contracts.owned.Table as table
use Rattle.atomic_table.specs.declared.shared.TableRule as rule
use Rattle.atomic_table.proofs.Rights.{right_send}
use Rattle.std.specs.declared.alloc.Allocator as alloc
use Rattle.std.specs.contracts.option.Option as option

module _ (S V : RattleType) where
  place_send : IsSend S → IsSend (place.the_row S V)
  place_send s = record { owned = λ d vs. ((λ vss. (tt, ((λ uss. (tt, tt)), tt))), seat_keyless S s V.coded.code d.table_id d.id d.me); leaving = λ k f vs. tt }

  place_field_send : IsSend S → IsSend (place.the_field S V).row
  place_field_send s = let a = place_send s in search sendable depth 20

module _ (P H S : RattleType) where
  board_send : IsSend H → IsSend S → IsSend (board.the_row P H S)
  board_send h s = search (crosses, sendable) depth 20

  option_send : IsSend H → IsSend S → IsSend (option.the_row (board.the_row P H S))
  option_send h s = let a = board_send h s in search sendable depth 20

  pub seat_place_send : IsSend H → IsSend S → IsSend (place.the_field (option.the_row (board.the_row P H S)) (known.the_row P H S)).row
  seat_place_send h s = place_field_send (option.the_row (board.the_row P H S)) (known.the_row P H S) (option_send h s)

module _ (S V K P A : RattleType) (g : rule.Ghosts P.Denot S.Denot V.Denot K.Denot) (o : alloc.Ghosts A.Denot) where
  shared_sync : IsSend S → IsSync (shared.the_row S V K P g)
  shared_sync s = let fields : IsSync (Struct (shape (shared.the_type S V K P g))) = search sendable depth 20 in
      record { shared = λ d b o ν. (fields.shared (d.words, (d.slots, (tt, tt))) b o ν, shares_keyless S s V.coded.code d.table_id (g.holds d.key) d.words d.slots ν) }

  shared_field_sync : IsSend S → IsSync (shared.the_field S V K P g).row
  shared_field_sync s = let a = shared_sync s in search sendable depth 20

  lease_sync : (T : RattleType) → Frees o o.dealloc_token → IsSync (lease.the_row T A o)
  lease_sync T f = record { shared = λ d b p ν q. part_keyless (lease.the_row T A o) (right_send T A o f) q d b p }

  lease_field_sync : (T : RattleType) → Frees o o.dealloc_token → IsSync (lease.the_field T A o).row
  lease_field_sync T f = let a = lease_sync T f in search sendable depth 20

  table_field_sync : IsSend S → IsSync A → Frees o o.dealloc_token → IsSync (table.the_field S V K P A g o).row
  table_field_sync s y f = let a = shared_field_sync s in let b = λ (T : RattleType). lease_field_sync T f in search (b, sendable) depth 20

module _ (M P H S : RattleType) (g : Ghosts M.Denot P.Denot H.Denot S.Denot) where
  pub Seat-send : IsSend H → IsSend S → IsSend (seat.the_row M P H S g)
  Seat-send h s = let a = seat_place_send P H S h s in search sendable depth 20

  pub Seat_field-send : IsSend H → IsSend S → IsSend (seat.the_field M P H S g).row
  Seat_field-send h s = let a = seat_place_send P H S h s in search sendable depth 20

  pub Book-sync : IsSend H → IsSend S → IsSync (book.the_row M P H S g)
  Book-sync h s = let a = option_send P H S h s in search (table_field_sync, crosses, sendable) depth 20

  pub Book_field-sync : IsSend H → IsSend S → IsSync (book.the_field M P H S g).row
  Book_field-sync h s = let a = option_send P H S h s in search (table_field_sync, crosses, sendable) depth 20
