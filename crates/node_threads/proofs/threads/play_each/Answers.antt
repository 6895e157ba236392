use denote.Param.Send.{sendable}
use Rattle.node_threads.proofs.Crossing.{Player-send, Crew-sync}
use Rattle.node_threads.proofs.threads.play_each.Goals as goal

pub for_each_mut-requires-send-T : goal.for_each_mut-requires-send-T
for_each_mut-requires-send-T g c κs w = search (Player-send, sendable) depth 20

pub for_each_mut-requires-sync-F : goal.for_each_mut-requires-sync-F
for_each_mut-requires-sync-F g c κs w = search (Crew-sync, sendable) depth 20
