use denote.Param.Send.{sendable}
use Rattle.std.proofs.Crossing.{Vec-send}
use Rattle.node_threads.proofs.Crossing.{Player-send, Crew-sync}
use Rattle.node_threads.proofs.threads.play_all.Goals as goal

pub join-others-requires-send-F : goal.join-others-requires-send-F
join-others-requires-send-F g c κs w = search (Crew-sync, Player-send, Vec-send, sendable) depth 20

pub join-others-requires-send-A : goal.join-others-requires-send-A
join-others-requires-send-A g c κs w = search (Player-send, Vec-send, sendable) depth 20
