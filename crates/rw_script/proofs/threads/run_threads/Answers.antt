use Rattle.std.proofs.Crossing.{crosses}
use denote.Param.Send.{sendable}
use Rattle.rw_script.proofs.threads.run_threads.Goals as goal

pub play_all-requires-sync-D : goal.play_all-requires-sync-D
play_all-requires-sync-D g c = λ κs _. search (sendable, crosses) depth 100 fits 100000 steps 9900000
