-- A worker may go to another thread, where the device and the runtime may.
use denote.RattleType.{RattleType}
use denote.Param.Send.{IsSend, IsSync, sendable}
use denote.Ref.{NamedLft}
use Rattle.std.proofs.Crossing.{crosses}
use Rattle.srv_edge.specs.declared.device.Device as device
use Rattle.turnstile.proofs.Crossing.{moves}
use Rattle.hub.proofs.Crossing.{shares}
use Rattle.client_session.specs.contracts.shared.Shared as shared
use Rattle.build_server.specs.contracts.worker.Worker as worker

module _ (κ : NamedLft) (R D : RattleType) (g : device.Ghosts D.Denot) where
  shared_send : IsSend R → IsSend D → IsSend (shared.the_row κ R D g)
  shared_send r s = search (sendable, crosses, moves, shares) depth 40 fits 30000

  pub worker_send : IsSend R → IsSend D → IsSend (worker.the_row κ R D g)
  worker_send r s = search (sendable, crosses, shared_send) depth 40 fits 30000
