-- The value of a hub may go to another thread, and a hub may be shared, where its device may cross threads.
use denote.RattleType.{RattleType}
use denote.Param.Send.{IsSend, IsSync, sendable}
use Rattle.std.proofs.Crossing.{crosses}
use Rattle.srv_edge.specs.declared.device.Device.{Ghosts}
use Rattle.turnstile.proofs.Crossing.{moves}
use Rattle.type_store.specs.contracts.file.PdbFile as file
use Rattle.hub.specs.contracts.state.HubState as state
use Rattle.hub.specs.contracts.value.HubValue as value
use Rattle.hub.specs.contracts.hub.Hub as hub
use Rattle.hub.specs.contracts.book.Book as book

module _ (D : RattleType) (g : Ghosts D.Denot) where
  pub file_send : IsSend D → IsSend (file.the_row D g)
  file_send s = search (sendable, crosses) depth 40 fits 30000

  pub state_send : IsSend D → IsSend (state.the_row D g)
  state_send s = search (sendable, crosses, file_send) depth 40 fits 30000

  pub value_send : IsSend D → IsSend (value.the_row D g)
  value_send s = search (sendable, crosses, state_send) depth 40 fits 30000

  pub book_send : IsSend D → IsSend (book.the_row D g)
  book_send s = search (sendable, crosses, file_send) depth 40 fits 30000

  pub hub_send : IsSend D → IsSend (hub.the_row D g)
  hub_send s = search (sendable, moves, value_send) depth 40 fits 30000

  pub hub_sync : IsSend D → IsSync (hub.the_row D g)
  hub_sync s = search (sendable, moves, value_send) depth 40 fits 30000

-- for `search`, beside `moves`, where threads have passes of a hub
pub ruleset shares = (value_send, hub_send, hub_sync)
