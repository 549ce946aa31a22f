-- A pass and a note may go to another thread, and a turnstile may be shared, where the value may cross threads.
use denote.RattleType.{RattleType}
use denote.Param.Send.{IsSend, IsSync, sendable, part_keyless}
use denote.Struct.Struct.{Struct}
use denote.Struct.Owning.{shape}
use Rattle.std.proofs.Crossing.{crosses, frees}
use Rattle.turnstile.specs.declared.history.Historied.{Ghosts}
use Rattle.turnstile.specs.contracts.pass.Pass as pass
use Rattle.turnstile.specs.contracts.pass.Turnstile as gate
use Rattle.turnstile.specs.contracts.tell.Note as note
use Rattle.turnstile.specs.contracts.view.Place as place
use Rattle.turnstile.specs.contracts.view.View as view
use Rattle.atomic_table.specs.contracts.shared.Seat as seat
use Rattle.turnstile.specs.contracts.plays.Queue as queue
use Rattle.turnstile.specs.contracts.plays.QueueTableRulePlaceViewSnapshot.TheImpl.{ghosts, no_dict}
use Rattle.std.specs.contracts.snapshot.Snapshot as snapshot
use Rattle.std.specs.contracts.alloc.Global as heap
use Rattle.std.specs.contracts.impls.GlobalAllocator.TheImpl as memory
use Rattle.atomic_table.specs.contracts.shared.Shared as shared
use Rattle.atomic_table.specs.contracts.owned.Table as table
use Rattle.atomic_table.specs.contracts.send_lease.SendLease as right
use Rattle.atomic_table.proofs.Sent.{seat_keyless, shares_keyless, owns_keyless}
use Rattle.atomic_table.proofs.Rights.{right_send}

place_send : (V : RattleType) → IsSend V → IsSend (place.the_row V)
place_send V s = search (sendable, crosses) depth 20

seat_field : (V : RattleType) → IsSend V → IsSend (seat.the_field (place.the_row V) view.the_row).row
seat_field V s = record { owned = λ d vs. ((λ vss. (tt, ((λ uss. (tt, tt)), tt))), seat_keyless (place.the_row V) (place_send V s) view.the_row.coded.code d.table_id d.id d.me); leaving = λ k f vs. tt }

pub pass_send : (V : RattleType) (g : Ghosts V.Denot) → IsSend V → IsSend (pass.the_row V g)
pass_send V g s = search (sendable, seat_field) depth 20

pub note_send : (V : RattleType) (g : Ghosts V.Denot) → IsSend V → IsSend (note.the_row V g)
note_send V g s = search (sendable, seat_field) depth 20

module _ (V : RattleType) (g : Ghosts V.Denot) where
  shared_sync : IsSend V → IsSync (shared.the_field (place.the_row V) view.the_row (snapshot.the_row V) (queue.the_row V) (ghosts V g no_dict)).row
  shared_sync s =
      let fields : IsSync (Struct (shape (shared.the_type (place.the_row V) view.the_row (snapshot.the_row V) (queue.the_row V) (ghosts V g no_dict)))) = search sendable depth 20 in
      record { shared = λ d b o ν. (fields.shared (d.words, (d.slots, (tt, tt))) b o ν, shares_keyless (place.the_row V) (place_send V s) view.the_row.coded.code d.table_id _ d.words d.slots ν) }

  shared_send : IsSend V → IsSend (shared.the_field (place.the_row V) view.the_row (snapshot.the_row V) (queue.the_row V) (ghosts V g no_dict)).row
  shared_send s = record { owned = λ d vs. ((λ vss. (tt, (tt, (tt, ((λ uss. (tt, tt)), tt))))), owns_keyless (place.the_row V) (place_send V s) view.the_row.coded.code d.table_id _ d.words d.slots); leaving = λ k f vs. tt }

  right_field : (T : RattleType) → IsSend (right.the_field T heap.the_row memory.ghosts).row
  right_field T = let r = right_send T heap.the_row memory.ghosts frees in record { owned = r.owned; leaving = r.leaving }

  right_sync : (T : RattleType) → IsSync (right.the_field T heap.the_row memory.ghosts).row
  right_sync T = record { shared = λ d b o ν q. part_keyless (right.the_row T heap.the_row memory.ghosts) (right_send T heap.the_row memory.ghosts frees) q d b o }

  table_sync : IsSend V → IsSync (table.the_field (place.the_row V) view.the_row (snapshot.the_row V) (queue.the_row V) heap.the_row (ghosts V g no_dict) memory.ghosts).row
  table_sync s = search (sendable, shared_sync, right_sync, crosses) depth 20

  table_send : IsSend V → IsSend (table.the_field (place.the_row V) view.the_row (snapshot.the_row V) (queue.the_row V) heap.the_row (ghosts V g no_dict) memory.ghosts).row
  table_send s = search (sendable, shared_send, right_field, crosses) depth 20

  pub gate_send : IsSend V → IsSend (gate.the_row V g)
  gate_send s = search (sendable, table_send) depth 20

  pub gate_sync : IsSend V → IsSync (gate.the_row V g)
  gate_sync s = search (sendable, table_sync) depth 20

-- for `search`, where a caller's thread takes them
pub ruleset moves = (pass_send, note_send, gate_send, gate_sync)
