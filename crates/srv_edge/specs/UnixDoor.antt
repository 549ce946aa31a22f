-- What is seen of a door at a socket.
use Rattle.std.specs.Prelude.{Bool, true, false, Some, None}
use Rattle.srv_edge.specs.declared.unix_door.UnixDoor.{UnixDoor}

-- whether there is no socket
abbrev pub has_no_socket : UnixDoor → Bool
has_no_socket d = elim d.socket [ None ↦ true | Some s ↦ false ]
