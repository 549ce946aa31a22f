-- A PDB stream that names a stream has an age.
use Rattle.std.proofs.Common.{◌≡◌, ◌≤◌, ℕ, Bool, true, false, List, length, drop, Some, Ok, refl, ap, arith}
use Rattle.std.proofs.lemmas.Bool.{le-leb}
use Rattle.byteorder.specs.Endian.{little_number}
use Rattle.info_stream.specs.Named.{age_in, stream_named}
use Rattle.type_store.proofs.Named.{named_long}

pub named_age : (info name : List ℕ) (number : ℕ) → stream_named info name ≡ Ok number → age_in info ≡ Some (little_number 4 (drop 8 info))
unfolding age_in
named_age info name number is =
    let long = named_long info name number is in
    let enough : 12 ≤ length info = omega arith in
    rw (le-leb 12 (length info) enough) refl
