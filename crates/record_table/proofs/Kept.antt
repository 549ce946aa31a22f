-- Records that are kept.
use Rattle.std.proofs.Common.{◌≡◌, ◌+◌, ℕ, List, [], ◌∷◌, ◌++◌, length, length-append, Result, Ok, Err, OnOk, OnErr, arith}
use Rattle.std.proofs.lemmas.List.Elements.{All-push}
use Rattle.srv_edge.specs.Records.{joined}
use Rattle.record_table.specs.Table.{HasRoomFor, IsKept, IsRecord, Table}

-- a record more
pub length-joined_push : (records : List (List ℕ)) (r : List ℕ) → length (joined (records ++ r ∷ [])) ≡ length (joined records) + length r
length-joined_push [] r = omega (arith, length-append r [])
length-joined_push (x ∷ records) r =
    let ih = length-joined_push records r in
    omega (arith, ih, length-append x (joined records), length-append x (joined (records ++ r ∷ [])))

-- a table with a record more, or with none
pub kept_still : {A E : Type 0} (table : Table) (r : List ℕ) (new : List (List ℕ)) (result : Result A E) → IsKept table → IsRecord r → HasRoomFor table r → OnOk result (new ≡ table.records ++ r ∷ []) → OnErr result (new ≡ table.records) → IsKept (record table { records = new })
kept_still table r new (Ok a) kept is room ok err = rw ok record {
  all = All-push IsRecord table.records r kept.all is;
  within = record {
    few = omega (arith, length-append table.records (r ∷ []), room.few);
    short = omega (arith, length-joined_push table.records r, room.short);
  };
  most_records = kept.most_records;
  most_bytes = kept.most_bytes;
}
kept_still table r new (Err e) kept is room ok err = rw err kept
