-- Lists of records in one body, and the parts of the reply to one.
use Rattle.std.specs.Prelude.{◌≡◌, ◌≢◌, ◌≤◌, ◌<◌, ◌*◌, ◌^◌, ⊤, ℕ, List, [], ◌∷◌, ◌++◌, length, drop}
use Rattle.srv_edge.specs.declared.limit.TheConstants.{LIST_RECORDS}
use Rattle.srv_edge.specs.Frames.{half_bytes, word_bytes}
use Rattle.srv_edge.specs.Records.{joined}
use Rattle.request_frames.specs.declared.reply.Part.{Part}

-- a record of a list begins with two bytes that say how many follow
abbrev pub IsListed : List ℕ → Type 0
IsListed r = (content : List ℕ) × (r ≡ half_bytes (length content) ++ content) × (length content < 2 ^ 16)

abbrev pub AreListed : List (List ℕ) → Type 0
AreListed [] = ⊤
AreListed (r ∷ records) = IsListed r × AreListed records

-- the bytes are these records, one after another, at least one and at most 4,096
pub record AreRecords (list : List ℕ) (records : List (List ℕ)) : Type 0 where
  pub join : list ≡ joined records
  pub each : AreListed records
  pub some : 1 ≤ length records
  pub few : length records ≤ LIST_RECORDS

abbrev pub IsRecordList : List ℕ → Type 0
IsRecordList list = (records : List (List ℕ)) × AreRecords list records

-- bytes begin with a record
pub record BeginsWith (bytes r : List ℕ) : Type 0 where
  pub listed : IsListed r
  pub begins : bytes ≡ r ++ drop (length r) bytes

-- they begin with none
abbrev pub BeginsWithNone : List ℕ → Type 0
BeginsWithNone bytes = (r rest : List ℕ) → IsListed r → bytes ≢ r ++ rest

-- the nine bytes of a part: its code and its two numbers
abbrev pub part_bytes : Part → List ℕ
part_bytes p = p.code ∷ word_bytes p.a ++ word_bytes p.b

-- so many parts have this length
abbrev pub IsPartsLength : ℕ → Type 0
IsPartsLength n = (count : ℕ) × (n ≡ 9 * count) × (1 ≤ count) × (count ≤ LIST_RECORDS)
