-- The edits of a commit, stream by stream: they are parts of the new text, and what they leave is as it was.
use Rattle.std.proofs.Common.{◌≡◌, ◌≤◌, ◌<◌, ◌+◌, ◌-◌, ◌*◌, ◌⊎◌, ℕ, Bool, true, false, cond, List, [], ◌∷◌, length, get_or, refl, sym, ap, subst, ◌∙◌, inl, inr, arith, ltb}
use Rattle.std.proofs.lemmas.Bool.{le-ltb, lt-ltb}
use Rattle.std.proofs.lemmas.List.{append-nil, length-append}
use Rattle.std.proofs.Math.Nat.{div-mul-le_self}
use Rattle.srv_edge.specs.Records.{joined}
use Rattle.tpi_stream.specs.declared.header.Kept.{Kept}
use Rattle.tpi_stream.specs.Hashes.{hash_text}
use Rattle.tpi_stream.specs.Written.{record_stream_text}
use Rattle.tpi_stream.proofs.Growing.{byte-hash_text, byte-joined, byte-record_stream_text, length-hash_text, length-joined-append}
use Rattle.tpi_stream.proofs.WrittenStreams.{length-record_stream_text}
use Rattle.names_table.specs.Names.{Names, bytes_of}
use Rattle.names_table.specs.Text.{names_text}
use Rattle.names_table.proofs.Growing.{byte-names_text, bytes_of-append, length-names_text}
use Rattle.names_table.proofs.Strings.{length-strings}
use Rattle.table_model.specs.Extends.{StartsWith}
use Rattle.type_store.specs.Commit.{all_from, block_start, first_and_from, first_block, hash_edits, names_edits, record_edits, record_extent}
use Rattle.type_store.specs.Shape.{hash_stream_size, names_stream_size, record_stream_size}
use Rattle.type_store.proofs.Shaping.{AreParts, IsAlike, IsLeft, both_left, both_parts, first_left, first_parts, from_left, from_parts, none_parts, whole_left, whole_parts}

-- ---- lists that begin with others

-- the long list is the short one, or longer
grown : (short long : List (List ℕ)) → StartsWith short long → (long ≡ short) ⊎ (length short < length long)
grown short long ([], is) = inl (is ∙ append-nil short)
grown short long (m ∷ more, is) = inr (omega (arith, ap length is, length-append short (m ∷ more)))

no_more : (short long : List (List ℕ)) → long ≡ short → ltb (length short) (length long) ≡ false
no_more short long is = le-ltb (length short) (length long) (omega (arith, ap length is))

-- an old stream has at least so many bytes, or just as many where it is not fresh
abbrev pub HasRoom : Bool → ℕ → ℕ → Type 0
HasRoom true n old = n ≤ old
HasRoom false n old = old ≡ n

room_least : (fresh : Bool) (n old : ℕ) → HasRoom fresh n old → n ≤ old
room_least true n old room = room
room_least false n old room = omega (arith, room)

-- ---- a stream of records

abbrev record_parts_by : ℕ → ℕ → ℕ → List ℕ → List (List ℕ) → Bool → Bool → Type 0
record_parts_by size i old_size text old more fresh =
    AreParts size i old_size text (cond more (first_and_from size i text (56 + length (joined old))) (cond fresh (first_block size i text ∷ []) []))

pub record_parts : (size i old_size : ℕ) (fresh : Bool) (kept : Kept) (old records : List (List ℕ)) → StartsWith old records → HasRoom fresh (record_stream_size old) old_size
    → AreParts size i old_size (record_stream_text kept records) (record_edits size fresh i (record_extent old) kept records)
unfolding record_edits
record_parts size i old_size fresh kept old records starts room =
    let text = record_stream_text kept records in
    let n = length-record_stream_text kept records in
    elim (grown old records starts) [
      | inl same ↦ subst (λ t. record_parts_by size i old_size text old t fresh) (sym (no_more old records same)) (at_rest fresh room (n ∙ ap (λ r. 56 + length (joined r)) same))
      | inr more ↦
          subst (λ t. record_parts_by size i old_size text old t fresh) (sym (lt-ltb (length old) (length records) more))
          (both_parts size i old_size text (56 + length (joined old)) (room_least fresh (56 + length (joined old)) old_size room)
          (omega (arith, n, ap (λ r. length (joined r)) starts.1, length-joined-append old starts.0)))
    ]
  where
    at_rest : (f : Bool) → HasRoom f (56 + length (joined old)) old_size → length (record_stream_text kept records) ≡ 56 + length (joined old) → record_parts_by size i old_size (record_stream_text kept records) old false f
    at_rest true room n = first_parts size i old_size (record_stream_text kept records) (omega (arith, n, room))
    at_rest false room n = none_parts size i old_size (record_stream_text kept records) (room ∙ sym n)

-- A stream has the bytes of records behind its header.
pub record StandsIn (records : List (List ℕ)) (stream : List ℕ) : Type 0 where
  pub long : 56 + length (joined records) ≤ length stream
  pub bytes : (k : ℕ) → k < length (joined records) → get_or stream (56 + k) 0 ≡ get_or (joined records) k 0

pub text_stands : (kept : Kept) (records : List (List ℕ)) → StandsIn records (record_stream_text kept records)
text_stands kept records = record { long = omega (arith, length-record_stream_text kept records); bytes = λ k lt. byte-record_stream_text kept records k }

alike_records : (kept : Kept) (old records : List (List ℕ)) (stream : List ℕ) → StartsWith old records → StandsIn old stream → IsAlike 56 (56 + length (joined old)) stream (record_stream_text kept records)
alike_records kept old records stream starts stands =
    λ j from to.
    let k = j - 56 in
    let whole : 56 + k ≡ j = omega (arith, from) in
    let low : k < length (joined old) = omega (arith, from, to) in
    ap (λ m. get_or stream m 0) (sym whole) ∙ stands.bytes k low
    ∙ sym (ap (λ m. get_or (record_stream_text kept records) m 0) (sym whole) ∙ byte-record_stream_text kept records k ∙ ap (λ r. get_or (joined r) k 0) starts.1 ∙ byte-joined old starts.0 k low)

abbrev record_left_by : ℕ → ℕ → List ℕ → List ℕ → List (List ℕ) → Bool → Bool → Type 0
record_left_by size i stream text old more fresh =
    IsLeft i stream text (cond more (first_and_from size i text (56 + length (joined old))) (cond fresh (first_block size i text ∷ []) []))

pub record_left : (size i : ℕ) (fresh : Bool) (kept : Kept) (old records : List (List ℕ)) (stream : List ℕ) → 56 ≤ size → StartsWith old records → StandsIn old stream → (fresh ≡ false → stream ≡ record_stream_text kept old)
    → IsLeft i stream (record_stream_text kept records) (record_edits size fresh i (record_extent old) kept records)
unfolding record_edits
record_left size i fresh kept old records stream size_least starts stands exact =
    let text = record_stream_text kept records in
    let n = length-record_stream_text kept records in
    let alike = alike_records kept old records stream starts stands in
    let place = 56 + length (joined old) in
    elim (grown old records starts) [
      | inl same ↦
          subst (λ t. record_left_by size i stream text old t fresh) (sym (no_more old records same))
          (at_rest fresh exact (ap (record_stream_text kept) same) (λ j from to. alike j (omega (arith, size_least, from)) (omega (arith, to, n, ap (λ r. length (joined r)) same))))
      | inr more ↦
          subst (λ t. record_left_by size i stream text old t fresh) (sym (lt-ltb (length old) (length records) more))
          (both_left size i stream text place (omega (arith, n, ap (λ r. length (joined r)) starts.1, length-joined-append old starts.0))
          (λ j from to. alike j (omega (arith, size_least, from)) (omega (arith, to, div-mul-le_self place size))))
    ]
  where
    at_rest : (f : Bool) → (f ≡ false → stream ≡ record_stream_text kept old) → record_stream_text kept records ≡ record_stream_text kept old → IsAlike size (length (record_stream_text kept records)) stream (record_stream_text kept records)
        → record_left_by size i stream (record_stream_text kept records) old false f
    at_rest true exact same alike = first_left size i stream (record_stream_text kept records) alike
    at_rest false exact same alike = λ j lt none. ap (λ s. get_or s j 0) (exact refl ∙ sym same)

-- ---- a hash stream

abbrev pub IsExact : Bool → ℕ → ℕ → Type 0
IsExact fresh n old = fresh ≡ false → old ≡ n

hash_parts_by : (size i old_size : ℕ) (fresh : Bool) (kept : Kept) (old records : List (List ℕ)) → StartsWith old records → IsExact fresh (hash_stream_size old) old_size
    → AreParts size i old_size (hash_text records kept.buckets) (cond fresh (all_from i (hash_text records kept.buckets) 0 ∷ []) (cond (ltb (length old) (length records)) (all_from i (hash_text records kept.buckets) (block_start size (4 * length old)) ∷ []) []))
hash_parts_by size i old_size true kept old records starts exact = whole_parts size i old_size (hash_text records kept.buckets)
hash_parts_by size i old_size false kept old records starts exact =
    let text = hash_text records kept.buckets in
    let n = length-hash_text kept.buckets records in
    let old_is = exact refl in
    let Parts : Bool → Type 0 = λ t. AreParts size i old_size text (cond t (all_from i text (block_start size (4 * length old)) ∷ []) []) in
    elim (grown old records starts) [
      | inl same ↦ subst Parts (sym (no_more old records same)) (none_parts size i old_size text (old_is ∙ sym (n ∙ ap hash_stream_size same)))
      | inr more ↦ subst Parts (sym (lt-ltb (length old) (length records) more)) (from_parts size i old_size text (4 * length old) (omega (arith, old_is)) (omega (arith, n, more)))
    ]

pub hash_parts : (size old_size : ℕ) (fresh : Bool) (kept : Kept) (old records : List (List ℕ)) → StartsWith old records → IsExact fresh (hash_stream_size old) old_size
    → AreParts size kept.hash_stream old_size (hash_text records kept.buckets) (hash_edits size fresh (record_extent old) kept records)
unfolding hash_edits
hash_parts size old_size fresh kept old records starts exact = hash_parts_by size kept.hash_stream old_size fresh kept old records starts exact

hash_left_by : (size i : ℕ) (fresh : Bool) (kept : Kept) (old records : List (List ℕ)) (stream : List ℕ) → StartsWith old records → (fresh ≡ false → stream ≡ hash_text old kept.buckets)
    → IsLeft i stream (hash_text records kept.buckets) (cond fresh (all_from i (hash_text records kept.buckets) 0 ∷ []) (cond (ltb (length old) (length records)) (all_from i (hash_text records kept.buckets) (block_start size (4 * length old)) ∷ []) []))
hash_left_by size i true kept old records stream starts exact = whole_left i stream (hash_text records kept.buckets)
hash_left_by size i false kept old records stream starts exact =
    let text = hash_text records kept.buckets in
    let Left : Bool → Type 0 = λ t. IsLeft i stream text (cond t (all_from i text (block_start size (4 * length old)) ∷ []) []) in
    elim (grown old records starts) [
      | inl same ↦ subst Left (sym (no_more old records same)) (λ j lt none. ap (λ s. get_or s j 0) (exact refl ∙ ap (λ r. hash_text r kept.buckets) (sym same)))
      | inr more ↦
          subst Left (sym (lt-ltb (length old) (length records) more))
          (from_left size i stream text (4 * length old) (omega (arith, length-hash_text kept.buckets records, more))
          (λ j from to.
          ap (λ s. get_or s j 0) (exact refl) ∙ byte-hash_text kept.buckets old starts.0 j (omega (arith, to, div-mul-le_self (4 * length old) size)) ∙ ap (λ r. get_or (hash_text r kept.buckets) j 0) (sym starts.1)))
    ]

pub hash_left : (size : ℕ) (fresh : Bool) (kept : Kept) (old records : List (List ℕ)) (stream : List ℕ) → StartsWith old records → (fresh ≡ false → stream ≡ hash_text old kept.buckets)
    → IsLeft kept.hash_stream stream (hash_text records kept.buckets) (hash_edits size fresh (record_extent old) kept records)
unfolding hash_edits
hash_left size fresh kept old records stream starts exact = hash_left_by size kept.hash_stream fresh kept old records stream starts exact

-- ---- the stream of names

-- more names have more bytes
bytes_more : (old names : List (List ℕ)) → StartsWith old names → (names ≡ old) ⊎ (bytes_of old < bytes_of names)
bytes_more old names ([], is) = inl (is ∙ append-nil old)
bytes_more old names (m ∷ more, is) = inr (omega (arith, ap bytes_of is, bytes_of-append old (m ∷ more), length-strings more))

same_bytes : (old names : List (List ℕ)) → names ≡ old → ltb (bytes_of old) (bytes_of names) ≡ false
same_bytes old names is = le-ltb (bytes_of old) (bytes_of names) (omega (arith, ap bytes_of is))

pub names_parts : (size i old_size : ℕ) (fresh : Bool) (old : List (List ℕ)) (table : Names) → StartsWith old table.names → IsExact fresh (names_stream_size old) old_size
    → AreParts size i old_size (names_text table.version table.names) (names_edits size fresh i (bytes_of old) table)
unfolding names_edits
names_parts size i old_size true old table starts exact = whole_parts size i old_size (names_text table.version table.names)
names_parts size i old_size false old table starts exact =
    let text = names_text table.version table.names in
    let n = length-names_text table.version table.names in
    let old_is = exact refl in
    let Parts : Bool → Type 0 = λ t. AreParts size i old_size text (cond t (first_and_from size i text (12 + bytes_of old)) []) in
    elim (bytes_more old table.names starts) [
      | inl same ↦ subst Parts (sym (same_bytes old table.names same)) (none_parts size i old_size text (old_is ∙ sym (n ∙ ap names_stream_size same)))
      | inr more ↦ subst Parts (sym (lt-ltb (bytes_of old) (bytes_of table.names) more)) (both_parts size i old_size text (12 + bytes_of old) (omega (arith, old_is)) (omega (arith, n, more)))
    ]

pub names_left : (size i : ℕ) (fresh : Bool) (old : List (List ℕ)) (table : Names) (stream : List ℕ) → 12 ≤ size → StartsWith old table.names → (fresh ≡ false → stream ≡ names_text table.version old)
    → IsLeft i stream (names_text table.version table.names) (names_edits size fresh i (bytes_of old) table)
unfolding names_edits
names_left size i true old table stream size_least starts exact = whole_left i stream (names_text table.version table.names)
names_left size i false old table stream size_least starts exact =
    let text = names_text table.version table.names in
    let place = 12 + bytes_of old in
    let Left : Bool → Type 0 = λ t. IsLeft i stream text (cond t (first_and_from size i text place) []) in
    elim (bytes_more old table.names starts) [
      | inl same ↦ subst Left (sym (same_bytes old table.names same)) (λ j lt none. ap (λ s. get_or s j 0) (exact refl ∙ ap (names_text table.version) (sym same)))
      | inr more ↦
          subst Left (sym (lt-ltb (bytes_of old) (bytes_of table.names) more))
          (both_left size i stream text place (omega (arith, length-names_text table.version table.names, more))
          (λ j from to.
          ap (λ s. get_or s j 0) (exact refl) ∙ byte-names_text table.version old starts.0 j (omega (arith, size_least, from)) (omega (arith, to, div-mul-le_self place size))
          ∙ ap (λ names. get_or (names_text table.version names) j 0) (sym starts.1)))
    ]
