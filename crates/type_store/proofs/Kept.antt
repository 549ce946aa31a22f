-- Records that were read are such as a table keeps.
use Rattle.std.proofs.Common.{◌≡◌, ◌≤◌, ◌<◌, ◌+◌, ◌*◌, ◌^◌, ℕ, List, [], ◌∷◌, ◌++◌, length, All, refl, sym, ap, subst, ◌∙◌, arith, length-append}
use Rattle.std.specs.List.{AllByRecursion}
use Rattle.std.proofs.lemmas.List.Elements.{All-from_recursion, recursion_from_All}
use Rattle.byteorder.specs.Endian.{little_number}
use Rattle.srv_edge.specs.Records.{joined}
use Rattle.srv_edge.specs.declared.limit.TheConstants.{MOST_BYTES, MOST_RECORDS}
use Rattle.tpi_stream.specs.Stream as stream
use Rattle.tpi_stream.specs.declared.reading.Records.{Records}
use Rattle.tpi_stream.specs.HeaderText.{header_text}
use Rattle.tpi_stream.proofs.HeaderTexts.{length-header_text}
use Rattle.record_table.specs.Table.{IsKept, IsRecord}
use Rattle.table_model.specs.Bounds.{Bounds, bounded_table}
use Rattle.type_store.specs.Opening.{AreRead}

-- the number in two bytes
two_bytes : (bytes : List ℕ) → AllByRecursion (λ b. b < 2 ^ 8) bytes → little_number 2 bytes < 2 ^ 16
two_bytes [] all = omega arith
two_bytes (a ∷ []) all = omega (arith, all.0)
two_bytes (a ∷ b ∷ bytes) all = omega (arith, all.0, all.1.0)

pub is_record : (r : List ℕ) → AllByRecursion (λ b. b < 2 ^ 8) r → stream.IsRecord r → IsRecord r
is_record r bytes is =
    let few = two_bytes r bytes in
    let says : little_number 2 r + 2 ≡ length r = is.size in
    record { shortest = is.least; longest = omega (arith, few, says); says = says }

abbrev pub IsByte : ℕ → Type 0
IsByte b = b < 2 ^ 8

bytes_behind : (xs ys : List ℕ) → AllByRecursion IsByte (xs ++ ys) → AllByRecursion IsByte ys
bytes_behind [] ys all = all
bytes_behind (x ∷ xs) ys all = bytes_behind xs ys all.1

bytes_before : (xs ys : List ℕ) → AllByRecursion IsByte (xs ++ ys) → AllByRecursion IsByte xs
bytes_before [] ys all = tt
bytes_before (x ∷ xs) ys all = (all.0, bytes_before xs ys all.1)

are_records : (list : List (List ℕ)) → AllByRecursion IsByte (joined list) → AllByRecursion stream.IsRecord list → AllByRecursion IsRecord list
are_records [] bytes all = tt
are_records (r ∷ list) bytes all = (is_record r (bytes_before r (joined list) bytes) all.0, are_records list (bytes_behind r (joined list) bytes) all.1)

-- what was read of a stream of bytes
pub are_read : (bounds : Bounds) (content : List ℕ) (read : Records) → All IsByte content → stream.IsStream bounds.records bounds.bytes content read → AreRead bounds (length content) read
are_read bounds content read bytes is =
    let text = is.text in
    let all = recursion_from_All IsByte content bytes in
    let behind_header : AllByRecursion IsByte (joined read.list ++ is.behind) = bytes_behind (header_text read.header) (joined read.list ++ is.behind) (subst (AllByRecursion IsByte) text all) in
    let long : length content ≡ 56 + (length (joined read.list) + length is.behind) =
    ap length text ∙ length-append (header_text read.header) (joined read.list ++ is.behind)
    ∙ ap (λ n. n + length (joined read.list ++ is.behind)) (length-header_text read.header) ∙ ap (λ n. 56 + n) (length-append (joined read.list) is.behind) in
    record {
      header = is.header;
      all = All-from_recursion IsRecord read.list (are_records read.list (bytes_before (joined read.list) is.behind behind_header) is.records);
      few = is.few_records;
      short = is.few_bytes;
      long = omega (arith, long);
    }

-- the table of records that were read
pub is_kept : (bounds : Bounds) (size : ℕ) (read : Records) → AreRead bounds size read → bounds.records ≤ MOST_RECORDS → bounds.bytes ≤ MOST_BYTES → IsKept (bounded_table bounds read.list)
is_kept bounds size read is records bytes = record { all = is.all; within = record { few = is.few; short = is.short }; most_records = records; most_bytes = bytes }
