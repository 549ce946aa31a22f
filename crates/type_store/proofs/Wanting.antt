-- No judgement of a stream says that memory was wanted.
use Rattle.std.proofs.Common.{◌≡◌, ℕ, zero, suc, Bool, true, false, cond, List, [], ◌∷◌, Option, None, Some, Result, Ok, Err, length, take, drop, unwrap_or, not, ◌==◌, ◌||◌, ◌+◌, ◌-◌, nat_lt, get_or, subst, leb, eqb}
use Rattle.std.specs.Option.{option_map, option_or}
use Rattle.byteorder.specs.Endian.{little_number}
use Rattle.msf_blocks.specs.Judging.{◌>>=◌, first_damage, unless}
use Rattle.names_table.specs.declared.fault.NamesFault.{NamesFault}
use Rattle.names_table.specs.declared.fault.NamesFault.TheVariants as names
use Rattle.names_table.specs.Names.{Names}
use Rattle.names_table.specs.Reading as strings
use Rattle.names_table.specs.Strings.{names_cut}
use Rattle.tpi_stream.specs.declared.fault.TpiFault.{TpiFault}
use Rattle.tpi_stream.specs.declared.fault.TpiFault.TheVariants.{Header, Record, Count, OutOfMemory}
use Rattle.tpi_stream.specs.HeaderText.{header_in}
use Rattle.tpi_stream.specs.Reading.{counted, has_record, header_fault, header_of, header_tests, reading, record_bytes_of, records_in, size_of, with_record}

-- a fault of a stream of records that is no want of memory
abbrev IsDamage : TpiFault → Type 0
IsDamage OutOfMemory = ⊥
IsDamage fault = Unit {0}

abbrev IsJudged : {A : Type 0} → Result A TpiFault → Type 0
IsJudged (Ok x) = Unit {0}
IsJudged (Err fault) = IsDamage fault

then : {A B : Type 0} (r : Result A TpiFault) (f : A → Result B TpiFault) → IsJudged r → ((x : A) → IsJudged (f x)) → IsJudged (r >>= f)
then (Ok x) f is each = each x
then (Err fault) f is each = is

abbrev AreTests : List (Bool × TpiFault) → Type 0
AreTests [] = Unit {0}
AreTests (test ∷ tests) = IsDamage test.1 × AreTests tests

tested : {A : Type 0} (tests : List (Bool × TpiFault)) (x : A) → AreTests tests → IsJudged (unless (first_damage tests) x)
tested [] x are = tt
tested ((true, fault) ∷ tests) x are = tested tests x are.1
tested ((false, fault) ∷ tests) x are = are.0

either : {A : Type 0} (b : Bool) (r s : Result A TpiFault) → IsJudged r → IsJudged s → IsJudged (cond b r s)
either true r s is_r is_s = is_r
either false r s is_r is_s = is_s

header_judged : (max_records max_bytes : ℕ) (stream : List ℕ) → IsJudged (header_of max_records max_bytes stream)
unfolding header_of header_fault
header_judged max_records max_bytes stream =
    let h = header_in stream in
    either (leb 56 (length stream)) (unless (first_damage (header_tests h (length stream) max_records max_bytes)) h) (Err (Header (length stream)))
    (tested (header_tests h (length stream) max_records max_bytes) h (tt, (tt, (tt, (tt, (tt, (tt, (tt, tt)))))))) tt

records_judged : (most at : ℕ) (bytes : List ℕ) → IsJudged (records_in most at bytes)
unfolding records_in
records_judged zero at [] = tt
records_judged (suc most) at [] = tt
records_judged zero at (b ∷ bytes) = tt
records_judged (suc most) at (b ∷ bytes) =
    let size = size_of (b ∷ bytes) in
    let later = records_in most (at + size) (drop size (b ∷ bytes)) in
    either (has_record (b ∷ bytes)) (with_record (take size (b ∷ bytes)) later) (Err (Record at))
    (then later (λ records. Ok (take size (b ∷ bytes) ∷ records)) (records_judged most (at + size) (drop size (b ∷ bytes))) (λ records. tt)) tt

reading_judged : (max_records max_bytes : ℕ) (stream : List ℕ) → IsJudged (reading max_records max_bytes stream)
unfolding reading
reading_judged max_records max_bytes stream =
    then (header_of max_records max_bytes stream) (λ h. records_in (length (record_bytes_of h stream)) 56 (record_bytes_of h stream) >>= counted h) (header_judged max_records max_bytes stream)
    (λ h. then (records_in (length (record_bytes_of h stream)) 56 (record_bytes_of h stream)) (counted h) (records_judged (length (record_bytes_of h stream)) 56 (record_bytes_of h stream))
    (λ records. either (eqb (length records) (h.end - h.begin)) (Ok (record { header = h; list = records })) (Err (Count 12)) tt tt))

pub records_want_nothing : (max_records max_bytes : ℕ) (stream : List ℕ) → reading max_records max_bytes stream ≡ Err OutOfMemory → ⊥
records_want_nothing max_records max_bytes stream e = subst (λ r. IsJudged r) e (reading_judged max_records max_bytes stream)

-- ---- names

abbrev IsNamesDamage : Option NamesFault → Type 0
IsNamesDamage None = Unit {0}
IsNamesDamage (Some names.OutOfMemory) = ⊥
IsNamesDamage (Some fault) = Unit {0}

first : (b : Bool) (x y : Option NamesFault) → IsNamesDamage x → IsNamesDamage y → IsNamesDamage (cond b x y)
first true x y is_x is_y = is_x
first false x y is_x is_y = is_y

or_else : (x y : Option NamesFault) → IsNamesDamage x → IsNamesDamage y → IsNamesDamage (option_or x y)
or_else None y is_x is_y = is_y
or_else (Some fault) y is_x is_y = is_x

long_name : (o : Option ℕ) → IsNamesDamage (option_map names.Text o)
long_name None = tt
long_name (Some at) = tt

head_judged : (a b c d : Bool) → IsNamesDamage (cond a (Some (names.Header 0)) (cond b (Some (names.Header 0)) (cond c (Some (names.Header 4)) (cond d (Some (names.Size 8)) None))))
head_judged true b c d = tt
head_judged false true c d = tt
head_judged false false true d = tt
head_judged false false false true = tt
head_judged false false false false = tt

text_judged : (bytes : List ℕ) → IsNamesDamage (strings.text_fault bytes)
text_judged [] = tt
text_judged (b ∷ rest) =
    let last = get_or (b ∷ rest) (length rest) 0 in
    let long = option_map names.Text (strings.first_long 13 (names_cut rest)) in
    first (not (b == 0)) (Some (names.Text 12)) (cond (not (last == 0)) (Some (names.Text (12 + length rest))) long) tt
    (first (not (last == 0)) (Some (names.Text (12 + length rest))) long tt (long_name (strings.first_long 13 (names_cut rest))))

wanted : (o : Option NamesFault) (table : Names) → IsNamesDamage o → unwrap_or (option_map Err o) (Ok table) ≡ Err names.OutOfMemory → ⊥
wanted None table is e = cc
wanted (Some fault) table is e = let same : fault ≡ names.OutOfMemory = cc in subst (λ f. IsNamesDamage (Some f)) same is

pub names_want_nothing : (max_bytes : ℕ) (stream : List ℕ) → strings.reading max_bytes stream ≡ Err names.OutOfMemory → ⊥
names_want_nothing max_bytes stream e =
    let head = head_judged (nat_lt (length stream) 12) (not (little_number 4 stream == 4026462206)) (not (strings.version_in stream == 1 || strings.version_in stream == 2))
    (nat_lt max_bytes (strings.size_in stream) || nat_lt (length stream) (12 + strings.size_in stream)) in
    wanted (strings.first_fault max_bytes stream) (strings.table_in max_bytes stream) (or_else (strings.header_fault max_bytes stream) (strings.text_fault (strings.strings_in stream)) head (text_judged (strings.strings_in stream))) e
