-- Numbers and bytes as words, and what words give as numbers and bytes.
use Rattle.std.proofs.Common.{◌≡◌, ◌∙◌, ◌<◌, ◌≤◌, ◌^◌, ◌-◌, ◌==◌, ◌&&◌, ℕ, zero, suc, Bool, true, false, not, refl, sym, ap, subst, List, [], ◌∷◌, length, replicate, Option, Some, None, Result, Ok, Err, OkIff, lt-ltb, ltb-true, le-leb, leb-true, arith}
use Rattle.std.specs.Prelude.{decimal, nat_le, nat_lt, option_and_then, slice_index}
use Rattle.std.specs.Char.{is_ascii_digit}
use Rattle.std.specs.Str.{all_ascii_digits}
use Rattle.std.specs.Str.Parse.{digits_value}
use Rattle.std.proofs.lemmas.Bool.{and_parts}
use Rattle.std.proofs.lemmas.Fmt.{decimal_nonempty, digits_decimal, digits_value-decimal, length-decimal-le}
use Rattle.std.proofs.lemmas.Str.Parse.{numerals_by_value, tells_all_ascii_digits}
use Rattle.hex.specs.declared.error.FromHexError.{FromHexError}
use Rattle.hex.specs.Hex.{IsBytes, decode_sized, encode_lower}
use Rattle.hex.proofs.HexLemmas.{decode_of-ok, decode_sized-encode_lower, decode_sized-ok, decode_sized-twice}
use Rattle.msf_blocks.specs.Blocks.{IsBlockSize, is_block_size}
use Rattle.command_words.specs.Lines.{Text, is_plain}
use Rattle.command_words.specs.Values.{◌>>=◌, block_size_of, guid_of, is_number, number_in, number_of, some_if, value_of, value_or}

digits_plain : (text : Text) → all_ascii_digits text ≡ true → is_plain text ≡ true
digits_plain [] digits = refl
digits_plain (b ∷ []) digits = refl
digits_plain (b ∷ c ∷ rest) digits = no_dash b (and_parts (is_ascii_digit b) (all_ascii_digits (c ∷ rest)) digits).0
  where
    no_dash : (d : ℕ) → is_ascii_digit d ≡ true → not (d == 45) ≡ true
    no_dash d is = grind (arith, is)

module _ (n : ℕ) (small : n < 2 ^ 32) where
  wide : n < 2 ^ 64
  wide = omega arith

  digits_are : all_ascii_digits (decimal n) ≡ true
  digits_are = digits_decimal (numerals_by_value _ tells_all_ascii_digits) n wide

  pub decimal_plain : is_plain (decimal n) ≡ true
  decimal_plain = digits_plain (decimal n) digits_are

  pub decimal_there : nat_lt 0 (length (decimal n)) ≡ true
  decimal_there = lt-ltb 0 (length (decimal n)) (decimal_nonempty n wide)

  pub decimal_in : (least most : ℕ) → least ≤ n → n ≤ most → number_in least most (decimal n) ≡ Some n
  decimal_in least most low high =
      let ten = length-decimal-le 10 n (omega arith) (omega arith) wide in
      let value = digits_value-decimal (numerals_by_value _ tells_all_ascii_digits) n wide in
      rw (decimal_there, digits_are, value, le-leb (length (decimal n)) 10 ten, le-leb least n low, le-leb n most high) refl

  pub decimal_read : number_of (decimal n) ≡ Some n
  decimal_read = decimal_in 0 (2 ^ 32 - 1) (omega arith) (omega arith)

  pub size_read : IsBlockSize n → block_size_of (decimal n) ≡ Some n
  size_read is = rw (decimal_read, is) refl

pub guid_read : (guid : List ℕ) → length guid ≡ 16 → IsBytes guid → guid_of (encode_lower guid) ≡ Some guid
guid_read guid long bytes = ap value_of (decode_sized-encode_lower guid 16 long bytes)

-- ---- what is read keeps its range

some_only : {A : Type 0} (b : Bool) (x y : A) → some_if b x ≡ Some y → (b ≡ true) × (x ≡ y)
some_only true x y e = (refl, cc)
some_only false x y e = cc

-- what `parse` tells of a number
abbrev pub number_by : {E : Type 0} → ℕ → ℕ → Result ℕ E → Option ℕ
number_by least most (Ok value) = some_if (nat_le least value && nat_le value most) value
number_by least most (Err e) = None

pub between : (least most value : ℕ) → least ≤ value → value ≤ most → number_by {E = Unit {0}} least most (Ok value) ≡ Some value
between least most value low high = rw (le-leb least value low, le-leb value most high) refl

pub number_told : {E : Type 0} (least most : ℕ) (text : Text) (r : Result ℕ E) → most < 2 ^ 32 → length text ≤ 10
    → OkIff r ((all_ascii_digits text ≡ true) × (0 < length text) × (digits_value 10 text < 2 ^ 32)) (digits_value 10 text)
    → number_in least most text ≡ number_by least most r
number_told least most text (Ok value) small short told =
    let value_is = told.1 in
    rw (lt-ltb 0 (length text) told.0.1, le-leb (length text) 10 short, told.0.0, value_is) refl
number_told least most text (Err e) small short not_told = go (nat_lt 0 (length text)) refl (all_ascii_digits text) refl (nat_le (digits_value 10 text) most) refl
  where
    none : (b : Bool) → some_if (b && false) (digits_value 10 text) ≡ None
    none true = refl
    none false = refl

    go : (some : Bool) → nat_lt 0 (length text) ≡ some → (digits : Bool) → all_ascii_digits text ≡ digits → (fits : Bool) → nat_le (digits_value 10 text) most ≡ fits → number_in least most text ≡ None
    go false s digits d fits f = rw (s) refl
    go true s false d fits f = rw (s, le-leb (length text) 10 short, d) refl
    go true s true d false f = rw (s, le-leb (length text) 10 short, d, f) (none (nat_le least (digits_value 10 text)))
    go true s true d true f = absurd (not_told (d, ltb-true 0 (length text) s, omega (arith, leb-true (digits_value 10 text) most f)))

and_false : (b : Bool) → (b && false) ≡ false
and_false true = refl
and_false false = refl

no_le : (a b : ℕ) → b < a → nat_le a b ≡ false
no_le a b less = grind (arith, less)

-- a text that is no number
no_number : (least most : ℕ) (text : Text) → is_number text ≡ false → number_in least most text ≡ None
no_number least most text not_one = rw not_one refl

pub long_number : (least most : ℕ) (text : Text) → 10 < length text → number_in least most text ≡ None
long_number least most text long = no_number least most text (rw (no_le (length text) 10 long) (and_false (nat_lt 0 (length text))))

pub plus_number : (least most : ℕ) (rest : Text) → number_in least most (43 ∷ rest) ≡ None
plus_number least most rest = no_number least most (43 ∷ rest) (all_false (nat_lt 0 (length (43 ∷ rest))) (nat_le (length (43 ∷ rest)) 10))
  where
    all_false : (a b : Bool) → (a && (b && false)) ≡ false
    all_false true true = refl
    all_false true false = refl
    all_false false b = refl

pub number_only : (least most : ℕ) (text : Text) (n : ℕ) → number_in least most text ≡ Some n → (least ≤ n) × (n ≤ most)
number_only least most text n e =
    let is = some_only _ (digits_value 10 text) n e in
    let value = digits_value 10 text in
    let range = (and_parts (is_number text) (nat_le least value && nat_le value most) is.0).1 in
    let parts = and_parts (nat_le least value) (nat_le value most) range in
    (subst (λ m. least ≤ m) is.1 (leb-true least value parts.0), subst (λ m. m ≤ most) is.1 (leb-true value most parts.1))

-- a value that is read, or the one that is taken where none stands, has what both have
pub value_only : {A : Type 0} (P : A → Type 0) (fallback : A) (read : Text → Option A) → P fallback → ((text : Text) (x : A) → read text ≡ Some x → P x)
    → (value : Option Text) (x : A) → value_or fallback read value ≡ Some x → P x
value_only P fallback read first each None x e = let same : fallback ≡ x = cc in subst P same first
value_only P fallback read first each (Some text) x e = each text x e

-- so also of a value that has to stand
pub given_only : {A : Type 0} (P : A → Type 0) (read : Text → Option A) → ((text : Text) (x : A) → read text ≡ Some x → P x)
    → (value : Option Text) (x : A) → option_and_then read value ≡ Some x → P x
given_only P read each None x e = cc
given_only P read each (Some text) x e = each text x e

pub small_only : (text : Text) (n : ℕ) → number_of text ≡ Some n → n < 2 ^ 32
small_only text n e = let is = number_only 0 (2 ^ 32 - 1) text n e in omega (arith, is)

pub size_only : (text : Text) (n : ℕ) → block_size_of text ≡ Some n → IsBlockSize n
size_only text n e = go (number_of text) e
  where
    go : (o : Option ℕ) → (o >>= λ size. some_if (is_block_size size) size) ≡ Some n → IsBlockSize n
    go None e = cc
    go (Some size) e = let is = some_only (is_block_size size) size n e in subst IsBlockSize is.1 is.0

-- the sixteen bytes of a GUID
pub record IsGuid (guid : List ℕ) : Type 0 where
  pub long : length guid ≡ 16
  pub bytes : IsBytes guid

pub guid_only : (text : Text) (guid : List ℕ) → guid_of text ≡ Some guid → IsGuid guid
guid_only text guid e = go (decode_sized text 16) refl e
  where
    is_ok : (r : Result (List ℕ) FromHexError) → value_of r ≡ Some guid → r ≡ Ok guid
    is_ok (Ok x) e = cc
    is_ok (Err x) e = cc

    go : (r : Result (List ℕ) FromHexError) → decode_sized text 16 ≡ r → value_of r ≡ Some guid → IsGuid guid
    go r is e =
        let ok = is ∙ is_ok r e in
        let twice = decode_sized-ok text 16 guid ok in
        let told = decode_of-ok text guid (sym (decode_sized-twice text 16 twice) ∙ ok) in
        record { long = omega (arith, twice, told.2); bytes = told.3 }

zeros : (n i : ℕ) → slice_index (replicate n 0) i < 256
zeros zero i = omega arith
zeros (suc n) zero = omega arith
zeros (suc n) (suc i) = zeros n i

pub no_guid : IsGuid (replicate 16 0)
no_guid = record { long = refl; bytes = zeros 16 }
