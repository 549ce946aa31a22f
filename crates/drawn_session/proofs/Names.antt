-- The names of numbers are names.
use Rattle.std.proofs.Common.{◌≡◌, ◌≢◌, ◌<◌, ◌^◌, ℕ, zero, suc, true, List, [], ◌∷◌, length, arith}
use Rattle.std.specs.Prelude.{decimal, slice_index_or}
use Rattle.std.specs.Char.{is_ascii_digit}
use Rattle.std.specs.Str.{all_ascii_digits}
use Rattle.std.proofs.lemmas.Bool.{and_parts}
use Rattle.std.proofs.lemmas.Fmt.{digits_decimal, length-decimal-le_succ}
use Rattle.std.proofs.lemmas.Str.Parse.{numerals_by_value, tells_all_ascii_digits}
use Rattle.srv_edge.specs.Name.{IsName}
use Rattle.drawn_session.specs.Records.{name_of}

digit_there : (c : ℕ) → is_ascii_digit c ≡ true → c ≢ 0
digit_there c is = grind (arith, is)

digits_there : (cs : List ℕ) → all_ascii_digits cs ≡ true → (k d : ℕ) → k < length cs → slice_index_or cs k d ≢ 0
digits_there [] are k d lt = absurd (omega (arith, lt))
digits_there (c ∷ cs) are zero d lt = digit_there c (and_parts (is_ascii_digit c) (all_ascii_digits cs) are).0
digits_there (c ∷ cs) are (suc k) d lt = digits_there cs (and_parts (is_ascii_digit c) (all_ascii_digits cs) are).1 k d (omega (arith, lt))

letter_first : (cs : List ℕ) → all_ascii_digits cs ≡ true → (k d : ℕ) → k < length (110 ∷ cs) → slice_index_or (110 ∷ cs) k d ≢ 0
letter_first cs are zero d lt = λ is. absurd (omega (arith, is))
letter_first cs are (suc k) d lt = digits_there cs are k d (omega (arith, lt))

pub name_is : (n : ℕ) → n < 1000 → IsName (name_of n)
name_is n few =
    let wide : n < 2 ^ 64 = omega (arith, few) in
    record {
      longest = omega (arith, length-decimal-le_succ n wide, few);
      no_nul = letter_first (decimal n) (digits_decimal (numerals_by_value _ tells_all_ascii_digits) n wide);
    }
