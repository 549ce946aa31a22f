-- Names read from strings.
use Rattle.std.proofs.Common.{◌≡◌, ◌≢◌, ◌≤◌, ◌<◌, ◌+◌, ◌-◌, ℕ, cond, zero, suc, List, [], ◌∷◌, length, get_or, take, drop, Some, None, unwrap_or, Ok, Err, All, sym, ap, subst, ⊎_elim, ◌∙◌, arith, length-take-le}
use Rattle.std.proofs.lemmas.Bool.Decides.{eqb_tells, leb_tells}
use Rattle.std.specs.List.{AllByRecursion}
use Rattle.std.proofs.lemmas.List.Elements.{All-from_recursion}
use Rattle.std.proofs.lemmas.List.{drop-drop, get_or-drop, length-drop, take_all}
use Rattle.names_table.specs.Reading.{AreBeforeNul, first_fault, first_long, header_fault, reading, size_in, strings_in, table_in, text_fault, version_in}
use Rattle.names_table.specs.Names.{Names}
use Rattle.std.specs.Option.{option_map, option_or}
use Rattle.names_table.proofs.Strings.{before_or_behind}
use Rattle.names_table.specs.Strings.{names_cut, with_byte}

-- the bytes behind the first
behind : (b : ℕ) (bytes : List ℕ) (n : ℕ) → AreBeforeNul (b ∷ bytes) (suc n) → AreBeforeNul bytes n
behind b bytes n h = record { within = omega (arith, h.within); none = λ i lt. h.none (suc i) (omega (arith, lt)); nul = λ lt. h.nul (omega (arith, lt)) }

split : (b : ℕ) (bytes : List ℕ) → b ≢ 0 → names_cut (b ∷ bytes) ≡ with_byte b (names_cut bytes)
split b bytes differ = ⊎_elim (λ t. absurd (differ t.1)) (λ f. ap (λ t. cond t ([] ∷ names_cut bytes) (with_byte b (names_cut bytes))) f.0) (eqb_tells b 0)

nul_first : (b : ℕ) (bytes : List ℕ) → b ≡ 0 → names_cut (b ∷ bytes) ≡ [] ∷ names_cut bytes
nul_first b bytes same = ap (λ n. names_cut (n ∷ bytes)) same

-- the first name of bytes, and those behind its NUL
pub first_name : (bytes : List ℕ) (n : ℕ) → AreBeforeNul bytes n → 0 < length bytes → names_cut bytes ≡ take n bytes ∷ names_cut (drop (n + 1) bytes)
first_name [] n h some = absurd (omega (arith, some))
first_name (b ∷ bytes) zero h some = nul_first b bytes (h.nul (omega arith))
first_name (b ∷ []) (suc n) h some =
    let none : n ≡ 0 = omega (arith, h.within) in
    split b [] (h.none 0 (omega arith)) ∙ ap (λ k. (b ∷ take k []) ∷ names_cut (drop (suc k + 1) (b ∷ []))) (sym none)
first_name (b ∷ c ∷ bytes) (suc n) h some =
    let one : n + 1 ≡ suc n = omega arith in
    let two : suc n + 1 ≡ suc (n + 1) = omega arith in
    split b (c ∷ bytes) (h.none 0 (omega arith)) ∙ ap (with_byte b) (first_name (c ∷ bytes) n (behind b (c ∷ bytes) n h) (omega arith))
    ∙ ap (λ k. (b ∷ take n (c ∷ bytes)) ∷ names_cut (drop k (b ∷ c ∷ bytes))) (sym two)

-- no NUL is in the first name
none_in : (bytes : List ℕ) (n : ℕ) → AreBeforeNul bytes n → AllByRecursion (λ b. b ≢ 0) (take n bytes)
none_in [] zero h = tt
none_in [] (suc n) h = tt
none_in (b ∷ bytes) zero h = tt
none_in (b ∷ bytes) (suc n) h = (h.none 0 (omega arith), none_in bytes n (behind b bytes n h))

pub no_nul : (bytes : List ℕ) (n : ℕ) → AreBeforeNul bytes n → All (λ b. b ≢ 0) (take n bytes)
no_nul bytes n h = All-from_recursion (λ b. b ≢ 0) (take n bytes) (none_in bytes n h)

-- where the last byte is a NUL, each name has one behind it
pub nul_behind : (bytes : List ℕ) (at n : ℕ) → get_or bytes (length bytes - 1) 0 ≡ 0 → at < length bytes → AreBeforeNul (drop at bytes) n → at + n + 1 ≤ length bytes
nul_behind bytes at zero last lt h = omega (arith, lt)
nul_behind bytes at (suc n) last lt h =
    ⊎_elim (λ l. omega (arith, l))
    (λ l.
    let size = length-drop at bytes in
    let e : at + n ≡ length bytes - 1 = omega (arith, l, h.within, size, lt) in
    absurd (h.none n (omega arith) (get_or-drop at bytes n 0 ∙ ap (λ k. get_or bytes k 0) e ∙ last)))
    (before_or_behind (at + suc n) (length bytes))

-- the bytes from a place to the end
pub rest_is : (bytes : List ℕ) (at : ℕ) → take (length bytes - at) (drop at bytes) ≡ drop at bytes
rest_is bytes at = take_all (length bytes - at) (drop at bytes) (omega (arith, length-drop at bytes))

-- one name after those that end before a place
pub record Step (bytes : List ℕ) (at n : ℕ) : Type 0 where
  pub first : names_cut (drop at bytes) ≡ take n (drop at bytes) ∷ names_cut (drop (at + (n + 1)) bytes)
  pub size : length (take n (drop at bytes)) ≡ n
  pub no_nul : All (λ b. b ≢ 0) (take n (drop at bytes))
  pub within : at + n + 1 ≤ length bytes

step : (bytes : List ℕ) (at n : ℕ) → get_or bytes (length bytes - 1) 0 ≡ 0 → at < length bytes → AreBeforeNul (drop at bytes) n → Step bytes at n
step bytes at n last lt h =
    let size = length-drop at bytes in
    record {
      first = first_name (drop at bytes) n h (omega (arith, size, lt)) ∙ ap (λ rest. take n (drop at bytes) ∷ names_cut rest) (drop-drop (n + 1) at bytes);
      size = length-take-le n (drop at bytes) h.within;
      no_nul = no_nul (drop at bytes) n h;
      within = nul_behind bytes at n last lt h;
    }

pub next_name : (bytes : List ℕ) (at n : ℕ) → get_or bytes (length bytes - 1) 0 ≡ 0 → at < length bytes → AreBeforeNul (take (length bytes - at) (drop at bytes)) n → Step bytes at n
next_name bytes at n last lt h = step bytes at n last lt (subst (λ r. AreBeforeNul r n) (rest_is bytes at) h)

-- the search for a name that is too long
pub long_here : (at : ℕ) (x : List ℕ) (names : List (List ℕ)) → 65535 < length x → first_long at (x ∷ names) ≡ Some at
long_here at x names long =
    ⊎_elim (λ t. ap (λ b. cond b (Some at) (first_long (at + length x + 1) names)) t.0) (λ f. absurd (omega (arith, f.1, long))) (leb_tells 65536 (length x))

pub long_behind : (at : ℕ) (x : List ℕ) (names : List (List ℕ)) (next : ℕ) → length x ≤ 65535 → next ≡ at + length x + 1 → first_long next names ≡ first_long at (x ∷ names)
long_behind at x names next short e =
    ap (λ k. first_long k names) e ∙ ⊎_elim (λ t. absurd (omega (arith, t.1, short))) (λ f. ap (λ b. cond b (Some at) (first_long (at + length x + 1) names)) (sym f.0)) (leb_tells 65536 (length x))

-- a table with these names
abbrev made_of : Names → List (List ℕ) → Names
made_of table names = record table { names = names }

-- what is read where no test fails
pub all_read : (max_bytes : ℕ) (stream : List ℕ) (version : ℕ) (strings : List ℕ) (old new : Names) → header_fault max_bytes stream ≡ None → version ≡ version_in stream → strings ≡ strings_in stream
    → text_fault strings ≡ None → old ≡ record { max_bytes = max_bytes; version = version; names = [] } → new ≡ record old { names = names_cut (drop 1 strings) } → Ok new ≡ reading max_bytes stream
all_read max_bytes stream version strings old new header same_version same_strings text empty full =
    let fault : first_fault max_bytes stream ≡ None = ap (λ o. option_or o (text_fault (strings_in stream))) header ∙ ap text_fault (sym same_strings) ∙ text in
    let made : ℕ → List (List ℕ) → Names = λ v names. record { max_bytes = max_bytes; version = v; names = names } in
    let table : new ≡ table_in max_bytes stream =
    full ∙ ap (λ t. made_of t (names_cut (drop 1 strings))) empty ∙ ap (λ v. made v (names_cut (drop 1 strings))) same_version
    ∙ ap (λ s. made (version_in stream) (names_cut (drop 1 s))) same_strings in
    ap (λ t. Ok t) table ∙ sym (ap (λ o. unwrap_or (option_map (λ e. Err e) o) (Ok (table_in max_bytes stream))) fault)

-- the strings behind a header
pub strings_are : (stream : List ℕ) (size : ℕ) → size ≡ size_in stream → take (12 + size - 12) (drop 12 stream) ≡ strings_in stream
strings_are stream size same = let e : 12 + size - 12 ≡ size_in stream = omega (arith, same) in ap (λ n. take n (drop 12 stream)) e
