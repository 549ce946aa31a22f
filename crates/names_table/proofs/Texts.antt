-- The text of names is read again as these names.
use Rattle.std.proofs.Common.{◌≡◌, ◌≤◌, ◌<◌, ◌+◌, ◌^◌, ◌==◌, ◌||◌, ℕ, suc, Bool, true, false, not, nat_lt, cond, if◌then◌else◌, List, [], ◌∷◌, ◌++◌, length, get_or, take, drop, Option, None, Some, Result, Ok, Err, IfOk, refl, sym, ap, ⊎_elim, ◌⊎◌, ◌∙◌, arith}
use Rattle.std.specs.Global.{Vec}
use Rattle.std.specs.List.{AllByRecursion}
use Rattle.std.specs.Option.{option_map}
use Rattle.std.proofs.lemmas.Bool.Decides.{leb_tells}
use Rattle.std.proofs.lemmas.List.{get_or-append-add, length-append, take_at}
use Rattle.std.proofs.lemmas.List.Elements.{recursion_from_All}
use Rattle.byteorder.specs.Endian.{little_number}
use Rattle.byteorder.specs.Numbers.{little_number-reads_back}
use Rattle.names_table.specs.declared.fault.NamesFault.{NamesFault}
use Rattle.names_table.specs.declared.fault.NamesFault.TheVariants.{Header, Size, Text}
use Rattle.names_table.specs.Names.{IsName, IsNamesTable, Names, bytes_of}
use Rattle.names_table.specs.Reading.{first_long, header_fault, reading, size_in, strings_in, text_fault, version_in}
use Rattle.names_table.specs.Strings.{names_cut, strings_of}
use Rattle.names_table.specs.Text.{names_text, tail_text}
use Rattle.names_table.proofs.Reading.{all_read, long_behind}
use Rattle.names_table.proofs.Strings.{cut, length-strings}

-- the last byte of the strings is a NUL
last_nul : (names : List (List ℕ)) → get_or (0 ∷ strings_of names) (length (strings_of names)) 0 ≡ 0
last_nul [] = refl
last_nul (x ∷ names) =
    let strings = strings_of names in
    let size : length (x ++ 0 ∷ strings) ≡ suc (length x + length strings) = omega (arith, length-append x (0 ∷ strings)) in
    ap (λ k. get_or (0 ∷ (x ++ 0 ∷ strings)) k 0) size ∙ get_or-append-add x (0 ∷ strings) (length strings) 0 ∙ last_nul names

-- no name is too long
none_long : (at : ℕ) (names : List (List ℕ)) → AllByRecursion IsName names → first_long at names ≡ None
none_long at [] are = refl
none_long at (x ∷ names) are = sym (long_behind at x names (at + length x + 1) are.0.longest refl) ∙ none_long (at + length x + 1) names are.1

strings_pass : (names : List (List ℕ)) → AllByRecursion IsName names → names_cut (strings_of names) ≡ names → text_fault (0 ∷ strings_of names) ≡ None
strings_pass names are same =
    let strings = strings_of names in
    ap (λ b. cond (not (b == 0)) (Some (Text (12 + length strings))) (option_map Text (first_long 13 (names_cut strings)))) (last_nul names)
    ∙ ap (λ ns. option_map Text (first_long 13 ns)) same ∙ ap (option_map Text) (none_long 13 names are)

-- the tests of a header by its numbers
abbrev tests_by : Bool → ℕ → Bool → Bool → Option NamesFault
tests_by short signature known big =
    if short then Some (Header 0)
    else (if not (signature == 4026462206) then Some (Header 0)
    else (if not known then Some (Header 4)
    else (if big then Some (Size 8)
    else None)))

is_known : (version : ℕ) → (version ≡ 1) ⊎ (version ≡ 2) → (version == 1 || version == 2) ≡ true
is_known version either = ⊎_elim (λ e. ap (λ (v : ℕ). v == 1 || v == 2) e) (λ e. ap (λ (v : ℕ). v == 1 || v == 2) e) either

not_less : (a b : ℕ) → b ≤ a → nat_lt a b ≡ false
not_less a b le = ⊎_elim (λ t. absurd (omega (arith, t.1, le))) (λ f. f.0) (leb_tells (suc a) b)

-- the numbers of a text's header, and its length
record IsHead (max_bytes : ℕ) (text : List ℕ) (version size : ℕ) : Type 0 where
  pub signature_is : little_number 4 text ≡ 4026462206
  pub version_is : version_in text ≡ version
  pub size_is : size_in text ≡ size
  pub known : (version ≡ 1) ⊎ (version ≡ 2)
  pub small : size ≤ max_bytes
  pub long : 12 + size ≤ length text

head_passes : (max_bytes : ℕ) (text : List ℕ) (version size : ℕ) → IsHead max_bytes text version size → header_fault max_bytes text ≡ None
head_passes max_bytes text version size h =
    let short = not_less (length text) 12 (omega (arith, h.long)) in
    let known = ap (λ (v : ℕ). v == 1 || v == 2) h.version_is ∙ is_known version h.known in
    let big : (nat_lt max_bytes (size_in text) || nat_lt (length text) (12 + size_in text)) ≡ false =
    ap (λ (n : ℕ). nat_lt max_bytes n || nat_lt (length text) (12 + n)) h.size_is ∙ (λ j. not_less max_bytes size h.small j || not_less (length text) (12 + size) h.long j) in
    λ j. tests_by (short j) (h.signature_is j) (known j) (big j)

names_head : (max_bytes version : ℕ) (names : List (List ℕ)) → (version ≡ 1) ⊎ (version ≡ 2) → bytes_of names ≤ max_bytes → max_bytes ≤ 2 ^ 28 → IsHead max_bytes (names_text version names) version (bytes_of names)
unfolding names_text
names_head max_bytes version names either small limit =
    let text = names_text version names in
    let known : version < 2 ^ 32 = ⊎_elim (λ e. omega (arith, e)) (λ e. omega (arith, e)) either in
    record {
      signature_is = little_number-reads_back 4 4026462206 (drop 4 text) (omega arith);
      version_is = little_number-reads_back 4 version (drop 8 text) known;
      size_is = little_number-reads_back 4 (bytes_of names) (drop 12 text) (omega (arith, small, limit));
      known = either;
      small = small;
      long = omega (arith, length-append (strings_of names) (tail_text version names), length-strings names);
    }

-- the strings of a text
names_strings : (version : ℕ) (names : List (List ℕ)) → size_in (names_text version names) ≡ bytes_of names → strings_in (names_text version names) ≡ 0 ∷ strings_of names
unfolding names_text
names_strings version names size =
    let strings = 0 ∷ strings_of names in
    ap (λ n. take n (strings ++ tail_text version names)) size
    ∙ take_at strings (tail_text version names) (bytes_of names) (omega (arith, length-strings names))

pub text_read : (table : Names) → IsNamesTable table → reading table.max_bytes (names_text table.version table.names) ≡ Ok table
text_read table is =
    let text = names_text table.version table.names in
    let h = names_head table.max_bytes table.version table.names is.version is.bytes is.limit in
    let same = cut table.names is.names in
    let none : Names = record { max_bytes = table.max_bytes; version = table.version; names = [] } in
    sym
    (all_read table.max_bytes text table.version (0 ∷ strings_of table.names) none table (head_passes table.max_bytes text table.version (bytes_of table.names) h) (sym h.version_is)
    (sym (names_strings table.version table.names h.size_is)) (strings_pass table.names (recursion_from_All IsName table.names is.names) same) refl
    (λ j. record none { names = sym same j }))

-- what is written of a table
pub written_read : {E : Type 0} (r : Result (Vec ℕ) E) (table : Names) → IsNamesTable table → IfOk r (λ text. text.items ≡ names_text table.version table.names)
    → IfOk r (λ text. reading table.max_bytes text.items ≡ Ok table)
written_read (Ok text) table is same = ap (reading table.max_bytes) same ∙ text_read table is
written_read (Err e) table is same = tt
