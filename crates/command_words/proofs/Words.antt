-- A word as the parser of command lines sees it, and as `kind_of` does.
use Rattle.std.proofs.Common.{◌≡◌, ◌∙◌, ◌&&◌, ◌||◌, ◌==◌, ℕ, Bool, cond, true, false, not, refl, sym, ap, arith, List, [], ◌∷◌, map, Option, Some, None, is_some, subst, true≢false, eqb-true}
use Rattle.std.specs.Prelude.{slice_get}
use Rattle.std.specs.List.{find, list_any, list_all}
use Rattle.std.specs.Str.{IsUtf8, bytes_eq, chars}
use Rattle.std.proofs.lemmas.Bool.{and_parts, not-true}
use Rattle.std.proofs.lemmas.Slice.Eq.{bytes_eq-Decides}
use Rattle.std.proofs.lemmas.Str.{IsUtf8-drop, IsCharBoundary-after_ascii, encodes-chars}
use Rattle.clap.specs.Lexer.{long_of, short_of}
use Rattle.clap.specs.Walk.{Rule, arg_by_id, arg_by_long, arg_by_short, has_long}
use Rattle.clap.specs.Simple.{filled, filled_from, with_index}
use Rattle.command_words.specs.Commands.{option_rule, positional_rule}
use Rattle.command_words.specs.Lines.{Text, are_names, has_name, is_name, is_plain, kind_of, name_in, option, positional, positional_name, unknown, value_in_word}

-- ---- the rules of a command that is built

abbrev pub built_positional : Rule
built_positional = with_index 1 (filled positional_rule)

abbrev pub built_option : Text → Rule
built_option name = with_index 2 (filled (option_rule name))

abbrev pub rules_for : List Text → List Rule
rules_for names = built_positional ∷ map built_option names

filled_options : (names : List Text) → filled_from 2 (map option_rule names) ≡ map built_option names
filled_options [] = refl
filled_options (n ∷ names) = ap (λ rules. built_option n ∷ rules) (filled_options names)

pub filled_rules : (names : List Text) → filled_from 1 (positional_rule ∷ map option_rule names) ≡ rules_for names
filled_rules names = ap (λ rules. built_positional ∷ rules) (filled_options names)

-- ---- texts

pub same_text : (text : Text) → bytes_eq text text ≡ true
same_text text = (bytes_eq-Decides text text).1 refl

pub text_is : (a b : Text) → bytes_eq a b ≡ true → a ≡ b
text_is a b e = (bytes_eq-Decides a b).0 e

-- a name that an option has is not the name of the positionals
pub name_is : (names : List Text) (name : Text) → are_names names ≡ true → has_name name names ≡ true → is_name name ≡ true
name_is [] name all has = absurd (true≢false (sym has))
name_is (n ∷ names) name all has = go (bytes_eq n name) refl (name_is names name (and_parts _ _ all).1)
  where
    go : (b : Bool) → bytes_eq n name ≡ b → (has_name name names ≡ true → is_name name ≡ true) → is_name name ≡ true
    go true t later = ap is_name (sym (text_is n name t)) ∙ (and_parts _ _ all).0
    go false t later = later (ap (λ b. b || has_name name names) (sym t) ∙ has)

pub not_positional : (name : Text) → is_name name ≡ true → bytes_eq positional_name name ≡ false
not_positional name e = not-true _ (and_parts _ _ (and_parts _ _ e).1).0

-- ---- rules by their names

abbrev by_id : Text → Rule → Bool
by_id name a = bytes_eq a.id name

find_option : (names : List Text) (name : Text) → has_name name names ≡ true → find (by_id name) (map built_option names) ≡ Some (built_option name)
find_option [] name has = absurd (true≢false (sym has))
find_option (n ∷ names) name has = go (bytes_eq n name) refl (find_option names name)
  where
    go : (b : Bool) → bytes_eq n name ≡ b → (has_name name names ≡ true → find (by_id name) (map built_option names) ≡ Some (built_option name))
        → find (by_id name) (map built_option (n ∷ names)) ≡ Some (built_option name)
    go true t later = rw t (ap (λ m. Some (built_option m)) (text_is n name t))
    go false t later = rw t (later (ap (λ b. b || has_name name names) (sym t) ∙ has))

pub option_by_id : (names : List Text) (name : Text) → bytes_eq positional_name name ≡ false → has_name name names ≡ true
    → arg_by_id (rules_for names) name ≡ Some (built_option name)
option_by_id names name other has = ap (λ b. cond b (Some built_positional) (find (by_id name) (map built_option names))) other ∙ find_option names name has

abbrev by_long : Text → Rule → Bool
by_long name a = not (is_some a.index) && has_long a name

long_option : (names : List Text) (name : Text) → has_name name names ≡ true → find (by_long name) (map built_option names) ≡ Some (built_option name)
long_option [] name has = absurd (true≢false (sym has))
long_option (n ∷ names) name has = go (bytes_eq n name) refl (long_option names name)
  where
    go : (b : Bool) → bytes_eq n name ≡ b → (has_name name names ≡ true → find (by_long name) (map built_option names) ≡ Some (built_option name))
        → find (by_long name) (map built_option (n ∷ names)) ≡ Some (built_option name)
    go true t later = rw t (ap (λ m. Some (built_option m)) (text_is n name t))
    go false t later = rw t (later (ap (λ b. b || has_name name names) (sym t) ∙ has))

no_long : (names : List Text) (name : Text) → has_name name names ≡ false → find (by_long name) (map built_option names) ≡ None
no_long [] name has = refl
no_long (n ∷ names) name has = go (bytes_eq n name) refl (no_long names name)
  where
    go : (b : Bool) → bytes_eq n name ≡ b → (has_name name names ≡ false → find (by_long name) (map built_option names) ≡ None)
        → find (by_long name) (map built_option (n ∷ names)) ≡ None
    go true t later = absurd (true≢false (ap (λ b. b || has_name name names) (sym t) ∙ has))
    go false t later = rw t (later (ap (λ b. b || has_name name names) (sym t) ∙ has))

pub option_by_long : (names : List Text) (name : Text) → has_name name names ≡ true → arg_by_long (rules_for names) name ≡ Some (built_option name)
option_by_long names name has = long_option names name has

pub none_by_long : (names : List Text) (name : Text) → has_name name names ≡ false → arg_by_long (rules_for names) name ≡ None
none_by_long names name has = no_long names name has

pub none_by_short : (names : List Text) (c : ℕ) → arg_by_short (map built_option names) c ≡ None
none_by_short [] c = refl
none_by_short (n ∷ names) c = none_by_short names c

-- ---- what a word is

-- A word, by what the parser and `kind_of` make of it.
pub data Read (names : List Text) (word : Text) : Type 0 where
  two_dashes : word ≡ 45 ∷ 45 ∷ [] → Read names word
  plain_word : kind_of names word ≡ positional → is_plain word ≡ true → bytes_eq word (45 ∷ 45 ∷ []) ≡ false → long_of word ≡ None → short_of word ≡ None → Read names word
  option_word : (name : Text) (value : Option Text) → kind_of names word ≡ option name value → is_plain word ≡ false → bytes_eq word (45 ∷ 45 ∷ []) ≡ false
      → long_of word ≡ Some (name, value) → has_name name names ≡ true → Read names word
  other_long : (name : Text) (value : Option Text) → kind_of names word ≡ unknown → is_plain word ≡ false → bytes_eq word (45 ∷ 45 ∷ []) ≡ false
      → long_of word ≡ Some (name, value) → has_name name names ≡ false → Read names word
  short_word : (first : ℕ) (rest : Text) (c : ℕ) → kind_of names word ≡ unknown → is_plain word ≡ false → bytes_eq word (45 ∷ 45 ∷ []) ≡ false
      → long_of word ≡ None → short_of word ≡ Some (first ∷ rest) → slice_get (chars (first ∷ rest)) 0 ≡ Some c → Read names word

first_of_chars : (b : ℕ) (bs cs : List ℕ) → Rattle.std.specs.Str.encode_utf8_all cs ≡ b ∷ bs → (c : ℕ) × (slice_get cs 0 ≡ Some c)
first_of_chars b bs [] e = cc
first_of_chars b bs (c ∷ cs) e = (c, refl)

-- a text behind a dash has a first character
first_char : (b : ℕ) (rest : Text) → IsUtf8 (45 ∷ b ∷ rest) → (c : ℕ) × (slice_get (chars (b ∷ rest)) 0 ≡ Some c)
first_char b rest text =
    let behind : IsUtf8 (b ∷ rest) = IsUtf8-drop (45 ∷ b ∷ rest) 1 text (IsCharBoundary-after_ascii (45 ∷ b ∷ rest) 0 text (omega arith) (omega arith)) in
    first_of_chars b rest (chars (b ∷ rest)) (encodes-chars (b ∷ rest) behind)

pub read_of : (names : List Text) (word : Text) → IsUtf8 word → Read names word
read_of names [] text = plain_word refl refl refl refl refl
read_of names (b ∷ []) text = go (b == 45) refl
  where
    go : (t : Bool) → (b == 45) ≡ t → Read names (b ∷ [])
    go true e = plain_word refl refl (rw e refl) (rw e refl) (rw e refl)
    go false e = plain_word refl refl (rw e refl) (rw e refl) (rw e refl)
read_of names (b ∷ c ∷ rest) text = go (b == 45) refl
  where
    long : (n : ℕ) (more : Text) (known : Bool) → (b == 45) ≡ true → (c == 45) ≡ true → has_name (name_in (n ∷ more)) names ≡ known → Read names (b ∷ c ∷ n ∷ more)
    long n more true e f has = option_word (name_in (n ∷ more)) (value_in_word (n ∷ more)) (rw (e, f, has) refl) (rw e refl) (rw (e, f) refl) (rw (e, f) refl) has
    long n more false e f has = other_long (name_in (n ∷ more)) (value_in_word (n ∷ more)) (rw (e, f, has) refl) (rw e refl) (rw (e, f) refl) (rw (e, f) refl) has

    behind : (more : Text) → (b == 45) ≡ true → (c == 45) ≡ true → Read names (b ∷ c ∷ more)
    behind [] e f =
        let b_is : b ≡ 45 = eqb-true b 45 e in
        let c_is : c ≡ 45 = eqb-true c 45 f in
        two_dashes (rw (b_is, c_is) refl)
    behind (n ∷ more) e f = long n more (has_name (name_in (n ∷ more)) names) e f refl

    second : (t : Bool) → (b == 45) ≡ true → (c == 45) ≡ t → Read names (b ∷ c ∷ rest)
    second true e f = behind rest e f
    second false e f =
        let b_is : b ≡ 45 = eqb-true b 45 e in
        let first = first_char c rest (subst (λ (x : ℕ). IsUtf8 (x ∷ c ∷ rest)) b_is text) in
        short_word c rest first.0 (rw (e, f) refl) (rw e refl) (rw (e, f) refl) (rw (e, f) refl) (rw (e, f) refl) first.1

    go : (t : Bool) → (b == 45) ≡ t → Read names (b ∷ c ∷ rest)
    go true e = second (c == 45) e refl
    go false e = plain_word (rw e refl) (rw e refl) (rw e refl) (rw e refl) (rw e refl)
