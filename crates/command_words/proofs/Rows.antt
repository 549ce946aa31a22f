-- The rows of the parser after what is given, and whether a fault comes.
use Rattle.std.proofs.Common.{◌≡◌, ◌∙◌, ◌&&◌, ◌||◌, Bool, cond, true, false, not, refl, sym, ap, ap₂, List, [], ◌∷◌, ◌++◌, length, Option, Some, None, option_map, nat_lt, append-nil, append_assoc}
use Rattle.std.specs.Prelude.{option_and_then, slice_get}
use Rattle.std.specs.List.{find, list_all}
use Rattle.std.specs.Str.{bytes_eq}
use Rattle.clap.specs.Walk.{Row, all_of, first_of, has_row, with_values, without}
use Rattle.clap.specs.Kinds.{Kinds, or_else}
use Rattle.clap.specs.declared.builder.value_parser.Reading.TheVariants.{AsWritten}
use Rattle.clap.specs.declared.error.kind.ErrorKind.{ErrorKind}
use Rattle.clap.specs.declared.error.kind.ErrorKind.TheVariants.{ArgumentConflict, InvalidValue}
use Rattle.clap.specs.declared.parser.matches.ValueSource.TheVariants.{CommandLine}
use Rattle.command_words.specs.Commands.{values_or_none}
use Rattle.command_words.specs.Lines.{Given, Text, are_names, are_once, has_name, has_no_empty, has_option, options_of, positional_name, positionals_of, value_in}
use Rattle.command_words.proofs.Words.{name_is, not_positional, option_by_id, same_text, text_is}
use Rattle.command_words.proofs.Walks.{AreKnown, all_fault, all_rows, first_none, held_fault, or_else_nil, pending_for, rows_with, second_none}

-- ---- tests

swap_or : (a b c : Bool) → (a || (b || c)) ≡ (b || (a || c))
swap_or true true c = refl
swap_or true false c = refl
swap_or false b c = refl

twice_or : (a b : Bool) → (a || b) ≡ (a || (a || b))
twice_or true b = refl
twice_or false b = refl

text_sym : (a b : Text) → bytes_eq a b ≡ bytes_eq b a
text_sym a b = go (bytes_eq a b) refl (bytes_eq b a) refl
  where
    go : (x : Bool) → bytes_eq a b ≡ x → (y : Bool) → bytes_eq b a ≡ y → bytes_eq a b ≡ bytes_eq b a
    go true e true f = e ∙ sym f
    go false e false f = e ∙ sym f
    go true e false f = e ∙ sym (ap (λ c. bytes_eq c a) (sym (text_is a b e)) ∙ same_text a)
    go false e true f = ap (λ c. bytes_eq c b) (sym (text_is b a f)) ∙ same_text b ∙ sym f

-- ---- one row

abbrev with_value : Text → Text → List Row → List Row
with_value id value rows = with_values id AsWritten CommandLine (value ∷ []) rows

has_row_with : (id value name : Text) (rows : List Row) → has_row name (with_value id value rows) ≡ (bytes_eq id name || has_row name rows)
has_row_with id value name [] = refl
has_row_with id value name (r ∷ rows) = go (bytes_eq r.id id) refl (has_row_with id value name rows)
  where
    go : (b : Bool) → bytes_eq r.id id ≡ b → has_row name (with_value id value rows) ≡ (bytes_eq id name || has_row name rows)
        → has_row name (with_value id value (r ∷ rows)) ≡ (bytes_eq id name || (bytes_eq r.id name || has_row name rows))
    go true t later = rw t (twice_or (bytes_eq r.id name) (has_row name rows) ∙ ap (λ x. bytes_eq x name || (bytes_eq r.id name || has_row name rows)) (text_is r.id id t))
    go false t later = rw t (ap (λ b. bytes_eq r.id name || b) later ∙ swap_or (bytes_eq r.id name) (bytes_eq id name) (has_row name rows))

without_none : (id : Text) (rows : List Row) → has_row id rows ≡ false → without id rows ≡ rows
without_none id [] none = refl
without_none id (r ∷ rows) none = go (bytes_eq r.id id) refl (without_none id rows)
  where
    go : (b : Bool) → bytes_eq r.id id ≡ b → (has_row id rows ≡ false → without id rows ≡ rows) → without id (r ∷ rows) ≡ r ∷ rows
    go true t later = let bad : true ≡ false = ap (λ b. b || has_row id rows) (sym t) ∙ none in cc
    go false t later = rw t (ap (λ rs. r ∷ rs) (later (ap (λ b. b || has_row id rows) (sym t) ∙ none)))

-- the values in the row of a name
abbrev pub values_at : Text → List Row → List Text
values_at name rows = values_or_none (all_of name rows)

values_same : (id value : Text) (rows : List Row) → values_at id (with_value id value rows) ≡ values_at id rows ++ (value ∷ [])
values_same id value [] = rw (same_text id) refl
values_same id value (r ∷ rows) = go (bytes_eq r.id id) refl (values_same id value rows)
  where
    go : (b : Bool) → bytes_eq r.id id ≡ b → values_at id (with_value id value rows) ≡ values_at id rows ++ (value ∷ [])
        → values_at id (with_value id value (r ∷ rows)) ≡ values_at id (r ∷ rows) ++ (value ∷ [])
    go true t later = rw (t, t) refl
    go false t later = rw (t, t) later

values_other : (id value name : Text) (rows : List Row) → bytes_eq id name ≡ false → values_at name (with_value id value rows) ≡ values_at name rows
values_other id value name [] other = rw other refl
values_other id value name (r ∷ rows) other = go (bytes_eq r.id id) refl (values_other id value name rows other)
  where
    here : (b : Bool) → values_at name (with_value id value rows) ≡ values_at name rows
        → values_or_none (option_map (λ (x : Row). x.values) (cond b (Some r) (find (λ x. bytes_eq x.id name) (with_value id value rows))))
        ≡ values_or_none (option_map (λ (x : Row). x.values) (cond b (Some r) (find (λ x. bytes_eq x.id name) rows)))
    here true later = refl
    here false later = later

    go : (b : Bool) → bytes_eq r.id id ≡ b → values_at name (with_value id value rows) ≡ values_at name rows
        → values_at name (with_value id value (r ∷ rows)) ≡ values_at name (r ∷ rows)
    go true t later =
        let miss : bytes_eq r.id name ≡ false = ap (λ x. bytes_eq x name) (text_is r.id id t) ∙ other in
        rw (t, miss) refl
    go false t later = rw t (here (bytes_eq r.id name) later)

-- ---- one that is given

positional_fault_is : (names : List Text) (value : Text) (rows : List Row)
    → held_fault names (pending_for (Some (None, value))) rows ≡ cond (nat_lt 0 (length value)) [] (InvalidValue ∷ [])
positional_fault_is names value rows = or_else_nil _

-- the fault of an option with this value, where it has a row or not
abbrev option_fault : Bool → Text → Kinds
option_fault has value = or_else (cond (has && true) (ArgumentConflict ∷ []) []) (cond (nat_lt 0 (length value)) [] (InvalidValue ∷ []))

module _ (names : List Text) (known : are_names names ≡ true) where
  apart : (name : Text) → has_name name names ≡ true → bytes_eq positional_name name ≡ false
  apart name has = not_positional name (name_is names name known has)

  option_fault_is : (name value : Text) (rows : List Row) → has_name name names ≡ true
      → held_fault names (pending_for (Some (Some name, value))) rows ≡ option_fault (has_row name rows) value
  option_fault_is name value rows has =
      rw (option_by_id names name (apart name has) has) (ap (or_else (cond (has_row name rows && true) (ArgumentConflict ∷ []) [])) (or_else_nil _))

  option_rows_are : (name value : Text) (rows : List Row) → has_name name names ≡ true
      → rows_with names (pending_for (Some (Some name, value))) rows ≡ with_value name value (without name rows)
  option_rows_are name value rows has = rw (option_by_id names name (apart name has) has) refl

-- ---- whether a fault comes

abbrev pub is_none : Kinds → Bool
is_none [] = true
is_none (k ∷ ks) = false

pub none_is : (a : Kinds) → is_none a ≡ true → a ≡ []
none_is [] e = refl
none_is (k ∷ ks) e = cc

none_both : (a b : Kinds) → is_none (or_else a b) ≡ (is_none a && is_none b)
none_both [] b = refl
none_both (k ∷ ks) b = refl

-- no option has a row
abbrev is_clear : List Row → List (Text × Text) → Bool
is_clear rows options = list_all (λ o. not (has_row o.0 rows)) options

none_if : (b : Bool) (k : ErrorKind) → is_none (cond b [] (k ∷ [])) ≡ b
none_if true k = refl
none_if false k = refl

none_option : (has : Bool) (value : Text) → is_none (option_fault has value) ≡ (not has && nat_lt 0 (length value))
none_option true value = refl
none_option false value = none_if (nat_lt 0 (length value)) InvalidValue

and_assoc : (a b c : Bool) → (a && (b && c)) ≡ ((a && b) && c)
and_assoc true b c = refl
and_assoc false b c = refl

move_not : (x r h c : Bool) → (not (x || r) && (not h && c)) ≡ (not (x || h) && (not r && c))
move_not true r h c = refl
move_not false true true c = refl
move_not false true false c = refl
move_not false false h c = refl

-- the options that have no row once this one has
clear_with : (id value : Text) (rows : List Row) (options : List (Text × Text))
    → is_clear (with_value id value rows) options ≡ (not (has_option id options) && is_clear rows options)
clear_with id value rows [] = refl
clear_with id value rows (o ∷ options) =
    ap₂ (λ a b. not a && b) (has_row_with id value o.0 rows) (clear_with id value rows options)
    ∙ move_not (bytes_eq id o.0) (has_row o.0 rows) (has_option id options) (is_clear rows options)
    ∙ ap (λ b. not (b || has_option id options) && (not (has_row o.0 rows) && is_clear rows options)) (text_sym id o.0)

-- no option has the name of the positionals
no_positional : (names : List Text) → are_names names ≡ true → (given : List Given) → AreKnown names given → has_option positional_name (options_of given) ≡ false
no_positional names known [] all = refl
no_positional names known ((None, value) ∷ given) all = no_positional names known given all.1
no_positional names known ((Some name, value) ∷ given) all =
    ap₂ (λ a b. a || b) (text_sym name positional_name ∙ not_positional name (name_is names name known all.0)) (no_positional names known given all.1)

regroup : (r t e h o c d : Bool) → (r ≡ false → d ≡ (not h && c)) → ((not r && t) && (e && (o && d))) ≡ ((t && e) && ((not h && o) && (not r && c)))
regroup true true true true o c d is = refl
regroup true true true false true c d is = refl
regroup true true true false false c d is = refl
regroup true true false h o c d is = refl
regroup true false e h o c d is = refl
regroup false false e h o c d is = refl
regroup false true false h o c d is = refl
regroup false true true true true c d is = is refl
regroup false true true true false c d is = refl
regroup false true true false true c d is = is refl
regroup false true true false false c d is = refl

pub fault_test : (names : List Text) → are_names names ≡ true → (given : List Given) (rows : List Row) → AreKnown names given
    → is_none (all_fault names given rows) ≡ (has_no_empty given && (are_once (options_of given) && is_clear rows (options_of given)))
fault_test names known [] rows all = refl
fault_test names known ((None, value) ∷ given) rows all =
    none_both _ _
    ∙ ap₂ (λ a b. a && b) (ap is_none (positional_fault_is names value rows) ∙ none_if (nat_lt 0 (length value)) InvalidValue)
    (fault_test names known given (with_value positional_name value rows) all.1
    ∙ ap (λ b. has_no_empty given && (are_once (options_of given) && b))
    (clear_with positional_name value rows (options_of given) ∙ ap (λ b. not b && is_clear rows (options_of given)) (no_positional names known given all.1)))
    ∙ and_assoc (nat_lt 0 (length value)) (has_no_empty given) (are_once (options_of given) && is_clear rows (options_of given))
fault_test names known ((Some name, value) ∷ given) rows all =
    none_both _ _
    ∙ ap₂ (λ a b. a && b) (ap is_none (option_fault_is names known name value rows all.0) ∙ none_option (has_row name rows) value)
    (ap (λ rs. is_none (all_fault names given rs)) (option_rows_are names known name value rows all.0)
    ∙ fault_test names known given (with_value name value (without name rows)) all.1)
    ∙ regroup (has_row name rows) (nat_lt 0 (length value)) (has_no_empty given) (has_option name (options_of given)) (are_once (options_of given))
    (is_clear rows (options_of given)) (is_clear (with_value name value (without name rows)) (options_of given))
    (λ none. clear_with name value (without name rows) (options_of given)
    ∙ ap (λ rs. not (has_option name (options_of given)) && is_clear rs (options_of given)) (without_none name rows none))

-- ---- the values at the end

-- the values of an option, in order
abbrev values_of : Text → List (Text × Text) → List Text
values_of name [] = []
values_of name (o ∷ options) = cond (bytes_eq o.0 name) (o.1 ∷ values_of name options) (values_of name options)

first_is : (name : Text) (options : List (Text × Text)) → slice_get (values_of name options) 0 ≡ value_in name options
first_is name [] = refl
first_is name (o ∷ options) = go (bytes_eq o.0 name) (first_is name options)
  where
    go : (b : Bool) → slice_get (values_of name options) 0 ≡ value_in name options
        → slice_get (cond b (o.1 ∷ values_of name options) (values_of name options)) 0 ≡ cond b (Some o.1) (value_in name options)
    go true later = refl
    go false later = later

no_conflict : (has : Bool) (value : Text) → option_fault has value ≡ [] → has ≡ false
no_conflict true value e = cc
no_conflict false value e = refl

-- what the rows of the positionals and of a name have at the end
abbrev Have : List Text → List Given → List Row → Type 0
Have names given rows =
    (values_at positional_name (all_rows names given rows) ≡ values_at positional_name rows ++ positionals_of given)
    × ((name : Text) → bytes_eq positional_name name ≡ false → values_at name (all_rows names given rows) ≡ values_at name rows ++ values_of name (options_of given))

have : (names : List Text) → are_names names ≡ true → (given : List Given) (rows : List Row) → AreKnown names given → all_fault names given rows ≡ [] → Have names given rows
have names known [] rows all none = (sym (append-nil _), λ name other. sym (append-nil _))
have names known ((None, value) ∷ given) rows all none =
    let later = have names known given (with_value positional_name value rows) all.1 (second_none _ _ none) in (
      later.0 ∙ ap (λ vs. vs ++ positionals_of given) (values_same positional_name value rows) ∙ append_assoc (values_at positional_name rows) (value ∷ []) (positionals_of given),
      λ name other. later.1 name other ∙ ap (λ vs. vs ++ values_of name (options_of given)) (values_other positional_name value name rows other),
    )
have names known ((Some own, value) ∷ given) rows all none =
    let clear : has_row own rows ≡ false = no_conflict (has_row own rows) value (sym (option_fault_is names known own value rows all.0) ∙ first_none _ _ none) in
    let same : rows_with names (pending_for (Some (Some own, value))) rows ≡ with_value own value rows =
    option_rows_are names known own value rows all.0 ∙ ap (with_value own value) (without_none own rows clear) in
    let apart_own : bytes_eq own positional_name ≡ false = text_sym own positional_name ∙ apart names known own all.0 in
    let later = have names known given (with_value own value rows) all.1 (ap (all_fault names given) (sym same) ∙ second_none _ _ none) in (
      ap (λ rs. values_at positional_name (all_rows names given rs)) same ∙ later.0
          ∙ ap (λ vs. vs ++ positionals_of given) (values_other own value positional_name rows apart_own),
      λ name other. ap (λ rs. values_at name (all_rows names given rs)) same ∙ later.1 name other ∙ step own value name (options_of given) rows,
    )
  where
    step : (own value name : Text) (options : List (Text × Text)) (rows : List Row)
        → values_at name (with_value own value rows) ++ values_of name options ≡ values_at name rows ++ values_of name ((own, value) ∷ options)
    step own value name options rows = go (bytes_eq own name) refl
      where
        go : (b : Bool) → bytes_eq own name ≡ b
            → values_at name (with_value own value rows) ++ values_of name options ≡ values_at name rows ++ cond (bytes_eq own name) (value ∷ values_of name options) (values_of name options)
        go true t =
            ap (λ n. values_at n (with_value own value rows) ++ values_of name options) (sym (text_is own name t))
            ∙ ap (λ vs. vs ++ values_of name options) (values_same own value rows) ∙ append_assoc (values_at own rows) (value ∷ []) (values_of name options)
            ∙ ap (λ n. values_at n rows ++ (value ∷ values_of name options)) (text_is own name t)
            ∙ ap (λ b. values_at name rows ++ cond b (value ∷ values_of name options) (values_of name options)) (sym t)
        go false t =
            ap (λ vs. vs ++ values_of name options) (values_other own value name rows t)
            ∙ ap (λ b. values_at name rows ++ cond b (value ∷ values_of name options) (values_of name options)) (sym t)

first_of_values : (name : Text) (rows : List Row) → first_of name rows ≡ slice_get (values_at name rows) 0
first_of_values name rows = go (find (λ r. bytes_eq r.id name) rows)
  where
    go : (o : Option Row) → option_and_then (λ r. slice_get r.values 0) o ≡ slice_get (values_or_none (option_map (λ (r : Row). r.values) o)) 0
    go None = refl
    go (Some r) = refl

-- what the rows of all that is given show, where no fault comes
pub shown : (names : List Text) → are_names names ≡ true → (given : List Given) → AreKnown names given → all_fault names given [] ≡ []
    → (values_at positional_name (all_rows names given []) ≡ positionals_of given)
    × ((name : Text) → bytes_eq positional_name name ≡ false → first_of name (all_rows names given []) ≡ value_in name (options_of given))
shown names known given all none =
    let at_end = have names known given [] all none in
    (at_end.0, λ name other. first_of_values name _ ∙ ap (λ vs. slice_get vs 0) (at_end.1 name other) ∙ first_is name (options_of given))
