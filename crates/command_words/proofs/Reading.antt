-- What the parser finds is the line of the words, or it fails where they have none.
use Rattle.std.proofs.Common.{◌≡◌, ◌∙◌, ◌&&◌, ◌||◌, ◌+◌, ◌<◌, ℕ, Bool, cond, true, false, not, refl, sym, ap, ap₂, subst, List, [], ◌∷◌, ◌++◌, map, length, take, Option, Some, None, inl, inr, add-zero}
use Rattle.std.specs.Prelude.{is_some, option_and_then}
use Rattle.std.specs.Borrow.{Bor}
use Rattle.std.specs.List.{AllByRecursion, fold, list_all, list_any, slice_index_or}
use Rattle.std.specs.Str.{IsUtf8, bytes_eq}
use Rattle.std.proofs.lemmas.List.{map-append, take_more}
use Rattle.clap.specs.Walk.{Row, Rule, Text, Walk, all_of, first_of, has_row, idle, is_early_multiple, nothing_held, rows_after, rows_of, settled, walk, with_default}
use Rattle.clap.specs.Simple.{App, HasMatchesOf, built, is_buildable, is_in_order, is_ready, is_ready_leaf, is_simple, matches_of, names_of, with_rule}
use Rattle.clap.specs.Matches.{found_of}
use Rattle.clap.specs.Kinds.{HasKind, Kinds, or_else}
use Rattle.clap.specs.Values.{kind_of}
use Rattle.clap.specs.Faults.{built_fault, check_fault, default_fault, defaults_fault, fault_of, given_default_fault, is_free_app, is_simple_and_free, settle_fault, walk_fault}
use Rattle.clap.specs.Takes.{is_given}
use Rattle.clap.specs.declared.error.Error.{Error}
use Rattle.clap.specs.declared.error.kind.ErrorKind.TheVariants.{OutOfMemory}
use Rattle.clap.specs.declared.parser.matches.ArgMatches.{ArgMatches}
use Rattle.clap.proofs.WalkLemmas.{first_value-rows, raw_values-rows}
use Rattle.clap.proofs.FaultLemmas.{leaf_fault}
use Rattle.command_words.specs.Commands.{Shows, app_for, option_rule, positional_rule, values_or_none}
use Rattle.command_words.specs.Lines.{Given, Line, are_names, are_once, given_from, has_no_empty, line_by, line_of, options_of, positional_name, positionals_of, value_in}
use Rattle.command_words.proofs.Words.{built_option, built_positional, filled_rules, rules_for}
use Rattle.command_words.proofs.Walks.{Agrees, AreKnown, all_fault, last_rows, or_else_nil, shape_for, state, total, walks}
use Rattle.command_words.proofs.Rows.{fault_test, is_none, none_is, shown}

-- ---- the command is built, and simple

abbrev app_built : List Text → App
app_built names = record { top = shape_for names; subs = [] }

built_is : (names : List Text) → built (app_for names) ≡ app_built names
built_is names = ap (λ (rules : List Rule). record { top = record (shape_for names) { rules = rules }; subs = [] }) (filled_rules names)

each_simple : (names : List Text) → list_all (λ (a : Rule). a.is_simple) (map option_rule names) ≡ true
each_simple [] = refl
each_simple (n ∷ names) = each_simple names

each_built_simple : (names : List Text) → list_all (λ (a : Rule). a.is_simple) (map built_option names) ≡ true
each_built_simple [] = refl
each_built_simple (n ∷ names) = each_built_simple names

each_free : (names : List Text) → list_all (λ (a : Rule). a.is_free) (map built_option names) ≡ true
each_free [] = refl
each_free (n ∷ names) = each_free names

-- no option has a place among the positionals
one_positional : (n : ℕ) (names : List Text) → fold (λ (count : ℕ) (a : Rule). count + cond (is_some a.index) 1 0) n (map built_option names) ≡ n
one_positional n [] = refl
one_positional n (name ∷ names) = ap (λ k. fold (λ (count : ℕ) (a : Rule). count + cond (is_some a.index) 1 0) k (map built_option names)) (add-zero n) ∙ one_positional n names

none_early : (n : ℕ) (names : List Text) → list_any (is_early_multiple n) (map built_option names) ≡ false
none_early n [] = refl
none_early n (name ∷ names) = none_early n names

in_order : (names : List Text) → is_in_order (rules_for names) ≡ true
in_order names = ap (λ n. not (list_any (is_early_multiple n) (rules_for names))) (one_positional 1 names) ∙ ap not (none_early 1 names)

none_required : (rows : List Row) (names : List Text) → list_any (λ (a : Rule). a.required && not (is_given a.id rows)) (map built_option names) ≡ false
none_required rows [] = refl
none_required rows (name ∷ names) = none_required rows names

simple : (names : List Text) → is_simple (app_for names) ≡ true
simple names =
    ap (λ (b : App). is_buildable (app_for names) && (is_ready b.top && list_all is_ready_leaf b.subs)) (built_is names)
    ∙ rw (each_simple names, each_built_simple names, in_order names) refl

pub simple_and_free : (names : List Text) → is_simple_and_free (app_for names) ≡ true
simple_and_free names = ap₂ (λ a b. a && b) (simple names) (ap is_free_app (built_is names) ∙ rw (each_free names) refl)

-- ---- behind the walk nothing fails, and nothing comes into the rows

skip_default : (rows : List Row) (a : Rule) → a.defaults ≡ [] → default_fault rows a ≡ []
skip_default rows a none = rw none (go (has_row a.id rows))
  where
    go : (b : Bool) → cond (b || true) [] (given_default_fault a []) ≡ []
    go true = refl
    go false = refl

same_rows : (rows : List Row) (a : Rule) → a.defaults ≡ [] → with_default rows a ≡ rows
same_rows rows a none = rw none (go (has_row a.id rows))
  where
    go : (b : Bool) → cond b rows rows ≡ rows
    go true = refl
    go false = refl

no_defaults : (names : List Text) (rows : List Row) → defaults_fault rows (map built_option names) ≡ []
unfolding defaults_fault
no_defaults [] rows = refl
no_defaults (n ∷ names) rows = ap₂ or_else (skip_default rows (built_option n) refl) (ap (λ rs. defaults_fault rs (map built_option names)) (same_rows rows (built_option n) refl) ∙ no_defaults names rows)

no_default : (names : List Text) (rows : List Row) → defaults_fault rows (rules_for names) ≡ []
unfolding defaults_fault
no_default names rows =
    ap₂ or_else (skip_default rows built_positional refl) (ap (λ rs. defaults_fault rs (map built_option names)) (same_rows rows built_positional refl) ∙ no_defaults names rows)

options_leave : (names : List Text) (rows : List Row) → fold with_default rows (map built_option names) ≡ rows
options_leave [] rows = refl
options_leave (n ∷ names) rows = ap (λ rs. fold with_default rs (map built_option names)) (same_rows rows (built_option n) refl) ∙ options_leave names rows

rules_leave : (names : List Text) (rows : List Row) → fold with_default rows (rules_for names) ≡ rows
rules_leave names rows = ap (λ rs. fold with_default rs (map built_option names)) (same_rows rows built_positional refl) ∙ options_leave names rows

no_check : (names : List Text) (rows : List Row) → check_fault (shape_for names) rows false ≡ []
no_check names rows = rw (none_required rows names) refl

-- where the walk begins
abbrev start : Walk
start = state [] None idle false

fault_is : (names words : List Text) → fault_of (app_for names) words ≡ total names start words
fault_is names words =
    ap (λ a. built_fault a nothing_held words) (built_is names)
    ∙ leaf_fault (app_built names) nothing_held words refl
    ∙ ap₂ (λ d c. or_else (walk_fault (shape_for names) [] start words) (or_else (settle_fault (rules_for names) false (walk (rules_for names) [] nothing_held words).held) (or_else d c)))
    (no_default names _) (no_check names _)
    ∙ ap (or_else (walk_fault (shape_for names) [] start words)) (or_else_nil _)

matches_are : (names words : List Text) → matches_of (app_for names) words ≡ last_rows names start words
matches_are names words =
    ap (λ (a : App). rows_after a.top.rules (names_of a) words) (built_is names)
    ∙ rules_leave names (settled (rules_for names) (walk (rules_for names) [] nothing_held words).held).rows

-- ---- the line

clear_at_start : (options : List (Text × Text)) → list_all (λ o. not (has_row o.0 [])) options ≡ true
clear_at_start [] = refl
clear_at_start (o ∷ options) = clear_at_start options

and_true : (a b c : Bool) → c ≡ true → (a && (b && c)) ≡ (a && b)
and_true true true c e = e
and_true true false c e = refl
and_true false b c e = refl

-- whether what is given makes a line
abbrev is_line : List Given → Bool
is_line given = has_no_empty given && are_once (options_of given)

line_test : (names : List Text) → are_names names ≡ true → (given : List Given) → AreKnown names given → is_none (all_fault names given []) ≡ is_line given
line_test names known given all =
    fault_test names known given [] all ∙ and_true (has_no_empty given) (are_once (options_of given)) _ (clear_at_start (options_of given))

abbrev line_with : List Given → Line
line_with given = record { positionals = positionals_of given; options = options_of given }

-- the rows show the line
abbrev ShowsRows : List Row → Line → Type 0
ShowsRows rows line =
    (values_or_none (all_of positional_name rows) ≡ line.positionals)
    × ((name : Text) → bytes_eq positional_name name ≡ false → first_of name rows ≡ value_in name line.options)

module _ (names : List Text) (known : are_names names ≡ true) where
  taken : (given : Option (List Given)) (fault : Kinds) (end : List Row) → Agrees names None [] given fault end → fault ≡ []
      → (line : Line) × (option_and_then line_by given ≡ Some line) × ShowsRows end line
  taken None fault end agrees none = absurd (agrees none)
  taken (Some given) fault end agrees none =
      let no_fault : all_fault names given [] ≡ [] = sym agrees.0 ∙ none in
      let line : is_line given ≡ true = sym (line_test names known given agrees.2) ∙ ap is_none no_fault in
      let shows = shown names known given agrees.2 no_fault in
      (line_with given, ap (λ b. cond b (Some (line_with given)) None) line, subst (λ rows. ShowsRows rows (line_with given)) (sym agrees.1) shows)

  none_taken : (given : Option (List Given)) (fault : Kinds) (end : List Row) → Agrees names None [] given fault end → (fault ≡ [] → ⊥) → option_and_then line_by given ≡ None
  none_taken None fault end agrees some = refl
  none_taken (Some given) fault end agrees some = go (is_line given) refl
    where
      go : (b : Bool) → is_line given ≡ b → line_by given ≡ None
      go true t = absurd (some (agrees.0 ∙ none_is _ (line_test names known given agrees.2 ∙ t)))
      go false t = ap (λ b. cond b (Some (line_with given)) None) t

  module _ (words : List Text) (each : AllByRecursion IsUtf8 words) where
    agrees_here : Agrees names None [] (given_from names words None) (total names start words) (last_rows names start words)
    agrees_here = (walks names known words each).free None [] idle tt

    -- what was found is the line of the words
    pub found_line : (m : ArgMatches) → fault_of (app_for names) words ≡ [] → HasMatchesOf (app_for names) words m
        → (line : Line) × (line_of names words ≡ Some line) × Shows (found_of m) line
    found_line m none has =
        let here = taken (given_from names words None) (total names start words) (last_rows names start words) agrees_here (sym (fault_is names words) ∙ none) in
        let rows_are : rows_of (found_of m) ≡ last_rows names start words = (has (simple names)).0 ∙ matches_are names words in
        let shows : ShowsRows (rows_of (found_of m)) here.0 = subst (λ rows. ShowsRows rows here.0) (sym rows_are) here.2 in (
          here.0,
          here.1,
          record {
            positionals = ap values_or_none (raw_values-rows (found_of m) positional_name) ∙ shows.0;
            options = λ name other. first_value-rows (found_of m) name ∙ shows.1 name other;
          },
        )

    among_none : (e : Error) (kinds : Kinds) → HasKind kinds e → (kind_of e ≡ OutOfMemory → ⊥) → kinds ≡ [] → ⊥
    among_none e [] (inl h) other none = other h
    among_none e [] (inr h) other none = h
    among_none e (k ∷ ks) h other none = cc

    -- an error that is no want of memory comes where the words have no line
    pub no_line : (e : Error) → HasKind (fault_of (app_for names) words) e → (kind_of e ≡ OutOfMemory → ⊥) → line_of names words ≡ None
    no_line e kinds other =
        none_taken (given_from names words None) (total names start words) (last_rows names start words) agrees_here
        (λ none. among_none e _ kinds other (fault_is names words ∙ none))

-- one more option
pub app_more : (names : List Text) (name : Text) → with_rule (app_for names) (option_rule name) ≡ app_for (names ++ name ∷ [])
app_more names name = ap (λ rules. record (app_for names) { top = record (app_for names).top { rules = positional_rule ∷ rules } }) (sym (map-append option_rule names (name ∷ [])))

pub names_more : (names : List (Bor Text)) (i : ℕ) (d : Bor Text) → i < length names
    → map (λ n. n.now) (take i names) ++ (slice_index_or names i d).now ∷ [] ≡ map (λ n. n.now) (take (i + 1) names)
names_more names i d lt = sym (ap (map (λ n. n.now)) (take_more names i d lt) ∙ map-append (λ n. n.now) (take i names) (slice_index_or names i d ∷ []))
