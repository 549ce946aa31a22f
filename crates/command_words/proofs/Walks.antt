-- The walk of the parser over the words, and what the words give.
use Rattle.std.proofs.Common.{◌≡◌, ◌∙◌, ◌&&◌, ℕ, Bool, cond, true, false, refl, sym, ap, ap₂, subst, List, [], ◌∷◌, map, Option, Some, None}
use Rattle.std.specs.Bool.{⊤}
use Rattle.std.specs.Prelude.{slice_get}
use Rattle.std.specs.List.{AllByRecursion, fold}
use Rattle.std.specs.Str.{IsUtf8, bytes_eq, chars}
use Rattle.clap.specs.Lexer.{long_of, short_of}
use Rattle.clap.specs.Walk.{Held, Row, Waiting, Walk, arg_by_id, idle, is_pending, option, positional, positional_held, settled, settled_rows, walked}
use Rattle.clap.specs.Simple.{Shape, new_app}
use Rattle.clap.specs.Kinds.{Kinds, or_else}
use Rattle.clap.specs.Faults.{flags_fault, positional_fault, settle_fault, turn_fault, walk_fault}
use Rattle.clap.specs.declared.error.kind.ErrorKind.{ErrorKind}
use Rattle.clap.specs.declared.error.kind.ErrorKind.TheVariants.{InvalidValue, UnknownArgument}
use Rattle.command_words.specs.Lines.{Given, Text, are_names, given_by, given_from, has_name, positional_name, positional_of, then_given, value_by}
use Rattle.command_words.proofs.Words.{Read, built_positional, name_is, none_by_long, none_by_short, not_positional, option_by_id, option_by_long, option_word, other_long, plain_word, read_of, rules_for, same_text, short_word, two_dashes}

-- ---- lists of kinds

pub or_else_nil : (a : Kinds) → or_else a [] ≡ a
or_else_nil [] = refl
or_else_nil (k ∷ ks) = refl

pub or_else_assoc : (a b c : Kinds) → or_else (or_else a b) c ≡ or_else a (or_else b c)
or_else_assoc [] b c = refl
or_else_assoc (k ∷ ks) b c = refl

pub second_none : (a b : Kinds) → or_else a b ≡ [] → b ≡ []
second_none [] b e = e
second_none (k ∷ ks) b e = cc

pub first_none : (a b : Kinds) → or_else a b ≡ [] → a ≡ []
first_none [] b e = refl
first_none (k ∷ ks) b e = cc

not_none : (k : ErrorKind) (ks a : Kinds) → a ≡ k ∷ ks → a ≡ [] → ⊥
not_none k ks a is none = cc

-- ---- where the walk stands

abbrev pub Pending : Type 0
Pending = Option (Text × List Text)

abbrev pub held_with : List Row → Pending → Held
held_with rows p = record { rows = rows; pending = p; skip = 0 }

abbrev pub state : List Row → Pending → Waiting → Bool → Walk
state rows p waiting trailing = record { held = held_with rows p; waiting = waiting; position = 1; is_trailing = trailing; stopped = None }

abbrev pub key : Option Text → Text
key None = positional_name
key (Some name) = name

-- what was given last, where the parser has not put it into a row yet
abbrev pub pending_for : Option Given → Pending
pending_for None = None
pending_for (Some g) = Some (key g.0, g.1 ∷ [])

abbrev pub shape_for : List Text → Shape
shape_for names = record (new_app []).top {
  rules = rules_for names;
  no_binary_name = true;
  disable_help_flag = true;
  disable_help_subcommand = true;
  disable_version_flag = true;
  is_built = true;
}

-- the fault and the rows of what is pending
abbrev pub held_fault : List Text → Pending → List Row → Kinds
held_fault names p rows = settle_fault (rules_for names) false (held_with rows p)

abbrev pub rows_with : List Text → Pending → List Row → List Row
rows_with names p rows = settled_rows (rules_for names) p rows

-- the first fault, and the rows, of all that is given
abbrev pub all_fault : List Text → List Given → List Row → Kinds
all_fault names [] rows = []
all_fault names (g ∷ given) rows = or_else (held_fault names (pending_for (Some g)) rows) (all_fault names given (rows_with names (pending_for (Some g)) rows))

abbrev pub all_rows : List Text → List Given → List Row → List Row
all_rows names [] rows = rows
all_rows names (g ∷ given) rows = all_rows names given (rows_with names (pending_for (Some g)) rows)

-- the walk's fault, and then that of what is still pending at its end
abbrev pub total : List Text → Walk → List Text → Kinds
total names w words =
    or_else (walk_fault (shape_for names) [] w words) (settle_fault (rules_for names) false (fold (walked (rules_for names) []) w words).held)

abbrev pub last_rows : List Text → Walk → List Text → List Row
last_rows names w words = (settled (rules_for names) (fold (walked (rules_for names) []) w words).held).rows

total_next : (names : List Text) (w after : Walk) (word : Text) (words : List Text) (fault : Kinds) → turn_fault (shape_for names) [] w word ≡ fault
    → walked (rules_for names) [] w word ≡ after → total names w (word ∷ words) ≡ or_else fault (total names after words)
unfolding walk_fault
total_next names w after word words fault turn step =
    or_else_assoc (turn_fault (shape_for names) [] w word) (walk_fault (shape_for names) [] (walked (rules_for names) [] w word) words)
    (settle_fault (rules_for names) false (fold (walked (rules_for names) []) (walked (rules_for names) [] w word) words).held)
    ∙ ap₂ (λ (f : Kinds) (v : Walk). or_else f (total names v words)) turn step

fails : (names : List Text) (w : Walk) (word : Text) (words : List Text) (k : ErrorKind) → turn_fault (shape_for names) [] w word ≡ k ∷ [] → total names w (word ∷ words) ≡ [] → ⊥
fails names w word words k turn none = not_none k [] _ (total_next names w _ word words (k ∷ []) turn refl) none

total_at_end : (names : List Text) (w : Walk) → total names w [] ≡ settle_fault (rules_for names) false w.held
unfolding walk_fault
total_at_end names w = refl

-- ---- a word's turn

-- no option waits for its value
abbrev pub IsRest : Waiting → Type 0
IsRest idle = ⊤
IsRest positional = ⊤
IsRest (option id) = ⊥

positional_turn : (names : List Text) (p : Pending) (rows : List Row) → positional_fault (rules_for names) false built_positional (held_with rows p) ≡ held_fault names p rows
positional_turn names p rows = go (is_pending built_positional p)
  where
    go : (b : Bool) → cond (b && false) [] (held_fault names p rows) ≡ held_fault names p rows
    go true = refl
    go false = refl

positional_step : (names : List Text) (p : Pending) (rows : List Row) (word : Text)
    → positional_held (rules_for names) built_positional word (held_with rows p) ≡ held_with (rows_with names p rows) (pending_for (Some (positional_of word)))
positional_step names p rows word = go (is_pending built_positional p)
  where
    go : (b : Bool) → Rattle.clap.specs.Walk.pushed positional_name word (cond (b && false) (held_with rows p) (settled (rules_for names) (held_with rows p)))
        ≡ held_with (rows_with names p rows) (pending_for (Some (positional_of word)))
    go true = refl
    go false = refl

-- behind two dashes
trailing_turn : (names : List Text) (p : Pending) (rows : List Row) (waiting : Waiting) (word : Text)
    → turn_fault (shape_for names) [] (state rows p waiting true) word ≡ held_fault names p rows
trailing_turn names p rows waiting word = positional_turn names p rows

trailing_step : (names : List Text) (p : Pending) (rows : List Row) (waiting : Waiting) (word : Text)
    → walked (rules_for names) [] (state rows p waiting true) word ≡ state (rows_with names p rows) (pending_for (Some (positional_of word))) positional true
unfolding walked
trailing_step names p rows waiting word =
    ap (λ (h : Held). record { held = h; waiting = positional; position = 1; is_trailing = true; stopped = None }) (positional_step names p rows word)

module _ (names : List Text) where
  dashes_turn : (p : Pending) (rows : List Row) (waiting : Waiting) → turn_fault (shape_for names) [] (state rows p waiting false) (45 ∷ 45 ∷ []) ≡ []
  dashes_turn p rows idle = refl
  dashes_turn p rows positional = refl
  dashes_turn p rows (option id) = refl

  dashes_step : (p : Pending) (rows : List Row) (waiting : Waiting) → walked (rules_for names) [] (state rows p waiting false) (45 ∷ 45 ∷ []) ≡ state rows p waiting true
  unfolding walked
  dashes_step p rows idle = refl
  dashes_step p rows positional = refl
  dashes_step p rows (option id) = refl

  -- a word that does not begin with a dash, or a dash alone
  plain_turn : (p : Pending) (rows : List Row) (waiting : Waiting) (word : Text) → IsRest waiting → bytes_eq word (45 ∷ 45 ∷ []) ≡ false → long_of word ≡ None
      → short_of word ≡ None → turn_fault (shape_for names) [] (state rows p waiting false) word ≡ held_fault names p rows
  plain_turn p rows idle word rest dd long short = rw (dd, long, short) (positional_turn names p rows)
  plain_turn p rows positional word rest dd long short = rw (dd, long, short) (positional_turn names p rows)
  plain_turn p rows (option id) word rest dd long short = absurd rest

  plain_step : (p : Pending) (rows : List Row) (waiting : Waiting) (word : Text) → IsRest waiting → bytes_eq word (45 ∷ 45 ∷ []) ≡ false → long_of word ≡ None
      → short_of word ≡ None
      → walked (rules_for names) [] (state rows p waiting false) word ≡ state (rows_with names p rows) (pending_for (Some (positional_of word))) positional false
  unfolding walked
  plain_step p rows idle word rest dd long short =
      rw (dd, long, short) (ap (λ (h : Held). record { held = h; waiting = positional; position = 1; is_trailing = false; stopped = None }) (positional_step names p rows word))
  plain_step p rows positional word rest dd long short =
      rw (dd, long, short) (ap (λ (h : Held). record { held = h; waiting = positional; position = 1; is_trailing = false; stopped = None }) (positional_step names p rows word))
  plain_step p rows (option id) word rest dd long short = absurd rest

  -- a word that is no option of the command
  other_turn : (p : Pending) (rows : List Row) (waiting : Waiting) (word name : Text) (value : Option Text) → bytes_eq word (45 ∷ 45 ∷ []) ≡ false
      → long_of word ≡ Some (name, value) → has_name name names ≡ false
      → turn_fault (shape_for names) [] (state rows p waiting false) word ≡ UnknownArgument ∷ []
  other_turn p rows idle word name value dd long has = rw (dd, long, none_by_long names name has) refl
  other_turn p rows positional word name value dd long has = rw (dd, long, none_by_long names name has) refl
  other_turn p rows (option id) word name value dd long has = rw (dd, long, none_by_long names name has) refl

  short_turn : (p : Pending) (rows : List Row) (waiting : Waiting) (word : Text) (first : ℕ) (rest : Text) (c : ℕ) → bytes_eq word (45 ∷ 45 ∷ []) ≡ false
      → long_of word ≡ None → short_of word ≡ Some (first ∷ rest) → slice_get (chars (first ∷ rest)) 0 ≡ Some c
      → turn_fault (shape_for names) [] (state rows p waiting false) word ≡ UnknownArgument ∷ []
  unfolding flags_fault
  short_turn p rows idle word first rest c dd long short is = rw (dd, long, short, is, none_by_short names c) refl
  short_turn p rows positional word first rest c dd long short is = rw (dd, long, short, is, none_by_short names c) refl
  short_turn p rows (option id) word first rest c dd long short is = rw (dd, long, short, is, none_by_short names c) refl

  module _ (known : are_names names ≡ true) where
    apart : (name : Text) → has_name name names ≡ true → bytes_eq positional_name name ≡ false
    apart name has = not_positional name (name_is names name known has)

    -- an option whose value is the next word
    alone_turn : (p : Pending) (rows : List Row) (waiting : Waiting) (word name : Text) → IsRest waiting → bytes_eq word (45 ∷ 45 ∷ []) ≡ false
        → long_of word ≡ Some (name, None) → has_name name names ≡ true
        → turn_fault (shape_for names) [] (state rows p waiting false) word ≡ held_fault names p rows
    alone_turn p rows idle word name rest dd long has = rw (dd, long, option_by_long names name has) (or_else_nil _)
    alone_turn p rows positional word name rest dd long has = rw (dd, long, option_by_long names name has) (or_else_nil _)
    alone_turn p rows (option id) word name rest dd long has = absurd rest

    alone_step : (p : Pending) (rows : List Row) (waiting : Waiting) (word name : Text) → IsRest waiting → bytes_eq word (45 ∷ 45 ∷ []) ≡ false
        → long_of word ≡ Some (name, None) → has_name name names ≡ true
        → walked (rules_for names) [] (state rows p waiting false) word ≡ state (rows_with names p rows) (Some (name, [])) (option name) false
    unfolding walked
    alone_step p rows idle word name rest dd long has = rw (dd, long, option_by_long names name has) refl
    alone_step p rows positional word name rest dd long has = rw (dd, long, option_by_long names name has) refl
    alone_step p rows (option id) word name rest dd long has = absurd rest

    -- an option with its value behind a `=`
    joined_turn : (p : Pending) (rows : List Row) (waiting : Waiting) (word name value : Text) → IsRest waiting → bytes_eq word (45 ∷ 45 ∷ []) ≡ false
        → long_of word ≡ Some (name, Some value) → has_name name names ≡ true
        → turn_fault (shape_for names) [] (state rows p waiting false) word
        ≡ or_else (held_fault names p rows) (held_fault names (pending_for (Some (Some name, value))) (rows_with names p rows))
    joined_turn p rows idle word name value rest dd long has = rw (dd, long, option_by_long names name has, option_by_id names name (apart name has) has) (or_else_nil _)
    joined_turn p rows positional word name value rest dd long has = rw (dd, long, option_by_long names name has, option_by_id names name (apart name has) has) (or_else_nil _)
    joined_turn p rows (option id) word name value rest dd long has = absurd rest

    joined_step : (p : Pending) (rows : List Row) (waiting : Waiting) (word name value : Text) → IsRest waiting → bytes_eq word (45 ∷ 45 ∷ []) ≡ false
        → long_of word ≡ Some (name, Some value) → has_name name names ≡ true
        → walked (rules_for names) [] (state rows p waiting false) word
        ≡ state (rows_with names (pending_for (Some (Some name, value))) (rows_with names p rows)) None idle false
    unfolding walked
    joined_step p rows idle word name value rest dd long has = rw (dd, long, option_by_long names name has, option_by_id names name (apart name has) has) refl
    joined_step p rows positional word name value rest dd long has = rw (dd, long, option_by_long names name has, option_by_id names name (apart name has) has) refl
    joined_step p rows (option id) word name value rest dd long has = absurd rest

    -- where an option waits for its value: the option has none yet, which is a fault
    waiting_fault : (rows : List Row) (name : Text) → has_name name names ≡ true → held_fault names (Some (name, [])) rows ≡ InvalidValue ∷ []
    waiting_fault rows name has = rw (option_by_id names name (apart name has) has) refl

    value_turn : (rows : List Row) (name word : Text) → bytes_eq word (45 ∷ 45 ∷ []) ≡ false → long_of word ≡ None → short_of word ≡ None
        → turn_fault (shape_for names) [] (state rows (Some (name, [])) (option name) false) word ≡ []
    value_turn rows name word dd long short = rw (dd, long, short) refl

    value_step : (rows : List Row) (name word : Text) → has_name name names ≡ true → bytes_eq word (45 ∷ 45 ∷ []) ≡ false → long_of word ≡ None → short_of word ≡ None
        → walked (rules_for names) [] (state rows (Some (name, [])) (option name) false) word ≡ state rows (pending_for (Some (Some name, word))) idle false
    unfolding walked
    value_step rows name word has dd long short = rw (dd, long, short, option_by_id names name (apart name has) has, same_text name) refl

    no_value_turn : (rows : List Row) (name word next : Text) (value : Option Text) → has_name name names ≡ true → bytes_eq word (45 ∷ 45 ∷ []) ≡ false
        → long_of word ≡ Some (next, value) → has_name next names ≡ true
        → turn_fault (shape_for names) [] (state rows (Some (name, [])) (option name) false) word ≡ InvalidValue ∷ []
    no_value_turn rows name word next None has dd long other = rw (dd, long, option_by_long names next other, option_by_id names name (apart name has) has) refl
    no_value_turn rows name word next (Some value) has dd long other = rw (dd, long, option_by_long names next other, option_by_id names name (apart name has) has) refl

-- ---- the walk agrees with what is given

-- an option's name is one of these
abbrev pub IsKnown : List Text → Option Text → Type 0
IsKnown names None = ⊤
IsKnown names (Some name) = has_name name names ≡ true

abbrev pub AreKnown : List Text → List Given → Type 0
AreKnown names given = AllByRecursion (λ g. IsKnown names g.0) given

known_positionals : (names words : List Text) → AreKnown names (map positional_of words)
known_positionals names [] = tt
known_positionals names (word ∷ words) = (tt, known_positionals names words)

-- The fault of a walk and its rows at the end, where `given` is what the words behind `last` give.
abbrev pub Agrees : List Text → Option Given → List Row → Option (List Given) → Kinds → List Row → Type 0
Agrees names last rows None fault end = fault ≡ [] → ⊥
Agrees names last rows (Some given) fault end =
    (fault ≡ or_else (held_fault names (pending_for last) rows) (all_fault names given (rows_with names (pending_for last) rows)))
    × (end ≡ all_rows names given (rows_with names (pending_for last) rows)) × AreKnown names given

agrees_as : (names : List Text) (last : Option Given) (rows : List Row) (given given' : Option (List Given)) (fault fault' : Kinds) (end end' : List Row) → given ≡ given'
    → fault ≡ fault' → end ≡ end' → Agrees names last rows given' fault' end' → Agrees names last rows given fault end
agrees_as names last rows given given' fault fault' end end' g f e agrees =
    subst (λ x. Agrees names last rows x fault end) (sym g) (subst (λ x. Agrees names last rows given' x end) (sym f) (subst (λ x. Agrees names last rows given' fault' x) (sym e) agrees))

-- one more is given, which is pending
then_pending : (names : List Text) (g : Given) (last : Option Given) (rows : List Row) (given : Option (List Given)) (fault : Kinds) (end : List Row)
    → Agrees names (Some g) (rows_with names (pending_for last) rows) given fault end → IsKnown names g.0
    → Agrees names last rows (then_given g given) (or_else (held_fault names (pending_for last) rows) fault) end
then_pending names g last rows None fault end agrees known = λ none. agrees (second_none _ _ none)
then_pending names g last rows (Some given) fault end agrees known = (ap (or_else (held_fault names (pending_for last) rows)) agrees.0, agrees.1, (known, agrees.2))

-- one more is given, which is in its row at once
then_in_row : (names : List Text) (g : Given) (last : Option Given) (rows : List Row) (given : Option (List Given)) (fault : Kinds) (end : List Row)
    → Agrees names None (rows_with names (pending_for (Some g)) (rows_with names (pending_for last) rows)) given fault end → IsKnown names g.0
    → Agrees names last rows (then_given g given)
    (or_else (or_else (held_fault names (pending_for last) rows) (held_fault names (pending_for (Some g)) (rows_with names (pending_for last) rows))) fault) end
then_in_row names g last rows None fault end agrees known = λ none. agrees (second_none _ _ none)
then_in_row names g last rows (Some given) fault end agrees known =
    let before = held_fault names (pending_for last) rows in
    let here = held_fault names (pending_for (Some g)) (rows_with names (pending_for last) rows) in
    (or_else_assoc before here fault ∙ ap (λ f. or_else before (or_else here f)) agrees.0, agrees.1, (known, agrees.2))

-- an option waits for its value, and what was pending is in its row
then_waits : (names : List Text) (last : Option Given) (rows : List Row) (given : Option (List Given)) (fault : Kinds) (end : List Row)
    → Agrees names None (rows_with names (pending_for last) rows) given fault end → Agrees names last rows given (or_else (held_fault names (pending_for last) rows) fault) end
then_waits names last rows None fault end agrees = λ none. agrees (second_none _ _ none)
then_waits names last rows (Some given) fault end agrees = (ap (or_else (held_fault names (pending_for last) rows)) agrees.0, agrees.1, agrees.2)

-- behind two dashes each word is a positional
trails : (names : List Text) (words : List Text) (p : Pending) (rows : List Row) (waiting : Waiting)
    → (total names (state rows p waiting true) words ≡ or_else (held_fault names p rows) (all_fault names (map positional_of words) (rows_with names p rows)))
    × (last_rows names (state rows p waiting true) words ≡ all_rows names (map positional_of words) (rows_with names p rows))
trails names [] p rows waiting = (total_at_end names (state rows p waiting true) ∙ sym (or_else_nil _), refl)
trails names (word ∷ words) p rows waiting =
    let later = trails names words (pending_for (Some (positional_of word))) (rows_with names p rows) positional in
    let step = trailing_step names p rows waiting word in (
      total_next names _ _ word words _ (trailing_turn names p rows waiting word) step ∙ ap (or_else (held_fault names p rows)) later.0,
      ap (λ w. last_rows names w words) step ∙ later.1,
    )

-- What the walk over the words comes to, where no option waits for its value, and where one does.
pub record Walks (names words : List Text) : Type 0 where
  pub free : (last : Option Given) (rows : List Row) (waiting : Waiting) → IsRest waiting
      → Agrees names last rows (given_from names words None) (total names (state rows (pending_for last) waiting false) words)
      (last_rows names (state rows (pending_for last) waiting false) words)
  pub waits : (name : Text) (rows : List Row) → has_name name names ≡ true
      → Agrees names None rows (given_from names words (Some name)) (total names (state rows (Some (name, [])) (option name) false) words)
      (last_rows names (state rows (Some (name, [])) (option name) false) words)

module _ (names : List Text) (known : are_names names ≡ true) where
  at_end : Walks names []
  at_end = record {
    free = λ last rows waiting rest. (total_at_end names (state rows (pending_for last) waiting false) ∙ sym (or_else_nil _), refl, tt);
    waits = λ name rows has. not_none InvalidValue [] _ (total_at_end names (state rows (Some (name, [])) (option name) false) ∙ waiting_fault names known rows name has);
  }

  module _ (word : Text) (words : List Text) (later : Walks names words) where
    free_word : Read names word → (last : Option Given) (rows : List Row) (waiting : Waiting) → IsRest waiting
        → Agrees names last rows (given_from names (word ∷ words) None) (total names (state rows (pending_for last) waiting false) (word ∷ words))
        (last_rows names (state rows (pending_for last) waiting false) (word ∷ words))
    free_word (two_dashes is) last rows waiting rest =
        let behind = trails names words (pending_for last) rows waiting in
        let here : Agrees names last rows (given_from names ((45 ∷ 45 ∷ []) ∷ words) None) (total names (state rows (pending_for last) waiting false) ((45 ∷ 45 ∷ []) ∷ words))
        (last_rows names (state rows (pending_for last) waiting false) ((45 ∷ 45 ∷ []) ∷ words)) = (
          total_next names _ _ (45 ∷ 45 ∷ []) words [] (dashes_turn names (pending_for last) rows waiting) (dashes_step names (pending_for last) rows waiting) ∙ behind.0,
          ap (λ w. last_rows names w words) (dashes_step names (pending_for last) rows waiting) ∙ behind.1,
          known_positionals names words,
        ) in
        subst
        (λ w. Agrees names last rows (given_from names (w ∷ words) None) (total names (state rows (pending_for last) waiting false) (w ∷ words))
        (last_rows names (state rows (pending_for last) waiting false) (w ∷ words))) (sym is) here
    free_word (plain_word kind plain dd long short) last rows waiting rest =
        let p = pending_for last in
        let step = plain_step names p rows waiting word rest dd long short in
        agrees_as names last rows _ _ _ _ _ _ (ap (λ k. given_by k word words (given_from names words)) kind)
        (total_next names _ _ word words _ (plain_turn names p rows waiting word rest dd long short) step) (ap (λ w. last_rows names w words) step)
        (then_pending names (positional_of word) last rows _ _ _ (later.free (Some (positional_of word)) (rows_with names p rows) positional tt) tt)
    free_word (option_word name (Some value) kind plain dd long has) last rows waiting rest =
        let p = pending_for last in
        let step = joined_step names known p rows waiting word name value rest dd long has in
        agrees_as names last rows _ _ _ _ _ _ (ap (λ k. given_by k word words (given_from names words)) kind)
        (total_next names _ _ word words _ (joined_turn names known p rows waiting word name value rest dd long has) step) (ap (λ w. last_rows names w words) step)
        (then_in_row names (Some name, value) last rows _ _ _ (later.free None (rows_with names (pending_for (Some (Some name, value))) (rows_with names p rows)) idle tt) has)
    free_word (option_word name None kind plain dd long has) last rows waiting rest =
        let p = pending_for last in
        let step = alone_step names known p rows waiting word name rest dd long has in
        agrees_as names last rows _ _ _ _ _ _ (ap (λ k. given_by k word words (given_from names words)) kind)
        (total_next names _ _ word words _ (alone_turn names known p rows waiting word name rest dd long has) step) (ap (λ w. last_rows names w words) step)
        (then_waits names last rows _ _ _ (later.waits name (rows_with names p rows) has))
    free_word (other_long name value kind plain dd long has) last rows waiting rest =
        agrees_as names last rows _ None _ _ _ _ (ap (λ k. given_by k word words (given_from names words)) kind) refl refl
        (fails names _ word words UnknownArgument (other_turn names (pending_for last) rows waiting word name value dd long has))
    free_word (short_word first more c kind plain dd long short is) last rows waiting rest =
        agrees_as names last rows _ None _ _ _ _ (ap (λ k. given_by k word words (given_from names words)) kind) refl refl
        (fails names _ word words UnknownArgument (short_turn names (pending_for last) rows waiting word first more c dd long short is))

    waiting_word : Read names word → (name : Text) (rows : List Row) → has_name name names ≡ true
        → Agrees names None rows (given_from names (word ∷ words) (Some name)) (total names (state rows (Some (name, [])) (option name) false) (word ∷ words))
        (last_rows names (state rows (Some (name, [])) (option name) false) (word ∷ words))
    waiting_word (two_dashes is) name rows has =
        let behind = trails names words (Some (name, [])) rows (option name) in
        let fault : total names (state rows (Some (name, [])) (option name) false) ((45 ∷ 45 ∷ []) ∷ words) ≡ _ =
        total_next names _ _ (45 ∷ 45 ∷ []) words [] (dashes_turn names (Some (name, [])) rows (option name)) (dashes_step names (Some (name, [])) rows (option name)) ∙ behind.0 in
        let here : Agrees names None rows (given_from names ((45 ∷ 45 ∷ []) ∷ words) (Some name)) (total names (state rows (Some (name, [])) (option name) false) ((45 ∷ 45 ∷ []) ∷ words))
        (last_rows names (state rows (Some (name, [])) (option name) false) ((45 ∷ 45 ∷ []) ∷ words)) =
        λ none. not_none InvalidValue [] _ (waiting_fault names known rows name has) (first_none _ _ (sym fault ∙ none)) in
        subst
        (λ w. Agrees names None rows (given_from names (w ∷ words) (Some name)) (total names (state rows (Some (name, [])) (option name) false) (w ∷ words))
        (last_rows names (state rows (Some (name, [])) (option name) false) (w ∷ words))) (sym is) here
    waiting_word (plain_word kind plain dd long short) name rows has =
        let step = value_step names known rows name word has dd long short in
        agrees_as names None rows _ _ _ _ _ _ (ap (λ b. value_by b name word (given_from names words)) plain)
        (total_next names _ _ word words _ (value_turn names known rows name word dd long short) step) (ap (λ w. last_rows names w words) step)
        (then_pending names (Some name, word) None rows _ _ _ (later.free (Some (Some name, word)) rows idle tt) has)
    waiting_word (option_word next value kind plain dd long other) name rows has =
        agrees_as names None rows _ None _ _ _ _ (ap (λ b. value_by b name word (given_from names words)) plain) refl refl
        (fails names _ word words InvalidValue (no_value_turn names known rows name word next value has dd long other))
    waiting_word (other_long next value kind plain dd long other) name rows has =
        agrees_as names None rows _ None _ _ _ _ (ap (λ b. value_by b name word (given_from names words)) plain) refl refl
        (fails names _ word words UnknownArgument (other_turn names (Some (name, [])) rows (option name) word next value dd long other))
    waiting_word (short_word first more c kind plain dd long short is) name rows has =
        agrees_as names None rows _ None _ _ _ _ (ap (λ b. value_by b name word (given_from names words)) plain) refl refl
        (fails names _ word words UnknownArgument (short_turn names (Some (name, [])) rows (option name) word first more c dd long short is))

  pub walks : (words : List Text) → AllByRecursion IsUtf8 words → Walks names words
  walks [] texts = at_end
  walks (word ∷ words) texts =
      let later = walks words texts.1 in
      let read = read_of names word texts.0 in
      record { free = free_word word words later read; waits = waiting_word word words later read }
