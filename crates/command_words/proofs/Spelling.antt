-- What words give is what they spell.
use Rattle.std.proofs.Common.{◌≡◌, ◌∙◌, ◌||◌, ◌==◌, ◌+◌, ℕ, Bool, cond, true, false, suc, refl, sym, ap, ap₂, subst, arith, codes, List, [], ◌∷◌, ◌++◌, map, take, drop, Option, Some, None, append_assoc, true≢false, eqb-true, eq-eqb}
use Rattle.std.specs.List.{AllByRecursion, after_first, before_first, flat_map, list_any, position_or_len}
use Rattle.std.proofs.lemmas.Bool.{and_parts, not-true}
use Rattle.std.proofs.lemmas.List.Folds.{list_any_at}
use Rattle.clap.proofs.CutLemmas.{Lacks, after_first-at, before_first-Lacks, before_first-at, list_any-at}
use Rattle.command_words.specs.Lines.{Given, Text, are_names, given_by, given_from, has_name, is_equals, is_name, is_plain, kind_of, name_in, option, positional, positional_of, then_given, unknown, value_by, value_in_word}
use Rattle.command_words.specs.Spelling.{IsPart, Part, Spells, apart, given_of, joined, plain, words_of}
use Rattle.command_words.proofs.Words.{name_is}

-- ---- a word cut at its first `=`

lacks : (xs : Text) → list_any is_equals xs ≡ false → Lacks 61 xs
lacks xs none i lt e = true≢false (sym (list_any_at is_equals xs i 0 lt (eq-eqb _ 61 e)) ∙ none)

cut_none : (xs : Text) → list_any is_equals xs ≡ false → name_in xs ≡ xs
cut_none xs none = before_first-Lacks 61 xs (lacks xs none)

cut_some : (xs : Text) → list_any is_equals xs ≡ true → before_first is_equals xs ++ (61 ∷ after_first is_equals xs) ≡ xs
cut_some [] some = absurd (true≢false (sym some))
cut_some (x ∷ xs) some = go (is_equals x) refl (cut_some xs)
  where
    k : ℕ
    k = position_or_len is_equals xs

    go : (b : Bool) → is_equals x ≡ b → (list_any is_equals xs ≡ true → before_first is_equals xs ++ (61 ∷ after_first is_equals xs) ≡ xs)
        → before_first is_equals (x ∷ xs) ++ (61 ∷ after_first is_equals (x ∷ xs)) ≡ x ∷ xs
    go true t later = rw t (ap (λ n. n ∷ xs) (sym (eqb-true x 61 t)))
    go false t later =
        let first : 1 + position_or_len is_equals xs ≡ suc (position_or_len is_equals xs) = omega arith in
        let second : 1 + position_or_len is_equals xs + 1 ≡ suc (position_or_len is_equals xs + 1) = omega arith in
        rw t (ap₂ (λ a b. take a (x ∷ xs) ++ (61 ∷ drop b (x ∷ xs))) first second ∙ ap (λ t. x ∷ t) (later (ap (λ b. b || list_any is_equals xs) (sym t) ∙ some)))

-- ---- a word as `kind_of` sees it

-- the word of an option, with its value where the value stands in it
abbrev spelled : Text → Option Text → Text
spelled name None = codes "--" ++ name
spelled name (Some value) = codes "--" ++ (name ++ (codes "=" ++ value))

data Seen (names : List Text) (word : Text) : Type 0 where
  dashes_seen : word ≡ 45 ∷ 45 ∷ [] → Seen names word
  plain_seen : kind_of names word ≡ positional → is_plain word ≡ true → Seen names word
  option_seen : (name : Text) (value : Option Text) → kind_of names word ≡ option name value → has_name name names ≡ true → word ≡ spelled name value → Seen names word
  unknown_seen : kind_of names word ≡ unknown → Seen names word

spelled_is : (text : Text) → codes "--" ++ text ≡ spelled (name_in text) (value_in_word text)
spelled_is text = go (list_any is_equals text) refl
  where
    go : (b : Bool) → list_any is_equals text ≡ b → codes "--" ++ text ≡ spelled (name_in text) (cond b (Some (after_first is_equals text)) None)
    go true t = ap (λ x. 45 ∷ 45 ∷ x) (sym (cut_some text t))
    go false t = ap (λ x. 45 ∷ 45 ∷ x) (sym (cut_none text t))

seen : (names : List Text) (word : Text) → Seen names word
seen names [] = plain_seen refl refl
seen names (b ∷ []) = plain_seen refl refl
seen names (b ∷ c ∷ rest) = go (b == 45) refl
  where
    long : (n : ℕ) (more : Text) (known : Bool) → (b == 45) ≡ true → (c == 45) ≡ true → has_name (name_in (n ∷ more)) names ≡ known → Seen names (b ∷ c ∷ n ∷ more)
    long n more true e f has =
        let b_is : b ≡ 45 = eqb-true b 45 e in
        let c_is : c ≡ 45 = eqb-true c 45 f in
        option_seen (name_in (n ∷ more)) (value_in_word (n ∷ more)) (rw (e, f, has) refl) has (ap₂ (λ x y. x ∷ y ∷ n ∷ more) b_is c_is ∙ spelled_is (n ∷ more))
    long n more false e f has = unknown_seen (rw (e, f, has) refl)

    behind : (more : Text) → (b == 45) ≡ true → (c == 45) ≡ true → Seen names (b ∷ c ∷ more)
    behind [] e f = dashes_seen (ap₂ (λ x y. x ∷ y ∷ []) (eqb-true b 45 e) (eqb-true c 45 f))
    behind (n ∷ more) e f = long n more (has_name (name_in (n ∷ more)) names) e f refl

    second : (t : Bool) → (b == 45) ≡ true → (c == 45) ≡ t → Seen names (b ∷ c ∷ rest)
    second true e f = behind rest e f
    second false e f = unknown_seen (rw (e, f) refl)

    go : (t : Bool) → (b == 45) ≡ t → Seen names (b ∷ c ∷ rest)
    go true e = second (c == 45) e refl
    go false e = plain_seen (rw e refl) (rw e refl)

-- ---- what is given is spelled

split_then : (g : Given) (later : Option (List Given)) (given : List Given) → then_given g later ≡ Some given → (rest : List Given) × (later ≡ Some rest) × (g ∷ rest ≡ given)
split_then g None given e = cc
split_then g (Some rest) given e = (rest, refl, cc)

add_part : (names : List Text) (part : Part) (words : List Text) (given : List Given) → IsPart names part → Spells names words given
    → Spells names (words_of part ++ words) (given_of part ∷ given)
add_part names part words given is s = record {
  parts = part ∷ s.parts;
  dashes = s.dashes;
  behind = s.behind;
  each = (is, s.each);
  only_behind = s.only_behind;
  words_are = ap (λ ws. words_of part ++ ws) s.words_are ∙ sym (append_assoc (words_of part) (flat_map words_of s.parts) (cond s.dashes (codes "--" ∷ s.behind) []));
  given_are = ap (λ gs. given_of part ∷ gs) s.given_are;
}

record Spelt (names words : List Text) : Type 0 where
  free : (given : List Given) → given_from names words None ≡ Some given → Spells names words given
  waits : (name : Text) → has_name name names ≡ true → (given : List Given) → given_from names words (Some name) ≡ Some given → Spells names ((codes "--" ++ name) ∷ words) given

nothing_spelt : (names : List Text) (given : List Given) → Some [] ≡ Some given → Spells names [] given
nothing_spelt names given e =
    let none : given ≡ [] = cc in
    record { parts = []; dashes = false; behind = []; each = tt; only_behind = λ _. refl; words_are = refl; given_are = none }

module _ (names : List Text) (word : Text) (words : List Text) (later : Spelt names words) where
  free_word : Seen names word → (given : List Given) → given_from names (word ∷ words) None ≡ Some given → Spells names (word ∷ words) given
  free_word (dashes_seen is) given e =
      let given_is : Some (map positional_of words) ≡ Some given = ap (λ w. given_from names (w ∷ words) None) (sym is) ∙ e in
      let all : given ≡ map positional_of words = cc in
      record { parts = []; dashes = true; behind = words; each = tt; only_behind = λ no. absurd (true≢false no); words_are = ap (λ w. w ∷ words) is; given_are = all }
  free_word (plain_seen kind is) given e =
      let s = split_then (None, word) (given_from names words None) given (sym (ap (λ k. given_by k word words (given_from names words)) kind) ∙ e) in
      subst (λ g. Spells names (word ∷ words) g) s.2 (add_part names (plain word) words s.0 is (later.free s.0 s.1))
  free_word (option_seen name (Some value) kind has is) given e =
      let s = split_then (Some name, value) (given_from names words None) given (sym (ap (λ k. given_by k word words (given_from names words)) kind) ∙ e) in
      subst (λ w. Spells names (w ∷ words) given) (sym is) (subst (λ g. Spells names (spelled name (Some value) ∷ words) g) s.2 (add_part names (joined name value) words s.0 has (later.free s.0 s.1)))
  free_word (option_seen name None kind has is) given e =
      subst (λ w. Spells names (w ∷ words) given) (sym is) (later.waits name has given (sym (ap (λ k. given_by k word words (given_from names words)) kind) ∙ e))
  free_word (unknown_seen kind) given e =
      let none : None ≡ Some given = sym (ap (λ k. given_by k word words (given_from names words)) kind) ∙ e in cc

  waiting_word : (name : Text) → has_name name names ≡ true → (given : List Given) → given_from names (word ∷ words) (Some name) ≡ Some given
      → Spells names ((codes "--" ++ name) ∷ word ∷ words) given
  waiting_word name has given e = go (is_plain word) refl
    where
      go : (b : Bool) → is_plain word ≡ b → Spells names ((codes "--" ++ name) ∷ word ∷ words) given
      go true t =
          let s = split_then (Some name, word) (given_from names words None) given (sym (ap (λ b. value_by b name word (given_from names words)) t) ∙ e) in
          subst (λ g. Spells names ((codes "--" ++ name) ∷ word ∷ words) g) s.2 (add_part names (apart name word) words s.0 (has, t) (later.free s.0 s.1))
      go false t = let none : None ≡ Some given = sym (ap (λ b. value_by b name word (given_from names words)) t) ∙ e in cc

spelt : (names words : List Text) → Spelt names words
spelt names [] = record { free = λ given e. nothing_spelt names given e; waits = λ name has given e. cc }
spelt names (word ∷ words) =
    let later = spelt names words in
    record { free = free_word names word words later (seen names word); waits = waiting_word names word words later }

pub spells : (names words : List Text) (given : List Given) → given_from names words None ≡ Some given → Spells names words given
spells names words given e = (spelt names words).free given e

-- ---- what is spelled is given

alone_kind : (names : List Text) (name : Text) → is_name name ≡ true → has_name name names ≡ true → kind_of names (codes "--" ++ name) ≡ option name None
alone_kind names [] name has = absurd (true≢false (sym name))
alone_kind names (n ∷ more) name has =
    let none : list_any is_equals (n ∷ more) ≡ false = not-true _ (and_parts _ _ name).0 in
    rw (cut_none (n ∷ more) none, none, has) refl

joined_kind : (names : List Text) (name value : Text) → is_name name ≡ true → has_name name names ≡ true
    → kind_of names (codes "--" ++ (name ++ (codes "=" ++ value))) ≡ option name (Some value)
joined_kind names [] value name has = absurd (true≢false (sym name))
joined_kind names (n ∷ more) value name has =
    let none : list_any is_equals (n ∷ more) ≡ false = not-true _ (and_parts _ _ name).0 in
    let free = lacks (n ∷ more) none in
    rw (before_first-at 61 (n ∷ more) value free, list_any-at 61 (n ∷ more) value, after_first-at 61 (n ∷ more) value free, has) refl

module _ (names : List Text) (known : are_names names ≡ true) where
  tail_given : (dashes : Bool) (behind : List Text) → (dashes ≡ false → behind ≡ []) → given_from names (cond dashes (codes "--" ∷ behind) []) None ≡ Some (map positional_of behind)
  tail_given true behind only = refl
  tail_given false behind only = ap (λ ws. Some (map positional_of ws)) (sym (only refl))

  parts_given : (parts : List Part) (tail : List Text) (end : List Given) → AllByRecursion (IsPart names) parts → given_from names tail None ≡ Some end
      → given_from names (flat_map words_of parts ++ tail) None ≡ Some (map given_of parts ++ end)
  parts_given [] tail end each e = e
  parts_given (apart name value ∷ parts) tail end each e =
      let here = alone_kind names name (name_is names name known each.0.0) each.0.0 in
      let words = flat_map words_of parts ++ tail in
      ap (λ k. given_by k (codes "--" ++ name) (value ∷ words) (given_from names (value ∷ words))) here
      ∙ ap (λ b. value_by b name value (given_from names words)) each.0.1 ∙ ap (then_given (Some name, value)) (parts_given parts tail end each.1 e)
  parts_given (joined name value ∷ parts) tail end each e =
      let here = joined_kind names name value (name_is names name known each.0) each.0 in
      let words = flat_map words_of parts ++ tail in
      ap (λ k. given_by k (codes "--" ++ (name ++ (codes "=" ++ value))) words (given_from names words)) here
      ∙ ap (then_given (Some name, value)) (parts_given parts tail end each.1 e)
  parts_given (plain word ∷ parts) tail end each e =
      let words = flat_map words_of parts ++ tail in
      ap (λ k. given_by k word words (given_from names words)) (plain_kind word each.0) ∙ ap (then_given (None, word)) (parts_given parts tail end each.1 e)
    where
      plain_kind : (word : Text) → is_plain word ≡ true → kind_of names word ≡ positional
      plain_kind [] is = refl
      plain_kind (b ∷ []) is = refl
      plain_kind (b ∷ c ∷ rest) is = rw (not-true _ is) refl

  pub gives : (words : List Text) (given : List Given) → Spells names words given → given_from names words None ≡ Some given
  gives words given s =
      ap (λ ws. given_from names ws None) s.words_are ∙ parts_given s.parts _ _ s.each (tail_given s.dashes s.behind s.only_behind) ∙ ap Some (sym s.given_are)
