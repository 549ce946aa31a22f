-- Edits of several streams, each change of a stream of its own.
use Rattle.std.proofs.Common.{◌≡◌, ◌≢◌, ◌≤◌, ◌<◌, ◌+◌, ◌*◌, ◌==◌, ◌⊎◌, ℕ, zero, suc, false, cond, if◌then◌else◌, List, [], ◌∷◌, ◌++◌, length, map, drop, Option, Some, None, IsSome, refl, sym, ap, subst, ◌∙◌, inl, inr, arith, eqb}
use Rattle.std.specs.List.{AllByRecursion, range_with_len}
use Rattle.std.specs.Option.{option_map, option_or}
use Rattle.std.proofs.lemmas.Bool.{cases_eq, eq-eqb, ne_eqb}
use Rattle.std.proofs.lemmas.List.{ext_get_or}
use Rattle.std.proofs.lemmas.List.Elements.{All-from_recursion}
use Rattle.std.proofs.lemmas.List.Folds.{find-append}
use Rattle.std.proofs.lemmas.List.FromFn.{get_or-map-range_with_len, length-map-range_with_len}
use Rattle.msf_blocks.specs.Edit.{StreamEdit}
use Rattle.stream_directory.specs.Directory.{StreamBlocks, absent_size, stream_at}
use Rattle.cow_streams.specs.Edits.{AreEdits, IsCovered, IsEdit, byte_by, edit_at, edited_from, edited_stream, has_byte, len_after}
use Rattle.cow_streams.proofs.Lists.{each_append, each_both, each_weaker}
use Rattle.type_store.specs.Committed.{edited_contents}
use Rattle.type_store.specs.Holds.{Contents, content_at}
use Rattle.type_store.specs.Shape.{Sizes, size_at, sizes_in, sizes_of}
use Rattle.type_store.proofs.Shaping.{AreParts, IsLeft, IsPart, edits_make}

-- what a stream is to be, and the edits that make it so
pub record Change : Type 0 where
  pub stream : ℕ
  pub edits : List StreamEdit
  pub text : List ℕ

abbrev pub all_edits : List Change → List StreamEdit
all_edits [] = []
all_edits (c ∷ changes) = c.edits ++ all_edits changes

-- those of the change of a stream, if there is one
abbrev pub edits_for : List Change → ℕ → List StreamEdit
edits_for [] i = []
edits_for (c ∷ changes) i = if c.stream == i then c.edits else edits_for changes i

-- no two changes are of one stream
abbrev pub AreDistinct : List Change → Type 0
AreDistinct [] = Unit {0}
AreDistinct (c ∷ changes) = AllByRecursion (λ (d : Change). d.stream ≢ c.stream) changes × AreDistinct changes

-- the edits of each change are of its stream
abbrev IsOwn : Change → Type 0
IsOwn c = AllByRecursion (λ (e : StreamEdit). e.stream ≡ c.stream) c.edits

-- ---- edits of other streams

abbrev AreOthers : ℕ → List StreamEdit → Type 0
AreOthers i edits = AllByRecursion (λ (e : StreamEdit). e.stream ≢ i) edits

has_none : (i j : ℕ) (e : StreamEdit) → e.stream ≢ i → has_byte i j e ≡ false
has_none i j e ne = rw (ne_eqb e.stream i ne) refl

find_none : (i j : ℕ) (edits : List StreamEdit) → AreOthers i edits → edit_at edits i j ≡ None
find_none i j [] others = refl
find_none i j (e ∷ edits) others = ap (λ t. cond t (Some e) (edit_at edits i j)) (has_none i j e others.0) ∙ find_none i j edits others.1

len_none : (i n : ℕ) (edits : List StreamEdit) → AreOthers i edits → len_after edits i n ≡ n
len_none i n [] others = refl
len_none i n (e ∷ edits) others = ap (λ t. cond t e.len (len_after edits i n)) (ne_eqb e.stream i others.0) ∙ len_none i n edits others.1

len_behind : (i n : ℕ) (others edits : List StreamEdit) → AreOthers i others → len_after (others ++ edits) i n ≡ len_after edits i n
len_behind i n [] edits are = refl
len_behind i n (e ∷ others) edits are = ap (λ t. cond t e.len (len_after (others ++ edits) i n)) (ne_eqb e.stream i are.0) ∙ len_behind i n others edits are.1

len_front : (i n : ℕ) (edits others : List StreamEdit) → AreOthers i others → len_after (edits ++ others) i n ≡ len_after edits i n
len_front i n [] others are = len_none i n others are
len_front i n (e ∷ edits) others are = ap (λ m. cond (eqb e.stream i) e.len m) (len_front i n edits others are)

option_or-none : {X : Type 0} (o : Option X) → option_or o None ≡ o
option_or-none None = refl
option_or-none (Some x) = refl

-- the edits of changes of other streams
all_others : (i : ℕ) (changes : List Change) → AllByRecursion IsOwn changes → AllByRecursion (λ (d : Change). d.stream ≢ i) changes → AreOthers i (all_edits changes)
all_others i [] own others = tt
all_others i (c ∷ changes) own others =
    each_append (λ (e : StreamEdit). e.stream ≢ i) c.edits (all_edits changes)
    (each_weaker (λ (e : StreamEdit). e.stream ≡ c.stream) (λ (e : StreamEdit). e.stream ≢ i) c.edits (λ e is eq. others.0 (sym is ∙ eq)) own.0)
    (all_others i changes own.1 others.1)

-- ---- the edits of one stream among all

same_edit : (i j : ℕ) (changes : List Change) → AllByRecursion IsOwn changes → AreDistinct changes → edit_at (all_edits changes) i j ≡ edit_at (edits_for changes i) i j
same_edit i j [] own apart = refl
same_edit i j (c ∷ changes) own apart =
    elim (cases_eq c.stream i) [
      | inl is ↦
          find-append (has_byte i j) c.edits (all_edits changes)
          ∙ ap (option_or (edit_at c.edits i j)) (find_none i j (all_edits changes) (all_others i changes own.1 (each_weaker (λ (d : Change). d.stream ≢ c.stream) (λ (d : Change). d.stream ≢ i) changes (λ d ne eq. ne (eq ∙ sym is)) apart.0)))
          ∙ option_or-none (edit_at c.edits i j) ∙ sym (ap (λ t. edit_at (cond t c.edits (edits_for changes i)) i j) (eq-eqb c.stream i is))
      | inr ne ↦
          find-append (has_byte i j) c.edits (all_edits changes)
          ∙ ap (λ o. option_or o (edit_at (all_edits changes) i j)) (find_none i j c.edits (each_weaker (λ (e : StreamEdit). e.stream ≡ c.stream) (λ (e : StreamEdit). e.stream ≢ i) c.edits (λ e is eq. ne (sym is ∙ eq)) own.0))
          ∙ same_edit i j changes own.1 apart.1 ∙ sym (ap (λ t. edit_at (cond t c.edits (edits_for changes i)) i j) (ne_eqb c.stream i ne))
    ]

same_len : (i n : ℕ) (changes : List Change) → AllByRecursion IsOwn changes → AreDistinct changes → len_after (all_edits changes) i n ≡ len_after (edits_for changes i) i n
same_len i n [] own apart = refl
same_len i n (c ∷ changes) own apart =
    elim (cases_eq c.stream i) [
      | inl is ↦
          len_front i n c.edits (all_edits changes) (all_others i changes own.1 (each_weaker (λ (d : Change). d.stream ≢ c.stream) (λ (d : Change). d.stream ≢ i) changes (λ d ne eq. ne (eq ∙ sym is)) apart.0))
          ∙ sym (ap (λ t. len_after (cond t c.edits (edits_for changes i)) i n) (eq-eqb c.stream i is))
      | inr ne ↦
          len_behind i n c.edits (all_edits changes) (each_weaker (λ (e : StreamEdit). e.stream ≡ c.stream) (λ (e : StreamEdit). e.stream ≢ i) c.edits (λ e is eq. ne (sym is ∙ eq)) own.0)
          ∙ same_len i n changes own.1 apart.1 ∙ sym (ap (λ t. len_after (cond t c.edits (edits_for changes i)) i n) (ne_eqb c.stream i ne))
    ]

-- the edits of each change, among those of all
all_found : (changes : List Change) → AreDistinct changes → AllByRecursion (λ (c : Change). edits_for changes c.stream ≡ c.edits) changes
all_found [] apart = tt
all_found (c ∷ changes) apart = (
  ap (λ t. cond t c.edits (edits_for changes c.stream)) (eq-eqb c.stream c.stream refl),
  each_both (λ (d : Change). d.stream ≢ c.stream) (λ (d : Change). edits_for changes d.stream ≡ d.edits) (λ (d : Change). edits_for (c ∷ changes) d.stream ≡ d.edits) changes
      (λ d ne is. ap (λ t. cond t c.edits (edits_for changes d.stream)) (ne_eqb c.stream d.stream (λ eq. ne (sym eq))) ∙ is) apart.0 (all_found changes apart.1),
)

-- of a stream that no change is of
none_for : (i : ℕ) (changes : List Change) → AllByRecursion (λ (c : Change). c.stream ≢ i) changes → edits_for changes i ≡ []
none_for i [] others = refl
none_for i (c ∷ changes) others = ap (λ t. cond t c.edits (edits_for changes i)) (ne_eqb c.stream i others.0) ∙ none_for i changes others.1

-- a change that is of a stream, or none is
pub record IsOf (P : Change → Type 0) (changes : List Change) (i : ℕ) : Type 0 where
  pub change : Change
  pub is : change.stream ≡ i
  pub edits_are : edits_for changes i ≡ change.edits
  pub has : P change

change_of : (P : Change → Type 0) (changes : List Change) (i : ℕ) → AllByRecursion P changes → IsOf P changes i ⊎ (edits_for changes i ≡ [])
change_of P [] i all = inr refl
change_of P (c ∷ changes) i all =
    elim (cases_eq c.stream i) [
      | inl is ↦ inl (record { change = c; is = is; edits_are = ap (λ t. cond t c.edits (edits_for changes i)) (eq-eqb c.stream i is); has = all.0 })
      | inr ne ↦
          let other : edits_for (c ∷ changes) i ≡ edits_for changes i = ap (λ t. cond t c.edits (edits_for changes i)) (ne_eqb c.stream i ne) in
          elim (change_of P changes i all.1) [
            | inl found ↦ inl (record { change = found.change; is = found.is; edits_are = other ∙ found.edits_are; has = found.has })
            | inr none ↦ inr (other ∙ none)
          ]
    ]

-- ---- sizes, stream by stream

pub size_in : (streams : List (Option StreamBlocks)) (i : ℕ) → size_at (sizes_in streams) i ≡ option_map (λ (s : StreamBlocks). s.size) (stream_at streams i)
size_in [] i = refl
size_in (x ∷ streams) zero = refl
size_in (x ∷ streams) (suc i) = size_in streams i

pub size_of : (contents : Contents) (i : ℕ) → size_at (sizes_of contents) i ≡ option_map (λ (stream : List ℕ). length stream) (content_at contents i)
size_of [] i = refl
size_of (x ∷ contents) zero = refl
size_of (x ∷ contents) (suc i) = size_of contents i

-- ---- edits that may be made

-- a change of a stream that is there, by parts of its text
pub record IsMade (size : ℕ) (sizes : Sizes) (c : Change) : Type 0 where
  pub old : ℕ
  pub present : size_at sizes c.stream ≡ Some old
  pub not_first : 1 ≤ c.stream
  pub short : length c.text < absent_size
  pub parts : AreParts size c.stream old c.text c.edits

own_parts : (size old : ℕ) (c : Change) → AreParts size c.stream old c.text c.edits → IsOwn c
own_parts size old c are = each_weaker (IsPart size c.stream c.text) (λ (e : StreamEdit). e.stream ≡ c.stream) c.edits (λ e p. p.stream) are.parts

made_own : (size : ℕ) (sizes : Sizes) (changes : List Change) → AllByRecursion (IsMade size sizes) changes → AllByRecursion IsOwn changes
made_own size sizes changes made = each_weaker (IsMade size sizes) IsOwn changes (λ c is. own_parts size is.old c is.parts) made

some_stream : (o : Option StreamBlocks) (n : ℕ) → option_map (λ (s : StreamBlocks). s.size) o ≡ Some n → IsSome o
some_stream None n is = absurd cc
some_stream (Some s) n is = refl

module _ (size : ℕ) (streams : List (Option StreamBlocks)) (changes : List Change) (own : AllByRecursion IsOwn changes) (apart : AreDistinct changes) where
  one_made : (c : Change) → edits_for changes c.stream ≡ c.edits → IsMade size (sizes_in streams) c → AllByRecursion (IsEdit size streams (all_edits changes)) c.edits
  one_made c of made = go c.edits refl made.parts.parts
    where
      there : IsSome (stream_at streams c.stream)
      there = some_stream (stream_at streams c.stream) made.old (sym (size_in streams c.stream) ∙ made.present)

      go : (edits : List StreamEdit) → c.edits ≡ edits → AllByRecursion (IsPart size c.stream c.text) edits → AllByRecursion (IsEdit size streams (all_edits changes)) edits
      go [] is parts = tt
      go (first ∷ edits) is parts =
          each_weaker (IsPart size c.stream c.text) (IsEdit size streams (all_edits changes)) (first ∷ edits)
          (λ e p. record {
            not_first = subst (λ (s : ℕ). 1 ≤ s) (sym p.stream) made.not_first;
            present = subst (λ (s : ℕ). IsSome (stream_at streams s)) (sym p.stream) there;
            begins = p.begins;
            ends = p.ends;
            inside = p.inside;
            short = omega (arith, p.len, made.short);
            agrees = ap (λ s. len_after (all_edits changes) s e.len) p.stream ∙ same_len c.stream e.len changes own apart ∙ ap (λ es. len_after es c.stream e.len) (of ∙ is)
                ∙ ap (λ t. cond t first.len (len_after edits c.stream e.len)) (eq-eqb first.stream c.stream parts.0.stream) ∙ parts.0.len ∙ sym p.len;
          }) parts

  all_made : (rest : List Change) → AllByRecursion (λ (c : Change). edits_for changes c.stream ≡ c.edits) rest → AllByRecursion (IsMade size (sizes_in streams)) rest → AllByRecursion (IsEdit size streams (all_edits changes)) (all_edits rest)
  all_made [] found made = tt
  all_made (c ∷ rest) found made = each_append (IsEdit size streams (all_edits changes)) c.edits (all_edits rest) (one_made c found.0 made.0) (all_made rest found.1 made.1)

  -- a block that no edit has is one of the old stream
  one_covered : (i : ℕ) (stream : StreamBlocks) → stream_at streams i ≡ Some stream → AllByRecursion (IsMade size (sizes_in streams)) changes → IsCovered size (all_edits changes) i (Some stream)
  one_covered i stream there made =
      λ k lt none.
      let none_here = sym (same_edit i (k * size) changes own apart) ∙ none in
      let len = same_len i stream.size changes own apart in
      elim (change_of (IsMade size (sizes_in streams)) changes i made) [
        | inl found ↦ here found k (omega (arith, lt, len)) none_here len
        | inr nothing ↦ inl (omega (arith, len, ap (λ es. len_after es i stream.size) nothing))
      ]
    where
      here : (f : IsOf (IsMade size (sizes_in streams)) changes i) (k : ℕ) → k * size < len_after (edits_for changes i) i stream.size → edit_at (edits_for changes i) i (k * size) ≡ None
          → len_after (all_edits changes) i stream.size ≡ len_after (edits_for changes i) i stream.size → (len_after (all_edits changes) i stream.size ≤ stream.size) ⊎ ((k + 1) * size ≤ stream.size)
      here f k lt none len =
          let c = f.change in
          let sized : Some f.has.old ≡ Some stream.size = sym f.has.present ∙ ap (λ s. size_at (sizes_in streams) s) f.is ∙ size_in streams i ∙ ap (option_map (λ (s : StreamBlocks). s.size)) there in
          let old : f.has.old ≡ stream.size = cc in
          let new : len_after (edits_for changes i) i stream.size ≡ length c.text = ap (λ es. len_after es i stream.size) f.edits_are ∙ ap (λ s. len_after c.edits s stream.size) (sym f.is) ∙ ap (λ n. len_after c.edits c.stream n) (sym old) ∙ f.has.parts.len in
          let none_its : edit_at c.edits c.stream (k * size) ≡ None = ap (λ s. edit_at c.edits s (k * size)) f.is ∙ ap (λ es. edit_at es i (k * size)) (sym f.edits_are) ∙ none in
          elim (f.has.parts.covered k (omega (arith, lt, new)) none_its) [ inl short ↦ inl (omega (arith, short, len, new, old)) | inr whole ↦ inr (omega (arith, whole, old)) ]

  covered_by : (i : ℕ) (o : Option StreamBlocks) → stream_at streams i ≡ o → AllByRecursion (IsMade size (sizes_in streams)) changes → IsCovered size (all_edits changes) i o
  covered_by i None there made = tt
  covered_by i (Some stream) there made = one_covered i stream there made

pub changes_may_be_made : (size : ℕ) (streams : List (Option StreamBlocks)) (changes : List Change) → AreDistinct changes → AllByRecursion (IsMade size (sizes_in streams)) changes → AreEdits size streams (all_edits changes)
changes_may_be_made size streams changes apart made =
    let own = made_own size (sizes_in streams) changes made in
    record {
      each = All-from_recursion (IsEdit size streams (all_edits changes)) (all_edits changes) (all_made size streams changes own apart changes (all_found changes apart) made);
      covered = λ i le. covered_by size streams changes own apart i (stream_at streams i) refl made;
    }

-- ---- what they make

-- a change of a stream that is there, which has the new text but for what the edits have
pub record IsFilled (size : ℕ) (contents : Contents) (c : Change) : Type 0 where
  pub old : List ℕ
  pub there : content_at contents c.stream ≡ Some old
  pub not_first : 1 ≤ c.stream
  pub parts : AreParts size c.stream (length old) c.text c.edits
  pub left : IsLeft c.stream old c.text c.edits

filled_own : (size : ℕ) (contents : Contents) (changes : List Change) → AllByRecursion (IsFilled size contents) changes → AllByRecursion IsOwn changes
filled_own size contents changes filled = each_weaker (IsFilled size contents) IsOwn changes (λ c is. own_parts size (length is.old) c is.parts) filled

from_at : (edits : List StreamEdit) (i k : ℕ) (streams : List (Option (List ℕ))) → content_at (edited_from edits i streams) k ≡ option_map (edited_stream edits (i + k)) (content_at streams k)
from_at edits i k [] = refl
from_at edits i zero (x ∷ streams) = ap (λ s. option_map (edited_stream edits s) x) (omega arith)
from_at edits i (suc k) (x ∷ streams) = from_at edits (i + 1) k streams ∙ ap (λ s. option_map (edited_stream edits s) (content_at streams k)) (omega arith)

behind_at : (contents : Contents) (k : ℕ) → content_at (drop 1 contents) k ≡ content_at contents (suc k)
behind_at [] k = refl
behind_at (x ∷ contents) k = refl

pub edited_at : (edits : List StreamEdit) (contents : Contents) (i : ℕ) → 1 ≤ i → content_at (edited_contents edits contents) i ≡ option_map (edited_stream edits i) (content_at contents i)
edited_at edits contents zero le = absurd (omega (arith, le))
edited_at edits contents (suc k) le =
    from_at edits 1 k (drop 1 contents) ∙ ap (λ x. option_map (edited_stream edits (1 + k)) x) (behind_at contents k) ∙ ap (λ s. option_map (edited_stream edits s) (content_at contents (suc k))) (omega arith)

pub length-edited_from : (edits : List StreamEdit) (i : ℕ) (streams : List (Option (List ℕ))) → length (edited_from edits i streams) ≡ length streams
length-edited_from edits i [] = refl
length-edited_from edits i (x ∷ streams) = ap suc (length-edited_from edits (i + 1) streams)

-- stream i by its own edits
same_stream : (changes : List Change) (i : ℕ) (old : List ℕ) → AllByRecursion IsOwn changes → AreDistinct changes → edited_stream (all_edits changes) i old ≡ edited_stream (edits_for changes i) i old
unfolding edited_stream
same_stream changes i old own apart =
    λ k. map (λ j. byte_by j old (same_edit i j changes own apart k)) (range_with_len 0 (same_len i (length old) changes own apart k))

edited_none : (i : ℕ) (old : List ℕ) → edited_stream [] i old ≡ old
unfolding edited_stream
edited_none i old =
    let g = λ (j : ℕ). byte_by j old None in
    let n = length-map-range_with_len g 0 (length old) in
    ext_get_or 0 (map g (range_with_len 0 (length old))) old n (λ j lt. get_or-map-range_with_len g 0 (length old) j j 0 (omega (arith, lt, n)) (omega arith))

-- each stream that is changed has its text
pub changes_make : (size : ℕ) (contents : Contents) (changes : List Change) → AreDistinct changes → AllByRecursion (IsFilled size contents) changes
    → AllByRecursion (λ (c : Change). content_at (edited_contents (all_edits changes) contents) c.stream ≡ Some c.text) changes
changes_make size contents changes apart filled =
    each_both (λ (c : Change). edits_for changes c.stream ≡ c.edits) (IsFilled size contents) (λ (c : Change). content_at (edited_contents (all_edits changes) contents) c.stream ≡ Some c.text) changes
    (λ c of f.
    edited_at (all_edits changes) contents c.stream f.not_first ∙ ap (λ x. option_map (edited_stream (all_edits changes) c.stream) x) f.there
    ∙ ap Some (same_stream changes c.stream f.old (filled_own size contents changes filled) apart ∙ ap (λ es. edited_stream es c.stream f.old) of ∙ edits_make size c.stream f.old c.text c.edits f.parts f.left))
    (all_found changes apart) filled

option_same : (f : List ℕ → List ℕ) (o : Option (List ℕ)) → ((x : List ℕ) → f x ≡ x) → option_map f o ≡ o
option_same f None same = refl
option_same f (Some x) same = ap Some (same x)

-- each other is as it was
pub changes_keep : (size : ℕ) (contents : Contents) (changes : List Change) (i : ℕ) → AreDistinct changes → AllByRecursion (IsFilled size contents) changes → 1 ≤ i → AllByRecursion (λ (c : Change). c.stream ≢ i) changes
    → content_at (edited_contents (all_edits changes) contents) i ≡ content_at contents i
changes_keep size contents changes i apart filled le others =
    edited_at (all_edits changes) contents i le
    ∙ option_same (edited_stream (all_edits changes) i) (content_at contents i)
    (λ x. same_stream changes i x (filled_own size contents changes filled) apart ∙ ap (λ es. edited_stream es i x) (none_for i changes others) ∙ edited_none i x)

-- ---- the sizes that they give

-- the sizes of streams after edits: stream 0 has no bytes from now on
abbrev pub sizes_from : List StreamEdit → ℕ → Sizes → Sizes
sizes_from edits i [] = []
sizes_from edits i (x ∷ sizes) = option_map (len_after edits i) x ∷ sizes_from edits (i + 1) sizes

abbrev pub sizes_after : List StreamEdit → Sizes → Sizes
sizes_after edits [] = []
sizes_after edits (x ∷ sizes) = Some 0 ∷ sizes_from edits 1 sizes

size_from : (edits : List StreamEdit) (i k : ℕ) (sizes : Sizes) → size_at (sizes_from edits i sizes) k ≡ option_map (len_after edits (i + k)) (size_at sizes k)
size_from edits i k [] = refl
size_from edits i zero (x ∷ sizes) = ap (λ s. option_map (len_after edits s) x) (omega arith)
size_from edits i (suc k) (x ∷ sizes) = size_from edits (i + 1) k sizes ∙ ap (λ s. option_map (len_after edits s) (size_at sizes k)) (omega arith)

size_after : (edits : List StreamEdit) (i : ℕ) (sizes : Sizes) → 1 ≤ i → size_at (sizes_after edits sizes) i ≡ option_map (len_after edits i) (size_at sizes i)
size_after edits zero sizes le = absurd (omega (arith, le))
size_after edits (suc k) [] le = refl
size_after edits (suc k) (x ∷ sizes) le = size_from edits 1 k sizes ∙ ap (λ s. option_map (len_after edits s) (size_at sizes k)) (omega arith)

length-sizes_from : (edits : List StreamEdit) (i : ℕ) (sizes : Sizes) → length (sizes_from edits i sizes) ≡ length sizes
length-sizes_from edits i [] = refl
length-sizes_from edits i (x ∷ sizes) = ap suc (length-sizes_from edits (i + 1) sizes)

pub length-sizes_after : (edits : List StreamEdit) (sizes : Sizes) → length (sizes_after edits sizes) ≡ length sizes
length-sizes_after edits [] = refl
length-sizes_after edits (x ∷ sizes) = ap suc (length-sizes_from edits 1 sizes)

-- each stream that is changed has the size of its text
pub changes_size : (size : ℕ) (sizes : Sizes) (changes : List Change) → AreDistinct changes → AllByRecursion (IsMade size sizes) changes
    → AllByRecursion (λ (c : Change). size_at (sizes_after (all_edits changes) sizes) c.stream ≡ Some (length c.text)) changes
changes_size size sizes changes apart made =
    each_both (λ (c : Change). edits_for changes c.stream ≡ c.edits) (IsMade size sizes) (λ (c : Change). size_at (sizes_after (all_edits changes) sizes) c.stream ≡ Some (length c.text)) changes
    (λ c of m.
    size_after (all_edits changes) c.stream sizes m.not_first ∙ ap (λ x. option_map (len_after (all_edits changes) c.stream) x) m.present
    ∙ ap Some (same_len c.stream m.old changes (made_own size sizes changes made) apart ∙ ap (λ es. len_after es c.stream m.old) of ∙ m.parts.len))
    (all_found changes apart) made

same_size : (f : ℕ → ℕ) (o : Option ℕ) → ((n : ℕ) → f n ≡ n) → option_map f o ≡ o
same_size f None same = refl
same_size f (Some n) same = ap Some (same n)

-- each other has the size that it had
pub changes_keep_size : (size : ℕ) (sizes : Sizes) (changes : List Change) (i : ℕ) → AreDistinct changes → AllByRecursion (IsMade size sizes) changes → 1 ≤ i → AllByRecursion (λ (c : Change). c.stream ≢ i) changes
    → size_at (sizes_after (all_edits changes) sizes) i ≡ size_at sizes i
changes_keep_size size sizes changes i apart made le others =
    size_after (all_edits changes) i sizes le
    ∙ same_size (len_after (all_edits changes) i) (size_at sizes i) (λ n. same_len i n changes (made_own size sizes changes made) apart ∙ ap (λ es. len_after es i n) (none_for i changes others))
