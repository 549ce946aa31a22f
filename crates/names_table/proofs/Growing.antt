-- The text of names, and of more names behind them.
use Rattle.std.proofs.Common.{◌≡◌, ◌≤◌, ◌<◌, ◌+◌, ◌-◌, ◌*◌, ℕ, List, [], ◌∷◌, ◌++◌, Result, Ok, Err, OnOk, is_ok, cond, length, take, drop, get_or, append_assoc, refl, sym, ap, ◌∙◌, arith}
use Rattle.std.specs.List.{flat_map}
use Rattle.std.proofs.lemmas.List.{drop-append-le, take-append-le, get_or-append_right, get_or_append_left, length-append, length-replicate}
use Rattle.std.proofs.Math.Seq.{take-append-add}
use Rattle.byteorder.specs.Endian.{little_bytes}
use Rattle.names_table.specs.Buckets.{bucket_count, buckets_of}
use Rattle.names_table.specs.Names.{bytes_of}
use Rattle.names_table.specs.Strings.{strings_of}
use Rattle.names_table.specs.Text.{buckets_text, head_text, names_text, tail_text}
use Rattle.names_table.proofs.FreeBuckets.{all_held}
use Rattle.names_table.proofs.Strings.{length-strings}

pub strings-append : (xs ys : List (List ℕ)) → strings_of (xs ++ ys) ≡ strings_of xs ++ strings_of ys
strings-append [] ys = refl
strings-append (x ∷ xs) ys = ap (λ s. x ++ 0 ∷ s) (strings-append xs ys) ∙ sym (append_assoc x (0 ∷ strings_of xs) (strings_of ys))

pub bytes_of-append : (xs ys : List (List ℕ)) → bytes_of (xs ++ ys) + 1 ≡ bytes_of xs + bytes_of ys
bytes_of-append [] ys = omega arith
bytes_of-append (x ∷ xs) ys = omega (arith, bytes_of-append xs ys)

length-words : (words : List ℕ) → length (flat_map (little_bytes 4) words) ≡ 4 * length words
length-words [] = refl
length-words (w ∷ words) = omega (arith, length-append (little_bytes 4 w) (flat_map (little_bytes 4) words), length-words words)

length-buckets : (version : ℕ) (names : List (List ℕ)) → length (buckets_of version names) ≡ bucket_count (length names)
unfolding buckets_of
length-buckets version names = (all_held version names).size ∙ length-replicate (bucket_count (length names)) 0

pub length-tail_text : (version : ℕ) (names : List (List ℕ)) → length (tail_text version names) ≡ 4 + 4 * bucket_count (length names) + 4
length-tail_text version names =
    let buckets = buckets_of version names in
    let words = flat_map (little_bytes 4) buckets in
    let whole = length-append (little_bytes 4 (length buckets) ++ words) (little_bytes 4 (length names)) in
    omega (arith, whole, length-append (little_bytes 4 (length buckets)) words, length-words buckets, length-buckets version names)

pub length-names_text : (version : ℕ) (names : List (List ℕ)) → length (names_text version names) ≡ 12 + bytes_of names + 4 + 4 * bucket_count (length names) + 4
unfolding names_text
length-names_text version names =
    let tail = tail_text version names in
    omega (arith, length-append (head_text version (bytes_of names)) (0 ∷ (strings_of names ++ tail)), length-append (strings_of names) tail, length-tail_text version names, length-strings names)

-- a byte of the strings, with the NUL of the empty name
byte-strings : (version : ℕ) (names : List (List ℕ)) (k : ℕ) → 12 ≤ k → k < 12 + bytes_of names → get_or (names_text version names) k 0 ≡ get_or (0 ∷ strings_of names) (k - 12) 0
unfolding names_text
byte-strings version names k from to =
    get_or-append_right (head_text version (bytes_of names)) (0 ∷ (strings_of names ++ tail_text version names)) 12 k 0 refl from
    ∙ get_or_append_left (0 ∷ strings_of names) (tail_text version names) 0 (k - 12) (omega (arith, to, from, length-strings names))

pub byte-names_text : (version : ℕ) (xs ys : List (List ℕ)) (k : ℕ) → 12 ≤ k → k < 12 + bytes_of xs → get_or (names_text version xs) k 0 ≡ get_or (names_text version (xs ++ ys)) k 0
byte-names_text version xs ys k from to =
    let more = bytes_of-append xs ys in
    let some = length-strings ys in
    byte-strings version xs k from to
    ∙ sym (byte-strings version (xs ++ ys) k from (omega (arith, to, more, some)) ∙ ap (λ s. get_or (0 ∷ s) (k - 12) 0) (strings-append xs ys)
    ∙ get_or_append_left (0 ∷ strings_of xs) (strings_of ys) 0 (k - 12) (omega (arith, to, from, length-strings xs)))

-- ---- parts of the text

-- the header, the NUL of the empty name, and the strings stand before the tail
before_tail : (version : ℕ) (names : List (List ℕ)) → names_text version names ≡ (((head_text version (bytes_of names) ++ 0 ∷ []) ++ strings_of names) ++ tail_text version names)
unfolding names_text
before_tail version names = refl

length-before_tail : (version : ℕ) (names : List (List ℕ)) → length ((head_text version (bytes_of names) ++ 0 ∷ []) ++ strings_of names) ≡ 12 + bytes_of names
length-before_tail version names = omega (arith, length-append (head_text version (bytes_of names) ++ 0 ∷ []) (strings_of names), length-strings names)

pub rest_of_names_text : (version : ℕ) (names : List (List ℕ)) (at : ℕ) → at ≤ 12 + bytes_of names
    → drop at (names_text version names) ≡ drop at ((head_text version (bytes_of names) ++ 0 ∷ []) ++ strings_of names) ++ tail_text version names
rest_of_names_text version names at le =
    ap (drop at) (before_tail version names) ∙ drop-append-le at ((head_text version (bytes_of names) ++ 0 ∷ []) ++ strings_of names) (tail_text version names) (omega (arith, le, length-before_tail version names))

pub first_of_names_text : (version : ℕ) (names : List (List ℕ)) (count : ℕ) → count ≤ 12 + bytes_of names → take count (names_text version names) ≡ take count ((head_text version (bytes_of names) ++ 0 ∷ []) ++ strings_of names)
first_of_names_text version names count le =
    ap (take count) (before_tail version names) ∙ take-append-le count ((head_text version (bytes_of names) ++ 0 ∷ []) ++ strings_of names) (tail_text version names) (omega (arith, le, length-before_tail version names))

-- the text that is put piece by piece
pub text_is_put : (version : ℕ) (names : List (List ℕ)) (at : ℕ) (front strings buckets none one two three : List ℕ) → at ≤ 12 + bytes_of names → none ≡ [] → front ≡ head_text version (bytes_of names) ++ 0 ∷ [] → strings ≡ strings_of names
    → buckets ≡ buckets_of version names → one ≡ none ++ drop at (front ++ strings) → two ≡ one ++ buckets_text buckets → three ≡ two ++ little_bytes 4 (length names) → three ≡ drop at (names_text version names)
text_is_put version names at front strings buckets none one two three le empty front_is strings_is buckets_are is_one is_two is_three =
    is_three ∙ ap (λ s. s ++ little_bytes 4 (length names)) (is_two ∙ λ k. (is_one ∙ λ m. empty m ++ drop at (front_is m ++ strings_is m)) k ++ buckets_text (buckets_are k))
    ∙ append_assoc (drop at ((head_text version (bytes_of names) ++ 0 ∷ []) ++ strings_of names)) (buckets_text (buckets_of version names)) (little_bytes 4 (length names)) ∙ sym (rest_of_names_text version names at le)

pub first_is_put : (version : ℕ) (names : List (List ℕ)) (count : ℕ) (front strings none one : List ℕ) → count ≤ 12 + bytes_of names → none ≡ [] → front ≡ head_text version (bytes_of names) ++ 0 ∷ [] → strings ≡ strings_of names
    → one ≡ none ++ take count (front ++ strings) → one ≡ take count (names_text version names)
first_is_put version names count front strings none one le empty front_is strings_is is_one = is_one ∙ (λ k. empty k ++ take count (front_is k ++ strings_is k)) ∙ sym (first_of_names_text version names count le)

-- the first bytes of two runs, of which all of the first
take_both : (old mid new front back : List ℕ) (count : ℕ) → length front ≤ count → mid ≡ old ++ front → new ≡ mid ++ take (count - length front) back → new ≡ old ++ take count (front ++ back)
take_both old mid new front back count le is_mid is_new =
    is_new ∙ ap (λ s. s ++ take (count - length front) back) is_mid ∙ append_assoc old front (take (count - length front) back) ∙ ap (λ s. old ++ s) (sym (take-append-add front back (count - length front)) ∙ ap (λ n. take n (front ++ back)) (whole count le))
  where
    whole : (count : ℕ) → length front ≤ count → length front + (count - length front) ≡ count
    whole count le = omega (arith, le)

pub on_both : {E : Type 0} (result : Result (Unit {0}) E) (old mid new front back : List ℕ) (count : ℕ) → length front ≤ count → mid ≡ old ++ front → new ≡ cond (is_ok result) (mid ++ take (count - length front) back) mid → OnOk result (new ≡ old ++ take count (front ++ back))
on_both (Ok x) old mid new front back count le is_mid is_new = take_both old mid new front back count le is_mid is_new
on_both (Err e) old mid new front back count le is_mid is_new = tt
