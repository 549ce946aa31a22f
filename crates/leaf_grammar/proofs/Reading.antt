-- What is spelled so is read.
use Rattle.std.proofs.Common.{◌≡◌, ◌≢◌, ◌≤◌, ◌<◌, ◌+◌, ◌-◌, ℕ, zero, suc, Bool, true, false, cond, eqb, ltb, lt-ltb, le-ltb, List, [], ◌∷◌, ◌++◌, length, drop, get_or, Some, None, Result, Ok, Err, refl, ap, sym, subst, ◌∙◌, inl, inr, arith, append_assoc, length-append, length-drop}
use Rattle.std.specs.Prelude.{MatchBool}
use Rattle.std.specs.List.{position_or_len}
use Rattle.std.specs.Option.{option_map}
use Rattle.std.proofs.lemmas.List.{append_cancel_left, get_or_append_left, get_or_at}
use Rattle.std.proofs.lemmas.List.Sums.{position_or_len_is}
use Rattle.byteorder.specs.Endian.{little_number}
use Rattle.leaf_words.specs.declared.NumericFault.TheVariants.{Short}
use Rattle.leaf_words.specs.Words.{numeric_end, tail_end, tail_size, text_size}
use Rattle.leaf_grammar.specs.declared.grammar.Width.{Width}
use Rattle.leaf_grammar.specs.declared.grammar.Width.TheVariants.{TwoBytes}
use Rattle.leaf_grammar.specs.declared.grammar.Element.{Element}
use Rattle.leaf_grammar.specs.declared.grammar.Form.{Form}
use Rattle.leaf_grammar.specs.declared.grammar.Form.TheVariants as form
use Rattle.leaf_grammar.specs.declared.grammar.Part.{Part}
use Rattle.leaf_grammar.specs.declared.grammar.Part.TheVariants.{Always, Where, Attributes}
use Rattle.leaf_grammar.specs.declared.grammar.Rows.{Rows}
use Rattle.leaf_grammar.specs.declared.grammar.Rows.TheVariants.{Members, Methods}
use Rattle.leaf_grammar.specs.declared.grammar.Malformed.{Malformed}
use Rattle.leaf_grammar.specs.Kinds.{method_parts, parts_of_member}
use Rattle.leaf_grammar.specs.Leaf.{◌>>=◌, bytes_on, behind_numeric, behind_text, behind_form, form_end, elements_size, number_at, size_of, cursor, past, says, parts_end, Row, row, member_row, pad_row, row_at, row_end, rows_end, wrong_member}
use Rattle.leaf_grammar.specs.Spelled.{AreRows, SpellsNumeric, SpellsText, SpellsList, SpellsForm, SpellsPart, SpellsParts, SpellsMember, SpellsPad, SpellsRow, attributes_behind}
use Rattle.leaf_grammar.proofs.Further.{row_further}
use Rattle.leaf_grammar.proofs.Standing.{Stands, eqb_apart, else_case, then_case, stands_from, stands_front, stands_back, number_there, byte_there, bytes_whole}

-- what comes behind an Ok
pub then_ok : {A B : Type 0} (first : Result A Malformed) (x : A) (f : A → Result B Malformed) → first ≡ Ok x → (first >>= f) ≡ f x
then_ok first x f e = ap (λ z. z >>= f) e

-- bytes that stand and are two
pub stands_as : (r : List ℕ) (at : ℕ) (x y : List ℕ) → x ≡ y → Stands r at x → Stands r at y
stands_as r at x y e s = subst (Stands r at) e s

further_on : (r : List ℕ) (at : ℕ) (x head tail : List ℕ) → x ≡ head ++ tail → at + length head + length tail ≡ at + length x
further_on r at x head tail e = let long : length x ≡ length head + length tail = ap length e ∙ length-append head tail in omega arith

numeric_whole : (r : List ℕ) (at : ℕ) (x : List ℕ) → SpellsNumeric x → Stands r at x → numeric_end r at ≡ Ok (at + length x)
numeric_whole r at x n s =
    let two = stands_as r at x (n.head ++ n.tail) n.whole s in
    let head = stands_front r at n.head n.tail two in
    let tail = stands_back r at n.head n.tail two in
    let room : at + 2 ≤ length r = omega (arith, head.room, n.head_len) in
    let value : little_number 2 (drop at r) ≡ little_number 2 n.head = number_there 2 r at n.head (omega (arith, n.head_len)) head in
    let long : at + 2 + length n.tail ≤ length r = omega (arith, tail.room, n.head_len) in
    let end : at + 2 + length n.tail ≡ at + length x = omega (arith, further_on r at x n.head n.tail n.whole, n.head_len) in
    else_case (ltb (length r) (at + 2)) (Err Short) (tail_end r (at + 2) (tail_size (little_number 2 (drop at r)))) (le-ltb (length r) (at + 2) room)
    ∙ ap (λ v. tail_end r (at + 2) (tail_size v)) value
    ∙ ap (tail_end r (at + 2)) n.tail_len
    ∙ else_case (ltb (length r) (at + 2 + length n.tail)) (Err Short) (Ok (at + 2 + length n.tail)) (le-ltb (length r) (at + 2 + length n.tail) long)
    ∙ ap Ok end

first_nul : (text rest : List ℕ) → ((k : ℕ) → k < length text → get_or text k 0 ≢ 0) → text_size (text ++ 0 ∷ rest) ≡ Some (length text)
first_nul text rest none =
    let long : length (text ++ 0 ∷ rest) ≡ length text + suc (length rest) = length-append text (0 ∷ rest) in
    let at : position_or_len (λ byte. eqb byte 0) (text ++ 0 ∷ rest) ≡ length text =
    position_or_len_is (λ byte. eqb byte 0) (text ++ 0 ∷ rest) (length text) 0 (omega arith)
    (λ k h. eqb_apart (get_or (text ++ 0 ∷ rest) k 0) 0 (λ z. none k h (sym (get_or_append_left text (0 ∷ rest) 0 k h) ∙ z)))
    (λ _. ap (λ b. eqb b 0) (get_or_at text 0 rest 0 (length text) refl)) in
    let within : position_or_len (λ byte. eqb byte 0) (text ++ 0 ∷ rest) < length (text ++ 0 ∷ rest) = omega arith in
    then_case (ltb (position_or_len (λ byte. eqb byte 0) (text ++ 0 ∷ rest)) (length (text ++ 0 ∷ rest))) (Some (position_or_len (λ byte. eqb byte 0) (text ++ 0 ∷ rest))) None (lt-ltb _ _ within)
    ∙ ap Some at

text_whole : (r : List ℕ) (at : ℕ) (x : List ℕ) → SpellsText x → Stands r at x → behind_text at (option_map (λ n. at + n + 1) (text_size (drop at r))) ≡ Ok (at + length x)
text_whole r at x t s =
    let there : drop at r ≡ t.text ++ 0 ∷ drop (at + length x) r = s.there ∙ ap (λ z. z ++ drop (at + length x) r) t.whole ∙ append_assoc t.text (0 ∷ []) (drop (at + length x) r) in
    let size : text_size (drop at r) ≡ Some (length t.text) = ap text_size there ∙ first_nul t.text (drop (at + length x) r) t.no_nul in
    let long : length x ≡ length t.text + 1 = ap length t.whole ∙ length-append t.text (0 ∷ []) in
    let end : at + length t.text + 1 ≡ at + length x = omega arith in
    ap (λ z. behind_text at (option_map (λ n. at + n + 1) z)) size ∙ ap Ok end

list_whole : (width : Width) (element : Element) (r : List ℕ) (at : ℕ) (x : List ℕ) → SpellsList width element x → Stands r at x →
    (bytes_on (size_of width) r at >>= bytes_on (elements_size element (number_at width r at)) r) ≡ Ok (at + length x)
list_whole width element r at x l s =
    let n = size_of width in
    let two = stands_as r at x (l.count ++ l.elements) l.whole s in
    let count = stands_front r at l.count l.elements two in
    let value : number_at width r at ≡ little_number n l.count = number_there n r at l.count (omega (arith, l.count_len)) count in
    let long : length l.elements ≡ elements_size element (number_at width r at) = l.elements_len ∙ ap (elements_size element) (sym value) in
    then_ok (bytes_on n r at) (at + length l.count) (bytes_on (elements_size element (number_at width r at)) r) (bytes_whole n r at l.count l.count_len count)
    ∙ bytes_whole (elements_size element (number_at width r at)) r (at + length l.count) l.elements long (stands_back r at l.count l.elements two)
    ∙ ap Ok (further_on r at x l.count l.elements l.whole)

pub form_whole : (f : Form) (r : List ℕ) (at : ℕ) (x : List ℕ) → SpellsForm f x → Stands r at x → form_end f r at ≡ Ok (at + length x)
unfolding form_end
form_whole (form.Index space) r at x p s = bytes_whole 4 r at x p s
form_whole (form.Number size) r at x p s = bytes_whole size r at x p s
form_whole form.Numeric r at x p s = ap (behind_numeric r at) (numeric_whole r at x p s)
form_whole form.Text r at x p s = text_whole r at x p s
form_whole (form.List width element) r at x p s = list_whole width element r at x p s

always_whole : (f : Form) (r : List ℕ) (at attributes : ℕ) (x : List ℕ) → SpellsForm f x → Stands r at x → behind_form (cursor at attributes) (form_end f r at) ≡ Ok (cursor (at + length x) attributes)
always_whole f r at attributes x p s = ap (behind_form (cursor at attributes)) (form_whole f r at x p s)

where_whole : (b : Bool) (f : Form) (r : List ℕ) (at attributes : ℕ) (x : List ℕ) → MatchBool b (SpellsForm f x) (x ≡ []) → Stands r at x →
    cond b (behind_form (cursor at attributes) (form_end f r at)) (Ok (cursor at attributes)) ≡ Ok (cursor (at + length x) attributes)
where_whole true f r at attributes x p s = always_whole f r at attributes x p s
where_whole false f r at attributes x p s = let none : at ≡ at + length x = omega (arith, ap length p) in ap (λ a. Ok (cursor a attributes)) none

pub part_whole : (part : Part) (r : List ℕ) (at attributes : ℕ) (x : List ℕ) → SpellsPart part attributes x → Stands r at x → past part r (cursor at attributes) ≡ Ok (cursor (at + length x) (attributes_behind part x attributes))
unfolding past
part_whole (Always f) r at attributes x p s = always_whole f r at attributes x p s
part_whole (Where condition f) r at attributes x p s = where_whole (says condition attributes) f r at attributes x p s
part_whole (Attributes width) r at attributes x p s =
    let n = size_of width in
    then_ok (bytes_on n r at) (at + length x) (λ end. Ok (cursor end (number_at width r at))) (bytes_whole n r at x p s)
    ∙ ap (λ value. Ok (cursor (at + length x) value)) (number_there n r at x (omega (arith, p)) s)

pub parts_whole : (parts : List Part) (r : List ℕ) (at attributes : ℕ) (x : List ℕ) → SpellsParts parts attributes x → Stands r at x → parts_end parts r (cursor at attributes) ≡ Ok (at + length x)
parts_whole [] r at attributes x p s = let none : at ≡ at + length x = omega (arith, ap length p) in ap Ok none
parts_whole (part ∷ parts) r at attributes x p s =
    let two = stands_as r at x (p.0 ++ p.1) p.2 s in
    then_ok (past part r (cursor at attributes)) (cursor (at + length p.0) (attributes_behind part p.0 attributes)) (parts_end parts r) (part_whole part r at attributes p.0 p.3 (stands_front r at p.0 p.1 two))
    ∙ parts_whole parts r (at + length p.0) (attributes_behind part p.0 attributes) p.1 p.4 (stands_back r at p.0 p.1 two)
    ∙ ap Ok (further_on r at x p.0 p.1 p.2)

-- the rest of a row
abbrev pub Parts : List ℕ → Row → Result ℕ Malformed
Parts r got = parts_end got.parts r (cursor got.at 0)

member_whole : (r : List ℕ) (at : ℕ) (x : List ℕ) → SpellsMember x → Stands r at x → row_end Members r at ≡ Ok (at + length x)
unfolding row_at
member_whole r at x m s =
    let two = stands_as r at x (m.kind ++ m.content) m.whole s in
    let kind = stands_front r at m.kind m.content two in
    let content = stands_back r at m.kind m.content two in
    let found = parts_of_member (number_at TwoBytes r at) in
    let value : number_at TwoBytes r at ≡ little_number 2 m.kind = number_there 2 r at m.kind (omega (arith, m.kind_len)) kind in
    let known : found ≡ Some m.parts = ap parts_of_member value ∙ m.known in
    let low : get_or r at 0 < 0xF0 = omega (arith, byte_there r at m.kind (omega (arith, m.kind_len)) kind, m.no_pad) in
    let member : Result Row Malformed = bytes_on 2 r at >>= λ mid. member_row found at in
    let behind : at + 2 ≡ at + length m.kind = omega (arith, m.kind_len) in
    ap (λ z. z >>= Parts r) (then_case (ltb (get_or r at 0) 0xF0) member (pad_row r at (get_or r at 0 - 0xF0)) (lt-ltb (get_or r at 0) 0xF0 low)
    ∙ then_ok (bytes_on 2 r at) (at + length m.kind) (λ mid. member_row found at) (bytes_whole 2 r at m.kind m.kind_len kind)
    ∙ ap (λ parts. member_row parts at) known)
    ∙ ap (λ a. parts_end m.parts r (cursor a 0)) behind
    ∙ parts_whole m.parts r (at + length m.kind) 0 m.content m.content_is content
    ∙ ap Ok (further_on r at x m.kind m.content m.whole)

pad_long : (r : List ℕ) (at n : ℕ) → 0 < n → pad_row r at n ≡ (bytes_on n r at >>= λ end. Ok (row [] end))
pad_long r at n h = else_case (eqb n 0) (Err (wrong_member at)) (bytes_on n r at >>= λ end. Ok (row [] end)) (eqb_apart n 0 (λ z. absurd (omega arith)))

pad_whole : (r : List ℕ) (at : ℕ) (x : List ℕ) → SpellsPad x → Stands r at x → row_end Members r at ≡ Ok (at + length x)
unfolding row_at
pad_whole r at x p s =
    let byte : get_or r at 0 ≡ 0xF0 + length x = byte_there r at x p.0 s ∙ p.1 in
    let high : 0xF0 ≤ get_or r at 0 = omega arith in
    let n : get_or r at 0 - 0xF0 ≡ length x = omega arith in
    let member : Result Row Malformed = bytes_on 2 r at >>= λ mid. member_row (parts_of_member (number_at TwoBytes r at)) at in
    ap (λ z. z >>= Parts r) (else_case (ltb (get_or r at 0) 0xF0) member (pad_row r at (get_or r at 0 - 0xF0)) (le-ltb (get_or r at 0) 0xF0 high)
    ∙ ap (pad_row r at) n
    ∙ pad_long r at (length x) p.0
    ∙ then_ok (bytes_on (length x) r at) (at + length x) (λ end. Ok (row [] end)) (bytes_whole (length x) r at x refl s))

pub row_whole : (rows : Rows) (r : List ℕ) (at : ℕ) (x : List ℕ) → SpellsRow rows x → Stands r at x → row_end rows r at ≡ Ok (at + length x)
unfolding row_at
row_whole Methods r at x p s = parts_whole method_parts r at 0 x p s
row_whole Members r at x p s = elim p [ inl m ↦ member_whole r at x m s | inr q ↦ pad_whole r at x q s ]

left_over : (r : List ℕ) (at : ℕ) (x rest : List ℕ) → at ≤ length r → drop at r ≡ x ++ rest → rest ≡ drop (at + length x) r
left_over r at x rest h e = append_cancel_left x rest (drop (at + length x) r) (sym e ∙ (stands_from r at x rest h e).there)

pub rows_whole : (rows : Rows) (list : List (List ℕ)) (n : ℕ) (r : List ℕ) (at : ℕ) → at ≤ length r → length r ≤ at + n → AreRows rows list (drop at r) → rows_end rows n r at ≡ Ok (length r)
rows_whole rows [] n r at h few are = none n where
  over : at ≡ length r
  over = let e : length r - at ≡ 0 = sym (length-drop at r) ∙ ap length are in omega arith

  none : (n : ℕ) → rows_end rows n r at ≡ Ok (length r)
  none zero = ap Ok over
  none (suc n) = else_case (ltb at (length r)) (row_end rows r at >>= rows_end rows n r) (Ok at) (le-ltb at (length r) (omega (arith, over))) ∙ ap Ok over
rows_whole rows (row ∷ list) zero r at h few are =
    let s = stands_from r at row are.0 h are.1 in
    let further = row_further rows r at (at + length row) (row_whole rows r at row are.2 s) in
    absurd (omega (arith, further, s.room))
rows_whole rows (row ∷ list) (suc n) r at h few are =
    let s = stands_from r at row are.0 h are.1 in
    let here = row_whole rows r at row are.2 s in
    let further = row_further rows r at (at + length row) here in
    let inside : at < length r = omega (arith, further, s.room) in
    then_case (ltb at (length r)) (row_end rows r at >>= rows_end rows n r) (Ok at) (lt-ltb at (length r) inside)
    ∙ then_ok (row_end rows r at) (at + length row) (rows_end rows n r) here
    ∙ rows_whole rows list n r (at + length row) s.room (omega (arith, further)) (subst (AreRows rows list) (left_over r at row are.0 h are.1) are.3)
