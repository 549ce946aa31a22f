-- What is read lies behind the place that it is read from.
use Rattle.std.proofs.Common.{◌≡◌, ◌≤◌, ◌<◌, ◌+◌, ◌-◌, ℕ, Bool, true, false, suc, zero, cond, eqb, ltb, List, [], ◌∷◌, length, slice_index, drop, Option, Some, None, Result, Ok, Err, IfOk, refl, arith}
use Rattle.std.specs.Option.{option_map}
use Rattle.leaf_words.specs.declared.NumericFault.{NumericFault}
use Rattle.leaf_words.specs.declared.NumericFault.TheVariants.{Short, Unknown}
use Rattle.leaf_words.specs.Words.{numeric_end, tail_end, tail_size, text_size}
use Rattle.byteorder.specs.Endian.{little_number}
use Rattle.leaf_grammar.specs.declared.grammar.Width.TheVariants.{TwoBytes}
use Rattle.leaf_grammar.specs.declared.grammar.Form.{Form}
use Rattle.leaf_grammar.specs.declared.grammar.Form.TheVariants as form
use Rattle.leaf_grammar.specs.declared.grammar.Part.{Part}
use Rattle.leaf_grammar.specs.declared.grammar.Part.TheVariants.{Always, Where, Attributes}
use Rattle.leaf_grammar.specs.declared.grammar.Rows.{Rows}
use Rattle.leaf_grammar.specs.declared.grammar.Rows.TheVariants.{Members, Methods}
use Rattle.leaf_grammar.specs.declared.grammar.Cursor.{Cursor}
use Rattle.leaf_grammar.specs.declared.grammar.Malformed.{Malformed}
use Rattle.leaf_grammar.specs.Kinds.{method_parts, parts_of_member, u16, type_index, vtable_offset}
use Rattle.leaf_grammar.specs.Leaf.{◌>>=◌, bytes_on, behind_numeric, behind_text, form_end, elements_size, number_at, size_of, behind_form, cursor, past, says, parts_end, Row, row, member_row, pad_row, row_at, row_end, too_short, wrong_member}

-- what came first, where something came behind it
pub bind_ok : {A B : Type 0} (first : Result A Malformed) (f : A → Result B Malformed) (y : B) → (first >>= f) ≡ Ok y → (x : A) × (first ≡ Ok x) × (f x ≡ Ok y)
bind_ok (Ok x) f y h = (x, refl, h)
bind_ok (Err bad) f y h = absurd (cc)

-- a choice that is Ok, where the first choice is not
pub else_ok : {A E : Type 0} (b : Bool) (bad : E) (x : Result A E) (y : A) → cond b (Err bad) x ≡ Ok y → x ≡ Ok y
else_ok true bad x y h = absurd (cc)
else_ok false bad x y h = h

pub else_is : {A E : Type 0} (b : Bool) (bad : E) (x y : A) → cond b (Err bad) (Ok x) ≡ Ok y → x ≡ y
else_is true bad x y h = absurd (cc)
else_is false bad x y h = cc

pub bytes_on-is : (n : ℕ) (r : List ℕ) (at end : ℕ) → bytes_on n r at ≡ Ok end → at + n ≡ end
bytes_on-is n r at end h = else_is (ltb (length r) (at + n)) (too_short at) (at + n) end h

tail_on : (r : List ℕ) (at end : ℕ) (size : Option ℕ) → tail_end r at size ≡ Ok end → at ≤ end
tail_on r at end None h = absurd (cc)
tail_on r at end (Some n) h = omega (arith, else_is (ltb (length r) (at + n)) Short (at + n) end h)

numeric_on : (r : List ℕ) (at end : ℕ) → numeric_end r at ≡ Ok end → at ≤ end
numeric_on r at end h =
    let e = tail_on r (at + 2) end (tail_size (little_number 2 (drop at r))) (else_ok (ltb (length r) (at + 2)) Short _ end h) in omega arith

pub behind_numeric_on : (r : List ℕ) (at end : ℕ) (n : Result ℕ NumericFault) → behind_numeric r at n ≡ Ok end → n ≡ Ok end
behind_numeric_on r at end (Ok x) h = cc
behind_numeric_on r at end (Err Short) h = absurd (cc)
behind_numeric_on r at end (Err Unknown) h = absurd (cc)

text_on : (at end : ℕ) (size : Option ℕ) → behind_text at (option_map (λ n. at + n + 1) size) ≡ Ok end → at ≤ end
text_on at end None h = absurd (cc)
text_on at end (Some n) h = let e : at + n + 1 ≡ end = cc in omega arith

pub form_on : (f : Form) (r : List ℕ) (at end : ℕ) → form_end f r at ≡ Ok end → at ≤ end
unfolding form_end
form_on (form.Index space) r at end h = omega (arith, bytes_on-is 4 r at end h)
form_on (form.Number size) r at end h = omega (arith, bytes_on-is size r at end h)
form_on form.Numeric r at end h = numeric_on r at end (behind_numeric_on r at end (numeric_end r at) h)
form_on form.Text r at end h = text_on at end (text_size (drop at r)) h
form_on (form.List width element) r at end h =
    let b = bind_ok (bytes_on (size_of width) r at) (bytes_on (elements_size element (number_at width r at)) r) end h in
    omega (arith, bytes_on-is (size_of width) r at b.0 b.1, bytes_on-is (elements_size element (number_at width r at)) r b.0 end b.2)

behind_form_on : (f : Form) (r : List ℕ) (c d : Cursor) → behind_form c (form_end f r c.at) ≡ Ok d → c.at ≤ d.at
behind_form_on f r c d h =
    let b = bind_ok (form_end f r c.at) (λ at. Ok (cursor at c.attributes)) d h in
    let e : b.0 ≡ d.at = cc in
    omega (arith, form_on f r c.at b.0 b.1)

where_on : (b : Bool) (f : Form) (r : List ℕ) (c d : Cursor) → cond b (behind_form c (form_end f r c.at)) (Ok c) ≡ Ok d → c.at ≤ d.at
where_on true f r c d h = behind_form_on f r c d h
where_on false f r c d h = let e : c.at ≡ d.at = cc in omega arith

pub past_on : (part : Part) (r : List ℕ) (c d : Cursor) → past part r c ≡ Ok d → c.at ≤ d.at
unfolding past
past_on (Always f) r c d h = behind_form_on f r c d h
past_on (Where condition f) r c d h = where_on (says condition c.attributes) f r c d h
past_on (Attributes width) r c d h =
    let b = bind_ok (bytes_on (size_of width) r c.at) (λ at. Ok (cursor at (number_at width r c.at))) d h in
    let e : b.0 ≡ d.at = cc in
    omega (arith, bytes_on-is (size_of width) r c.at b.0 b.1)

pub parts_on : (parts : List Part) (r : List ℕ) (c : Cursor) (end : ℕ) → parts_end parts r c ≡ Ok end → c.at ≤ end
parts_on [] r c end h = let e : c.at ≡ end = cc in omega arith
parts_on (part ∷ parts) r c end h =
    let b = bind_ok (past part r c) (parts_end parts r) end h in
    omega (arith, past_on part r c b.0 b.1, parts_on parts r b.0 end b.2)

-- a method begins with two bytes
method_further : (r : List ℕ) (at end : ℕ) → parts_end method_parts r (cursor at 0) ≡ Ok end → at < end
unfolding method_parts past
method_further r at end h =
    let b = bind_ok (bytes_on 2 r at >>= λ from. Ok (cursor from (number_at TwoBytes r at))) (parts_end (u16 ∷ type_index ∷ vtable_offset ∷ []) r) end h in
    let a = bind_ok (bytes_on 2 r at) (λ from. Ok (cursor from (number_at TwoBytes r at))) b.0 b.1 in
    let e : a.0 ≡ b.0.at = cc in
    omega (arith, bytes_on-is 2 r at a.0 a.1, parts_on (u16 ∷ type_index ∷ vtable_offset ∷ []) r b.0 end b.2)

member_further : (r : List ℕ) (at : ℕ) (parts : Option (List Part)) (got : Row) → member_row parts at ≡ Ok got → at < got.at
member_further r at None got h = absurd (cc)
member_further r at (Some parts) got h = let e : at + 2 ≡ got.at = cc in omega arith

pad_further : (r : List ℕ) (at n : ℕ) (got : Row) → pad_row r at n ≡ Ok got → at < got.at
pad_further r at zero got h = absurd (cc)
pad_further r at (suc n) got h =
    let f : ℕ → Result Row Malformed = λ end. Ok (row [] end) in
    let b = bind_ok (bytes_on (suc n) r at) f got (else_ok (eqb (suc n) 0) (wrong_member at) (bytes_on (suc n) r at >>= f) got h) in
    let e : b.0 ≡ got.at = cc in
    omega (arith, bytes_on-is (suc n) r at b.0 b.1)

either_further : (b : Bool) (r : List ℕ) (at n : ℕ) (got : Row) → cond b (bytes_on 2 r at >>= λ end. member_row (parts_of_member (number_at TwoBytes r at)) at) (pad_row r at n) ≡ Ok got → at < got.at
either_further true r at n got h =
    let b = bind_ok (bytes_on 2 r at) (λ end. member_row (parts_of_member (number_at TwoBytes r at)) at) got h in
    member_further r at (parts_of_member (number_at TwoBytes r at)) got b.2
either_further false r at n got h = pad_further r at n got h

-- the parts of a member stand behind its place
pub members_at_further : (r : List ℕ) (at : ℕ) (got : Row) → row_at Members r at ≡ Ok got → at < got.at
unfolding row_at
members_at_further r at got h = either_further (ltb (slice_index r at) 0xF0) r at (slice_index r at - 0xF0) got h

-- the parts of a row stand at its place or behind it
pub row_at_on : (rows : Rows) (r : List ℕ) (at : ℕ) (got : Row) → row_at rows r at ≡ Ok got → at ≤ got.at
unfolding row_at
row_at_on Methods r at got h = let e : at ≡ got.at = cc in omega arith
row_at_on Members r at got h = omega (arith, members_at_further r at got h)

-- a row has at least one byte
pub row_further : (rows : Rows) (r : List ℕ) (at end : ℕ) → row_end rows r at ≡ Ok end → at < end
unfolding row_at
row_further Methods r at end h = method_further r at end h
row_further Members r at end h =
    let b = bind_ok (row_at Members r at) (λ got. parts_end got.parts r (cursor got.at 0)) end h in
    omega (arith, either_further (ltb (slice_index r at) 0xF0) r at (slice_index r at - 0xF0) b.0 b.1, parts_on b.0.parts r (cursor b.0.at 0) end b.2)

pub if_ok : {A E : Type 0} (r : Result A E) (P : A → Type 0) → ((x : A) → r ≡ Ok x → P x) → IfOk r P
if_ok (Ok x) P f = f x refl
if_ok (Err e) P f = tt
