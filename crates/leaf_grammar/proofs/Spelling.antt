-- What is read is spelled so.
use Rattle.std.proofs.Common.{◌≡◌, ◌≤◌, ◌<◌, ◌+◌, ◌-◌, ℕ, zero, suc, Bool, true, false, cond, eqb, eqb-true, ltb, List, [], ◌∷◌, ◌++◌, length, drop, take, get_or, Option, Some, None, Result, Ok, Err, refl, ap, sym, subst, ◌∙◌, inl, inr, arith, length-append, length-drop}
use Rattle.std.specs.Prelude.{MatchBool}
use Rattle.std.specs.Option.{option_map}
use Rattle.std.proofs.lemmas.Bool.{ltb-true, ltb-false, true≢false}
use Rattle.std.proofs.lemmas.List.{drop_all, take_more, get_or-take, length-take-le, take-append-drop}
use Rattle.std.proofs.lemmas.List.Quantifiers.{position-Some}
use Rattle.byteorder.specs.Endian.{little_number}
use Rattle.leaf_words.specs.declared.NumericFault.{NumericFault}
use Rattle.leaf_words.specs.declared.NumericFault.TheVariants.{Short}
use Rattle.leaf_words.specs.Words.{numeric_end, tail_end, tail_size, text_size}
use Rattle.leaf_grammar.specs.declared.grammar.Width.{Width}
use Rattle.leaf_grammar.specs.declared.grammar.Width.TheVariants.{TwoBytes}
use Rattle.leaf_grammar.specs.declared.grammar.Element.{Element}
use Rattle.leaf_grammar.specs.declared.grammar.Form.{Form}
use Rattle.leaf_grammar.specs.declared.grammar.Form.TheVariants as form
use Rattle.leaf_grammar.specs.declared.grammar.Part.{Part}
use Rattle.leaf_grammar.specs.declared.grammar.Part.TheVariants.{Always, Where, Attributes}
use Rattle.leaf_grammar.specs.declared.grammar.Rows.{Rows}
use Rattle.leaf_grammar.specs.declared.grammar.Rows.TheVariants.{Members, Methods}
use Rattle.leaf_grammar.specs.declared.grammar.Cursor.{Cursor}
use Rattle.leaf_grammar.specs.declared.grammar.Malformed.{Malformed}
use Rattle.leaf_grammar.specs.Kinds.{method_parts, parts_of_member}
use Rattle.leaf_grammar.specs.Leaf.{◌>>=◌, bytes_on, behind_text, behind_form, form_end, elements_size, number_at, size_of, cursor, past, says, parts_end, Row, row, member_row, pad_row, row_at, row_end, rows_end, wrong_member}
use Rattle.leaf_grammar.specs.Spelled.{AreRows, SpellsNumeric, SpellsText, SpellsList, SpellsForm, SpellsPart, SpellsParts, SpellsRow, attributes_behind}
use Rattle.leaf_grammar.proofs.Further.{bind_ok, else_ok, else_is, behind_numeric_on, row_further}
use Rattle.leaf_grammar.proofs.Standing.{Piece, stands_take, stands_from, joined, number_there, byte_there, bytes_piece}

numeric_piece : (r : List ℕ) (at end : ℕ) → numeric_end r at ≡ Ok end → Piece r at end SpellsNumeric
numeric_piece r at end e =
    let room : ltb (length r) (at + 2) ≡ false = head_fits (ltb (length r) (at + 2)) (tail_end r (at + 2) (tail_size (little_number 2 (drop at r)))) e in
    let long : at + 2 ≤ length r = ltb-false (length r) (at + 2) room in
    let tail = tail_piece (tail_size (little_number 2 (drop at r))) (else_ok (ltb (length r) (at + 2)) Short _ end e) refl in
    joined r at (at + 2) end (λ x. (length x ≡ 2) × (little_number 2 (drop at r) ≡ little_number 2 x)) (λ y. tail_size (little_number 2 (drop at r)) ≡ Some (length y)) SpellsNumeric (head_piece long) tail
    (λ x y h t. record { head = x; tail = y; whole = refl; head_len = h.0; tail_len = ap tail_size (sym h.1) ∙ t })
  where
    head_fits : (b : Bool) (x : Result ℕ NumericFault) → cond b (Err Short) x ≡ Ok end → b ≡ false
    head_fits true x e = absurd (cc)
    head_fits false x e = refl

    head_piece : at + 2 ≤ length r → Piece r at (at + 2) (λ x. (length x ≡ 2) × (little_number 2 (drop at r) ≡ little_number 2 x))
    head_piece long =
        let two : length (take 2 (drop at r)) ≡ 2 = length-take-le 2 (drop at r) (rw (length-drop at r) (omega arith)) in
        let stands = stands_take r at 2 long in
        record { bytes = take 2 (drop at r); stands = stands; ends = omega arith; is = (two, number_there 2 r at (take 2 (drop at r)) (omega arith) stands) }

    tail_piece : (size : Option ℕ) → tail_end r (at + 2) size ≡ Ok end → tail_size (little_number 2 (drop at r)) ≡ size → Piece r (at + 2) end (λ y. tail_size (little_number 2 (drop at r)) ≡ Some (length y))
    tail_piece None e s = absurd (cc)
    tail_piece (Some n) e s =
        let fits : ltb (length r) (at + 2 + n) ≡ false = head_fits (ltb (length r) (at + 2 + n)) (Ok (at + 2 + n)) e in
        let long : at + 2 + n ≤ length r = ltb-false (length r) (at + 2 + n) fits in
        let is_n : length (take n (drop (at + 2) r)) ≡ n = length-take-le n (drop (at + 2) r) (rw (length-drop (at + 2) r) (omega arith)) in
        record {
          bytes = take n (drop (at + 2) r);
          stands = stands_take r (at + 2) n long;
          ends = omega (arith, else_is (ltb (length r) (at + 2 + n)) Short (at + 2 + n) end e, is_n);
          is = s ∙ ap Some (sym is_n);
        }

-- bytes before the first NUL, and it
cut_text : (bytes : List ℕ) (n : ℕ) → text_size bytes ≡ Some n → (bytes ≡ (take n bytes ++ 0 ∷ []) ++ drop (n + 1) bytes) × SpellsText (take n bytes ++ 0 ∷ []) × (length (take n bytes ++ 0 ∷ []) ≡ n + 1)
cut_text bytes n e =
    let found = position-Some (λ byte. eqb byte 0) bytes n 0 e in
    let last : get_or bytes n 0 ≡ 0 = eqb-true (get_or bytes n 0) 0 found.1 in
    let whole : take n bytes ++ 0 ∷ [] ≡ take (n + 1) bytes = ap (λ b. take n bytes ++ b ∷ []) (sym last) ∙ sym (take_more bytes n 0 found.0) in
    let text_len : length (take n bytes) ≡ n = length-take-le n bytes (omega (arith, found.0)) in (
      sym (take-append-drop (n + 1) bytes) ∙ ap (λ x. x ++ drop (n + 1) bytes) (sym whole),
      record { text = take n bytes; whole = refl; no_nul = λ k h z. not_zero k (omega (arith, h, text_len)) (found.2 k (omega (arith, h, text_len))) z },
      length-append (take n bytes) (0 ∷ []) ∙ ap (λ m. m + 1) text_len,
    )
  where
    not_zero : (k : ℕ) → k < n → eqb (get_or bytes k 0) 0 ≡ false → get_or (take n bytes) k 0 ≡ 0 → ⊥
    not_zero k h f z =
        let is : get_or bytes k 0 ≡ 0 = sym (get_or-take n bytes k 0 h) ∙ z in
        absurd (true≢false (ap (λ b. eqb b 0) (sym is) ∙ f))

text_piece : (r : List ℕ) (at end : ℕ) → at ≤ length r → (size : Option ℕ) → text_size (drop at r) ≡ size → behind_text at (option_map (λ n. at + n + 1) size) ≡ Ok end → Piece r at end SpellsText
text_piece r at end h None s e = absurd (cc)
text_piece r at end h (Some n) s e =
    let cut = cut_text (drop at r) n s in
    let end_is : at + n + 1 ≡ end = cc in
    record {
      bytes = take n (drop at r) ++ 0 ∷ [];
      stands = stands_from r at (take n (drop at r) ++ 0 ∷ []) (drop (n + 1) (drop at r)) h cut.0;
      ends = omega (arith, cut.2);
      is = cut.1;
    }

list_piece : (width : Width) (element : Element) (r : List ℕ) (at end : ℕ) → (bytes_on (size_of width) r at >>= bytes_on (elements_size element (number_at width r at)) r) ≡ Ok end → Piece r at end (SpellsList width element)
list_piece width element r at end e =
    let n = size_of width in
    let b = bind_ok (bytes_on n r at) (bytes_on (elements_size element (number_at width r at)) r) end e in
    let count = bytes_piece n r at b.0 b.1 in
    let same : number_at width r at ≡ little_number n count.bytes = number_there n r at count.bytes (omega (arith, count.is)) count.stands in
    let Counted : List ℕ → Type 0 = λ x. (length x ≡ n) × (number_at width r at ≡ little_number n x) in
    joined r at b.0 end Counted (λ y. length y ≡ elements_size element (number_at width r at)) (SpellsList width element)
    (record { bytes = count.bytes; stands = count.stands; ends = count.ends; is = (count.is, same) })
    (bytes_piece (elements_size element (number_at width r at)) r b.0 end b.2)
    (λ x y h t. record { count = x; elements = y; whole = refl; count_len = h.0; elements_len = t ∙ ap (elements_size element) h.1 })

pub form_piece : (f : Form) (r : List ℕ) (at end : ℕ) → at ≤ length r → form_end f r at ≡ Ok end → Piece r at end (SpellsForm f)
unfolding form_end
form_piece (form.Index space) r at end h e = bytes_piece 4 r at end e
form_piece (form.Number size) r at end h e = bytes_piece size r at end e
form_piece form.Numeric r at end h e = numeric_piece r at end (behind_numeric_on r at end (numeric_end r at) e)
form_piece form.Text r at end h e = text_piece r at end h (text_size (drop at r)) refl e
form_piece (form.List width element) r at end h e = list_piece width element r at end e

-- a part with the attributes behind it
abbrev pub Leads : Part → ℕ → ℕ → List ℕ → Type 0
Leads part before after x = SpellsPart part before x × (attributes_behind part x before ≡ after)

always_piece : (f : Form) (r : List ℕ) (c d : Cursor) → c.at ≤ length r → behind_form c (form_end f r c.at) ≡ Ok d → Piece r c.at d.at (SpellsForm f) × (c.attributes ≡ d.attributes)
always_piece f r c d h e =
    let b = bind_ok (form_end f r c.at) (λ at. Ok (cursor at c.attributes)) d e in
    let at_is : b.0 ≡ d.at = cc in
    let same : c.attributes ≡ d.attributes = cc in
    let Here : ℕ → Type 0 = λ end. Piece r c.at end (SpellsForm f) in
    (subst Here at_is (form_piece f r c.at b.0 h b.1), same)

where_piece : (b : Bool) (f : Form) (r : List ℕ) (c d : Cursor) → c.at ≤ length r → cond b (behind_form c (form_end f r c.at)) (Ok c) ≡ Ok d → Piece r c.at d.at (λ x. MatchBool b (SpellsForm f x) (x ≡ []) × (c.attributes ≡ d.attributes))
where_piece true f r c d h e =
    let p = always_piece f r c d h e in
    record { bytes = p.0.bytes; stands = p.0.stands; ends = p.0.ends; is = (p.0.is, p.1) }
where_piece false f r c d h e =
    let same : c ≡ d = cc in
    record {
      bytes = [];
      stands = stands_from r c.at [] (drop c.at r) h refl;
      ends = omega (arith, ap (λ (x : Cursor). x.at) same);
      is = (refl, ap (λ (x : Cursor). x.attributes) same);
    }

pub part_piece : (part : Part) (r : List ℕ) (c d : Cursor) → c.at ≤ length r → past part r c ≡ Ok d → Piece r c.at d.at (Leads part c.attributes d.attributes)
unfolding past
part_piece (Always f) r c d h e =
    let p = always_piece f r c d h e in
    record { bytes = p.0.bytes; stands = p.0.stands; ends = p.0.ends; is = (p.0.is, p.1) }
part_piece (Where condition f) r c d h e = where_piece (says condition c.attributes) f r c d h e
part_piece (Attributes width) r c d h e =
    let n = size_of width in
    let b = bind_ok (bytes_on n r c.at) (λ at. Ok (cursor at (number_at width r c.at))) d e in
    let at_is : b.0 ≡ d.at = cc in
    let same : number_at width r c.at ≡ d.attributes = cc in
    let p = bytes_piece n r c.at b.0 b.1 in
    record {
      bytes = p.bytes;
      stands = p.stands;
      ends = omega (arith, p.ends);
      is = (p.is, sym (number_there n r c.at p.bytes (omega (arith, p.is)) p.stands) ∙ same);
    }

pub parts_piece : (parts : List Part) (r : List ℕ) (c : Cursor) (end : ℕ) → c.at ≤ length r → parts_end parts r c ≡ Ok end → Piece r c.at end (SpellsParts parts c.attributes)
parts_piece [] r c end h e =
    let same : c.at ≡ end = cc in
    record { bytes = []; stands = stands_from r c.at [] (drop c.at r) h refl; ends = omega arith; is = refl }
parts_piece (part ∷ parts) r c end h e =
    let b = bind_ok (past part r c) (parts_end parts r) end e in
    let first = part_piece part r c b.0 h b.1 in
    let within : b.0.at ≤ length r = omega (arith, first.ends, first.stands.room) in
    joined r c.at b.0.at end (Leads part c.attributes b.0.attributes) (SpellsParts parts b.0.attributes) (SpellsParts (part ∷ parts) c.attributes) first (parts_piece parts r b.0 end within b.2)
    (λ x y p q. let Behind : ℕ → Type 0 = λ a. SpellsParts parts a y in (x, y, refl, p.0, subst Behind (sym p.1) q))

method_piece : (r : List ℕ) (at end : ℕ) → at ≤ length r → row_end Methods r at ≡ Ok end → Piece r at end (SpellsRow Methods)
unfolding row_at
method_piece r at end h e = parts_piece method_parts r (cursor at 0) end h e

-- a member's kind, and the parts behind it
member_piece : (r : List ℕ) (at end : ℕ) → get_or r at 0 < 0xF0 → (parts : Option (List Part)) → parts_of_member (number_at TwoBytes r at) ≡ parts → (mid : ℕ) → bytes_on 2 r at ≡ Ok mid →
    (member_row parts at >>= λ got. parts_end got.parts r (cursor got.at 0)) ≡ Ok end → Piece r at end (SpellsRow Members)
member_piece r at end low None p mid m e = absurd (cc)
member_piece r at end low (Some parts) p mid m e =
    let kind = bytes_piece 2 r at mid m in
    let two : length kind.bytes ≡ 2 = kind.is in
    let within : at + 2 ≤ length r = omega (arith, kind.stands.room) in
    let behind : at + 2 ≡ mid = omega (arith, kind.ends) in
    let content = parts_piece parts r (cursor (at + 2) 0) end within e in
    let From : ℕ → Type 0 = λ m. Piece r m end (SpellsParts parts 0) in
    let value : number_at TwoBytes r at ≡ little_number 2 kind.bytes = number_there 2 r at kind.bytes (omega arith) kind.stands in
    let Kind : List ℕ → Type 0 = λ x. (length x ≡ 2) × (get_or x 0 0 < 0xF0) × (parts_of_member (little_number 2 x) ≡ Some parts) in
    joined r at mid end Kind (SpellsParts parts 0) (SpellsRow Members)
    (record {
      bytes = kind.bytes;
      stands = kind.stands;
      ends = kind.ends;
      is = (two, omega (arith, low, byte_there r at kind.bytes (omega arith) kind.stands), ap parts_of_member (sym value) ∙ p);
    })
    (subst From behind content)
    (λ x y k q. inl (record { kind = x; content = y; parts = parts; whole = refl; kind_len = k.0; no_pad = k.1; known = k.2; content_is = q }))

pad_piece : (r : List ℕ) (at n end : ℕ) → 0xF0 ≤ get_or r at 0 → n ≡ get_or r at 0 - 0xF0 → (pad_row r at n >>= λ got. parts_end got.parts r (cursor got.at 0)) ≡ Ok end → Piece r at end (SpellsRow Members)
pad_piece r at zero end high n_is e = absurd (cc)
pad_piece r at (suc n) end high n_is e =
    let b = bind_ok (pad_row r at (suc n)) (λ got. parts_end got.parts r (cursor got.at 0)) end e in
    let f : ℕ → Result Row Malformed = λ end. Ok (row [] end) in
    let a = bind_ok (bytes_on (suc n) r at) f b.0 (else_ok (eqb (suc n) 0) (wrong_member at) (bytes_on (suc n) r at >>= f) b.0 b.1) in
    let got_is : row [] a.0 ≡ b.0 = cc in
    let Ends : Row → Type 0 = λ got. parts_end got.parts r (cursor got.at 0) ≡ Ok end in
    let end_is : a.0 ≡ end = ok_same (Ok a.0) a.0 end refl (subst Ends (sym got_is) b.2) in
    let p = bytes_piece (suc n) r at a.0 a.1 in
    record {
      bytes = p.bytes;
      stands = p.stands;
      ends = omega (arith, p.ends);
      is = inr (omega (arith, p.is), sym (byte_there r at p.bytes (omega (arith, p.is)) p.stands) ∙ omega (arith, p.is));
    }
  where
    ok_same : (z : Result ℕ Malformed) (x y : ℕ) → z ≡ Ok x → z ≡ Ok y → x ≡ y
    ok_same z x y h k = cc

row_of_byte : (b : Bool) (r : List ℕ) (at end : ℕ) → ltb (get_or r at 0) 0xF0 ≡ b →
    (cond b (bytes_on 2 r at >>= λ mid. member_row (parts_of_member (number_at TwoBytes r at)) at) (pad_row r at (get_or r at 0 - 0xF0)) >>= λ got. parts_end got.parts r (cursor got.at 0)) ≡ Ok end →
    Piece r at end (SpellsRow Members)
row_of_byte true r at end t e =
    let found = parts_of_member (number_at TwoBytes r at) in
    let b = bind_ok (bytes_on 2 r at >>= λ mid. member_row found at) (λ got. parts_end got.parts r (cursor got.at 0)) end e in
    let a = bind_ok (bytes_on 2 r at) (λ mid. member_row found at) b.0 b.1 in
    member_piece r at end (ltb-true (get_or r at 0) 0xF0 t) found refl a.0 a.1 (ap (λ got. got >>= λ got. parts_end got.parts r (cursor got.at 0)) a.2 ∙ b.2)
row_of_byte false r at end t e = pad_piece r at (get_or r at 0 - 0xF0) end (ltb-false (get_or r at 0) 0xF0 t) refl e

pub row_piece : (rows : Rows) (r : List ℕ) (at end : ℕ) → at ≤ length r → row_end rows r at ≡ Ok end → Piece r at end (SpellsRow rows)
unfolding row_at
row_piece Methods r at end h e = method_piece r at end h e
row_piece Members r at end h e = row_of_byte (ltb (get_or r at 0) 0xF0) r at end refl e

-- the rows from a place to the end
pub record ToEnd (rows : Rows) (r : List ℕ) (at end : ℕ) : Type 0 where
  pub list : List (List ℕ)
  pub are : AreRows rows list (drop at r)
  pub ends : end ≡ length r

none_left : (rows : Rows) (r : List ℕ) (at end : ℕ) → at ≤ length r → length r ≤ at → at ≡ end → ToEnd rows r at end
none_left rows r at end h few e = record { list = []; are = drop_all at r few; ends = omega arith }

pub rows_list : (rows : Rows) (n : ℕ) (r : List ℕ) (at end : ℕ) → at ≤ length r → length r ≤ at + n → rows_end rows n r at ≡ Ok end → ToEnd rows r at end
rows_list rows zero r at end h few e = none_left rows r at end h (omega arith) (cc)
rows_list rows (suc n) r at end h few e = go (ltb at (length r)) refl (λ mid. rows_list rows n r mid end) e where
  go : (b : Bool) → ltb at (length r) ≡ b → ((mid : ℕ) → mid ≤ length r → length r ≤ mid + n → rows_end rows n r mid ≡ Ok end → ToEnd rows r mid end) →
      cond b (row_end rows r at >>= rows_end rows n r) (Ok at) ≡ Ok end → ToEnd rows r at end
  go false t rest e = none_left rows r at end h (ltb-false at (length r) t) (cc)
  go true t rest e =
      let b = bind_ok (row_end rows r at) (rows_end rows n r) end e in
      let further = row_further rows r at b.0 b.1 in
      let p = row_piece rows r at b.0 h b.1 in
      let more = rest b.0 (omega (arith, p.ends, p.stands.room)) (omega (arith, further)) b.2 in
      let there : drop at r ≡ p.bytes ++ drop b.0 r = p.stands.there ∙ ap (λ m. p.bytes ++ drop m r) (sym p.ends) in
      record { list = p.bytes ∷ more.list; are = (drop b.0 r, there, p.is, more.are); ends = more.ends }
