-- The index fields of a leaf lie one behind another.
use Rattle.std.proofs.Common.{◌≡◌, ◌≤◌, ◌<◌, ◌+◌, ◌*◌, ◌&&◌, ◌||◌, ℕ, zero, suc, Bool, true, false, cond, ltb, leb, le-ltb, List, [], ◌∷◌, ◌++◌, length, Option, Some, None, Ok, refl, ap, subst, sym, ◌∙◌, arith}
use Rattle.std.proofs.lemmas.Bool.{lt-leb}
use Rattle.leaf_grammar.specs.declared.grammar.Space.{Space}
use Rattle.leaf_grammar.specs.declared.grammar.Element.TheVariants as each
use Rattle.leaf_grammar.specs.declared.grammar.Form.{Form}
use Rattle.leaf_grammar.specs.declared.grammar.Form.TheVariants as form
use Rattle.leaf_grammar.specs.declared.grammar.Part.{Part}
use Rattle.leaf_grammar.specs.declared.grammar.Part.TheVariants.{Always, Where, Attributes}
use Rattle.leaf_grammar.specs.declared.grammar.Rows.{Rows}
use Rattle.leaf_grammar.specs.declared.grammar.Cursor.{Cursor}
use Rattle.leaf_grammar.specs.Leaf.{◌>>=◌, bytes_on, behind_form, content_end, cursor, form_end, long_rest, number_at, past, parts_end, row_at, row_end, rows_end, says, size_of, tail_end}
use Rattle.leaf_grammar.specs.Found.{found_at, found_in, onwards}
use Rattle.leaf_grammar.proofs.Further.{bind_ok, bytes_on-is, else_is, form_on, row_at_on}
use Rattle.index_fields.specs.Fields.{Field, content_fields, fields_in, parts_fields, row_fields, rows_fields, run_from, tail_fields}
use Rattle.index_fields.specs.Places.{LieBetween, has_byte}

pub lie_le : (from end : ℕ) (fields : List Field) → LieBetween from end fields → from ≤ end
lie_le from end [] l = l
lie_le from end (f ∷ fields) l = omega (arith, l.0, lie_le (f.at + 4) end fields l.1)

lie_from : (first from end : ℕ) (fields : List Field) → first ≤ from → LieBetween from end fields → LieBetween first end fields
lie_from first from end [] h l = omega arith
lie_from first from end (f ∷ fields) h l = (omega (arith, l.0), l.1)

pub lie_to : (from end last : ℕ) (fields : List Field) → end ≤ last → LieBetween from end fields → LieBetween from last fields
lie_to from end last [] h l = omega arith
lie_to from end last (f ∷ fields) h l = (l.0, lie_to (f.at + 4) end last fields h l.1)

pub lie_both : (from mid end : ℕ) (xs ys : List Field) → LieBetween from mid xs → LieBetween mid end ys → LieBetween from end (xs ++ ys)
lie_both from mid end [] ys p q = lie_from from mid end ys p q
lie_both from mid end (x ∷ xs) ys p q = (p.0, lie_both (x.at + 4) mid end xs ys p.1 q)

pub lie_run : (space : Space) (r : List ℕ) (at n end : ℕ) → at + 4 * n ≤ end → LieBetween at end (run_from space r at n)
lie_run space r at zero end h = omega arith
lie_run space r at (suc n) end h = (omega arith, lie_run space r (at + 4) n end (omega arith))

pub lie_form : (f : Form) (r : List ℕ) (at end : ℕ) → form_end f r at ≡ Ok end → LieBetween at end (fields_in f r at)
unfolding form_end fields_in
lie_form (form.Index space) r at end e = (omega arith, omega (arith, bytes_on-is 4 r at end e))
lie_form (form.Number size) r at end e = form_on (form.Number size) r at end e
lie_form form.Numeric r at end e = form_on form.Numeric r at end e
lie_form form.Text r at end e = form_on form.Text r at end e
lie_form (form.List width (each.Index space)) r at end e =
    let n = number_at width r at in
    let b = bind_ok (bytes_on (size_of width) r at) (bytes_on (4 * n) r) end e in
    lie_from at (at + size_of width) end (run_from space r (at + size_of width) n) (omega arith)
    (lie_run space r (at + size_of width) n end (omega (arith, bytes_on-is (size_of width) r at b.0 b.1, bytes_on-is (4 * n) r b.0 end b.2)))
lie_form (form.List width each.Byte) r at end e = form_on (form.List width each.Byte) r at end e
lie_form (form.List width each.HalfByte) r at end e = form_on (form.List width each.HalfByte) r at end e

lie_always : (f : Form) (r : List ℕ) (c d : Cursor) → behind_form c (form_end f r c.at) ≡ Ok d → LieBetween c.at d.at (fields_in f r c.at)
lie_always f r c d e =
    let b = bind_ok (form_end f r c.at) (λ at. Ok (cursor at c.attributes)) d e in
    let same : b.0 ≡ d.at = cc in
    let Here : ℕ → Type 0 = λ end. LieBetween c.at end (fields_in f r c.at) in
    subst Here same (lie_form f r c.at b.0 b.1)

lie_where : (b : Bool) (f : Form) (r : List ℕ) (c d : Cursor) → cond b (behind_form c (form_end f r c.at)) (Ok c) ≡ Ok d → LieBetween c.at d.at (cond b (fields_in f r c.at) [])
lie_where true f r c d e = lie_always f r c d e
lie_where false f r c d e = let same : c.at ≡ d.at = cc in omega arith

pub lie_part : (part : Part) (r : List ℕ) (c d : Cursor) → past part r c ≡ Ok d → LieBetween c.at d.at (found_at fields_in part r c)
unfolding past found_at
lie_part (Always f) r c d e = lie_always f r c d e
lie_part (Where condition f) r c d e = lie_where (says condition c.attributes) f r c d e
lie_part (Attributes width) r c d e =
    let b = bind_ok (bytes_on (size_of width) r c.at) (λ at. Ok (cursor at (number_at width r c.at))) d e in
    let same : b.0 ≡ d.at = cc in
    omega (arith, bytes_on-is (size_of width) r c.at b.0 b.1)

-- the fields of a part, and those of the parts behind it
pub fields_behind : (part : Part) (parts : List Part) (r : List ℕ) (c d : Cursor) → past part r c ≡ Ok d → parts_fields (part ∷ parts) r c ≡ found_at fields_in part r c ++ parts_fields parts r d
fields_behind part parts r c d e = ap (λ p. onwards p (λ x. found_at fields_in part r c ++ found_in fields_in parts r x)) e

pub lie_parts : (parts : List Part) (r : List ℕ) (c : Cursor) (end : ℕ) → parts_end parts r c ≡ Ok end → LieBetween c.at end (parts_fields parts r c)
lie_parts [] r c end e = let same : c.at ≡ end = cc in omega arith
lie_parts (part ∷ parts) r c end e =
    let b = bind_ok (past part r c) (parts_end parts r) end e in
    subst (LieBetween c.at end) (sym (fields_behind part parts r c b.0 b.1))
    (lie_both c.at b.0.at end (found_at fields_in part r c) (parts_fields parts r b.0) (lie_part part r c b.0 b.1) (lie_parts parts r b.0 end b.2))

pub lie_row : (rows : Rows) (r : List ℕ) (at end : ℕ) → row_end rows r at ≡ Ok end → LieBetween at end (row_fields rows r at)
lie_row rows r at end e =
    let b = bind_ok (row_at rows r at) (λ got. parts_end got.parts r (cursor got.at 0)) end e in
    let here : parts_fields b.0.parts r (cursor b.0.at 0) ≡ row_fields rows r at = sym (ap (λ got. onwards got (λ row. parts_fields row.parts r (cursor row.at 0))) b.1) in
    subst (LieBetween at end) here
    (lie_from at b.0.at end (parts_fields b.0.parts r (cursor b.0.at 0)) (row_at_on rows r at b.0 b.1) (lie_parts b.0.parts r (cursor b.0.at 0) end b.2))

-- the fields of a row, and those of the rows behind it
pub rows_behind : (rows : Rows) (n : ℕ) (r : List ℕ) (at mid : ℕ) → row_end rows r at ≡ Ok mid → row_fields rows r at ++ onwards (row_end rows r at) (rows_fields rows n r) ≡ row_fields rows r at ++ rows_fields rows n r mid
rows_behind rows n r at mid e = ap (λ z. row_fields rows r at ++ onwards z (rows_fields rows n r)) e

pub lie_rows : (rows : Rows) (n : ℕ) (r : List ℕ) (at end : ℕ) → rows_end rows n r at ≡ Ok end → LieBetween at end (rows_fields rows n r at)
lie_rows rows zero r at end e = let same : at ≡ end = cc in omega arith
lie_rows rows (suc n) r at end e = go (ltb at (length r)) (λ mid. lie_rows rows n r mid end) e where
  go : (b : Bool) → ((mid : ℕ) → rows_end rows n r mid ≡ Ok end → LieBetween mid end (rows_fields rows n r mid)) → cond b (row_end rows r at >>= rows_end rows n r) (Ok at) ≡ Ok end →
      LieBetween at end (cond b (row_fields rows r at ++ onwards (row_end rows r at) (rows_fields rows n r)) [])
  go false rest e = let same : at ≡ end = cc in omega arith
  go true rest e =
      let b = bind_ok (row_end rows r at) (rows_end rows n r) end e in
      subst (LieBetween at end) (sym (rows_behind rows n r at b.0 b.1))
      (lie_both at b.0 end (row_fields rows r at) (rows_fields rows n r b.0) (lie_row rows r at b.0 b.1) (rest b.0 b.2))

pub lie_tail : (rows : Option Rows) (r : List ℕ) (at end : ℕ) → tail_end rows r at ≡ Ok end → LieBetween at end (tail_fields rows r at)
lie_tail None r at end e = omega (arith, else_is (ltb (at + 3) (length r)) (long_rest at) at end e)
lie_tail (Some rows) r at end e = lie_rows rows (length r) r at end e

-- the fields of the parts, and those behind them
pub content_behind : (parts : List Part) (rows : Option Rows) (r : List ℕ) (mid : ℕ) → parts_end parts r (cursor 4 0) ≡ Ok mid → content_fields (Some parts) rows r ≡ parts_fields parts r (cursor 4 0) ++ tail_fields rows r mid
content_behind parts rows r mid e = ap (λ z. parts_fields parts r (cursor 4 0) ++ onwards z (tail_fields rows r)) e

pub lie_content : (parts : Option (List Part)) (rows : Option Rows) (r : List ℕ) (end : ℕ) → content_end parts rows r ≡ Ok end → LieBetween 4 end (content_fields parts rows r)
lie_content None rows r end e = absurd (cc)
lie_content (Some parts) rows r end e =
    let b = bind_ok (parts_end parts r (cursor 4 0)) (tail_end rows r) end e in
    subst (LieBetween 4 end) (sym (content_behind parts rows r b.0 b.1))
    (lie_both 4 b.0 end (parts_fields parts r (cursor 4 0)) (tail_fields rows r b.0) (lie_parts parts r (cursor 4 0) b.0 b.1) (lie_tail rows r b.0 end b.2))

none_there : (a b : Bool) (c : Bool) → (a ≡ false) → c ≡ false → (a && b || c) ≡ false
none_there true b c p q = absurd (cc)
none_there false b c p q = q

none_over : (a b : Bool) (c : Bool) → (b ≡ false) → c ≡ false → (a && b || c) ≡ false
none_over true true c p q = absurd (cc)
none_over true false c p q = q
none_over false b c p q = q

-- no field has a byte before the first place, nor one from the last place on
pub none_before : (from end : ℕ) (fields : List Field) (k : ℕ) → LieBetween from end fields → k < from → has_byte fields k ≡ false
none_before from end [] k l h = refl
none_before from end (f ∷ fields) k l h =
    none_there (leb f.at k) (ltb k (f.at + 4)) (has_byte fields k) (lt-leb f.at k (omega (arith, l.0))) (none_before (f.at + 4) end fields k l.1 (omega (arith, l.0)))

pub none_behind : (from end : ℕ) (fields : List Field) (k : ℕ) → LieBetween from end fields → end ≤ k → has_byte fields k ≡ false
none_behind from end [] k l h = refl
none_behind from end (f ∷ fields) k l h =
    none_over (leb f.at k) (ltb k (f.at + 4)) (has_byte fields k) (le-ltb k (f.at + 4) (omega (arith, lie_le (f.at + 4) end fields l.1))) (none_behind (f.at + 4) end fields k l.1 h)

or_false : (a b : Bool) → (a || b) ≡ false → (a ≡ false) × (b ≡ false)
or_false true b h = absurd (cc)
or_false false b h = (refl, h)

pub none_of_both : (xs ys : List Field) (k : ℕ) → has_byte xs k ≡ false → has_byte ys k ≡ false → has_byte (xs ++ ys) k ≡ false
none_of_both [] ys k p q = q
none_of_both (x ∷ xs) ys k p q =
    let two = or_false (leb x.at k && ltb k (x.at + 4)) (has_byte xs k) p in
    ap (λ b. b || has_byte (xs ++ ys) k) two.0 ∙ none_of_both xs ys k two.1 q
