-- A record that differs from a leaf only at its index fields is a leaf with fields at the same places.
use Rattle.std.proofs.Common.{◌≡◌, ◌≤◌, ◌<◌, ◌+◌, ◌-◌, ◌*◌, ℕ, zero, suc, Bool, true, false, cond, eqb, ltb, lt-ltb, List, [], ◌∷◌, ◌++◌, length, drop, get_or, Option, Some, None, Result, Ok, Err, refl, ap, subst, sym, ◌∙◌, arith}
use Rattle.std.proofs.lemmas.Bool.{ltb-true}
use Rattle.std.proofs.lemmas.List.{get_or-drop, map-append}
use Rattle.std.proofs.lemmas.List.Prefix.{at_from_reads, at_reads}
use Rattle.leaf_grammar.specs.declared.grammar.Space.{Space}
use Rattle.leaf_grammar.specs.declared.grammar.Width.{Width}
use Rattle.leaf_grammar.specs.declared.grammar.Width.TheVariants.{TwoBytes}
use Rattle.leaf_grammar.specs.declared.grammar.Element.TheVariants as each
use Rattle.leaf_grammar.specs.declared.grammar.Form.{Form}
use Rattle.leaf_grammar.specs.declared.grammar.Form.TheVariants as form
use Rattle.leaf_grammar.specs.declared.grammar.Part.{Part}
use Rattle.leaf_grammar.specs.declared.grammar.Part.TheVariants.{Always, Where, Attributes}
use Rattle.leaf_grammar.specs.declared.grammar.Rows.{Rows}
use Rattle.leaf_grammar.specs.declared.grammar.Rows.TheVariants.{Members, Methods}
use Rattle.leaf_grammar.specs.declared.grammar.Cursor.{Cursor}
use Rattle.leaf_grammar.specs.declared.grammar.Malformed.{Malformed}
use Rattle.leaf_grammar.specs.Kinds.{parts_of_member}
use Rattle.leaf_grammar.specs.Leaf.{◌>>=◌, bytes_on, behind_form, content_end, cursor, form_end, long_rest, member_row, number_at, pad_row, past, parts_end, Row, row, row_at, row_end, rows_end, says, size_of, tail_end, too_short, wrong_member}
use Rattle.leaf_grammar.specs.Found.{found_at, onwards}
use Rattle.leaf_grammar.proofs.Further.{bind_ok, bytes_on-is, members_at_further, row_at_on}
use Rattle.leaf_grammar.proofs.Standing.{Stands, then_case, bytes_piece, number_there}
use Rattle.leaf_grammar.proofs.Spelling.{form_piece, part_piece, parts_piece, row_piece}
use Rattle.leaf_grammar.proofs.Reading.{form_whole, then_ok}
use Rattle.index_fields.specs.Fields.{Field, content_fields, fields_in, parts_fields, row_fields, rows_fields, run_from, tail_fields}
use Rattle.index_fields.specs.Places.{LieBetween, has_byte, places}
use Rattle.index_fields.proofs.Lying.{content_behind, fields_behind, lie_le, lie_part, lie_parts, lie_row, lie_rows, lie_run, lie_tail, none_before, none_behind, none_of_both, rows_behind}

-- Two records have as many bytes, and between two places the same ones outside of fields.
pub record Agree (r s : List ℕ) (from end : ℕ) (fields : List Field) : Type 0 where
  pub same_length : length s ≡ length r
  pub same_bytes : (k : ℕ) → from ≤ k → k < end → has_byte fields k ≡ false → get_or s k 0 ≡ get_or r k 0

agree_front : (r s : List ℕ) (from mid end : ℕ) (xs ys : List Field) → mid ≤ end → LieBetween mid end ys → Agree r s from end (xs ++ ys) → Agree r s from mid xs
agree_front r s from mid end xs ys m l a = record {
  same_length = a.same_length;
  same_bytes = λ k low high none. a.same_bytes k low (omega arith) (none_of_both xs ys k none (none_before mid end ys k l high));
}

agree_back : (r s : List ℕ) (from mid end : ℕ) (xs ys : List Field) → from ≤ mid → LieBetween from mid xs → Agree r s from end (xs ++ ys) → Agree r s mid end ys
agree_back r s from mid end xs ys m l a = record {
  same_length = a.same_length;
  same_bytes = λ k low high none. a.same_bytes k (omega arith) high (none_of_both xs ys k (none_behind from mid xs k l low) none);
}

-- bytes that are no field's stand in both
stands_too : (r s : List ℕ) (at : ℕ) (x : List ℕ) → Agree r s at (at + length x) [] → Stands r at x → Stands s at x
stands_too r s at x a t =
    let room : at + length x ≤ length s = omega (arith, a.same_length, t.room) in
    record { room = room; there = at_from_reads 0 s x at room (λ i h. a.same_bytes (at + i) (omega arith) (omega arith) refl ∙ at_reads 0 r x at (drop (at + length x) r) t.there i h) }

-- what is read of s too, with the same places
abbrev pub ReadToo : {A : Type 0} → (List ℕ → Result A Malformed) → (List ℕ → List Field) → List ℕ → A → List ℕ → Type 0
ReadToo read fields r x s = (read s ≡ Ok x) × (places (fields s) ≡ places (fields r))

bytes_too : (n : ℕ) (r s : List ℕ) (at : ℕ) → length s ≡ length r → bytes_on n s at ≡ bytes_on n r at
bytes_too n r s at e = ap (λ m. cond (ltb m (at + n)) (Err (too_short at)) (Ok (at + n))) e

plain_too : (f : Form) (r s : List ℕ) (at end : ℕ) → at ≤ length r → form_end f r at ≡ Ok end → Agree r s at end [] → form_end f s at ≡ Ok end
plain_too f r s at end h e a =
    let p = form_piece f r at end h e in
    let Here : ℕ → Type 0 = λ z. Agree r s at z [] in
    form_whole f s at p.bytes p.is (stands_too r s at p.bytes (subst Here p.ends a) p.stands) ∙ ap Ok (sym p.ends)

run_places : (space : Space) (r s : List ℕ) (at n : ℕ) → places (run_from space s at n) ≡ places (run_from space r at n)
run_places space r s at zero = refl
run_places space r s at (suc n) = ap (λ rest. (space, at) ∷ rest) (run_places space r s (at + 4) n)

list_too : (width : Width) (space : Space) (r s : List ℕ) (at end : ℕ) → (bytes_on (size_of width) r at >>= bytes_on (4 * number_at width r at) r) ≡ Ok end →
    LieBetween (at + size_of width) end (run_from space r (at + size_of width) (number_at width r at)) → Agree r s at end (run_from space r (at + size_of width) (number_at width r at)) →
    ((bytes_on (size_of width) s at >>= bytes_on (4 * number_at width s at) s) ≡ Ok end)
    × (places (run_from space s (at + size_of width) (number_at width s at)) ≡ places (run_from space r (at + size_of width) (number_at width r at)))
list_too width space r s at end e l a =
    let n = size_of width in
    let fields = run_from space r (at + n) (number_at width r at) in
    let b = bind_ok (bytes_on n r at) (bytes_on (4 * number_at width r at) r) end e in
    let p = bytes_piece n r at b.0 b.1 in
    let first : at + length p.bytes ≡ at + n = omega (arith, p.is) in
    let further : at + n ≤ end = lie_le (at + n) end fields l in
    let agree : Agree r s at (at + length p.bytes) [] = record {
      same_length = a.same_length;
      same_bytes = λ k low high none. a.same_bytes k low (omega arith) (none_before (at + n) end fields k l (omega arith));
    } in
    let value : number_at width s at ≡ number_at width r at =
    number_there n s at p.bytes (omega (arith, p.is)) (stands_too r s at p.bytes agree p.stands)
    ∙ sym (number_there n r at p.bytes (omega (arith, p.is)) p.stands) in (
      ap (λ m. bytes_on n s at >>= bytes_on (4 * m) s) value
          ∙ then_ok (bytes_on n s at) b.0 (bytes_on (4 * number_at width r at) s) (bytes_too n r s at a.same_length ∙ b.1)
          ∙ bytes_too (4 * number_at width r at) r s b.0 a.same_length ∙ b.2,
      ap (λ m. places (run_from space s (at + n) m)) value ∙ run_places space r s (at + n) (number_at width r at),
    )

list_lies : (width : Width) (space : Space) (r : List ℕ) (at end : ℕ) → (bytes_on (size_of width) r at >>= bytes_on (4 * number_at width r at) r) ≡ Ok end → LieBetween (at + size_of width) end (run_from space r (at + size_of width) (number_at width r at))
list_lies width space r at end e =
    let n = number_at width r at in
    let b = bind_ok (bytes_on (size_of width) r at) (bytes_on (4 * n) r) end e in
    lie_run space r (at + size_of width) n end (omega (arith, bytes_on-is (size_of width) r at b.0 b.1, bytes_on-is (4 * n) r b.0 end b.2))

form_too : (f : Form) (r s : List ℕ) (at end : ℕ) → at ≤ length r → form_end f r at ≡ Ok end → Agree r s at end (fields_in f r at) →
    (form_end f s at ≡ Ok end) × (places (fields_in f s at) ≡ places (fields_in f r at))
unfolding fields_in form_end
form_too (form.Index space) r s at end h e a = (bytes_too 4 r s at a.same_length ∙ e, refl)
form_too (form.Number size) r s at end h e a = (plain_too (form.Number size) r s at end h e a, refl)
form_too form.Numeric r s at end h e a = (plain_too form.Numeric r s at end h e a, refl)
form_too form.Text r s at end h e a = (plain_too form.Text r s at end h e a, refl)
form_too (form.List width (each.Index space)) r s at end h e a = list_too width space r s at end e (list_lies width space r at end e) a
form_too (form.List width each.Byte) r s at end h e a = (plain_too (form.List width each.Byte) r s at end h e a, refl)
form_too (form.List width each.HalfByte) r s at end h e a = (plain_too (form.List width each.HalfByte) r s at end h e a, refl)

always_too : (f : Form) (r s : List ℕ) (c d : Cursor) → c.at ≤ length r → behind_form c (form_end f r c.at) ≡ Ok d → Agree r s c.at d.at (fields_in f r c.at) →
    (behind_form c (form_end f s c.at) ≡ Ok d) × (places (fields_in f s c.at) ≡ places (fields_in f r c.at))
always_too f r s c d h e a =
    let b = bind_ok (form_end f r c.at) (λ at. Ok (cursor at c.attributes)) d e in
    let same : d.at ≡ b.0 = cc in
    let Here : ℕ → Type 0 = λ end. Agree r s c.at end (fields_in f r c.at) in
    let t = form_too f r s c.at b.0 h b.1 (subst Here same a) in
    (ap (behind_form c) t.0 ∙ b.2, t.1)

where_too : (b : Bool) (f : Form) (r s : List ℕ) (c d : Cursor) → c.at ≤ length r → cond b (behind_form c (form_end f r c.at)) (Ok c) ≡ Ok d → Agree r s c.at d.at (cond b (fields_in f r c.at) []) →
    (cond b (behind_form c (form_end f s c.at)) (Ok c) ≡ Ok d) × (places (cond b (fields_in f s c.at) []) ≡ places (cond b (fields_in f r c.at) []))
where_too true f r s c d h e a = always_too f r s c d h e a
where_too false f r s c d h e a = (e, refl)

attributes_too : (width : Width) (r s : List ℕ) (c d : Cursor) → (bytes_on (size_of width) r c.at >>= λ at. Ok (cursor at (number_at width r c.at))) ≡ Ok d → Agree r s c.at d.at [] →
    (bytes_on (size_of width) s c.at >>= λ at. Ok (cursor at (number_at width s c.at))) ≡ Ok d
attributes_too width r s c d e a =
    let n = size_of width in
    let b = bind_ok (bytes_on n r c.at) (λ at. Ok (cursor at (number_at width r c.at))) d e in
    let p = bytes_piece n r c.at b.0 b.1 in
    let same : b.0 ≡ d.at = cc in
    let ends : d.at ≡ c.at + length p.bytes = omega (arith, p.ends) in
    let Here : ℕ → Type 0 = λ end. Agree r s c.at end [] in
    let value : number_at width s c.at ≡ number_at width r c.at =
    number_there n s c.at p.bytes (omega (arith, p.is)) (stands_too r s c.at p.bytes (subst Here ends a) p.stands)
    ∙ sym (number_there n r c.at p.bytes (omega (arith, p.is)) p.stands) in
    then_ok (bytes_on n s c.at) b.0 (λ at. Ok (cursor at (number_at width s c.at))) (bytes_too n r s c.at a.same_length ∙ b.1)
    ∙ ap (λ m. Ok (cursor b.0 m)) value ∙ b.2

part_too : (part : Part) (r s : List ℕ) (c d : Cursor) → c.at ≤ length r → past part r c ≡ Ok d → Agree r s c.at d.at (found_at fields_in part r c) →
    (past part s c ≡ Ok d) × (places (found_at fields_in part s c) ≡ places (found_at fields_in part r c))
unfolding past found_at
part_too (Always f) r s c d h e a = always_too f r s c d h e a
part_too (Where condition f) r s c d h e a = where_too (says condition c.attributes) f r s c d h e a
part_too (Attributes width) r s c d h e a = (attributes_too width r s c d e a, refl)

-- places of fields that come in two lists
both_places : (xs ys vs ws : List Field) → places xs ≡ places vs → places ys ≡ places ws → places (xs ++ ys) ≡ places (vs ++ ws)
both_places xs ys vs ws p q =
    map-append (λ (f : Field). (f.space, f.at)) xs ys ∙ ap (λ z. z ++ places ys) p ∙ ap (λ z. places vs ++ z) q ∙ sym (map-append (λ (f : Field). (f.space, f.at)) vs ws)

parts_too : (parts : List Part) (r s : List ℕ) (c : Cursor) (end : ℕ) → c.at ≤ length r → parts_end parts r c ≡ Ok end → Agree r s c.at end (parts_fields parts r c) →
    (parts_end parts s c ≡ Ok end) × (places (parts_fields parts s c) ≡ places (parts_fields parts r c))
parts_too [] r s c end h e a = (e, refl)
parts_too (part ∷ parts) r s c end h e a =
    let b = bind_ok (past part r c) (parts_end parts r) end e in
    let first = found_at fields_in part r c in
    let rest = parts_fields parts r b.0 in
    let first_lies = lie_part part r c b.0 b.1 in
    let rest_lies = lie_parts parts r b.0 end b.2 in
    let p = part_piece part r c b.0 h b.1 in
    let within : b.0.at ≤ length r = omega (arith, p.ends, p.stands.room) in
    let all : Agree r s c.at end (first ++ rest) = subst (Agree r s c.at end) (fields_behind part parts r c b.0 b.1) a in
    let t = part_too part r s c b.0 h b.1 (agree_front r s c.at b.0.at end first rest (lie_le b.0.at end rest rest_lies) rest_lies all) in
    let u = parts_too parts r s b.0 end within b.2 (agree_back r s c.at b.0.at end first rest (lie_le c.at b.0.at first first_lies) first_lies all) in (
      then_ok (past part s c) b.0 (parts_end parts s) t.0 ∙ u.0,
      ap places (fields_behind part parts s c b.0 t.0) ∙ both_places (found_at fields_in part s c) (parts_fields parts s b.0) first rest t.1 u.1
          ∙ sym (ap places (fields_behind part parts r c b.0 b.1)),
    )

-- two bytes behind one another, as a number
pub two_too : (r s : List ℕ) (at : ℕ) → get_or s at 0 ≡ get_or r at 0 → get_or s (at + 1) 0 ≡ get_or r (at + 1) 0 → number_at TwoBytes s at ≡ number_at TwoBytes r at
two_too r s at p q =
    let here : at + 0 ≡ at = omega arith in
    let one : get_or (drop at s) 0 0 ≡ get_or (drop at r) 0 0 = get_or-drop at s 0 0 ∙ ap (λ i. get_or s i 0) here ∙ p ∙ ap (λ i. get_or r i 0) (sym here) ∙ sym (get_or-drop at r 0 0) in
    let two : get_or (drop at s) 1 0 ≡ get_or (drop at r) 1 0 = get_or-drop at s 1 0 ∙ q ∙ sym (get_or-drop at r 1 0) in
    ap (λ b. b + 256 * (get_or (drop at s) 1 0 + 256 * 0)) one ∙ ap (λ b. get_or (drop at r) 0 0 + 256 * (b + 256 * 0)) two

-- the same first byte and, below F0, the same second one begin the same row
row_at_too : (r s : List ℕ) (at : ℕ) → length s ≡ length r → get_or s at 0 ≡ get_or r at 0 → (get_or r at 0 < 0xF0 → get_or s (at + 1) 0 ≡ get_or r (at + 1) 0) → row_at Members s at ≡ row_at Members r at
unfolding row_at
row_at_too r s at e p q =
    ap (λ byte. cond (ltb byte 0xF0) (member s) (pad_row s at (byte - 0xF0))) p ∙ either (ltb (get_or r at 0) 0xF0) refl
  where
    member : List ℕ → Result Row Malformed
    member z = bytes_on 2 z at >>= λ end. member_row (parts_of_member (number_at TwoBytes z at)) at

    pad : (n : ℕ) → pad_row s at n ≡ pad_row r at n
    pad n = ap (λ z. cond (eqb n 0) (Err (wrong_member at)) (z >>= λ end. Ok (row [] end))) (bytes_too n r s at e)

    either : (b : Bool) → ltb (get_or r at 0) 0xF0 ≡ b → cond b (member s) (pad_row s at (get_or r at 0 - 0xF0)) ≡ cond b (member r) (pad_row r at (get_or r at 0 - 0xF0))
    either true t =
        ap (λ z. z >>= λ end. member_row (parts_of_member (number_at TwoBytes s at)) at) (bytes_too 2 r s at e)
        ∙ ap (λ m. bytes_on 2 r at >>= λ end. member_row (parts_of_member m) at) (two_too r s at p (q (ltb-true (get_or r at 0) 0xF0 t)))
    either false t = pad (get_or r at 0 - 0xF0)

-- where the parts of a member begin
member_at : (r : List ℕ) (at : ℕ) (got : Row) → get_or r at 0 < 0xF0 → row_at Members r at ≡ Ok got → at + 2 ≡ got.at
unfolding row_at
member_at r at got low e =
    let found = parts_of_member (number_at TwoBytes r at) in
    let member : Result Row Malformed = bytes_on 2 r at >>= λ end. member_row found at in
    let b = bind_ok (bytes_on 2 r at) (λ end. member_row found at) got (sym (then_case (ltb (get_or r at 0) 0xF0) member (pad_row r at (get_or r at 0 - 0xF0)) (lt-ltb (get_or r at 0) 0xF0 low)) ∙ e) in
    go found b.2
  where
    go : (found : Option (List Part)) → member_row found at ≡ Ok got → at + 2 ≡ got.at
    go None e = absurd (cc)
    go (Some parts) e = cc

methods_too : (r s : List ℕ) (at : ℕ) → row_at Methods s at ≡ row_at Methods r at
unfolding row_at
methods_too r s at = refl

-- what stands at the head of a row is no field's
row_head_too : (rows : Rows) (r s : List ℕ) (at end : ℕ) (got : Row) (fields : List Field) → row_at rows r at ≡ Ok got → LieBetween got.at end fields → Agree r s at end fields → row_at rows s at ≡ row_at rows r at
row_head_too Methods r s at end got fields e l a = methods_too r s at
row_head_too Members r s at end got fields e l a =
    let further = members_at_further r at got e in
    let last = lie_le got.at end fields l in
    row_at_too r s at a.same_length (a.same_bytes at (omega arith) (omega arith) (none_before got.at end fields at l further))
    (λ low. let behind = member_at r at got low e in a.same_bytes (at + 1) (omega arith) (omega arith) (none_before got.at end fields (at + 1) l (omega arith)))

row_too : (rows : Rows) (r s : List ℕ) (at end : ℕ) → at ≤ length r → row_end rows r at ≡ Ok end → Agree r s at end (row_fields rows r at) →
    (row_end rows s at ≡ Ok end) × (places (row_fields rows s at) ≡ places (row_fields rows r at))
row_too rows r s at end h e a =
    let b = bind_ok (row_at rows r at) (λ got. parts_end got.parts r (cursor got.at 0)) end e in
    let got = b.0 in
    let Fields : List ℕ → Row → List Field = λ z row. parts_fields row.parts z (cursor row.at 0) in
    let here : row_fields rows r at ≡ Fields r got = ap (λ z. onwards z (Fields r)) b.1 in
    let lies = lie_parts got.parts r (cursor got.at 0) end b.2 in
    let first = row_at_on rows r at got b.1 in
    let p = row_piece rows r at end h e in
    let last = lie_le got.at end (Fields r got) lies in
    let all : Agree r s at end (Fields r got) = subst (Agree r s at end) here a in
    let same = row_head_too rows r s at end got (Fields r got) b.1 lies all in
    let rest : Agree r s got.at end (Fields r got) = record { same_length = all.same_length; same_bytes = λ k low high none. all.same_bytes k (omega arith) high none } in
    let t = parts_too got.parts r s (cursor got.at 0) end (omega (arith, p.ends, p.stands.room)) b.2 rest in (
      ap (λ z. z >>= λ row. parts_end row.parts s (cursor row.at 0)) (same ∙ b.1) ∙ t.0,
      ap (λ z. places (onwards z (Fields s))) (same ∙ b.1) ∙ t.1 ∙ sym (ap places here),
    )

rows_too : (rows : Rows) (n : ℕ) (r s : List ℕ) (at end : ℕ) → at ≤ length r → rows_end rows n r at ≡ Ok end → Agree r s at end (rows_fields rows n r at) →
    (rows_end rows n s at ≡ Ok end) × (places (rows_fields rows n s at) ≡ places (rows_fields rows n r at))
rows_too rows zero r s at end h e a = (e, refl)
rows_too rows (suc n) r s at end h e a =
    let Both : Bool → Type 0 = λ b. (cond b (row_end rows s at >>= rows_end rows n s) (Ok at) ≡ Ok end)
    × (places (cond b (row_fields rows s at ++ onwards (row_end rows s at) (rows_fields rows n s)) []) ≡ places (rows_fields rows (suc n) r at)) in
    subst Both (ap (ltb at) (sym a.same_length)) (go (ltb at (length r)) (λ mid. rows_too rows n r s mid end) e a)
  where
    go : (b : Bool) → ((mid : ℕ) → mid ≤ length r → rows_end rows n r mid ≡ Ok end → Agree r s mid end (rows_fields rows n r mid) → (rows_end rows n s mid ≡ Ok end) × (places (rows_fields rows n s mid) ≡ places (rows_fields rows n r mid))) →
        cond b (row_end rows r at >>= rows_end rows n r) (Ok at) ≡ Ok end → Agree r s at end (cond b (row_fields rows r at ++ onwards (row_end rows r at) (rows_fields rows n r)) []) →
        (cond b (row_end rows s at >>= rows_end rows n s) (Ok at) ≡ Ok end)
        × (places (cond b (row_fields rows s at ++ onwards (row_end rows s at) (rows_fields rows n s)) []) ≡ places (cond b (row_fields rows r at ++ onwards (row_end rows r at) (rows_fields rows n r)) []))
    go false more e a = (e, refl)
    go true more e a =
        let b = bind_ok (row_end rows r at) (rows_end rows n r) end e in
        let first = row_fields rows r at in
        let rest = rows_fields rows n r b.0 in
        let first_lies = lie_row rows r at b.0 b.1 in
        let rest_lies = lie_rows rows n r b.0 end b.2 in
        let p = row_piece rows r at b.0 h b.1 in
        let all : Agree r s at end (first ++ rest) = subst (Agree r s at end) (rows_behind rows n r at b.0 b.1) a in
        let t = row_too rows r s at b.0 h b.1 (agree_front r s at b.0 end first rest (lie_le b.0 end rest rest_lies) rest_lies all) in
        let u = more b.0 (omega (arith, p.ends, p.stands.room)) b.2 (agree_back r s at b.0 end first rest (lie_le at b.0 first first_lies) first_lies all) in (
          then_ok (row_end rows s at) b.0 (rows_end rows n s) t.0 ∙ u.0,
          ap places (rows_behind rows n s at b.0 t.0) ∙ both_places (row_fields rows s at) (rows_fields rows n s b.0) first rest t.1 u.1
              ∙ sym (ap places (rows_behind rows n r at b.0 b.1)),
        )

tail_too : (rows : Option Rows) (r s : List ℕ) (at end : ℕ) → at ≤ length r → tail_end rows r at ≡ Ok end → Agree r s at end (tail_fields rows r at) →
    (tail_end rows s at ≡ Ok end) × (places (tail_fields rows s at) ≡ places (tail_fields rows r at))
tail_too None r s at end h e a = (ap (λ n. cond (ltb (at + 3) n) (Err (long_rest at)) (Ok at)) a.same_length ∙ e, refl)
tail_too (Some rows) r s at end h e a =
    let t = rows_too rows (length r) r s at end h e a in
    (ap (λ n. rows_end rows n s at) a.same_length ∙ t.0, ap (λ n. places (rows_fields rows n s at)) a.same_length ∙ t.1)

pub content_too : (parts : Option (List Part)) (rows : Option Rows) (r s : List ℕ) (end : ℕ) → 4 ≤ length r → content_end parts rows r ≡ Ok end → Agree r s 4 end (content_fields parts rows r) →
    (content_end parts rows s ≡ Ok end) × (places (content_fields parts rows s) ≡ places (content_fields parts rows r))
content_too None rows r s end h e a = absurd (cc)
content_too (Some parts) rows r s end h e a =
    let c = cursor 4 0 in
    let b = bind_ok (parts_end parts r c) (tail_end rows r) end e in
    let first = parts_fields parts r c in
    let rest = tail_fields rows r b.0 in
    let first_lies = lie_parts parts r c b.0 b.1 in
    let rest_lies = lie_tail rows r b.0 end b.2 in
    let p = parts_piece parts r c b.0 h b.1 in
    let all : Agree r s 4 end (first ++ rest) = subst (Agree r s 4 end) (content_behind parts rows r b.0 b.1) a in
    let t = parts_too parts r s c b.0 h b.1 (agree_front r s 4 b.0 end first rest (lie_le b.0 end rest rest_lies) rest_lies all) in
    let u = tail_too rows r s b.0 end (omega (arith, p.ends, p.stands.room)) b.2 (agree_back r s 4 b.0 end first rest (lie_le 4 b.0 first first_lies) first_lies all) in (
      then_ok (parts_end parts s c) b.0 (tail_end rows s) t.0 ∙ u.0,
      ap places (content_behind parts rows s b.0 t.0) ∙ both_places (parts_fields parts s c) (tail_fields rows s b.0) first rest t.1 u.1
          ∙ sym (ap places (content_behind parts rows r b.0 b.1)),
    )
