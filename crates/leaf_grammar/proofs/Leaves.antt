-- A record is read as a leaf exactly where it is spelled as one.
use Rattle.std.proofs.Common.{◌≡◌, ◌≤◌, ◌+◌, ◌-◌, ◌%◌, ◌&&◌, ℕ, Bool, true, false, cond, eqb, eq-eqb, ltb, le-ltb, not, List, [], ◌++◌, length, drop, take, Option, Some, None, Result, Ok, Err, refl, ap, sym, subst, ◌∙◌, arith, length-append, length-drop}
use Rattle.std.proofs.lemmas.Bool.{ltb-false}
use Rattle.std.proofs.lemmas.Grind.{common_steps}
use Rattle.std.proofs.lemmas.List.{append-nil, drop-drop, drop_at, length-take-le, take-append-drop}
use Rattle.byteorder.specs.Endian.{little_number}
use Rattle.leaf_grammar.specs.declared.grammar.Space.{Space}
use Rattle.leaf_grammar.specs.declared.grammar.Part.{Part}
use Rattle.leaf_grammar.specs.declared.grammar.Rows.{Rows}
use Rattle.leaf_grammar.specs.declared.grammar.Leaf.{Leaf}
use Rattle.leaf_grammar.specs.declared.grammar.Malformed.{Malformed}
use Rattle.leaf_grammar.specs.Kinds.{parts_of, rows_of}
use Rattle.leaf_grammar.specs.Leaf.{◌>>=◌, content_end, cursor, has_length, kind_of, leaf, leaf_of, long_rest, parts_end, tail_end, wrong_length}
use Rattle.leaf_grammar.specs.Spelled.{AreRows, IsLeaf, IsRest, SpellsContent, SpellsParts}
use Rattle.leaf_grammar.proofs.Further.{bind_ok, else_is}
use Rattle.leaf_grammar.proofs.Standing.{Piece, then_case, else_case, stands_take, stands_from, number_front}
use Rattle.leaf_grammar.proofs.Spelling.{parts_piece, rows_list}
use Rattle.leaf_grammar.proofs.Reading.{then_ok, parts_whole, rows_whole}

-- what stands behind length and kind: a content to the place that was told, and a rest
pub record Read (parts : List Part) (rows : Option Rows) (r : List ℕ) (end : ℕ) : Type 0 where
  pub content : List ℕ
  pub rest : List ℕ
  pub there : drop 4 r ≡ content ++ rest
  pub content_is : SpellsContent parts rows content
  pub rest_is : IsRest rows rest
  pub ends : end ≡ 4 + length content

fits : (b : Bool) (bad : Malformed) (x y : ℕ) → cond b (Err bad) (Ok x) ≡ Ok y → b ≡ false
fits true bad x y e = absurd (cc)
fits false bad x y e = refl

read_parts : (parts : List Part) (rows : Option Rows) (r : List ℕ) (mid end : ℕ) → 4 ≤ length r → Piece r 4 mid (SpellsParts parts 0) → tail_end rows r mid ≡ Ok end → Read parts rows r end
read_parts parts None r mid end h p e =
    let long : length r ≤ mid + 3 = ltb-false (mid + 3) (length r) (fits (ltb (mid + 3) (length r)) (long_rest mid) mid end e) in
    let same : mid ≡ end = else_is (ltb (mid + 3) (length r)) (long_rest mid) mid end e in
    record {
      content = p.bytes;
      rest = drop mid r;
      there = p.stands.there ∙ ap (λ m. p.bytes ++ drop m r) (sym p.ends);
      content_is = p.is;
      rest_is = rw (length-drop mid r) (omega arith);
      ends = sym same ∙ p.ends;
    }
read_parts parts (Some rows) r mid end h p e =
    let within : mid ≤ length r = omega (arith, p.ends, p.stands.room) in
    let few : length r ≤ mid + length r = omega arith in
    let q = rows_list rows (length r) r mid end within few e in
    let there : drop 4 r ≡ p.bytes ++ drop mid r = p.stands.there ∙ ap (λ m. p.bytes ++ drop m r) (sym p.ends) in
    let long : length (p.bytes ++ drop mid r) ≡ length r - 4 = ap length (sym there) ∙ length-drop 4 r in
    record {
      content = p.bytes ++ drop mid r;
      rest = [];
      there = there ∙ sym (append-nil (p.bytes ++ drop mid r));
      content_is = (p.bytes, drop mid r, refl, p.is, (q.list, q.are));
      rest_is = refl;
      ends = omega (arith, q.ends);
    }

content_read : (parts : Option (List Part)) (rows : Option Rows) (r : List ℕ) (end : ℕ) → 4 ≤ length r → content_end parts rows r ≡ Ok end → (known : List Part) × (parts ≡ Some known) × Read known rows r end
content_read None rows r end h e = absurd (cc)
content_read (Some parts) rows r end h e =
    let b = bind_ok (parts_end parts r (cursor 4 0)) (tail_end rows r) end e in
    (parts, refl, read_parts parts rows r b.0 end h (parts_piece parts r (cursor 4 0) b.0 h b.1) b.2)

content_spelled : (parts : List Part) (rows : Option Rows) (r content : List ℕ) (rest : List ℕ) → drop 4 r ≡ content ++ rest → 4 ≤ length r → SpellsContent parts rows content → IsRest rows rest →
    content_end (Some parts) rows r ≡ Ok (4 + length content)
content_spelled parts None r content rest there h p q =
    let s = stands_from r 4 content rest h there in
    let long : length r - 4 ≡ length content + length rest = sym (length-drop 4 r) ∙ ap length there ∙ length-append content rest in
    let few : length r ≤ 4 + length content + 3 = omega arith in
    then_ok (parts_end parts r (cursor 4 0)) (4 + length content) (tail_end None r) (parts_whole parts r 4 0 content p s)
    ∙ else_case (ltb (4 + length content + 3) (length r)) (Err (long_rest (4 + length content))) (Ok (4 + length content)) (le-ltb (4 + length content + 3) (length r) few)
content_spelled parts (Some rows) r content rest there h p q =
    let all : drop 4 r ≡ content = there ∙ ap (λ z. content ++ z) q ∙ append-nil content in
    let two : drop 4 r ≡ p.0 ++ p.1 = all ∙ p.2 in
    let s = stands_from r 4 p.0 p.1 h two in
    let long : length r - 4 ≡ length content = sym (length-drop 4 r) ∙ ap length all in
    let behind : drop (4 + length p.0) r ≡ p.1 = behind_front r p.0 p.1 two in
    let end : length r ≡ 4 + length content = omega arith in
    then_ok (parts_end parts r (cursor 4 0)) (4 + length p.0) (tail_end (Some rows) r) (parts_whole parts r 4 0 p.0 p.3 s)
    ∙ rows_whole rows p.4.0 (length r) r (4 + length p.0) s.room (omega arith) (subst (AreRows rows p.4.0) (sym behind) p.4.1)
    ∙ ap Ok end
  where
    behind_front : (r x y : List ℕ) → drop 4 r ≡ x ++ y → drop (4 + length x) r ≡ y
    behind_front r x y e = sym (drop-drop (length x) 4 r) ∙ ap (drop (length x)) e ∙ drop_at x y (length x) refl

-- the tests of a record's length
pub record Sized (r : List ℕ) : Type 0 where
  pub shortest : 4 ≤ length r
  pub longest : length r ≤ 65536
  pub multiple : length r % 4 ≡ 0
  pub says : little_number 2 r + 2 ≡ length r

sized : (r : List ℕ) → has_length r ≡ true → Sized r
sized r h = record { shortest = grind (arith, common_steps); longest = grind (arith, common_steps); multiple = grind (arith, common_steps); says = grind (arith, common_steps) }

sized_true : (r : List ℕ) → Sized r → has_length r ≡ true
sized_true r s =
    all (ltb (length r) 4) (ltb 65536 (length r)) (eqb (length r % 4) 0) (eqb (little_number 2 r + 2) (length r))
    (le-ltb (length r) 4 s.shortest) (le-ltb 65536 (length r) s.longest) (eq-eqb (length r % 4) 0 s.multiple) (eq-eqb (little_number 2 r + 2) (length r) s.says)
  where
    all : (a b c d : Bool) → a ≡ false → b ≡ false → c ≡ true → d ≡ true → (not a && not b && c && d) ≡ true
    all false false true true p q s t = refl
    all true b c d p q s t = absurd (cc)
    all false true c d p q s t = absurd (cc)
    all false false false d p q s t = absurd (cc)
    all false false true false p q s t = absurd (cc)

pub leaf_spelled : (space : Space) (r : List ℕ) (found : Leaf) → leaf_of space r ≡ Ok found → IsLeaf space r found
unfolding leaf_of
leaf_spelled space r found e =
    let kind = kind_of r in
    let content = content_end (parts_of space kind) (rows_of kind) r in
    let named : ℕ → Result Leaf Malformed = λ end. Ok (leaf kind end) in
    let long = sized r (passes (has_length r) (content >>= named) e) in
    let b = bind_ok content named found (then_is (has_length r) (content >>= named) e) in
    let same : leaf kind b.0 ≡ found = cc in
    let c = content_read (parts_of space kind) (rows_of kind) r b.0 long.shortest b.1 in
    let size_there = stands_take r 0 2 (omega (arith, long.shortest)) in
    let kind_there = stands_take r 2 2 (omega (arith, long.shortest)) in
    let two : length (take 2 r) ≡ 2 = length-take-le 2 r (omega (arith, long.shortest)) in
    let two_more : length (take 2 (drop 2 r)) ≡ 2 = length-take-le 2 (drop 2 r) (rw (length-drop 2 r) (omega (arith, long.shortest))) in
    subst (IsLeaf space r) same (record {
      size = take 2 r;
      kind = take 2 (drop 2 r);
      content = c.2.content;
      rest = c.2.rest;
      parts = c.0;
      whole = sym (take-append-drop 2 r) ∙ ap (λ z. take 2 r ++ z) (sym (take-append-drop 2 (drop 2 r)) ∙ ap (λ z. take 2 (drop 2 r) ++ z) (drop-drop 2 2 r ∙ c.2.there));
      size_len = two;
      kind_len = two_more;
      size_is = ap (λ m. m + 2) (sym (number_taken 2 r two)) ∙ long.says;
      longest = long.longest;
      multiple = long.multiple;
      kind_is = number_taken 2 (drop 2 r) two_more;
      known = c.1;
      content_is = c.2.content_is;
      rest_is = c.2.rest_is;
      end_is = c.2.ends;
    })
  where
    passes : (b : Bool) (x : Result Leaf Malformed) → cond b x (Err (wrong_length 0)) ≡ Ok found → b ≡ true
    passes true x e = refl
    passes false x e = absurd (cc)

    then_is : (b : Bool) (x : Result Leaf Malformed) → cond b x (Err (wrong_length 0)) ≡ Ok found → x ≡ Ok found
    then_is true x e = e
    then_is false x e = absurd (cc)

    number_taken : (n : ℕ) (x : List ℕ) → length (take n x) ≡ n → little_number n x ≡ little_number n (take n x)
    number_taken n x e = ap (little_number n) (sym (take-append-drop n x)) ∙ number_front n (take n x) (drop n x) (omega arith)

pub leaf_read : (space : Space) (r : List ℕ) (found : Leaf) → IsLeaf space r found → leaf_of space r ≡ Ok found
unfolding leaf_of
leaf_read space r found l =
    let behind : drop 2 r ≡ l.kind ++ (l.content ++ l.rest) = ap (drop 2) l.whole ∙ drop_at l.size (l.kind ++ (l.content ++ l.rest)) 2 l.size_len in
    let there : drop 4 r ≡ l.content ++ l.rest = sym (drop-drop 2 2 r) ∙ ap (drop 2) behind ∙ drop_at l.kind (l.content ++ l.rest) 2 l.kind_len in
    let long : length r ≡ 2 + (2 + length (l.content ++ l.rest)) =
    ap length l.whole ∙ length-append l.size (l.kind ++ (l.content ++ l.rest)) ∙ omega (arith, l.size_len, length-append l.kind (l.content ++ l.rest), l.kind_len) in
    let shortest : 4 ≤ length r = omega arith in
    let size : little_number 2 r ≡ little_number 2 l.size = ap (little_number 2) l.whole ∙ number_front 2 l.size (l.kind ++ (l.content ++ l.rest)) (omega (arith, l.size_len)) in
    let kind : kind_of r ≡ found.kind = ap (little_number 2) behind ∙ number_front 2 l.kind (l.content ++ l.rest) (omega (arith, l.kind_len)) ∙ sym l.kind_is in
    let sized : Sized r = record { shortest = shortest; longest = l.longest; multiple = l.multiple; says = ap (λ m. m + 2) size ∙ l.size_is } in
    let named : ℕ → ℕ → Result Leaf Malformed = λ kind end. Ok (leaf kind end) in
    then_case (has_length r) (content_end (parts_of space (kind_of r)) (rows_of (kind_of r)) r >>= named (kind_of r)) (Err (wrong_length 0)) (sized_true r sized)
    ∙ ap (λ k. content_end (parts_of space k) (rows_of k) r >>= named k) kind
    ∙ ap (λ parts. content_end parts (rows_of found.kind) r >>= named found.kind) l.known
    ∙ ap (λ end. end >>= named found.kind) (content_spelled l.parts (rows_of found.kind) r l.content l.rest there shortest l.content_is l.rest_is)
    ∙ ap (named found.kind) (sym l.end_is)
