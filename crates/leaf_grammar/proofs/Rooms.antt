-- What was read has its bytes.
use Rattle.std.proofs.Common.{◌≡◌, ◌≤◌, ◌+◌, ◌%◌, ℕ, suc, Bool, true, false, cond, ltb, List, ◌∷◌, length, Option, Some, Result, Ok, Err, IsOk, refl, subst, sym, arith}
use Rattle.std.proofs.lemmas.Bool.{false≢true}
use Rattle.std.proofs.lemmas.Grind.{common_steps}
use Rattle.leaf_grammar.specs.declared.grammar.Space.{Space}
use Rattle.leaf_grammar.specs.declared.grammar.Form.{Form}
use Rattle.leaf_grammar.specs.declared.grammar.Form.TheVariants as form
use Rattle.leaf_grammar.specs.declared.grammar.Condition.{Condition}
use Rattle.leaf_grammar.specs.declared.grammar.Part.{Part}
use Rattle.leaf_grammar.specs.declared.grammar.Part.TheVariants.{Always, Where}
use Rattle.leaf_grammar.specs.declared.grammar.Cursor.{Cursor}
use Rattle.leaf_grammar.specs.declared.grammar.Leaf.{Leaf}
use Rattle.leaf_grammar.specs.declared.grammar.Malformed.{Malformed}
use Rattle.leaf_grammar.specs.Kinds.{parts_of, rows_of}
use Rattle.leaf_grammar.specs.Leaf.{◌>>=◌, behind_form, bytes_on, form_end, cursor, past, says, parts_end, tail_end, content_end, kind_of, leaf_of, leaf, has_length, too_short, wrong_length}

-- what came first, where what came behind it is Ok
pub first_ok : {A B : Type 0} (first : Result A Malformed) (f : A → Result B Malformed) → IsOk (first >>= f) → (x : A) × (first ≡ Ok x) × IsOk (f x)
first_ok (Ok x) f h = (x, refl, h)
first_ok (Err bad) f h = absurd (false≢true h)

pub ok_is : {A E : Type 0} (r : Result A E) (x : A) → r ≡ Ok x → IsOk r
ok_is {A} {E} r x e = let P : Result A E → Type 0 = λ y. IsOk y in subst P (sym e) refl

pub then_ok : {A E : Type 0} (b : Bool) (x : Result A E) (bad : E) → IsOk (cond b x (Err bad)) → (b ≡ true) × IsOk x
then_ok true x bad h = (refl, h)
then_ok false x bad h = absurd (false≢true h)

within_else : (b : Bool) (r : List ℕ) (at n : ℕ) → b ≡ ltb (length r) (at + n) → IsOk (cond {A = Result ℕ Malformed} b (Err (too_short at)) (Ok (at + n))) → at + n ≤ length r
within_else true r at n e h = absurd (false≢true h)
within_else false r at n e h = grind (arith, common_steps)

pub bytes_room : (n : ℕ) (r : List ℕ) (at : ℕ) → IsOk (bytes_on n r at) → at + n ≤ length r
bytes_room n r at h = within_else (ltb (length r) (at + n)) r at n refl h

pub form_ok : (f : Form) (r : List ℕ) (c : Cursor) → IsOk (past (Always f) r c) → IsOk (form_end f r c.at)
unfolding past
form_ok f r c h =
    let b = first_ok (form_end f r c.at) (λ at. Ok (cursor at c.attributes)) h in
    ok_is (form_end f r c.at) b.0 b.1

pub where_ok : (condition : Condition) (f : Form) (r : List ℕ) (c : Cursor) → says condition c.attributes ≡ true → IsOk (past (Where condition f) r c) → IsOk (form_end f r c.at)
unfolding past
where_ok condition f r c e h =
    let P : Bool → Type 0 = λ b. IsOk (cond b (behind_form c (form_end f r c.at)) (Ok c)) in
    form_ok f r c (subst P e h)

-- how long a leaf is
pub record HasRoom (r : List ℕ) : Type 0 where
  pub shortest : 4 ≤ length r
  pub longest : length r ≤ 65536
  pub whole : length r % 4 ≡ 0

length_room : (r : List ℕ) → has_length r ≡ true → HasRoom r
length_room r h = record { shortest = grind (arith, common_steps); longest = grind (arith, common_steps); whole = grind (arith, common_steps) }

pub content_ok : (space : Space) (r : List ℕ) → IsOk (leaf_of space r) → (has_length r ≡ true) × IsOk (content_end (parts_of space (kind_of r)) (rows_of (kind_of r)) r)
unfolding leaf_of
content_ok space r h =
    let content = content_end (parts_of space (kind_of r)) (rows_of (kind_of r)) r in
    let named : ℕ → Result Leaf Malformed = λ end. Ok (leaf (kind_of r) end) in
    let t = then_ok (has_length r) (content >>= named) (wrong_length 0) h in
    let b = first_ok content named t.1 in
    (t.0, ok_is content b.0 b.1)

-- a leaf has 4 to 65,536 bytes, and a multiple of 4
pub leaf_room : (space : Space) (r : List ℕ) → IsOk (leaf_of space r) → HasRoom r
leaf_room space r h = length_room r (content_ok space r h).0

-- the parts of a leaf's kind were read
pub leaf_parts : (space : Space) (r : List ℕ) (parts : List Part) → IsOk (leaf_of space r) → parts_of space (kind_of r) ≡ Some parts → IsOk (parts_end parts r (cursor 4 0))
leaf_parts space r parts h e =
    let P : Option (List Part) → Type 0 = λ some. IsOk (content_end some (rows_of (kind_of r)) r) in
    let b = first_ok (parts_end parts r (cursor 4 0)) (tail_end (rows_of (kind_of r)) r) (subst P e (content_ok space r h).1) in
    ok_is (parts_end parts r (cursor 4 0)) b.0 b.1

-- a leaf that begins with an index has its bytes, and one that begins with a number
pub index_first : (index space : Space) (r : List ℕ) (parts : List Part) → IsOk (leaf_of space r) → parts_of space (kind_of r) ≡ Some (Always (form.Index index) ∷ parts) → 8 ≤ length r
unfolding form_end
index_first index space r parts h e =
    let b = first_ok (past (Always (form.Index index)) r (cursor 4 0)) (parts_end parts r) (leaf_parts space r (Always (form.Index index) ∷ parts) h e) in
    bytes_room 4 r 4 (form_ok (form.Index index) r (cursor 4 0) (ok_is (past (Always (form.Index index)) r (cursor 4 0)) b.0 b.1))

pub number_first : (n : ℕ) (space : Space) (r : List ℕ) (parts : List Part) → IsOk (leaf_of space r) → parts_of space (kind_of r) ≡ Some (Always (form.Number (suc n)) ∷ parts) → 8 ≤ length r
unfolding form_end
number_first n space r parts h e =
    let b = first_ok (past (Always (form.Number (suc n))) r (cursor 4 0)) (parts_end parts r) (leaf_parts space r (Always (form.Number (suc n)) ∷ parts) h e) in
    let room = bytes_room (suc n) r 4 (form_ok (form.Number (suc n)) r (cursor 4 0) (ok_is (past (Always (form.Number (suc n))) r (cursor 4 0)) b.0 b.1)) in
    let whole = (leaf_room space r h).whole in
    omega arith
