-- Bytes that stand at a place of a record.
use Rattle.std.proofs.Common.{◌≡◌, ◌≢◌, ◌≤◌, ◌<◌, ◌+◌, ◌-◌, ◌*◌, ℕ, zero, suc, Bool, true, false, cond, eqb, eqb-true, ltb, List, ◌++◌, length, drop, take, get_or, Ok, Err, refl, ap, sym, subst, ◌∙◌, append_assoc, arith, length-append, length-drop, le-ltb}
use Rattle.std.proofs.lemmas.List.{take-append-drop, length-take-le, drop-drop, drop_at, get_or-drop, get_or_append_left}
use Rattle.byteorder.specs.Endian.{little_from, little_number}
use Rattle.leaf_grammar.specs.Leaf.{bytes_on, too_short}
use Rattle.leaf_grammar.proofs.Further.{bytes_on-is}
use Rattle.leaf_grammar.proofs.Rooms.{bytes_room, ok_is}

pub then_case : {A : Type 0} (b : Bool) (x y : A) → b ≡ true → cond b x y ≡ x
then_case true x y e = refl
then_case false x y e = absurd (cc)

pub else_case : {A : Type 0} (b : Bool) (x y : A) → b ≡ false → cond b x y ≡ y
else_case true x y e = absurd (cc)
else_case false x y e = refl

pub eqb_apart : (x y : ℕ) → x ≢ y → eqb x y ≡ false
eqb_apart x y h = go (eqb x y) refl where
  go : (b : Bool) → eqb x y ≡ b → eqb x y ≡ false
  go true t = absurd (h (eqb-true x y t))
  go false t = t

-- these bytes stand at a place
pub record Stands (r : List ℕ) (at : ℕ) (x : List ℕ) : Type 0 where
  pub room : at + length x ≤ length r
  pub there : drop at r ≡ x ++ drop (at + length x) r

-- bytes that stand from a place to another, and are so
pub record Piece (r : List ℕ) (at end : ℕ) (P : List ℕ → Type 0) : Type 0 where
  pub bytes : List ℕ
  pub stands : Stands r at bytes
  pub ends : end ≡ at + length bytes
  pub is : P bytes

pub stands_take : (r : List ℕ) (at n : ℕ) → at + n ≤ length r → Stands r at (take n (drop at r))
stands_take r at n h =
    let long : length (take n (drop at r)) ≡ n = length-take-le n (drop at r) (rw (length-drop at r) (omega arith)) in
    record {
      room = omega arith;
      there = sym (take-append-drop n (drop at r)) ∙ ap (λ rest. take n (drop at r) ++ rest) (drop-drop n at r)
          ∙ ap (λ m. take n (drop at r) ++ drop (at + m) r) (sym long);
    }

behind : (r : List ℕ) (at : ℕ) (x rest : List ℕ) → drop at r ≡ x ++ rest → drop (at + length x) r ≡ rest
behind r at x rest e = sym (drop-drop (length x) at r) ∙ ap (drop (length x)) e ∙ drop_at x rest (length x) refl

-- where bytes stand in front of any others
pub stands_from : (r : List ℕ) (at : ℕ) (x rest : List ℕ) → at ≤ length r → drop at r ≡ x ++ rest → Stands r at x
stands_from r at x rest h e =
    let long : length r - at ≡ length x + length rest = sym (length-drop at r) ∙ ap length e ∙ length-append x rest in
    record { room = omega arith; there = e ∙ ap (λ y. x ++ y) (sym (behind r at x rest e)) }

parted : (r : List ℕ) (at : ℕ) (x y : List ℕ) → Stands r at (x ++ y) → drop at r ≡ x ++ (y ++ drop (at + length (x ++ y)) r)
parted r at x y s = s.there ∙ append_assoc x y (drop (at + length (x ++ y)) r)

pub stands_front : (r : List ℕ) (at : ℕ) (x y : List ℕ) → Stands r at (x ++ y) → Stands r at x
stands_front r at x y s = stands_from r at x (y ++ drop (at + length (x ++ y)) r) (omega (arith, s.room)) (parted r at x y s)

pub stands_back : (r : List ℕ) (at : ℕ) (x y : List ℕ) → Stands r at (x ++ y) → Stands r (at + length x) y
stands_back r at x y s =
    stands_from r (at + length x) y (drop (at + length (x ++ y)) r) (omega (arith, s.room, length-append x y))
    (behind r at x (y ++ drop (at + length (x ++ y)) r) (parted r at x y s))

pub stands_both : (r : List ℕ) (at : ℕ) (x y : List ℕ) → Stands r at x → Stands r (at + length x) y → Stands r at (x ++ y)
stands_both r at x y s t =
    stands_from r at (x ++ y) (drop (at + length x + length y) r) (omega (arith, s.room))
    (s.there ∙ ap (λ z. x ++ z) t.there ∙ sym (append_assoc x y (drop (at + length x + length y) r)))

-- two pieces, one behind the other
pub joined : (r : List ℕ) (at mid end : ℕ) (P Q S : List ℕ → Type 0) → Piece r at mid P → Piece r mid end Q → ((x y : List ℕ) → P x → Q y → S (x ++ y)) → Piece r at end S
joined r at mid end P Q S p q f =
    let Behind : ℕ → Type 0 = λ m. Stands r m q.bytes in
    record {
      bytes = p.bytes ++ q.bytes;
      stands = stands_both r at p.bytes q.bytes p.stands (subst Behind p.ends q.stands);
      ends = omega (arith, p.ends, q.ends, length-append p.bytes q.bytes);
      is = f p.bytes q.bytes p.is q.is;
    }

-- the first n bytes of a list have its number
little_from-front : (n i : ℕ) (x y : List ℕ) → i + n ≤ length x → little_from i n (x ++ y) ≡ little_from i n x
little_from-front zero i x y h = refl
little_from-front (suc n) i x y h =
    ap (λ b. b + 256 * little_from (suc i) n (x ++ y)) (get_or_append_left x y 0 i (omega arith))
    ∙ ap (λ m. get_or x i 0 + 256 * m) (little_from-front n (suc i) x y (omega arith))

pub number_front : (n : ℕ) (x y : List ℕ) → n ≤ length x → little_number n (x ++ y) ≡ little_number n x
number_front n x y h = little_from-front n 0 x y (omega arith)

-- the number that stands at a place
pub number_there : (n : ℕ) (r : List ℕ) (at : ℕ) (x : List ℕ) → n ≤ length x → Stands r at x → little_number n (drop at r) ≡ little_number n x
number_there n r at x h s = ap (little_number n) s.there ∙ number_front n x (drop (at + length x) r) h

pub byte_there : (r : List ℕ) (at : ℕ) (x : List ℕ) → 0 < length x → Stands r at x → get_or r at 0 ≡ get_or x 0 0
byte_there r at x h s =
    let here : at + 0 ≡ at = omega arith in
    ap (λ i. get_or r i 0) (sym here) ∙ sym (get_or-drop at r 0 0) ∙ ap (λ z. get_or z 0 0) s.there
    ∙ get_or_append_left x (drop (at + length x) r) 0 0 h

-- as many bytes as are asked for
pub bytes_piece : (n : ℕ) (r : List ℕ) (at end : ℕ) → bytes_on n r at ≡ Ok end → Piece r at end (λ x. length x ≡ n)
bytes_piece n r at end e =
    let room : at + n ≤ length r = bytes_room n r at (ok_is (bytes_on n r at) end e) in
    let long : length (take n (drop at r)) ≡ n = length-take-le n (drop at r) (rw (length-drop at r) (omega arith)) in
    record { bytes = take n (drop at r); stands = stands_take r at n room; ends = omega (arith, bytes_on-is n r at end e, long); is = long }

pub bytes_whole : (n : ℕ) (r : List ℕ) (at : ℕ) (x : List ℕ) → length x ≡ n → Stands r at x → bytes_on n r at ≡ Ok (at + length x)
bytes_whole n r at x e s =
    let long : at + n ≤ length r = omega (arith, s.room) in
    let end : at + n ≡ at + length x = omega arith in
    else_case (ltb (length r) (at + n)) (Err (too_short at)) (Ok (at + n)) (le-ltb (length r) (at + n) long) ∙ ap Ok end
