-- A list is cut into records in one way.
use Rattle.std.proofs.Common.{◌≡◌, ◌≢◌, ◌≤◌, ◌<◌, ◌+◌, ◌*◌, ◌^◌, ℕ, List, [], ◌∷◌, ◌++◌, length, take, drop, refl, sym, ap, ◌∙◌, arith, append_assoc, length-append}
use Rattle.std.proofs.Math.Seq.{take-append-add}
use Rattle.std.proofs.lemmas.List.{append-nil, drop-drop, drop_all, drop_at, length-drop, length-take-le, take-append-drop, take_at}
use Rattle.srv_edge.specs.declared.limit.TheConstants.{LIST_RECORDS}
use Rattle.srv_edge.specs.Frames.{half_bytes}
use Rattle.srv_edge.specs.Records.{joined}
use Rattle.srv_edge.proofs.Numbers.{length-half_bytes, little_number-half}
use Rattle.byteorder.specs.Endian.{little_number}
use Rattle.request_frames.specs.Lists.{AreListed, AreRecords, BeginsWith, BeginsWithNone, IsListed}

-- a record of a list is not empty
pub some_bytes : (r : List ℕ) → IsListed r → 2 ≤ length r
some_bytes r is = omega (arith, ap length is.1, length-append (half_bytes (length is.0)) is.0, length-half_bytes (length is.0))

-- what begins with two records begins with one
pub record SameRecord (r q xs ys : List ℕ) : Type 0 where
  pub same : r ≡ q
  pub rest : xs ≡ ys

pub same_record : (r q xs ys : List ℕ) → IsListed r → IsListed q → r ++ xs ≡ q ++ ys → SameRecord r q xs ys
same_record r q xs ys ir iq e =
    let m = length ir.0 in
    let n = length iq.0 in
    let spread : half_bytes m ++ (ir.0 ++ xs) ≡ half_bytes n ++ (iq.0 ++ ys) =
    sym (append_assoc (half_bytes m) ir.0 xs) ∙ ap (λ zs. zs ++ xs) (sym ir.1) ∙ e ∙ ap (λ zs. zs ++ ys) iq.1 ∙ append_assoc (half_bytes n) iq.0 ys in
    let number : m ≡ n = sym (little_number-half m (ir.0 ++ xs) ir.2) ∙ ap (little_number 2) spread ∙ little_number-half n (iq.0 ++ ys) iq.2 in
    let count : length r ≡ length q =
    omega (arith, number, ap length ir.1, ap length iq.1, length-append (half_bytes m) ir.0, length-append (half_bytes n) iq.0, length-half_bytes m, length-half_bytes n) in
    record {
      same = sym (take_at r xs (length r) refl) ∙ ap (take (length r)) e ∙ take_at q ys (length r) (sym count);
      rest = sym (drop_at r xs (length r) refl) ∙ ap (drop (length r)) e ∙ drop_at q ys (length r) (sym count);
    }

-- Records, and others up to a place at which none stands: they are the same, and nothing is left.
pub record SameRecords (records done : List (List ℕ)) (rest : List ℕ) : Type 0 where
  pub same : records ≡ done
  pub none : rest ≡ []

pub same_records : (records done : List (List ℕ)) (rest : List ℕ) → AreListed records → AreListed done
    → ((r more : List ℕ) → IsListed r → rest ≢ r ++ more) → joined records ≡ joined done ++ rest → SameRecords records done rest
same_records [] [] rest each each' stop e = record { same = refl; none = sym e }
same_records [] (d ∷ done) rest each each' stop e =
    absurd (omega (arith, ap length e, length-append (d ++ joined done) rest, length-append d (joined done), some_bytes d each'.0))
same_records (r ∷ records) [] rest each each' stop e = absurd (stop r (joined records) each.0 (sym e))
same_records (r ∷ records) (d ∷ done) rest each each' stop e =
    let first = same_record r d (joined records) (joined done ++ rest) each.0 each'.0 (e ∙ append_assoc d (joined done) rest) in
    let others = same_records records done rest each.1 each'.1 stop first.rest in
    record { same = ap (λ x. x ∷ records) first.same ∙ ap (λ xs. d ∷ xs) others.same; none = others.none }

-- no record stands where there is nothing
nothing_stands : (r more : List ℕ) → IsListed r → [] ≢ r ++ more
nothing_stands r more is = λ e. omega (arith, ap length e, length-append r more, some_bytes r is)

pub one_list : (list : List ℕ) (one other : List (List ℕ)) → AreRecords list one → AreRecords list other → one ≡ other
one_list list one other a b =
    (same_records one other [] a.each b.each nothing_stands (sym a.join ∙ b.join ∙ sym (append-nil (joined other)))).same

-- records so far, up to a place of a list
pub record Cut (list : List ℕ) (at : ℕ) (done : List (List ℕ)) : Type 0 where
  pub each : AreListed done
  pub split : list ≡ joined done ++ drop at list
  pub place : at ≡ length (joined done)

joined-push : (done : List (List ℕ)) (r : List ℕ) → joined (done ++ r ∷ []) ≡ joined done ++ r
joined-push [] r = append-nil r
joined-push (d ∷ done) r = ap (λ xs. d ++ xs) (joined-push done r) ∙ sym (append_assoc d (joined done) r)

each-push : (done : List (List ℕ)) (r : List ℕ) → AreListed done → IsListed r → AreListed (done ++ r ∷ [])
each-push [] r each is = (is, tt)
each-push (d ∷ done) r each is = (each.0, each-push done r each.1 is)

-- one record more
pub cut_more : (list : List ℕ) (at : ℕ) (done : List (List ℕ)) (r : List ℕ) → Cut list at done → BeginsWith (drop at list) r → Cut list (at + length r) (done ++ r ∷ [])
cut_more list at done r cut stands = record {
  each = each-push done r cut.each stands.listed;
  split =
      cut.split
      ∙ ap (λ xs. joined done ++ xs) (stands.begins ∙ ap (λ xs. r ++ xs) (drop-drop (length r) at list))
      ∙ sym (append_assoc (joined done) r (drop (at + length r) list))
      ∙ ap (λ xs. xs ++ drop (at + length r) list) (sym (joined-push done r));
  place = omega (arith, cut.place, ap length (joined-push done r), length-append (joined done) r);
}

-- the records of a list are those that were cut, where none stands behind them
pub all_cut : (list : List ℕ) (at : ℕ) (done records : List (List ℕ)) → Cut list at done → BeginsWithNone (drop at list) → AreRecords list records → SameRecords records done (drop at list)
all_cut list at done records cut stop are = same_records records done (drop at list) are.each cut.each stop (sym are.join ∙ cut.split)

-- a record begins with its length, and bytes that begin with it are as long
pub begins : (rest r more : List ℕ) (n : ℕ) → rest ≡ half_bytes n ++ drop 2 rest → n < 2 ^ 16 → IsListed r → rest ≡ r ++ more → 2 + n ≤ length rest
begins rest r more n read fits is e =
    let m = length is.0 in
    let spread : rest ≡ half_bytes m ++ (is.0 ++ more) = e ∙ ap (λ xs. xs ++ more) is.1 ∙ append_assoc (half_bytes m) is.0 more in
    let number : n ≡ m = sym (little_number-half n (drop 2 rest) fits) ∙ ap (little_number 2) (sym read ∙ spread) ∙ little_number-half m (is.0 ++ more) is.2 in
    omega (arith, number, ap length spread, length-append (half_bytes m) (is.0 ++ more), length-append is.0 more, length-half_bytes m)

-- bytes that are as long as they say begin with a record
pub front : (rest : List ℕ) (n : ℕ) → rest ≡ half_bytes n ++ drop 2 rest → n < 2 ^ 16 → 2 + n ≤ length rest → BeginsWith rest (take (2 + n) rest)
front rest n read fits le =
    let content = take n (drop 2 rest) in
    let count : length content ≡ n = length-take-le n (drop 2 rest) (omega (arith, le, length-drop 2 rest)) in
    let cut : take (2 + n) rest ≡ half_bytes n ++ content = ap (take (2 + n)) read ∙ ap (λ k. take (k + n) (half_bytes n ++ drop 2 rest)) (sym (length-half_bytes n)) ∙ take-append-add (half_bytes n) (drop 2 rest) n in
    let whole : length (take (2 + n) rest) ≡ 2 + n = length-take-le (2 + n) rest le in
    record {
      listed = (content, cut ∙ ap (λ k. half_bytes k ++ content) (sym count), omega (arith, count, fits));
      begins = sym (take-append-drop (2 + n) rest) ∙ ap (λ k. take (2 + n) rest ++ drop k rest) (sym whole);
    }

-- records that were cut are no more than half of the bytes before the place
few_records : (done : List (List ℕ)) → AreListed done → 2 * length done ≤ length (joined done)
few_records [] each = omega arith
few_records (d ∷ done) each = omega (arith, few_records done each.1, some_bytes d each.0, length-append d (joined done))

pub record Within (list : List ℕ) (at : ℕ) (done : List (List ℕ)) : Type 0 where
  pub within : at ≤ length list
  pub few : 2 * length done ≤ at

pub cut_within : (list : List ℕ) (at : ℕ) (done : List (List ℕ)) → Cut list at done → Within list at done
cut_within list at done cut = record {
  within = omega (arith, cut.place, ap length cut.split, length-append (joined done) (drop at list));
  few = omega (arith, cut.place, few_records done cut.each);
}

pub record_within : (list : List ℕ) (at : ℕ) (r : List ℕ) → at ≤ length list → BeginsWith (drop at list) r → at + length r ≤ length list
record_within list at r le stands =
    omega (arith, le, ap length stands.begins, length-drop at list, length-append r (drop (length r) (drop at list)))

-- nothing is left behind the last record
pub cut_all : (list : List ℕ) (at : ℕ) (done : List (List ℕ)) → Cut list at done → length list ≤ at → list ≡ joined done
cut_all list at done cut all = cut.split ∙ ap (λ xs. joined done ++ xs) (drop_all at list all) ∙ append-nil (joined done)

-- records that were cut are fewer than those of the list where one more stands behind them
fewer : (records done : List (List ℕ)) (rest r more : List ℕ) → AreListed records → AreListed done → IsListed r → rest ≡ r ++ more
    → joined records ≡ joined done ++ rest → length done < length records
fewer [] [] rest r more each each' is begins e = absurd (nothing_stands r more is (e ∙ begins))
fewer [] (d ∷ done) rest r more each each' is begins e =
    absurd (omega (arith, ap length e, length-append (d ++ joined done) rest, length-append d (joined done), some_bytes d each'.0))
fewer (q ∷ records) [] rest r more each each' is begins e = omega arith
fewer (q ∷ records) (d ∷ done) rest r more each each' is begins e =
    let first = same_record q d (joined records) (joined done ++ rest) each.0 each'.0 (e ∙ append_assoc d (joined done) rest) in
    omega (arith, fewer records done rest r more each.1 each'.1 is begins first.rest)

pub cut_fewer : (list : List ℕ) (at : ℕ) (done records : List (List ℕ)) (r : List ℕ) → Cut list at done → AreRecords list records → BeginsWith (drop at list) r
    → length done < LIST_RECORDS
cut_fewer list at done records r cut are stands =
    let less = fewer records done (drop at list) r (drop (length r) (drop at list)) are.each cut.each stands.listed stands.begins (sym are.join ∙ cut.split) in
    omega (arith, less, are.few)

-- before the first record
pub none_cut : (list : List ℕ) → Cut list 0 []
none_cut list = record { each = tt; split = refl; place = refl }
