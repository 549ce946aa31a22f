-- A word tells its caller and its deed, and a deed that a word tells has no other word of that caller.
use Rattle.std.proofs.Common.{◌≡◌, ◌<◌, ◌≤◌, ◌^◌, ◌+◌, ◌-◌, ◌*◌, ◌/◌, ◌%◌, ◌==◌, ℕ, Bool, true, false, cond, Option, Some, None, refl, sym, subst, ltb, arith}
use Rattle.std.proofs.lemmas.Bool.{eqb-true, eqb-false, ltb-false}
use Rattle.call_journal.specs.declared.deed.TableKind.{TableKind}
use Rattle.call_journal.specs.declared.deed.TableKind.TheVariants.{Types, Items, Names}
use Rattle.call_journal.specs.declared.deed.Limit.{Limit}
use Rattle.call_journal.specs.declared.deed.Limit.TheVariants as limit
use Rattle.call_journal.specs.declared.deed.Deed.{Deed}
use Rattle.call_journal.specs.declared.deed.Deed.TheVariants.{Added, Asked, Counted, NotGiven, Full, Began, Ended, Underway}
use Rattle.call_journal.specs.Words.{IsDeed, deed_by, deed_of, end_of, full_deed, kind_of, limit_number, limit_of, low_of, middle_of, not_given_deed, number_of, plain_deed, table_of, with_table, word_of}

-- a word by its four parts
abbrev word_by : ℕ → ℕ → ℕ → ℕ → ℕ
word_by caller kind middle low = 2 ^ 56 * caller + 2 ^ 48 * kind + 2 ^ 32 * middle + low

-- the parts, read back
record HasParts (caller kind middle low word : ℕ) : Type 0 where
  caller_is : word / 2 ^ 56 ≡ caller
  kind_is : word / 2 ^ 48 % 256 ≡ kind
  middle_is : word / 2 ^ 32 % 65536 ≡ middle
  low_is : word % 2 ^ 32 ≡ low

has_parts : (caller kind middle low : ℕ) → kind < 256 → middle < 65536 → low < 2 ^ 32 → HasParts caller kind middle low (word_by caller kind middle low)
has_parts caller kind middle low k m l = record {
  caller_is = omega arith;
  kind_is = omega arith;
  middle_is = omega arith;
  low_is = omega arith;
}

small_number : (table : TableKind) → number_of table < 3
small_number Types = omega arith
small_number Items = omega arith
small_number Names = omega arith

small_limit : (l : Limit) → limit_number l < 4
small_limit limit.Records = omega arith
small_limit limit.Bytes = omega arith
small_limit limit.Names = omega arith

small_kind : (deed : Deed) → kind_of deed < 256
small_kind (Added table at) = omega (arith, small_number table)
small_kind (Asked table at) = omega (arith, small_number table)
small_kind Counted = omega arith
small_kind (NotGiven index space table) = omega arith
small_kind (Full length l table) = omega arith
small_kind (Began number) = omega arith
small_kind (Ended number acknowledged) = omega arith
small_kind (Underway number) = omega arith

small_middle : (deed : Deed) → middle_of deed < 65536
small_middle (Added table at) = omega arith
small_middle (Asked table at) = omega arith
small_middle Counted = omega arith
small_middle (NotGiven index space table) = omega (arith, small_number space, small_number table)
small_middle (Full length l table) = omega (arith, small_limit l, small_number table)
small_middle (Began number) = omega arith
small_middle (Ended number true) = omega arith
small_middle (Ended number false) = omega arith
small_middle (Underway number) = omega arith

-- a deed, read back from its three numbers
read_back : (deed : Deed) → deed_by (kind_of deed) (middle_of deed) (low_of deed) ≡ Some deed
read_back (Added Types at) = refl
read_back (Added Items at) = refl
read_back (Added Names at) = refl
read_back (Asked Types at) = refl
read_back (Asked Items at) = refl
read_back (Asked Names at) = refl
read_back Counted = refl
read_back (NotGiven index Types Types) = refl
read_back (NotGiven index Types Items) = refl
read_back (NotGiven index Types Names) = refl
read_back (NotGiven index Items Types) = refl
read_back (NotGiven index Items Items) = refl
read_back (NotGiven index Items Names) = refl
read_back (NotGiven index Names Types) = refl
read_back (NotGiven index Names Items) = refl
read_back (NotGiven index Names Names) = refl
read_back (Full length limit.Records Types) = refl
read_back (Full length limit.Records Items) = refl
read_back (Full length limit.Records Names) = refl
read_back (Full length limit.Bytes Types) = refl
read_back (Full length limit.Bytes Items) = refl
read_back (Full length limit.Bytes Names) = refl
read_back (Full length limit.Names Types) = refl
read_back (Full length limit.Names Items) = refl
read_back (Full length limit.Names Names) = refl
read_back (Began number) = refl
read_back (Ended number true) = refl
read_back (Ended number false) = refl
read_back (Underway number) = refl

parts_of : (caller : ℕ) (deed : Deed) → IsDeed deed → HasParts caller (kind_of deed) (middle_of deed) (low_of deed) (word_of caller deed)
unfolding word_of
parts_of caller deed is = has_parts caller (kind_of deed) (middle_of deed) (low_of deed) (small_kind deed) (small_middle deed) is

-- a word tells its caller
pub caller_of_word : (caller : ℕ) (deed : Deed) → IsDeed deed → word_of caller deed / 2 ^ 56 ≡ caller
caller_of_word caller deed is = (parts_of caller deed is).caller_is

-- a word tells its deed
pub deed_of_word : (caller : ℕ) (deed : Deed) → IsDeed deed → deed_of (word_of caller deed) ≡ Some deed
unfolding deed_of
deed_of_word caller deed is =
    let p : HasParts caller (kind_of deed) (middle_of deed) (low_of deed) (word_of caller deed) = parts_of caller deed is in
    rw (p.kind_is, p.middle_is, p.low_is) (read_back deed)

-- the word of a caller of one byte has 64 bits
pub small_word : (caller : ℕ) (deed : Deed) → caller < 256 → IsDeed deed → word_of caller deed < 2 ^ 64
unfolding word_of
small_word caller deed c is = omega (arith, small_kind deed, small_middle deed)

-- numbers, read back from what they stand for
number_back : (n : ℕ) (table : TableKind) → table_of n ≡ Some table → n ≡ number_of table
number_back n table e = grind arith

limit_back : (n : ℕ) (l : Limit) → limit_of n ≡ Some l → n ≡ limit_number l
limit_back n l e = grind arith

-- three numbers are those of a deed
abbrev AreOf : ℕ → ℕ → ℕ → Deed → Type 0
AreOf kind middle low deed = (kind ≡ kind_of deed) × (middle ≡ middle_of deed) × (low ≡ low_of deed)

not_given_back : (middle low : ℕ) (space table : Option TableKind) (deed : Deed) → table_of (middle % 4) ≡ space → table_of (middle / 4) ≡ table → not_given_deed low space table ≡ Some deed → AreOf 8 middle low deed
not_given_back middle low None table deed s t e = absurd (grind arith)
not_given_back middle low (Some space) None deed s t e = absurd (grind arith)
not_given_back middle low (Some space) (Some table) deed s t e =
    let d : NotGiven low space table ≡ deed = grind arith in
    subst (AreOf 8 middle low) d (refl, omega (arith, number_back (middle % 4) space s, number_back (middle / 4) table t), refl)

full_back : (middle low : ℕ) (l : Option Limit) (table : Option TableKind) (deed : Deed) → limit_of (middle % 4) ≡ l → table_of (middle / 4) ≡ table → full_deed low l table ≡ Some deed → AreOf 9 middle low deed
full_back middle low None table deed s t e = absurd (grind arith)
full_back middle low (Some l) None deed s t e = absurd (grind arith)
full_back middle low (Some l) (Some table) deed s t e =
    let d : Full low l table ≡ deed = grind arith in
    subst (AreOf 9 middle low) d (refl, omega (arith, limit_back (middle % 4) l s, number_back (middle / 4) table t), refl)

end_back : (middle low : ℕ) (deed : Deed) → end_of low middle ≡ Some deed → AreOf 11 middle low deed
end_back middle low deed e = grind arith

added_back : (kind low : ℕ) (table : Option TableKind) (deed : Deed) → 1 ≤ kind → table_of (kind - 1) ≡ table → with_table table (λ t. Added t low) ≡ Some deed → AreOf kind 0 low deed
added_back kind low None deed some t e = absurd (grind arith)
added_back kind low (Some table) deed some t e =
    let d : Added table low ≡ deed = grind arith in
    subst (AreOf kind 0 low) d (omega (arith, number_back (kind - 1) table t), refl, refl)

asked_back : (kind low : ℕ) (table : Option TableKind) (deed : Deed) → 4 ≤ kind → table_of (kind - 4) ≡ table → with_table table (λ t. Asked t low) ≡ Some deed → AreOf kind 0 low deed
asked_back kind low None deed some t e = absurd (grind arith)
asked_back kind low (Some table) deed some t e =
    let d : Asked table low ≡ deed = grind arith in
    subst (AreOf kind 0 low) d (omega (arith, number_back (kind - 4) table t), refl, refl)

-- what a test of two numbers chose
chosen : (P : Type 0) (m n : ℕ) (a b : Option Deed) (deed : Deed) → cond (m == n) a b ≡ Some deed → (m ≡ n → a ≡ Some deed → P) → ((m ≡ n → ⊥) → b ≡ Some deed → P) → P
chosen P m n a b deed e same other = go (m == n) refl e where
  go : (t : Bool) → (m == n) ≡ t → cond t a b ≡ Some deed → P
  go true is f = same (eqb-true m n is) f
  go false is f = other (eqb-false m n is) f

of_table_back : (kind low : ℕ) (deed : Deed) → (kind ≡ 0 → ⊥) → cond (ltb kind 4) (with_table (table_of (kind - 1)) (λ t. Added t low)) (with_table (table_of (kind - 4)) (λ t. Asked t low)) ≡ Some deed → AreOf kind 0 low deed
of_table_back kind low deed some e = go (ltb kind 4) refl e where
  go : (t : Bool) → ltb kind 4 ≡ t → cond t (with_table (table_of (kind - 1)) (λ t. Added t low)) (with_table (table_of (kind - 4)) (λ t. Asked t low)) ≡ Some deed → AreOf kind 0 low deed
  go true is f = added_back kind low (table_of (kind - 1)) deed (omega arith) refl f
  go false is f = asked_back kind low (table_of (kind - 4)) deed (ltb-false kind 4 is) refl f

counted_back : (low : ℕ) (deed : Deed) → cond (low == 0) (Some Counted) None ≡ Some deed → AreOf 7 0 low deed
counted_back low deed e = grind arith

began_back : (low : ℕ) (deed : Deed) → Some (Began low) ≡ Some deed → AreOf 10 0 low deed
began_back low deed e = let d : Began low ≡ deed = cc in subst (AreOf 10 0 low) d (refl, refl, refl)

underway_back : (low : ℕ) (deed : Deed) → Some (Underway low) ≡ Some deed → AreOf 12 0 low deed
underway_back low deed e = let d : Underway low ≡ deed = cc in subst (AreOf 12 0 low) d (refl, refl, refl)

plain_back : (kind low : ℕ) (deed : Deed) → plain_deed kind low ≡ Some deed → AreOf kind 0 low deed
plain_back kind low deed e =
    let at : ℕ → Type 0 = λ k. AreOf k 0 low deed in
    chosen (at kind) kind 7 _ _ deed e (λ k f. subst at (sym k) (counted_back low deed f)) (λ _ e.
    chosen (at kind) kind 10 _ _ deed e (λ k f. subst at (sym k) (began_back low deed f)) (λ _ e.
    chosen (at kind) kind 12 _ _ deed e (λ k f. subst at (sym k) (underway_back low deed f)) (λ _ e.
    chosen (at kind) kind 0 _ _ deed e (λ k f. absurd (grind arith)) (λ some e.
    of_table_back kind low deed some e))))

deed_back : (kind middle low : ℕ) (deed : Deed) → deed_by kind middle low ≡ Some deed → AreOf kind middle low deed
deed_back kind middle low deed e =
    let at : ℕ → Type 0 = λ k. AreOf k middle low deed in
    chosen (at kind) kind 8 _ _ deed e (λ k f. subst at (sym k) (not_given_back middle low (table_of (middle % 4)) (table_of (middle / 4)) deed refl refl f)) (λ _ e.
    chosen (at kind) kind 9 _ _ deed e (λ k f. subst at (sym k) (full_back middle low (limit_of (middle % 4)) (table_of (middle / 4)) deed refl refl f)) (λ _ e.
    chosen (at kind) kind 11 _ _ deed e (λ k f. subst at (sym k) (end_back middle low deed f)) (λ _ e.
    chosen (at kind) middle 0 _ _ deed e (λ m f. subst (λ m. AreOf kind m low deed) (sym m) (plain_back kind low deed f)) (λ _ e. absurd (grind arith)))))

-- a word is that of the caller and the deed that it tells
pub word_of_deed : (word : ℕ) (deed : Deed) → deed_of word ≡ Some deed → word < 2 ^ 64 → word ≡ word_of (word / 2 ^ 56) deed
unfolding deed_of word_of
word_of_deed word deed e lt =
    let p : AreOf (word / 2 ^ 48 % 256) (word / 2 ^ 32 % 65536) (word % 2 ^ 32) deed = deed_back (word / 2 ^ 48 % 256) (word / 2 ^ 32 % 65536) (word % 2 ^ 32) deed e in
    omega (arith, p.0, p.1, p.2)

-- and the deed's number has 32 bits
pub is_deed : (word : ℕ) (deed : Deed) → deed_of word ≡ Some deed → IsDeed deed
unfolding deed_of
is_deed word deed e =
    let p : AreOf (word / 2 ^ 48 % 256) (word / 2 ^ 32 % 65536) (word % 2 ^ 32) deed = deed_back (word / 2 ^ 48 % 256) (word / 2 ^ 32 % 65536) (word % 2 ^ 32) deed e in
    omega (arith, p.2)
