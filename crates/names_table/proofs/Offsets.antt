-- Names and their offsets.
use Rattle.std.proofs.Common.{◌≡◌, ◌≢◌, ◌≤◌, ◌+◌, ◌==◌, if◌then◌else◌, ℕ, true, false, Bool, true≢false, cond, eqb, List, [], ◌∷◌, ◌++◌, length, Option, Some, None, is_some, Result, Ok, Err, OnOk, OnErr, All, IfSome, refl, sym, ap, subst, ⊎_elim, ◌⊎◌, inl, inr, ◌∙◌, arith}
use Rattle.std.specs.List.{AllByRecursion}
use Rattle.std.specs.Borrow.{Bor}
use Rattle.std.specs.Global.{Vec}
use Rattle.std.specs.Map.{lookup}
use Rattle.std.specs.Option.{option_copied, option_or}
use Rattle.std.specs.Str.{bytes_eq}
use Rattle.std.proofs.lemmas.Cmp.{nat_list_eq_equiv}
use Rattle.std.proofs.lemmas.List.Elements.{recursion_from_All}
use Rattle.names_table.specs.Entries.{FindsFirst, first_of}
use Rattle.names_table.specs.Names.{IsName, Names, bytes_of, name_from, offset_from, offset_of}

-- a name that is found is one of the names
pub found : (P : List ℕ → Type 0) (start : ℕ) (names : List (List ℕ)) (offset : ℕ) (name : List ℕ) → AllByRecursion P names → name_from start names offset ≡ Some name → P name
found P start [] offset name all e = absurd cc
found P start (x ∷ names) offset name all e = elim (eqb start offset) as (λ b. cond b (Some x) (name_from (start + length x + 1) names offset) ≡ Some name → P name) [
  | true ↦ (λ h. let same : x ≡ name = cc in subst P same all.0)
  | false ↦ (λ h. found P (start + length x + 1) names offset name all.1 h)
] e

-- a name more
pub bytes_of-push : (names : List (List ℕ)) (name : List ℕ) → bytes_of (names ++ name ∷ []) ≡ bytes_of names + length name + 1
bytes_of-push [] name = omega arith
bytes_of-push (x ∷ names) name = omega (arith, bytes_of-push names name)

-- there are no more names than bytes
pub length-le : (names : List (List ℕ)) → length names + 1 ≤ bytes_of names
length-le [] = omega arith
length-le (x ∷ names) = omega (arith, length-le names)

-- a name that is lent has the length of a name
pub found_name : (r : Option (Bor (List ℕ))) (names : List (List ℕ)) (offset : ℕ) → All IsName names → option_copied r ≡ name_from 1 names offset → IfSome r (λ name. length name.now ≤ 65535)
found_name None names offset all is = tt
found_name (Some name) names offset all is = (found IsName 1 names offset name.now (recursion_from_All IsName names all) (sym is)).longest

either : (b : Bool) → (b ≡ true) ⊎ (b ≡ false)
either true = inl refl
either false = inr refl

or_none : (o : Option ℕ) → option_or o None ≡ o
or_none None = refl
or_none (Some n) = refl

-- equal texts are equal to the same texts
alike : (x name text : List ℕ) → bytes_eq name text ≡ true → bytes_eq x name ≡ bytes_eq x text
alike x name text same = nat_list_eq_equiv.symm x name ∙ nat_list_eq_equiv.congr name text x same ∙ nat_list_eq_equiv.symm text x

-- the search of a list that a name more is appended to
offset_from-push : (start : ℕ) (names : List (List ℕ)) (name text : List ℕ) (next : ℕ) → next + 1 ≡ start + bytes_of names
    → offset_from start (names ++ name ∷ []) text ≡ option_or (offset_from start names text) (if bytes_eq name text then Some next else None)
offset_from-push start [] name text next behind =
    let e : start ≡ next = omega (arith, behind) in ap (λ n. cond (bytes_eq name text) (Some n) None) e
offset_from-push start (x ∷ names) name text next behind =
    let rest = offset_from-push (start + length x + 1) names name text next (omega (arith, behind)) in
    elim (bytes_eq x text) as (λ b. cond b (Some start) (offset_from (start + length x + 1) (names ++ name ∷ []) text) ≡ option_or (cond b (Some start) (offset_from (start + length x + 1) names text)) (if bytes_eq name text then Some next else None)) [
      | true ↦ refl
      | false ↦ rest
    ]

-- the search of a map with an entry more
lookup-push : (test : Vec ℕ → Bool) (entries : List (Vec ℕ × ℕ)) (e : Vec ℕ × ℕ) → lookup test (entries ++ e ∷ []) ≡ option_or (lookup test entries) (if test e.0 then Some e.1 else None)
lookup-push test [] e = refl
lookup-push test (x ∷ entries) e = elim (test x.0) as (λ b. cond b (Some x.1) (lookup test (entries ++ e ∷ [])) ≡ option_or (cond b (Some x.1) (lookup test entries)) (if test e.0 then Some e.1 else None)) [
  | true ↦ refl
  | false ↦ lookup-push test entries e
]

-- an empty list and an empty map
pub finds_none : FindsFirst [] []
finds_none [] = refl
finds_none (b ∷ name) = refl

-- the empty text is not that of a name with bytes
empty_differs : (key : List ℕ) → 0 ≢ length key → bytes_eq [] key ≡ false
empty_differs [] some = absurd (some refl)
empty_differs (b ∷ key) some = refl

-- a new name in both
pub finds-push : (names : List (List ℕ)) (entries : List (Vec ℕ × ℕ)) (key : Vec ℕ) (offset : ℕ) → offset ≡ bytes_of names → 0 ≢ length key.items → FindsFirst names entries
    → FindsFirst (names ++ key.items ∷ []) (entries ++ (key, offset) ∷ [])
finds-push names entries key offset at some finds [] =
    lookup-push (λ k. bytes_eq [] k.items) entries (key, offset)
    ∙ (λ j. option_or (finds [] j) (cond (empty_differs key.items some j) (Some offset) None))
finds-push names entries key offset at some finds (b ∷ text) =
    let flip : bytes_eq (b ∷ text) key.items ≡ bytes_eq key.items (b ∷ text) = nat_list_eq_equiv.symm (b ∷ text) key.items in
    lookup-push (λ k. bytes_eq (b ∷ text) k.items) entries (key, offset)
    ∙ (λ j. option_or (finds (b ∷ text) j) (cond (flip j) (Some offset) None))
    ∙ sym (offset_from-push 1 names key.items (b ∷ text) offset (omega (arith, at)))

-- equal texts are found at one place
found_equal : (start : ℕ) (names : List (List ℕ)) (name text : List ℕ) → bytes_eq name text ≡ true → offset_from start names name ≡ offset_from start names text
found_equal start [] name text same = refl
found_equal start (x ∷ names) name text same =
    let rest = found_equal (start + length x + 1) names name text same in
    (λ j. cond (alike x name text same j) (Some start) (rest j))

or_same : (o p : Option ℕ) → is_some o ≡ true → option_or o p ≡ o
or_same None p some = absurd (true≢false (sym some))
or_same (Some n) p some = refl

-- a name more that is found before, or is empty, changes no search
pub finds_still : (table : Names) (entries : List (Vec ℕ × ℕ)) (name : List ℕ) → is_some (offset_of table name) ≡ true → FindsFirst table.names entries → FindsFirst (table.names ++ name ∷ []) entries
finds_still table entries name there finds [] = finds []
finds_still table entries [] there finds (b ∷ text) =
    finds (b ∷ text) ∙ sym (or_none (offset_from 1 table.names (b ∷ text)))
    ∙ sym (offset_from-push 1 table.names [] (b ∷ text) (bytes_of table.names) (omega arith))
finds_still table entries (a ∷ name) there finds (b ∷ text) =
    let next = bytes_of table.names in
    let old = offset_from 1 table.names (b ∷ text) in
    let unchanged : old ≡ option_or old (if bytes_eq (a ∷ name) (b ∷ text) then Some next else None) =
    ⊎_elim (λ t. sym (or_same old (if bytes_eq (a ∷ name) (b ∷ text) then Some next else None) (ap is_some (sym (found_equal 1 table.names (a ∷ name) (b ∷ text) t)) ∙ there)))
    (λ f. sym (ap (λ e. option_or old (cond e (Some next) None)) f ∙ or_none old)) (either (bytes_eq (a ∷ name) (b ∷ text))) in
    finds (b ∷ text) ∙ unchanged ∙ sym (offset_from-push 1 table.names (a ∷ name) (b ∷ text) next (omega arith))

-- where the search begins for a name with bytes
pub first-behind : (table : Names) (name : List ℕ) → false ≡ (length name == 0) → first_of table.names name ≡ offset_of table name
first-behind table [] some = absurd (true≢false (sym some))
first-behind table (b ∷ name) some = refl

pub first-none : (table : Names) (name : List ℕ) → offset_of table name ≡ None → (first_of table.names name ≡ None) × (0 ≢ length name)
first-none table [] none = absurd cc
first-none table (b ∷ name) none = (none, λ e. omega (arith, e))

-- no names where there are none
pub nil_from : (names : List (List ℕ)) → length names ≡ 0 → names ≡ []
nil_from [] e = refl
nil_from (x ∷ names) e = absurd (omega (arith, e))

-- what holds after a call that may want memory
pub either_way : {A E : Type 0} (P : List (List ℕ) → Type 0) (r : Result A E) (new more old : List (List ℕ)) → OnOk r (new ≡ more) → OnErr r (new ≡ old) → P more → P old → P new
either_way P (Ok a) new more old ok err grown same = subst P (sym ok) grown
either_way P (Err e) new more old ok err grown same = subst P (sym err) same
