-- Pages and the words in them.
use Rattle.std.proofs.Common.{◌≡◌, ◌<◌, ◌+◌, ◌*◌, ℕ, zero, suc, List, [], ◌∷◌, ◌++◌, length, length-append, append_assoc, Option, Some, None, refl, sym, ap, ◌∙◌, arith}
use Rattle.std.proofs.lemmas.List.{append-nil}
use Rattle.std.specs.List.{slice_get, AllByRecursion}
use Rattle.std.specs.Option.{option_copied}
use Rattle.std.specs.Slice.{IsItemAt}
use Rattle.std.specs.Borrow.{Bor}
use Rattle.std.proofs.lemmas.Option.{slice_get_past, slice_get_read}
use Rattle.std.specs.Global.{Vec}
use Rattle.call_journal.specs.Journal.{IsFull, words_in}

-- a page more
pub words_in-push : (pages : List (Vec ℕ)) (page : Vec ℕ) → words_in (pages ++ page ∷ []) ≡ words_in pages ++ page.items
words_in-push [] page = append-nil page.items
words_in-push (p ∷ pages) page = ap (λ ws. p.items ++ ws) (words_in-push pages page) ∙ sym (append_assoc p.items (words_in pages) page.items)

-- how many words full pages have
pub length-words_in : (pages : List (Vec ℕ)) → AllByRecursion IsFull pages → length (words_in pages) ≡ 1024 * length pages
length-words_in [] all = refl
length-words_in (p ∷ pages) all = omega (arith, length-append p.items (words_in pages), all.0, length-words_in pages all.1)

-- a place in the first of two lists, and one in the second
slice_get-front : (a b : List ℕ) (i : ℕ) → i < length a → slice_get (a ++ b) i ≡ slice_get a i
slice_get-front [] b i within = absurd (omega arith)
slice_get-front (x ∷ a) b zero within = refl
slice_get-front (x ∷ a) b (suc i) within = slice_get-front a b i (omega arith)

slice_get-behind : (a b : List ℕ) (i j : ℕ) → j ≡ length a + i → slice_get (a ++ b) j ≡ slice_get b i
slice_get-behind [] b i j e = let same : j ≡ i = omega arith in ap (slice_get b) same
slice_get-behind (x ∷ a) b i zero e = absurd (omega arith)
slice_get-behind (x ∷ a) b i (suc j) e = slice_get-behind a b i j (omega arith)

-- the word at a place of a full page
pub word-here : (pages : List (Vec ℕ)) (page : Vec ℕ) (rest : List ℕ) (q r i : ℕ) → AllByRecursion IsFull pages → slice_get pages q ≡ Some page → i ≡ 1024 * q + r → r < 1024
    → slice_get (words_in pages ++ rest) i ≡ slice_get page.items r
word-here [] page rest q r i all at place within = absurd cc
word-here (p ∷ pages) page rest zero r i all at place within =
    let same : p ≡ page = cc in
    let here : i ≡ r = omega arith in
    ap (λ ws. slice_get ws i) (append_assoc p.items (words_in pages) rest)
    ∙ slice_get-front p.items (words_in pages ++ rest) i (omega (arith, all.0))
    ∙ ap (λ v. slice_get v.items i) same ∙ ap (slice_get page.items) here
word-here (p ∷ pages) page rest (suc q) r i all at place within =
    ap (λ ws. slice_get ws i) (append_assoc p.items (words_in pages) rest)
    ∙ slice_get-behind p.items (words_in pages ++ rest) (1024 * q + r) i (omega (arith, all.0))
    ∙ word-here pages page rest q r (1024 * q + r) all.1 at refl within

-- the word at a place behind full pages
pub word-behind : (pages : List (Vec ℕ)) (rest : List ℕ) (r i : ℕ) → AllByRecursion IsFull pages → i ≡ 1024 * length pages + r → slice_get (words_in pages ++ rest) i ≡ slice_get rest r
word-behind pages rest r i all place = slice_get-behind (words_in pages) rest r i (omega (arith, length-words_in pages all))

-- what a place lends, copied
pub item_copied : {X : Type 0} (xs : List X) (i : ℕ) (r : Option (Bor X)) → IsItemAt xs i r → option_copied r ≡ slice_get xs i
item_copied xs i None h = sym (slice_get_past xs i h.3)
item_copied xs i (Some x) h = sym (slice_get_read xs (length xs) i x.now refl h.3.0 h.1)
