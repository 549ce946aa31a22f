-- What is found in one step of a walk, and in the rest.
use Rattle.std.proofs.Common.{◌≡◌, ◌≤◌, ◌<◌, ◌+◌, ◌-◌, ℕ, suc, zero, cond, List, [], ◌++◌, length, Result, Ok, refl, ap, ◌∙◌, arith, lt-ltb, le-ltb}
use Rattle.leaf_grammar.specs.declared.grammar.Form.{Form}
use Rattle.leaf_grammar.specs.declared.grammar.Rows.{Rows}
use Rattle.leaf_grammar.specs.declared.grammar.Malformed.{Malformed}
use Rattle.leaf_grammar.specs.Leaf.{◌>>=◌, row_end, rows_end}
use Rattle.leaf_grammar.specs.Found.{found_in_row, found_in_rows, onwards}

rows_suc : {B : Type 0} (find : Form → List ℕ → ℕ → List B) (rows : Rows) (n m : ℕ) (r : List ℕ) (at : ℕ) → n ≡ suc m → at < length r →
    found_in_rows find rows n r at ≡ found_in_row find rows r at ++ onwards (row_end rows r at) (found_in_rows find rows m r)
rows_suc find rows n m r at e h =
    rw e (ap (λ b. cond b (found_in_row find rows r at ++ onwards (row_end rows r at) (found_in_rows find rows m r)) []) (lt-ltb at (length r) h))

pub rows_step : {B : Type 0} (find : Form → List ℕ → ℕ → List B) (rows : Rows) (n : ℕ) (r : List ℕ) (at : ℕ) (next : Result ℕ Malformed) → at < length r → length r ≤ at + n → row_end rows r at ≡ next →
    found_in_rows find rows n r at ≡ found_in_row find rows r at ++ onwards next (found_in_rows find rows (n - 1) r)
rows_step find rows n r at next h few e =
    rows_suc find rows n (n - 1) r at (omega arith) h ∙ ap (λ x. found_in_row find rows r at ++ onwards x (found_in_rows find rows (n - 1) r)) e

pub rows_none : {B : Type 0} (find : Form → List ℕ → ℕ → List B) (rows : Rows) (n : ℕ) (r : List ℕ) (at : ℕ) → length r ≤ at → found_in_rows find rows n r at ≡ []
rows_none find rows zero r at h = refl
rows_none find rows (suc n) r at h =
    ap (λ b. cond b (found_in_row find rows r at ++ onwards (row_end rows r at) (found_in_rows find rows n r)) []) (le-ltb at (length r) h)

rows_end_suc : (rows : Rows) (n m : ℕ) (r : List ℕ) (at next : ℕ) → n ≡ suc m → at < length r → row_end rows r at ≡ Ok next → rows_end rows n r at ≡ rows_end rows m r next
rows_end_suc rows n m r at next e h f =
    rw e (ap (λ b. cond b (row_end rows r at >>= rows_end rows m r) (Ok at)) (lt-ltb at (length r) h) ∙ ap (λ z. z >>= rows_end rows m r) f)

pub rows_end_step : (rows : Rows) (n : ℕ) (r : List ℕ) (at next : ℕ) → at < length r → length r ≤ at + n → row_end rows r at ≡ Ok next → rows_end rows n r at ≡ rows_end rows (n - 1) r next
rows_end_step rows n r at next h few f = rows_end_suc rows n (n - 1) r at next (omega arith) h f
