-- The requests that loops put, one behind another.
use Rattle.std.proofs.Common.{◌≡◌, ◌∙◌, ◌+◌, ℕ, zero, suc, List, [], ◌∷◌, ◌++◌, map, refl, sym, ap, append_assoc, arith}
use Rattle.std.specs.List.{flat_map, range_with_len}
use Rattle.std.proofs.lemmas.List.{flat_map_more, map-id}
use Rattle.std.proofs.lemmas.List.FromFn.{map-range_with_len_more}
use Rattle.std.proofs.lemmas.Grind.{flat_map-append}
use Rattle.request_frames.specs.Requests.{Asked}
use Rattle.drawn_session.specs.Draws.{next_number, number_behind}
use Rattle.drawn_session.specs.Requests.{request_bytes}

-- one request more
pub put_next : (f : ℕ → Asked) (old now : List ℕ) (i : ℕ) → now ≡ old ++ flat_map request_bytes (map f (range_with_len 0 i))
    → now ++ request_bytes (f i) ≡ old ++ flat_map request_bytes (map f (range_with_len 0 (i + 1)))
put_next f old now i is =
    ap (λ xs. xs ++ request_bytes (f i)) is ∙ flat_map_more request_bytes old (map f (range_with_len 0 i)) (f i)
    ∙ ap (λ xs. old ++ flat_map request_bytes xs) (sym (map-range_with_len_more f 0 i i (omega arith)))

pub range_next : (i : ℕ) → range_with_len 0 (i + 1) ≡ range_with_len 0 i ++ i ∷ []
range_next i = sym (map-id _) ∙ map-range_with_len_more (λ x. x) 0 i i (omega arith) ∙ ap (λ xs. xs ++ i ∷ []) (map-id _)

-- one list of requests more
pub put_list : (f : ℕ → List Asked) (old now : List ℕ) (i : ℕ) → now ≡ old ++ flat_map request_bytes (flat_map f (range_with_len 0 i))
    → now ++ flat_map request_bytes (f i) ≡ old ++ flat_map request_bytes (flat_map f (range_with_len 0 (i + 1)))
put_list f old now i is =
    ap (λ xs. xs ++ flat_map request_bytes (f i)) is
    ∙ append_assoc old (flat_map request_bytes (flat_map f (range_with_len 0 i))) (flat_map request_bytes (f i))
    ∙ ap (λ xs. old ++ xs) (sym (flat_map-append request_bytes (flat_map f (range_with_len 0 i)) (f i)))
    ∙ ap (λ xs. old ++ flat_map request_bytes xs) (flat_map_more f [] (range_with_len 0 i) i ∙ ap (flat_map f) (sym (range_next i)))

-- steps behind steps
pub number_behind-add : (x a b : ℕ) → number_behind (number_behind x a) b ≡ number_behind x (a + b)
unfolding number_behind
number_behind-add x a zero = ap (number_behind x) (omega arith)
number_behind-add x a (suc b) = ap next_number (number_behind-add x a b) ∙ ap (number_behind x) (one a b)
  where
    one : (a b : ℕ) → suc (a + b) ≡ a + suc b
    one a b = omega arith

pub number_behind-next : (x n : ℕ) → next_number (number_behind x n) ≡ number_behind x (n + 1)
unfolding number_behind
number_behind-next x n = ap (number_behind x) (one n)
  where
    one : (n : ℕ) → suc n ≡ n + 1
    one n = omega arith

pub number_behind-none : (x : ℕ) → number_behind x 0 ≡ x
unfolding number_behind
number_behind-none x = refl
