-- Records that are added one after another.
use Rattle.std.proofs.Common.{◌≡◌, ◌*◌, ℕ, List, [], ◌∷◌, ◌++◌, length, Result, refl, sym, ap, subst, ◌∙◌, arith, append_assoc, length-append}
use Rattle.std.proofs.lemmas.List.{append-nil}
use Rattle.leaf_grammar.specs.declared.grammar.Space.{Space}
use Rattle.srv_edge.specs.declared.failed.Refusal.{Refusal}
use Rattle.srv_edge.specs.declared.head.Head.{Head}
use Rattle.srv_edge.specs.Frames.{frame_bytes, word_bytes}
use Rattle.srv_edge.proofs.Numbers.{length-word_bytes}
use Rattle.request_frames.specs.Lists.{part_bytes}
use Rattle.request_frames.specs.declared.reply.Part.{Part}
use Rattle.request_frames.proofs.Listing.{Cut}
use Rattle.client_session.specs.Tables.{Adds, AddsEach, Tables, part_of}

-- a part has nine bytes
pub length-part : (p : Part) → length (part_bytes p) ≡ 9
length-part p = omega (arith, length-append (word_bytes p.a) (word_bytes p.b), length-word_bytes p.a, length-word_bytes p.b)

-- one record more
pub each_more : (space : Space) (old mid new : Tables) (done : List (List ℕ)) (parts r : List ℕ) (answered : Result ℕ Refusal)
    → AddsEach space old done parts mid → Adds space mid r answered new → AddsEach space old (done ++ r ∷ []) (parts ++ part_of answered) new
each_more space old mid new [] parts r answered each add =
    (answered, [], new, ap (λ xs. xs ++ part_of answered) each.0 ∙ sym (append-nil (part_of answered)), subst (λ x. Adds space x r answered new) each.1 add, (refl, refl))
each_more space old mid new (d ∷ done) parts r answered each add = (
  each.0,
  each.1 ++ part_of answered,
  each.2,
  ap (λ xs. xs ++ part_of answered) each.3 ∙ append_assoc (part_of each.0) each.1 (part_of answered),
  each.4,
  each_more space each.2 mid new done each.1 r answered each.5 add,
)

-- The records of a list up to a place were added, and their parts stand in the reply.
pub record SoFar (space : Space) (head : Head) (kind : ℕ) (list : List ℕ) (at : ℕ) (old : Tables) (out : List ℕ) (now : Tables) : Type 0 where
  pub done : List (List ℕ)
  pub parts : List ℕ
  pub cut : Cut list at done
  pub size : length parts ≡ 9 * length done
  pub spelled : out ≡ frame_bytes (record { head = head; message = record { kind = kind; body = parts } })
  pub added : AddsEach space old done parts now
