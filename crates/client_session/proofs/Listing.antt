-- Records that a pass adds one after another.
use Rattle.std.proofs.Common.{◌≡◌, ◌*◌, ℕ, List, [], ◌∷◌, ◌++◌, length, Result, refl, sym, ap, subst, ◌∙◌, append_assoc}
use Rattle.std.proofs.lemmas.List.{append-nil}
use Rattle.atomic_table.specs.Seated.{TableId}
use Rattle.leaf_grammar.specs.declared.grammar.Space.{Space}
use Rattle.srv_edge.specs.declared.failed.Refusal.{Refusal}
use Rattle.srv_edge.specs.declared.head.Head.{Head}
use Rattle.srv_edge.specs.Frames.{frame_bytes}
use Rattle.turnstile.specs.Passes.{IsIdleAt, PassView}
use Rattle.table_model.specs.Calls.{index_answer}
use Rattle.request_frames.proofs.Listing.{Cut}
use Rattle.client_session.specs.Sharing.{AddsEachBy, CallsBy}
use Rattle.client_session.specs.Tables.{call_to_add, part_of}

-- one record more
pub each_more_by : (space : Space) (old mid new : PassView) (done : List (List ℕ)) (parts r : List ℕ) (answered : Result ℕ Refusal)
    → AddsEachBy space old done parts mid → CallsBy mid (call_to_add space r) (index_answer answered) new → AddsEachBy space old (done ++ r ∷ []) (parts ++ part_of answered) new
each_more_by space old mid new [] parts r answered each add =
    (answered, [], new, ap (λ xs. xs ++ part_of answered) each.0 ∙ sym (append-nil (part_of answered)), subst (λ x. CallsBy x (call_to_add space r) (index_answer answered) new) each.1 add, (refl, refl))
each_more_by space old mid new (d ∷ done) parts r answered each add = (
  each.0,
  each.1 ++ part_of answered,
  each.2,
  ap (λ xs. xs ++ part_of answered) each.3 ∙ append_assoc (part_of each.0) each.1 (part_of answered),
  each.4,
  each_more_by space each.2 mid new done each.1 r answered each.5 add,
)

-- The records of a list up to a place were added by a pass that is in no turn, and their parts stand in the reply.
pub record SoFarBy (space : Space) (head : Head) (kind : ℕ) (list : List ℕ) (at : ℕ) (hub : TableId) (old : PassView) (out : List ℕ) (now : PassView) : Type 0 where
  pub done : List (List ℕ)
  pub parts : List ℕ
  pub cut : Cut list at done
  pub size : length parts ≡ 9 * length done
  pub spelled : out ≡ frame_bytes (record { head = head; message = record { kind = kind; body = parts } })
  pub added : AddsEachBy space old done parts now
  pub idle : IsIdleAt hub now
