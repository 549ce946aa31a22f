-- Lists of leaves, and the leaves that a pass adds in one turn.
use Rattle.std.proofs.Common.{◌≡◌, ◌+◌, ◌*◌, ℕ, List, [], ◌∷◌, ◌++◌, length, drop, Result, inr, ◌⊎◌, refl, sym, ap, subst, ◌∙◌, arith, append_assoc, length-append}
use Rattle.std.specs.Prelude.{IsOk}
use Rattle.std.proofs.lemmas.List.{append-nil, drop-drop}
use Rattle.std.proofs.lemmas.List.Elements.{All-cons, All-head, All-nil, All-tail}
use Rattle.leaf_grammar.specs.declared.grammar.Space.{Space}
use Rattle.leaf_grammar.specs.declared.grammar.Space.TheVariants.{Types, Items}
use Rattle.leaf_grammar.specs.Leaf.{leaf_of}
use Rattle.srv_edge.specs.declared.failed.Refusal.{Refusal}
use Rattle.srv_edge.specs.declared.head.Head.{Head}
use Rattle.srv_edge.specs.Frames.{frame_bytes}
use Rattle.srv_edge.specs.Records.{joined}
use Rattle.turnstile.specs.Passes.{IsSamePass, IsSound, PassView}
use Rattle.turnstile.specs.declared.turn.Turn.{Turn}
use Rattle.table_model.specs.Calls.{index_answer}
use Rattle.core_model.specs.History.{IsLegal}
use Rattle.core_model.specs.Law.{add_to}
use Rattle.hub.specs.Passes.{IsAnswered, IsRefused}
use Rattle.hub.specs.Stories.{HubView}
use Rattle.hub.specs.Turns.{IsAhead, IsInTurn, pass_in, table_of}
use Rattle.hub.proofs.Ahead.{called_ahead}
use Rattle.request_frames.specs.Lists.{AreListed, AreRecords, BeginsWith, BeginsWithNone}
use Rattle.request_frames.proofs.Listing.{Cut, same_record, some_bytes}
use Rattle.client_session.specs.Sharing.{AddsEachBy, AreLeaves, CallsBy, CallsHub, TakesPlace}
use Rattle.client_session.specs.Tables.{call_to_add, part_of}
use Rattle.client_session.proofs.Listing.{each_more_by}
use Rattle.client_session.proofs.Passing.{begins_self, place_of_index, same_on, same_self}

-- ---- lists of leaves

abbrev IsLeaf : Space → List ℕ → Type 0
IsLeaf space r = IsOk (leaf_of space r)

-- where no record stands, all are leaves
pub leaves_none : (space : Space) (bytes : List ℕ) → BeginsWithNone bytes → AreLeaves space bytes
leaves_none space bytes stop [] each join = All-nil (IsLeaf space)
leaves_none space bytes stop (q ∷ records) each join = absurd (stop q (joined records) each.0 join)

-- a leaf, and leaves behind it
pub leaves_more : (space : Space) (bytes r : List ℕ) → BeginsWith bytes r → IsLeaf space r → AreLeaves space (drop (length r) bytes) → AreLeaves space bytes
leaves_more space bytes r stands leaf rest [] each join = All-nil (IsLeaf space)
leaves_more space bytes r stands leaf rest (q ∷ records) each join =
    let first = same_record r q (drop (length r) bytes) (joined records) stands.listed each.0 (sym stands.begins ∙ join) in
    All-cons (IsLeaf space) q records (subst (IsLeaf space) first.same leaf) (rest records each.1 first.rest)

-- the same by the place of the record in a list
pub leaves_more_at : (space : Space) (list : List ℕ) (at : ℕ) (r : List ℕ) → BeginsWith (drop at list) r → IsLeaf space r → AreLeaves space (drop (at + length r) list) → AreLeaves space (drop at list)
leaves_more_at space list at r stands leaf rest = leaves_more space (drop at list) r stands leaf (subst (AreLeaves space) (sym (drop-drop (length r) at list)) rest)

-- what is left behind the records of a list that were cut are records
pub record Left (rest : List ℕ) : Type 0 where
  pub records : List (List ℕ)
  pub each : AreListed records
  pub join : rest ≡ joined records

left_behind : (records done : List (List ℕ)) (rest : List ℕ) → AreListed records → AreListed done → joined records ≡ joined done ++ rest → Left rest
left_behind records [] rest each each' e = record { records = records; each = each; join = sym e }
left_behind [] (d ∷ done) rest each each' e = absurd (omega (arith, ap length e, length-append (d ++ joined done) rest, length-append d (joined done), some_bytes d each'.0))
left_behind (r ∷ records) (d ∷ done) rest each each' e =
    let first = same_record r d (joined records) (joined done ++ rest) each.0 each'.0 (e ∙ append_assoc d (joined done) rest) in
    left_behind records done rest each.1 each'.1 first.rest

-- A leaf stands at a place of a list of leaves, and leaves behind it.
pub record LeafAt (space : Space) (list : List ℕ) (at : ℕ) (r : List ℕ) : Type 0 where
  pub leaf : IsLeaf space r
  pub rest : AreLeaves space (drop (at + length r) list)

leaf_first : (space : Space) (bytes r : List ℕ) (left : Left bytes) → BeginsWith bytes r → AreLeaves space bytes → IsLeaf space r
leaf_first space bytes r left stands leaves = go left.records left.each left.join where
  go : (records : List (List ℕ)) → AreListed records → bytes ≡ joined records → IsLeaf space r
  go [] each join = absurd (omega (arith, ap length join, ap length stands.begins, length-append r (drop (length r) bytes), some_bytes r stands.listed))
  go (q ∷ records) each join =
      let first = same_record r q (drop (length r) bytes) (joined records) stands.listed each.0 (sym stands.begins ∙ join) in
      subst (IsLeaf space) (sym first.same) (All-head (IsLeaf space) q records (leaves (q ∷ records) each join))

leaves_behind : (space : Space) (bytes r : List ℕ) → BeginsWith bytes r → AreLeaves space bytes → AreLeaves space (drop (length r) bytes)
leaves_behind space bytes r stands leaves records each join =
    All-tail (IsLeaf space) r records (leaves (r ∷ records) (stands.listed, each) (stands.begins ∙ ap (λ xs. r ++ xs) join))

pub leaf_at : (space : Space) (list : List ℕ) (at : ℕ) (done records : List (List ℕ)) (r : List ℕ) → Cut list at done → AreRecords list records → BeginsWith (drop at list) r → AreLeaves space (drop at list) → LeafAt space list at r
leaf_at space list at done records r cut are stands leaves = record {
  leaf = leaf_first space (drop at list) r (left_behind records done (drop at list) are.each cut.each (sym are.join ∙ cut.split)) stands leaves;
  rest = subst (AreLeaves space) (drop-drop (length r) at list) (leaves_behind space (drop at list) r stands leaves);
}

-- ---- leaves that are added in a turn

hub_called : (space : Space) (old new : PassView) (r : List ℕ) (a : Result ℕ Refusal) → TakesPlace old (add_to (table_of space) r) (index_answer a) new → CallsHub old (call_to_add space r) (index_answer a) new
hub_called Types old new r a place = inr place
hub_called Items old new r a place = inr place

pub leaf_called : (old q new : PassView) (space : Space) (r : List ℕ) (a : Result ℕ Refusal) → IsAhead old q → IsAnswered q new (add_to (table_of space) r) (index_answer a) ⊎ IsRefused q new a → IsSamePass q new → IsSound IsLegal new → CallsBy old (call_to_add space r) (index_answer a) new
leaf_called old q new space r a ahead i same sound =
    let call = add_to (table_of space) r in
    record { made = hub_called space old new r a (place_of_index old call a new (called_ahead old q new call a ahead i)); same = same_on old q new ahead.same same; sound = sound }

-- leaves that were added since a pass took its turn, if any were
abbrev pub AddsSince : Space → PassView → List (List ℕ) → List ℕ → PassView → Type 0
AddsSince space old [] parts now = (parts ≡ []) × IsAhead old now
AddsSince space old (r ∷ done) parts now = AddsEachBy space old (r ∷ done) parts now

ahead_self : (p : PassView) → IsAhead p p
ahead_self p = record { same = same_self p; seen = begins_self p.seen; mine = refl }

-- one leaf more
pub since_more : (space : Space) (old mid new : PassView) (done : List (List ℕ)) (parts r : List ℕ) (a : Result ℕ Refusal) → AddsSince space old done parts mid → IsAnswered mid new (add_to (table_of space) r) (index_answer a) ⊎ IsRefused mid new a → IsSamePass mid new → IsSound IsLegal new →
    AddsSince space old (done ++ r ∷ []) (parts ++ part_of a) new
since_more space old mid new [] parts r a since i same sound =
    (a, [], new, ap (λ xs. xs ++ part_of a) since.0 ∙ sym (append-nil (part_of a)), leaf_called old mid new space r a since.1 i same sound, (refl, refl))
since_more space old mid new (d ∷ done) parts r a since i same sound =
    each_more_by space old mid new (d ∷ done) parts r a since (leaf_called mid mid new space r a (ahead_self mid) i same sound)

-- all leaves of a list
pub since_all : (space : Space) (old new : PassView) (list : List ℕ) (done : List (List ℕ)) (parts : List ℕ) → AreRecords list done → AddsSince space old done parts new → AddsEachBy space old done parts new
since_all space old new list [] parts are since = absurd (omega (arith, are.some))
since_all space old new list (r ∷ done) parts are since = since

-- what a pass knows in its turn it knows behind it
pub sound_in : {D : Type 0} (t : Turn (HubView D)) → IsInTurn t → IsSound IsLegal (pass_in t)
sound_in t i = record { lawful = i.sound.lawful; own = i.sound.own; unused = i.sound.unused; retired = i.sound.retired }

-- Leaves of a list up to a place were added in a turn, and their parts stand in the reply. Leaves stand behind them.
pub record SoFarIn {D : Type 0} (space : Space) (head : Head) (kind : ℕ) (list : List ℕ) (at : ℕ) (old : PassView) (out : List ℕ) (turn : Turn (HubView D)) : Type 0 where
  pub done : List (List ℕ)
  pub parts : List ℕ
  pub cut : Cut list at done
  pub size : length parts ≡ 9 * length done
  pub spelled : out ≡ frame_bytes (record { head = head; message = record { kind = kind; body = parts } })
  pub added : AddsSince space old done parts (pass_in turn)
  pub leaves : AreLeaves space (drop at list)
  pub in_turn : IsInTurn turn
