-- What two turns of a pass make together.
use Rattle.std.proofs.Common.{◌≡◌, ◌<◌, ◌^◌, ℕ, List, [], ◌∷◌, ◌++◌, length, Result, Ok, Err, refl, sym, ap, ◌∙◌, subst, arith, inl, ◌⊎◌}
use Rattle.std.specs.Prelude.{not, IfOk, IfErr}
use Rattle.std.proofs.lemmas.List.{append-nil, append_assoc}
use Rattle.srv_edge.specs.declared.failed.Refusal.{Refusal}
use Rattle.call_journal.specs.declared.deed.Deed.TheVariants.{Began, Ended, Underway}
use Rattle.call_journal.proofs.Decoding.{deed_of_word}
use Rattle.turnstile.specs.declared.history.Entry.{Entry}
use Rattle.turnstile.specs.declared.history.Basis.{Basis}
use Rattle.turnstile.specs.Histories.{Begins, calls_by}
use Rattle.turnstile.specs.Passes.{PassView}
use Rattle.core_model.specs.Entries.{entry_of}
use Rattle.core_model.specs.History.{standing}
use Rattle.core_model.proofs.Acknowledging.{number_begun}
use Rattle.call_journal.specs.declared.deed.TableKind.{TableKind}
use Rattle.call_journal.specs.declared.deed.TableKind.TheVariants.{Types, Items, Names}
use Rattle.leaf_grammar.specs.declared.grammar.Space.TheVariants as leaf
use Rattle.leaf_grammar.proofs.Rooms.{leaf_room}
use Rattle.turnstile.specs.Passes.{IsSamePass, IsSound}
use Rattle.core_model.specs.History.{IsLegal}
use Rattle.hub.specs.Calls.{Files, IsAddable, IsBeginning, IsUnderWay, next_number}
use Rattle.hub.specs.Kept.{IsOwnOpen, IsStillOpen}
use Rattle.hub.proofs.Ending.{still_at}
use Rattle.hub.proofs.Owning.{own_open, still_open}
use Rattle.hub.specs.Passes.{Commits, DoneView, IsBegunBy, IsEndedBy, IsNotBegun, IsRefusedUnderWay, OutView, answer_of_commit, number_of, story_of}
use Rattle.hub.specs.Stories.{HubView, Story}

pub begins_same : (short long : List Entry) → short ≡ long → Begins short long
begins_same short long is = record { rest = []; whole = sym is ∙ sym (append-nil short) }

-- the number of a commit that has begun is that which it took
number_taken : (b : Basis) (before : List Entry) (c n : ℕ) → n < 2 ^ 32 → (standing b (before ++ entry_of c (Began n) [] ∷ [])).number ≡ n
number_taken b before c n small = number_begun b before (entry_of c (Began n) []) n (deed_of_word c (Began n) small)

module _ {D : Type 0} where
  pub commits : (old mid new : PassView) (out : OutView D) (done : DoneView D) (result : Result ℕ Refusal) → IsBegunBy old mid out → IsEndedBy mid new done result → mid.number ≡ old.number → done.basis ≡ out.basis → done.kept ≡ out.kept → Commits old new result
  commits old mid new out done result i e number basis kept =
      let c = old.number in
      let n = next_number old.basis i.before in
      let B : Entry = entry_of c (Began n) [] in
      let mid_seen : mid.seen ≡ i.before ++ B ∷ [] = i.begins.filed.entries in
      let taken : number_of done.basis done.kept ≡ n =
      ap (λ b. (standing b done.kept).number) (basis ∙ i.basis) ∙ ap (λ h. (standing old.basis h).number) (kept ∙ i.kept ∙ mid_seen) ∙ number_taken old.basis i.before c n (omega (arith, i.begins.may.number)) in
      let front : e.before ≡ i.before ++ B ∷ e.first.rest = e.first.whole ∙ ap (λ h. h ++ e.first.rest) mid_seen ∙ append_assoc i.before (B ∷ []) e.first.rest in
      let ended : entry_of mid.number (Ended (number_of done.basis done.kept) (not done.failed)) [] ≡ entry_of c (Ended n (not done.failed)) [] =
      ap (λ m. entry_of m (Ended (number_of done.basis done.kept) (not done.failed)) []) number ∙ ap (λ m. entry_of c (Ended m (not done.failed)) []) taken in
      record {
        before = i.before;
        between = e.first.rest;
        number = n;
        acknowledged = not done.failed;
        first = i.first;
        begins = subst (λ h. IsBeginning (story_of old i.before) (story_of old h) c) mid_seen i.begins;
        next = refl;
        seen = e.seen ∙ ap (λ h. h ++ entry_of mid.number (Ended (number_of done.basis done.kept) (not done.failed)) [] ∷ []) front ∙ ap (λ z. (i.before ++ B ∷ e.first.rest) ++ z ∷ []) ended;
        mine = e.mine ∙ ap (λ h. h ++ entry_of mid.number (Ended (number_of done.basis done.kept) (not done.failed)) [] ∷ []) i.mine ∙ ap (λ z. (old.mine ++ B ∷ []) ++ z ∷ []) ended ∙ append_assoc old.mine (B ∷ []) (entry_of c (Ended n (not done.failed)) [] ∷ []);
        reply = e.reply ∙ ap (answer_of_commit (not done.failed)) taken;
      }

-- ---- within a turn

-- the commit of a pass is the one under way, where the value is at what the pass has then seen
pub still_in_turn : {D : Type 0} (v : HubView D) (p q : PassView) (c : ℕ) (kept : List Entry) → v.story.basis ≡ q.basis → v.story.entries ≡ q.seen → Begins p.seen q.seen → IsSamePass p q → q.mine ≡ p.mine → IsSound IsLegal q → Begins kept p.seen → IsOwnOpen p.number kept p.mine → c ≡ p.number → c < 256 →
    IsStillOpen v.story.basis c kept v.story.entries
still_in_turn v p q c kept basis seen more same mine sound begins own is few =
    let number : q.number ≡ c = same.1 ∙ sym is in
    let there : IsOwnOpen c kept q.mine = subst (λ m. IsOwnOpen c kept m) (sym mine) (subst (λ n. IsOwnOpen n kept p.mine) (sym is) own) in
    let on : Begins kept q.seen = record { rest = begins.rest ++ more.rest; whole = more.whole ∙ ap (λ h. h ++ more.rest) begins.whole ∙ append_assoc kept begins.rest more.rest } in
    let open_ : IsStillOpen q.basis c kept q.seen = still_open q.basis c kept q.seen q.mine few sound.lawful on there (sound.own ∙ ap (λ n. calls_by n q.seen) number) in
    still_at q.basis v.story.basis c kept kept q.seen v.story.entries (sym basis) refl (sym seen) open_

-- A turn from p to q, in which the value went from v to w and one entry was filed, and behind which the pass is r.
pub record IsTurn {D : Type 0} (p q r : PassView) (v w : HubView D) (c : ℕ) : Type 0 where
  pub basis : v.story.basis ≡ q.basis
  pub history : v.story.entries ≡ q.seen
  pub more : Begins p.seen q.seen
  pub same : IsSamePass p q
  pub calls : q.mine ≡ p.mine
  pub number : c ≡ p.number
  pub seen : r.seen ≡ w.story.entries
  pub mine : (e : Entry) → w.story.entries ≡ q.seen ++ e ∷ [] → r.mine ≡ q.mine ++ e ∷ []
  pub sound : IsSound IsLegal r
  pub own : r.number ≡ q.number

module _ {D : Type 0} where
  -- what a commit that is asked for comes to, where it has an entry
  abbrev pub IsAsked : Story → Story → ℕ → Result (OutView D) Refusal → Type 0
  IsAsked old new c (Ok out) = IsBeginning old new c × (out.basis ≡ new.basis) × (out.kept ≡ new.entries)
  IsAsked old new c (Err why) = IsUnderWay old new c why

  pub asked : (old new : Story) (c : ℕ) (reply : Result (OutView D) Refusal) → IfOk reply (λ out. IsBeginning old new c × (out.basis ≡ new.basis) × (out.kept ≡ new.entries)) → IfErr reply (IsUnderWay old new c) → IsAsked old new c reply
  asked old new c (Ok out) begun hindered = begun
  asked old new c (Err why) begun hindered = hindered

  pub filed_entry : (old new : Story) (c : ℕ) (reply : Result (OutView D) Refusal) → IsAsked old new c reply → (e : Entry) × Files old new c e
  filed_entry old new c (Ok out) begun = (_, begun.0.filed)
  filed_entry old new c (Err why) hindered = (_, hindered.filed)

  -- the same story, told by the passes
  told : (p q r : PassView) (v w : HubView D) (c : ℕ) → IsTurn p q r v w c → (P : Story → Story → ℕ → Type 0) → w.story.basis ≡ v.story.basis → P v.story w.story c → P (story_of p q.seen) (story_of p r.seen) p.number
  told p q r v w c t P stays is =
      let basis : v.story.basis ≡ p.basis = t.basis ∙ t.same.2 in
      let old : v.story ≡ story_of p q.seen = story_is v.story p.basis q.seen basis t.history in
      let new : w.story ≡ story_of p r.seen = story_is w.story p.basis r.seen (stays ∙ basis) (sym t.seen) in
      subst (P (story_of p q.seen) (story_of p r.seen)) t.number (subst (λ z. P (story_of p q.seen) z c) new (subst (λ z. P z w.story c) old is)) where
        story_is : (s : Story) (b : Basis) (h : List Entry) → s.basis ≡ b → s.entries ≡ h → s ≡ record { basis = b; entries = h }
        story_is s b h e f = ap (λ (z : Basis). record { basis = z; entries = s.entries }) e ∙ ap (λ (z : List Entry). record { basis = b; entries = z }) f

  pub begun_by : (p q r : PassView) (v w : HubView D) (c : ℕ) (out : OutView D) → IsTurn p q r v w c → IsAsked v.story w.story c (Ok out) → IsBegunBy p r out
  begun_by p q r v w c out t i =
      let begins : IsBeginning (story_of p q.seen) (story_of p r.seen) p.number = told p q r v w c t IsBeginning i.0.filed.basis i.0 in
      let number : r.number ≡ p.number = t.own ∙ t.same.1 in
      record {
        before = q.seen;
        first = t.more;
        begins = begins;
        mine = t.mine _ (sym t.seen ∙ begins.filed.entries) ∙ ap (λ h. h ++ entry_of p.number (Began (next_number p.basis q.seen)) [] ∷ []) t.calls;
        basis = i.1 ∙ i.0.filed.basis ∙ t.basis ∙ t.same.2;
        kept = i.2 ∙ sym t.seen;
        own = own_open p.basis (story_of p q.seen) (story_of p r.seen) p.number out.kept r.mine begins (i.2 ∙ sym t.seen) (t.sound.own ∙ ap (λ n. calls_by n r.seen) number);
      }

  pub hindered_by : (p q r : PassView) (v w : HubView D) (c : ℕ) (why : Refusal) → IsTurn p q r v w c → IsAsked v.story w.story c (Err why) → IsRefusedUnderWay p r why
  hindered_by p q r v w c why t i =
      let hindered : IsUnderWay (story_of p q.seen) (story_of p r.seen) p.number why = told p q r v w c t (λ old new n. IsUnderWay old new n why) i.filed.basis i in
      record { before = q.seen; first = t.more; under_way = hindered; mine = t.mine _ (sym t.seen ∙ hindered.filed.entries) ∙ ap (λ h. h ++ entry_of p.number (Underway hindered.commit.number) [] ∷ []) t.calls }

  pub reply_begun : (p q r : PassView) (v w : HubView D) (c : ℕ) (reply : Result (OutView D) Refusal) → IsTurn p q r v w c → IsAsked v.story w.story c reply → IfOk reply (IsBegunBy p r)
  reply_begun p q r v w c (Ok out) t i = begun_by p q r v w c out t i
  reply_begun p q r v w c (Err why) t i = tt

  pub reply_hindered : (p q r : PassView) (v w : HubView D) (c : ℕ) (reply : Result (OutView D) Refusal) → IsTurn p q r v w c → IsAsked v.story w.story c reply → IfErr reply (λ why. IsRefusedUnderWay p r why ⊎ IsNotBegun p r why)
  reply_hindered p q r v w c (Ok out) t i = tt
  reply_hindered p q r v w c (Err why) t i = inl (hindered_by p q r v w c why t i)

-- bytes that may be added are few
pub few_bytes : (kind : TableKind) (bytes : List ℕ) → IsAddable kind bytes → length bytes < 2 ^ 32
few_bytes Types bytes ok = let room = leaf_room leaf.Types bytes ok in omega (arith, room.longest)
few_bytes Items bytes ok = let room = leaf_room leaf.Items bytes ok in omega (arith, room.longest)
few_bytes Names bytes ok = omega (arith, ok.longest)
