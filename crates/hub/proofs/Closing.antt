-- What a hub leaves.
use Rattle.std.proofs.Common.{◌≡◌, ◌≢◌, ◌+◌, ◌==◌, ℕ, zero, suc, Bool, true, false, cond, List, [], ◌∷◌, Option, Some, None, refl, sym, ap, ◌∙◌, subst, arith}
use Rattle.std.proofs.lemmas.Bool.{eqb-false, eqb-true}
use Rattle.std.proofs.lemmas.List.Elements.{All-nil}
use mathlib.Core.Option.{some}
use lib.ListN.{get_elem?}
use Rattle.srv_edge.specs.declared.device.Device.{Ghosts}
use Rattle.turnstile.specs.declared.history.Entry.{Entry}
use Rattle.turnstile.specs.declared.history.Basis.{Basis}
use Rattle.turnstile.specs.declared.view.Ended.{Ended}
use Rattle.turnstile.specs.Histories.{Begins, calls_by}
use Rattle.turnstile.specs.Passes.{PassView}
use Rattle.turnstile.specs.Views.{times}
use Rattle.type_store.specs.Files.{FileView}
use Rattle.core_model.specs.Cuts.{IsAllowed}
use Rattle.core_model.specs.History.{IsLegal, IsStart, after, age_of, standing}
use Rattle.core_model.specs.Legal.{faulted_ends}
use Rattle.hub.specs.declared.end.Ended as hub
use Rattle.hub.specs.Ends.{AreEnded, IsClosed, IsLeftOf, IsNew, IsNoBeginning}
use Rattle.hub.specs.Kept.{IsFileOf, IsFrom, IsShelved}
use Rattle.hub.specs.Stories.{HubView, last_acknowledged}
use Rattle.srv_edge.specs.declared.failed.Limits.{Limits}
use Rattle.hub.specs.Bases.{basis_of}
use Rattle.hub.specs.Books.{BookView}
use Rattle.hub.proofs.Opening.{age_back, book_is, tables_back}
use Rattle.hub.proofs.Owning.{none_open}

-- a pass that was retired
record IsRetired (n : ℕ) (es : List Ended) : Type 0 where
  place : ℕ
  pass : Ended
  there : get_elem? es place ≡ some pass
  number : pass.number ≡ n

retired : (n : ℕ) (es : List Ended) (m : ℕ) → times n es ≡ suc m → IsRetired n es
retired n [] m e = absurd (cc)
retired n (x ∷ es) m e = go (x.number == n) refl e (retired n es m) where
  go : (t : Bool) → (x.number == n) ≡ t → cond t 1 0 + times n es ≡ suc m → (times n es ≡ suc m → IsRetired n es) → IsRetired n (x ∷ es)
  go true is e on = record { place = 0; pass = x; there = refl; number = eqb-true x.number n is }
  go false is e on = let r : IsRetired n es = on (omega (arith, e)) in record { place = suc r.place; pass = r.pass; there = r.there; number = r.number }

-- all passes' commits have ended
all_ended : (first : PassView) (h : List Entry) → calls_by 0 h ≡ first.mine → ((k : ℕ) (e : Ended) → get_elem? first.ended k ≡ some e → calls_by e.number h ≡ e.calls) → ((n : ℕ) → n ≢ 0 → times n first.ended ≡ 0 → calls_by n h ≡ []) →
    AreEnded first.mine → ((k : ℕ) (e : Ended) → get_elem? first.ended k ≡ some e → AreEnded e.calls) → (n : ℕ) → AreEnded (calls_by n h)
all_ended first h mine ended others own all n = go (n == 0) refl where
  other : (m : ℕ) → n ≢ 0 → times n first.ended ≡ m → AreEnded (calls_by n h)
  other zero not e = subst AreEnded (sym (others n not e)) (λ number a. All-nil (IsNoBeginning number))
  other (suc m) not e =
      let r : IsRetired n first.ended = retired n first.ended m e in
      subst (λ z. AreEnded (calls_by z h)) r.number (subst AreEnded (sym (ended r.place r.pass r.there)) (all r.place r.pass r.there))

  go : (t : Bool) → (n == 0) ≡ t → AreEnded (calls_by n h)
  go true is = subst (λ z. AreEnded (calls_by z h)) (sym (eqb-true n 0 is)) (subst AreEnded (sym mine) own)
  go false is = other (times n first.ended) (eqb-false n 0 is) refl

pub closes : {D : Type 0} (g : Ghosts D) (first : PassView) (v : HubView D) (left : hub.Ended D) → IsLeftOf g v left → v.story.basis ≡ first.basis → Begins first.seen v.story.entries → calls_by 0 v.story.entries ≡ first.mine →
    ((k : ℕ) (e : Ended) → get_elem? first.ended k ≡ some e → calls_by e.number v.story.entries ≡ e.calls) → ((n : ℕ) → n ≢ 0 → times n first.ended ≡ 0 → calls_by n v.story.entries ≡ []) →
    AreEnded first.mine → ((k : ℕ) (e : Ended) → get_elem? first.ended k ≡ some e → AreEnded e.calls) → IsClosed g first left
closes {D} g first v left i basis seen mine ended others own all = go v.story.basis basis i.start_is i.legal i.tables i.acked i.from v.file i.file i.shelved where
  go : (b : Basis) → b ≡ first.basis → IsStart b → IsLegal b v.story.entries → left.book.tables ≡ after b v.story.entries → left.book.acked ≡ last_acknowledged (age_of b) v.story.entries →
      IsFrom b left.age left.start.types left.start.items left.start.names → (file : Option (FileView D)) → left.book.file ≡ file → IsShelved g b v.story.entries file → IsClosed g first left
  go b same start l tables acked from None there shelved =
      absurd (none_open b v.story.entries shelved.0 start l shelved.1 (all_ended first v.story.entries mine ended others own all shelved.0.caller))
  go b same start l tables acked from (Some f) there shelved = record {
    history = v.story.entries;
    seen = seen;
    legal = subst (λ z. IsLegal z v.story.entries) same l;
    mine = mine;
    ended = ended;
    others = others;
    words = i.words;
    tables = tables ∙ ap (λ z. after z v.story.entries) same;
    acked = acked ∙ ap (λ z. last_acknowledged (age_of z) v.story.entries) same;
    from = subst (λ z. IsFrom z left.age left.start.types left.start.items left.start.names) same from;
    idle = subst (λ z. (standing z v.story.entries).under_way ≡ None) same shelved.0;
    file = f;
    there = there;
    holds = subst (λ z. IsFileOf g z (IsAllowed z v.story.entries) (after z v.story.entries) (standing z v.story.entries).number (faulted_ends v.story.entries) f) same shelved.1;
  }

-- where no call came, the book is as it was
pub book_back : {D : Type 0} (g : Ghosts D) (limits : Limits) (book : BookView D) (f : FileView D) (v : HubView D) (left : hub.Ended D) → IsNew limits f book → IsLeftOf g v left → v.story.basis ≡ basis_of g limits f book.tables → v.story.entries ≡ [] → v.file ≡ book.file → left.book ≡ book
book_back g limits book f v left new i basis none file =
    let tables : left.book.tables ≡ book.tables = i.tables ∙ ap (λ z. after z v.story.entries) basis ∙ ap (after (basis_of g limits f book.tables)) none ∙ sym (tables_back g limits new.seen f book.tables new.opened) in
    let acked : left.book.acked ≡ book.acked =
    i.acked ∙ ap (λ z. last_acknowledged (age_of z) v.story.entries) basis ∙ ap (last_acknowledged (age_of (basis_of g limits f book.tables))) none ∙ sym (age_back g limits new.seen f book.tables new.opened) ∙ sym new.acked in
    book_is left.book.tables book.tables left.book.file book.file left.book.acked book.acked tables (i.file ∙ file) acked
