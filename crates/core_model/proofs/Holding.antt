-- What holds of the world after any events.
use Rattle.std.proofs.Common.{◌≡◌, ◌≢◌, ◌<◌, ℕ, Bool, true, false, cond, eqb, List, [], ◌∷◌, ◌++◌, Option, Some, None, ◌⊎◌, inl, inr, refl, sym, ap, ◌∙◌, subst}
use Rattle.std.specs.Bool.{⊤}
use Rattle.std.proofs.lemmas.Bool.{eqb-true, eqb-false}
use Rattle.std.proofs.lemmas.Option.{same_Some}
use Rattle.turnstile.specs.declared.history.Entry.{Entry}
use Rattle.turnstile.specs.declared.history.Basis.{Basis}
use Rattle.turnstile.specs.Histories.{Begins, caller, calls_by}
use Rattle.turnstile.proofs.Beginnings.{begins_more, begins_self, other_call, own_call}
use Rattle.call_journal.specs.declared.deed.Deed.TheVariants.{Ended}
use Rattle.call_journal.specs.Words.{deed_of}
use Rattle.core_model.specs.History.{Fits, IsLegal, Standing, after_entry, standing}
use Rattle.core_model.specs.Cuts.{BeganAt, IsAllowed}
use Rattle.table_model.specs.Cut.{Cut}
use Rattle.core_model.specs.Files.{Commit, DeviceCall, File, MayLeave, Phase, Progress, Which, done, doubt, failed, cut_left, older, pending, progress, resolution, resolving, resolving_sync, settled, sure_cut, switching, switching_sync, sync, write, write_super, writing}
use Rattle.core_model.specs.Passes.{Knowledge, with_view}
use Rattle.core_model.proofs.Allowed.{allowed_more, began_more}
use Rattle.core_model.proofs.Growing.{legal_more, standing_more}

-- views

-- what a caller has seen begins the history, and its own calls are those of its number
pub record IsInformed (h : List Entry) (c : ℕ) (v : Knowledge) : Type 0 where
  pub seen : Begins v.seen h
  pub mine : v.mine ≡ calls_by c v.seen
  pub once : v.mine ≡ calls_by c h

-- the history is legal, and each caller is informed of it
pub record IsKept (b : Basis) (h : List Entry) (views : ℕ → Knowledge) : Type 0 where
  pub legal : IsLegal b h
  pub each : (c : ℕ) → IsInformed h c (views c)

pub changed_view : (P : ℕ → Knowledge → Type 0) (views : ℕ → Knowledge) (c : ℕ) (v : Knowledge) → P c v → ((d : ℕ) → d ≢ c → P d (views d)) → (d : ℕ) → P d (with_view views c v d)
changed_view P views c v here others d = go (eqb d c) refl where
  go : (t : Bool) → eqb d c ≡ t → P d (cond t v (views d))
  go true e = subst (λ z. P z v) (sym (eqb-true d c e)) here
  go false e = others d (eqb-false d c e)

pub kept_looked : (b : Basis) (h : List Entry) (views : ℕ → Knowledge) (c : ℕ) → IsKept b h views → IsKept b h (with_view views c (record { seen = h; mine = (views c).mine }))
kept_looked b h views c k = record {
  legal = k.legal;
  each = changed_view (IsInformed h) views c (record { seen = h; mine = (views c).mine }) (record { seen = begins_self h; mine = (k.each c).once; once = (k.each c).once }) (λ d other. k.each d);
}

pub kept_filed : (b : Basis) (h : List Entry) (views : ℕ → Knowledge) (c : ℕ) (e : Entry) → caller e ≡ c → Fits (standing b h) e → IsKept b h views →
    IsKept b (h ++ e ∷ []) (with_view views c (record { seen = h ++ e ∷ []; mine = (views c).mine ++ e ∷ [] }))
kept_filed b h views c e own fits k = record {
  legal = legal_more b h e k.legal fits;
  each = changed_view (IsInformed (h ++ e ∷ [])) views c (record { seen = h ++ e ∷ []; mine = (views c).mine ++ e ∷ [] })
      (record { seen = begins_self (h ++ e ∷ []); mine = all; once = all })
      (λ d other. record { seen = begins_more (views d).seen h e (k.each d).seen; mine = (k.each d).mine; once = (k.each d).once ∙ sym (other_call d h e (λ is. other (sym is ∙ own))) });
} where
  all : (views c).mine ++ e ∷ [] ≡ calls_by c (h ++ e ∷ [])
  all = ap (λ z. z ++ e ∷ []) (k.each c).once ∙ sym (own_call c h e own)

-- the commit under way, and the file

-- while blocks are written, and until the superblock is, the file is settled
abbrev pub StandsIn : Phase → File → Type 0
StandsIn writing f = f ≡ settled (sure_cut f)
StandsIn switching f = f ≡ settled (sure_cut f)
StandsIn resolving f = ⊤
StandsIn resolving_sync f = ⊤
StandsIn switching_sync f = ⊤
StandsIn done f = ⊤
StandsIn failed f = ⊤

-- The history shows the commit as under way. Its cut is that of where it began, and once it is done the file is settled
-- on it.
pub record IsUnderWay (b : Basis) (h : List Entry) (k : Commit) (f : File) : Type 0 where
  pub few : k.caller < 255
  pub shown : (standing b h).under_way ≡ Some (record { caller = k.caller; number = k.cut.number })
  pub cut : BeganAt b h k.cut
  pub stands : StandsIn k.phase f
  pub finished : k.phase ≡ done → f ≡ settled k.cut

abbrev pub Agrees : Basis → List Entry → Option Commit → File → Type 0
Agrees b h None f = (standing b h).under_way ≡ None
Agrees b h (Some k) f = IsUnderWay b h k f

-- each cut that a crash may leave is allowed
abbrev pub IsSafe : Basis → List Entry → File → Type 0
IsSafe b h f = (which : Which) (c : Cut) → cut_left f which ≡ Some c → IsAllowed b h c

pub safe_more : (b : Basis) (h : List Entry) (e : Entry) (f : File) → ((m : ℕ) → deed_of e.word ≡ Some (Ended m true) → ⊥) → IsSafe b h f → IsSafe b (h ++ e ∷ []) f
safe_more b h e f other s which c is = allowed_more b h c e (λ m ack. absurd (other m ack)) (s which c is)

pub agrees_more : (b : Basis) (h : List Entry) (e : Entry) (k : Option Commit) (f : File) → ((m : ℕ) → deed_of e.word ≡ Some (Ended m true) → ⊥) → (after_entry (standing b h) e).under_way ≡ (standing b h).under_way → Agrees b h k f → Agrees b (h ++ e ∷ []) k f
agrees_more b h e None f other same a = ap (λ (s : Standing). s.under_way) (standing_more b h e) ∙ same ∙ a
agrees_more b h e (Some k) f other same a = record {
  few = a.few;
  shown = ap (λ (s : Standing). s.under_way) (standing_more b h e) ∙ same ∙ a.shown;
  cut = began_more b h k.cut e (λ m ack. absurd (other m ack)) a.cut;
  stands = a.stands;
  finished = a.finished;
}

-- What a device call leaves. The file holds what it held, or the new cut, and is settled on that where the commit is done.
-- It still holds what it held, unless a sync was done.
pub record IsProgress (new : Cut) (f : File) (call : DeviceCall) (ok : Bool) (p : Progress) : Type 0 where
  pub holds : (which : Which) (c : Cut) → cut_left p.file which ≡ Some c → (c ≡ new) ⊎ MayLeave f c
  pub stands : StandsIn p.phase p.file
  pub finished : p.phase ≡ done → p.file ≡ settled new
  pub stays : ((call ≡ sync) × (ok ≡ true) → ⊥) → (c : Cut) → MayLeave f c → MayLeave p.file c

-- where the file stays as it is
same_file : (new : Cut) (f : File) (call : DeviceCall) (ok : Bool) (phase : Phase) (p : Progress) → StandsIn phase f → (phase ≡ done → ⊥) → Some (record { file = f; phase = phase }) ≡ Some p → IsProgress new f call ok p
same_file new f call ok phase p stands not_done e =
    subst (IsProgress new f call ok) (same_Some (record { file = f; phase = phase }) p e) (record { holds = λ which c is. inr (which, is); stands = stands; finished = λ d. absurd (not_done d); stays = λ other c may. may })

resolved_file : (new : Cut) (f : File) (p : Progress) → Some (record { file = resolution f; phase = writing }) ≡ Some p → IsProgress new f sync true p
resolved_file new f p e =
    subst (IsProgress new f sync true) (same_Some (record { file = resolution f; phase = writing }) p e) (record { holds = go f; stands = plain f; finished = λ d. absurd (cc); stays = λ other c may. absurd (other (refl, refl)) }) where
      go : (g : File) (which : Which) (c : Cut) → cut_left (resolution g) which ≡ Some c → (c ≡ new) ⊎ MayLeave g c
      go (settled x) which c is = inr (which, is)
      go (doubt x q) older c is = inr (pending, is)
      go (doubt x q) pending c is = absurd (cc)

      plain : (g : File) → resolution g ≡ settled (sure_cut (resolution g))
      plain (settled x) = refl
      plain (doubt x q) = refl

-- a file that was settled may now hold the new cut too
doubted_file : (new : Cut) (f : File) (ok : Bool) (phase : Phase) (p : Progress) → f ≡ settled (sure_cut f) → StandsIn phase (doubt (sure_cut f) new) → (phase ≡ done → ⊥) → Some (record { file = doubt (sure_cut f) new; phase = phase }) ≡ Some p → IsProgress new f write_super ok p
doubted_file new f ok phase p plain stands not_done e =
    subst (IsProgress new f write_super ok) (same_Some (record { file = doubt (sure_cut f) new; phase = phase }) p e) (record { holds = go f; stands = stands; finished = λ d. absurd (not_done d); stays = λ other c may. kept c (subst (λ g. MayLeave g c) plain may) }) where
      go : (g : File) (which : Which) (c : Cut) → cut_left (doubt (sure_cut g) new) which ≡ Some c → (c ≡ new) ⊎ MayLeave g c
      go g pending c is = inl (sym (same_Some new c is))
      go (settled x) older c is = inr (older, is)
      go (doubt x q) older c is = inr (older, is)

      kept : (c : Cut) → MayLeave (settled (sure_cut f)) c → MayLeave (doubt (sure_cut f) new) c
      kept c (older, is) = (older, is)
      kept c (pending, is) = absurd (cc)

settled_file : (new : Cut) (f : File) (p : Progress) → Some (record { file = settled new; phase = done }) ≡ Some p → IsProgress new f sync true p
settled_file new f p e =
    subst (IsProgress new f sync true) (same_Some (record { file = settled new; phase = done }) p e) (record { holds = go; stands = tt; finished = λ d. refl; stays = λ other c may. absurd (other (refl, refl)) }) where
      go : (which : Which) (c : Cut) → cut_left (settled new) which ≡ Some c → (c ≡ new) ⊎ MayLeave f c
      go older c is = inl (sym (same_Some new c is))
      go pending c is = absurd (cc)

pub is_progress : (new : Cut) (f : File) (phase : Phase) (call : DeviceCall) (ok : Bool) (p : Progress) → StandsIn phase f → progress new f phase call ok ≡ Some p → IsProgress new f call ok p
is_progress new f resolving write_super true p s e = same_file new f write_super true resolving_sync p tt (λ d. absurd (cc)) e
is_progress new f resolving write_super false p s e = same_file new f write_super false failed p tt (λ d. absurd (cc)) e
is_progress new f resolving_sync sync true p s e = resolved_file new f p e
is_progress new f resolving_sync sync false p s e = same_file new f sync false failed p tt (λ d. absurd (cc)) e
is_progress new f writing write true p s e = same_file new f write true writing p s (λ d. absurd (cc)) e
is_progress new f writing write false p s e = same_file new f write false failed p tt (λ d. absurd (cc)) e
is_progress new f writing sync true p s e = same_file new f sync true switching p s (λ d. absurd (cc)) e
is_progress new f writing sync false p s e = same_file new f sync false failed p tt (λ d. absurd (cc)) e
is_progress new f switching write_super true p s e = doubted_file new f true switching_sync p s tt (λ d. absurd (cc)) e
is_progress new f switching write_super false p s e = doubted_file new f false failed p s tt (λ d. absurd (cc)) e
is_progress new f switching_sync sync true p s e = settled_file new f p e
is_progress new f switching_sync sync false p s e = same_file new f sync false failed p tt (λ d. absurd (cc)) e
is_progress new f _ call ok p s e = absurd (cc)
