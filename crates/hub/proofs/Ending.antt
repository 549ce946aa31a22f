-- A commit is written and ends: the file comes home.
use Rattle.std.proofs.Common.{◌≡◌, ◌≤◌, ◌<◌, ◌+◌, ◌^◌, ℕ, Bool, true, false, List, [], ◌∷◌, ◌++◌, Option, Some, None, refl, sym, ap, ◌∙◌, subst, arith, length-append, inl, inr, ⊎_elim}
use Rattle.std.specs.Prelude.{not, Ok, Err}
use Rattle.std.proofs.lemmas.List.{append-nil, append_assoc}
use Rattle.std.proofs.lemmas.List.Elements.{All-cons, All-head, All-nil, All-push, All-tail}
use Rattle.srv_edge.specs.Count.{Rose, RoseBy}
use Rattle.srv_edge.specs.Disk.{LeavesOnly}
use Rattle.srv_edge.specs.declared.device.Device.{Ghosts}
use Rattle.srv_edge.specs.declared.failed.Refusal.TheVariants as refusal
use Rattle.turnstile.specs.declared.history.Entry.{Entry}
use Rattle.turnstile.specs.declared.history.Basis.{Basis}
use Rattle.call_journal.specs.declared.deed.Deed.{Deed}
use Rattle.call_journal.specs.declared.deed.Deed.TheVariants.{Began, Ended}
use Rattle.call_journal.specs.Words.{IsDeed, deed_of, word_of}
use Rattle.call_journal.proofs.Decoding.{is_deed}
use Rattle.table_model.specs.Cut.{Cut}
use Rattle.table_model.specs.File.{File, MayLeave, doubt, newest_cut, older, pending, resolution, settled}
use Rattle.table_model.specs.Tables.{Tables}
use Rattle.type_store.specs.Commits.{HoldsOne}
use Rattle.type_store.specs.Committed.{GoesOn}
use Rattle.type_store.specs.Files.{FailsTo, FileView, MayShow, Pending, Stays}
use Rattle.core_model.specs.Cuts.{AcknowledgesNoOther, IsAllowed}
use Rattle.core_model.specs.Entries.{entry_of}
use Rattle.core_model.specs.declared.commit.OpenCommit.{OpenCommit}
use Rattle.core_model.specs.History.{IsLegal, IsStart, Standing, after, after_deed, age_of, standing}
use Rattle.core_model.specs.Legal.{AreCalls, IsNoCommit, faulted_ends}
use Rattle.core_model.proofs.Acknowledging.{number_begun}
use Rattle.core_model.proofs.Allowed.{IsNoOther, allowed_more, began_here}
use Rattle.core_model.proofs.Extending.{starts_self}
use Rattle.core_model.proofs.Growing.{legal_more, standing_more}
use Rattle.core_model.proofs.Open.{allowed_on, faulted_more, faulted_same}
use Rattle.core_model.proofs.Sound.{IsOf, after_of, fits_of, is_of, sound_standing}
use Rattle.hub.specs.Bases.{bounds_in, faults_at_opening}
use Rattle.hub.specs.Calls.{Files}
use Rattle.hub.specs.Kept.{HoldsAllowed, IsBegun, IsDone, IsFileOf, IsHub, IsLeft, IsOut, IsStillOpen, cut_begun, one_if}
use Rattle.hub.specs.Passes.{answer_of_commit}
use Rattle.hub.specs.Stories.{acknowledged_by, entries_in, last_acknowledged, one_if_open}
use Rattle.hub.proofs.Answering.{story_at}
use Rattle.hub.proofs.Filing.{IsFiled, acked_more, goes_on, history_goes_on, read_filed}

-- ---- the commit that begins last is allowed

begun_allowed : (b : Basis) (kept : List Entry) (begun : IsBegun kept) → IsAllowed b kept (cut_begun b begun)
begun_allowed b kept begun = subst (λ z. IsAllowed b z (cut_begun b begun)) (sym begun.whole) (inr (began_here b begun.before begun.number begun.began begun.deed))

pub goes_on_self : (x : Tables) → GoesOn x x
goes_on_self x = record { extends = record { types = starts_self x.types.records; items = starts_self x.items.records; names = starts_self x.names.names }; version = refl }

-- ---- what a crash leaves while a commit is written, and behind that

held_on : (bounds other : _) (P Q : Cut → Type 0) (image : List ℕ) → bounds ≡ other → ((c : Cut) → P c → Q c) → HoldsOne bounds P image → HoldsOne other Q image
held_on bounds other P Q image same f h = subst (λ z. HoldsOne z Q image) same (h.0, f h.0 h.1, h.2)

leaves_on : {D : Type 0} (moment : D → ℕ) (since : D → ℕ → List ℕ → Type 0) (old new : D) (P Q : List ℕ → Type 0) → ((image : List ℕ) → P image → Q image) → LeavesOnly moment since old new P → LeavesOnly moment since old new Q
leaves_on moment since old new P Q f l = record { later = l.later; each = λ c s. f c (l.each c s); before = λ t c le s. ⊎_elim (λ p. inl p) (λ p. inr (f c p)) (l.before t c le s) }

shows_allowed : {D : Type 0} (g : Ghosts D) (b : Basis) (kept : List Entry) (p : Pending) (f : FileView D) (o : IsOut g b kept p f) (c : Cut) → MayShow f.file p.cut c → IsAllowed b kept c
shows_allowed g b kept p f o c (inl may) = o.file.shown c may
shows_allowed g b kept p f o c (inr same) = subst (IsAllowed b kept) (sym (same ∙ o.cut)) (begun_allowed b kept o.begun)

pub out_moments : {D : Type 0} (g : Ghosts D) (b : Basis) (kept : List Entry) (p : Pending) (f : FileView D) (moment : D → ℕ) (since : D → ℕ → List ℕ → Type 0) (old new : D) → IsOut g b kept p f →
    LeavesOnly moment since old new (HoldsOne f.bounds (MayShow f.file p.cut)) → LeavesOnly moment since old new (HoldsAllowed b kept)
out_moments g b kept p f moment since old new o l =
    leaves_on moment since old new (HoldsOne f.bounds (MayShow f.file p.cut)) (HoldsAllowed b kept)
    (λ image. held_on f.bounds (bounds_in b) (MayShow f.file p.cut) (IsAllowed b kept) image o.file.bounds (shows_allowed g b kept p f o)) l

pub settled_leaves : (x c : Cut) → MayLeave (settled x) c → c ≡ x
settled_leaves x c (older, is) = cc
settled_leaves x c (pending, is) = absurd (cc)

resolution_leaves : (file : File) (c : Cut) → MayLeave (resolution file) c → MayLeave file c
resolution_leaves (settled x) c may = may
resolution_leaves (doubt x p) c may = (pending, ap Some (sym (settled_leaves p c may)))

newest_left : (file : File) → MayLeave file (newest_cut file)
newest_left (settled x) = (older, refl)
newest_left (doubt x p) = (pending, refl)

newest_resolved : (file : File) → newest_cut (resolution file) ≡ newest_cut file
newest_resolved (settled x) = refl
newest_resolved (doubt x p) = refl

-- what holds of the cuts of the file, and of the new one, holds of those behind a commit that failed
fails_shown : (P : Cut → Type 0) (old file : File) (new : Cut) → FailsTo old new file → ((c : Cut) → MayLeave old c → P c) → P new → (c : Cut) → MayLeave file c → P c
fails_shown P old file new (inl same) f n c may = f c (subst (λ z. MayLeave z c) same may)
fails_shown P old file new (inr (inl same)) f n c may = f c (resolution_leaves old c (subst (λ z. MayLeave z c) same may))
fails_shown P old file new (inr (inr same)) f n c may = go (subst (λ z. MayLeave z c) same may) where
  go : MayLeave (doubt (newest_cut old) new) c → P c
  go (older, is) = let e : newest_cut old ≡ c = cc in subst P e (f (newest_cut old) (newest_left old))
  go (pending, is) = let e : new ≡ c = cc in subst P e n

fails_newest : (Q : Cut → Type 0) (old file : File) (new : Cut) → FailsTo old new file → Q (newest_cut old) → Q new → Q (newest_cut file)
fails_newest Q old file new (inl same) q n = subst (λ z. Q (newest_cut z)) (sym same) q
fails_newest Q old file new (inr (inl same)) q n = subst (λ z. Q (newest_cut z)) (sym same) (subst Q (sym (newest_resolved old)) q)
fails_newest Q old file new (inr (inr same)) q n = subst (λ z. Q (newest_cut z)) (sym same) n

-- ---- done

module _ {D : Type 0} (g : Ghosts D) where
  pub done_well : (b : Basis) (kept : List Entry) (p : Pending) (number : ℕ) (f new : FileView D) → IsOut g b kept p f → (number ≡ p.cut.number) × (new.file ≡ settled p.cut) → Stays f new →
      g.fault_count f.device ≤ g.fault_count new.device → g.loans new.device ≡ g.loans f.device → IsDone g b kept number false new
  done_well b kept p number f new o ok stays rises loans =
      let own = cut_begun b o.begun in
      let file : new.file ≡ settled own = ok.1 ∙ ap settled o.cut in
      record {
        begun = o.begun;
        number_is = ap (λ (z : Cut). z.number) (sym o.cut) ∙ sym ok.0;
        file = record {
          shown = λ c may. settled_leaves own c (subst (λ z. MayLeave z c) file may);
          newest = subst (λ z. GoesOn (newest_cut z).tables (after b o.begun.before)) (sym file) (goes_on_self (after b o.begun.before));
          last = stays.last ∙ o.file.last;
          faults = omega (arith, o.file.faults, rises);
          loans = loans ∙ o.file.loans;
          bounds = stays.bounds ∙ o.file.bounds;
          shape = stays.shape ∙ o.file.shape;
        };
      }

  pub done_ill : (b : Basis) (kept : List Entry) (p : Pending) (number : ℕ) (f new : FileView D) → IsOut g b kept p f → (number ≡ p.cut.number) × FailsTo f.file p.cut new.file → Stays f new →
      Rose (g.fault_count f.device) (g.fault_count new.device) → g.loans new.device ≡ g.loans f.device → IsDone g b kept number true new
  done_ill b kept p number f new o err stays rose loans =
      let Q : Cut → Type 0 = λ c. GoesOn c.tables (after b o.begun.before) in
      record {
        begun = o.begun;
        number_is = ap (λ (z : Cut). z.number) (sym o.cut) ∙ sym err.0;
        file = record {
          shown = fails_shown (IsAllowed b kept) f.file new.file p.cut err.1 o.file.shown (subst (IsAllowed b kept) (sym o.cut) (begun_allowed b kept o.begun));
          newest = fails_newest Q f.file new.file p.cut err.1 o.file.newest (subst Q (sym o.cut) (goes_on_self (after b o.begun.before)));
          last = stays.last ∙ o.file.last;
          faults = omega (arith, o.file.faults, rose);
          loans = loans ∙ o.file.loans;
          bounds = stays.bounds ∙ o.file.bounds;
          shape = stays.shape ∙ o.file.shape;
        };
      }

-- the number of the commit that begins last
pub number_kept : (b : Basis) (kept : List Entry) (begun : IsBegun kept) → (standing b kept).number ≡ begun.number
number_kept b kept begun = ap (λ z. (standing b z).number) begun.whole ∙ number_begun b begun.before begun.began begun.number begun.deed

-- ---- the end

faulted_on : (h more : List Entry) → AreCalls more → faulted_ends (h ++ more) ≡ faulted_ends h
faulted_on h [] calls = ap faulted_ends (append-nil h)
faulted_on h (e ∷ more) calls =
    ap faulted_ends (sym (append_assoc h (e ∷ []) more)) ∙ faulted_on (h ++ e ∷ []) more (All-tail IsNoCommit e more calls) ∙ faulted_same h e (λ n at. (All-head IsNoCommit e more calls).ends_none n false at)

quiet_rest : (number : ℕ) (rest : List Entry) → AreCalls rest → AcknowledgesNoOther number rest
quiet_rest number [] calls = All-nil (IsNoOther number)
quiet_rest number (e ∷ rest) calls =
    All-cons (IsNoOther number) e rest (λ m at. absurd ((All-head IsNoCommit e rest calls).ends_none m true at)) (quiet_rest number rest (All-tail IsNoCommit e rest calls))

-- What an end makes of the value.
pub record Over {D : Type 0} (g : Ghosts D) (b : Basis) (h : List Entry) (c n : ℕ) (failed : Bool) (x : Tables) (words : List ℕ) (spare acked last : ℕ) (f : FileView D) : Type 0 where
  pub filed : Files (story_at b h) (story_at b (entries_in x words)) c (entry_of c (Ended n (not failed)) [])
  pub hub : IsHub g b (entries_in x words) x spare acked last (Some f)

-- the number that is acknowledged behind the end
abbrev pub acked_behind : Bool → ℕ → ℕ → ℕ
acked_behind true n before = before
acked_behind false n before = n

module _ {D : Type 0} (g : Ghosts D) where
  may_ended : (b : Basis) (c n : ℕ) (failed : Bool) (kept h : List Entry) (e : Entry) (begun : IsBegun kept) (shown : IsStillOpen b c kept h) → begun.number ≡ n → deed_of e.word ≡ Some (Ended n (not failed)) →
      (cut : Cut) → IsLeft failed b kept (cut_begun b begun) cut → IsAllowed b (h ++ e ∷ []) cut
  may_ended b c n true kept h e begun shown same is cut left =
      let there : IsAllowed b h cut = subst (λ z. IsAllowed b z cut) (sym shown.whole) (allowed_on b kept shown.rest cut shown.calls left) in
      allowed_more b h cut e (λ m at. let d : Some (Ended n false) ≡ Some (Ended m true) = sym is ∙ at in cc) there
  may_ended b c n false kept h e begun shown same is cut left =
      let own : Cut = cut_begun b begun in
      let last : IsNoOther begun.number e = λ m at. let d : Some (Ended n true) ≡ Some (Ended m true) = sym is ∙ at in let q : n ≡ m = cc in sym q ∙ sym same in
      let at : h ++ e ∷ [] ≡ begun.before ++ begun.began ∷ (shown.rest ++ e ∷ []) =
      ap (λ z. z ++ e ∷ []) (shown.whole ∙ ap (λ z. z ++ shown.rest) begun.whole ∙ append_assoc begun.before (begun.began ∷ []) shown.rest) ∙ append_assoc begun.before (begun.began ∷ shown.rest) (e ∷ []) in
      subst (IsAllowed b (h ++ e ∷ [])) (sym left)
      (inr (record { before = begun.before; began = begun.began; rest = shown.rest ++ e ∷ []; there = at; deed = begun.deed; tables = refl; newest = All-push (IsNoOther begun.number) shown.rest e (quiet_rest begun.number shown.rest shown.calls) last }))

  faulted_ended : (b : Basis) (c n : ℕ) (failed : Bool) (kept h : List Entry) (e : Entry) → IsStillOpen b c kept h → deed_of e.word ≡ Some (Ended n (not failed)) → faulted_ends (h ++ e ∷ []) ≡ faulted_ends kept + one_if failed
  faulted_ended b c n true kept h e shown is = faulted_more h e n is ∙ ap (λ k. k + 1) (ap faulted_ends shown.whole ∙ faulted_on kept shown.rest shown.calls)
  faulted_ended b c n false kept h e shown is =
      let same : faulted_ends (h ++ e ∷ []) ≡ faulted_ends h = faulted_same h e (λ m at. let d : Some (Ended n true) ≡ Some (Ended m false) = sym is ∙ at in cc) in
      let old : faulted_ends h ≡ faulted_ends kept = ap faulted_ends shown.whole ∙ faulted_on kept shown.rest shown.calls in
      omega (arith, same, old)

  acked_ended : (n k : ℕ) (failed : Bool) → acknowledged_by k (Some (Ended n (not failed))) ≡ acked_behind failed n k
  acked_ended n k true = refl
  acked_ended n k false = refl

  file_ended : (b : Basis) (c n : ℕ) (failed : Bool) (kept h : List Entry) (e : Entry) (f : FileView D) → IsStart b → IsLegal b (h ++ e ∷ []) → IsStillOpen b c kept h → IsDone g b kept n failed f → deed_of e.word ≡ Some (Ended n (not failed)) →
      (standing b (h ++ e ∷ [])).number ≡ n → IsFileOf g b (IsAllowed b (h ++ e ∷ [])) (after b (h ++ e ∷ [])) (standing b (h ++ e ∷ [])).number (faulted_ends (h ++ e ∷ [])) f
  file_ended b c n failed kept h e f start l shown done is number =
      let begun = done.begun in
      let at : h ++ e ∷ [] ≡ begun.before ++ (begun.began ∷ (shown.rest ++ e ∷ [])) =
      ap (λ z. z ++ e ∷ []) (shown.whole ∙ ap (λ z. z ++ shown.rest) begun.whole ∙ append_assoc begun.before (begun.began ∷ []) shown.rest) ∙ append_assoc begun.before (begun.began ∷ shown.rest) (e ∷ []) in
      record {
        shown = λ cut may. may_ended b c n failed kept h e begun shown done.number_is is cut (done.file.shown cut may);
        newest = goes_on (newest_cut f.file).tables (after b begun.before) (after b (h ++ e ∷ [])) done.file.newest
            (subst (λ z. GoesOn (after b begun.before) (after b z)) (sym at) (history_goes_on b begun.before (begun.began ∷ (shown.rest ++ e ∷ [])) start (subst (IsLegal b) at l)));
        last = done.file.last ∙ done.number_is ∙ sym number;
        faults = subst (λ k. RoseBy k (faults_at_opening b) (g.fault_count f.device)) (sym (faulted_ended b c n failed kept h e shown is)) done.file.faults;
        loans = done.file.loans;
        bounds = done.file.bounds;
        shape = done.file.shape;
      }

  pub ends : (b : Basis) (x : Tables) (words more : List ℕ) (c n : ℕ) (failed : Bool) (kept : List Entry) (spare room acked last : ℕ) (file : Option (FileView D)) (f : FileView D) → IsHub g b (entries_in x words) x spare acked last file → c < 256 →
      IsDone g b kept n failed f → IsStillOpen b c kept (entries_in x words) → more ≡ words ++ word_of c (Ended n (not failed)) ∷ [] → Over g b (entries_in x words) c n failed x more room (acked_behind failed n acked) last f
  ends b x words more c n failed kept spare room acked last file f i few done shown grows =
      let h = entries_in x words in
      let d : Deed = Ended n (not failed) in
      let e : Entry = entry_of c d [] in
      let numbers : (standing b kept).number ≡ n = number_kept b kept done.begun ∙ done.number_is in
      let k : OpenCommit = record { caller = c; number = n } in
      let under : (standing b h).under_way ≡ Some k = shown.under_way ∙ ap (λ (m : ℕ). Some (record { caller = c; number = m })) numbers in
      let small : IsDeed d = subst (λ m. m < 2 ^ 32) done.number_is (is_deed done.begun.began.word (Began done.begun.number) done.begun.deed) in
      let o : IsOf c d e = is_of c d [] few small in
      let l : IsLegal b (h ++ e ∷ []) = legal_more b h e i.legal (fits_of (standing b h) c d e o refl (refl, under)) in
      let there : standing b (h ++ e ∷ []) ≡ after_deed (standing b h) c (Some d) [] = standing_more b h e ∙ after_of (standing b h) c d e o in
      let idle : (standing b (h ++ e ∷ [])).under_way ≡ None = ap (λ (z : Standing). z.under_way) there in
      let same : (standing b (h ++ e ∷ [])).number ≡ (standing b h).number = ap (λ (z : Standing). z.number) there in
      let newest : n ≡ (standing b h).number = (sound_standing b h i.start i.legal).newest k under in
      let none : one_if_open (standing b (h ++ e ∷ [])).under_way ≡ 0 = ap one_if_open idle in
      let one : one_if_open (standing b h).under_way ≡ 1 = ap one_if_open under in
      let acked_there : last_acknowledged (age_of b) (h ++ e ∷ []) ≡ acked_behind failed n (last_acknowledged (age_of b) h) =
      acked_more (age_of b) h e ∙ ap (acknowledged_by (last_acknowledged (age_of b) h)) o.deed_is ∙ acked_ended n (last_acknowledged (age_of b) h) failed in
      let hub : IsHub g b (h ++ e ∷ []) x room (acked_behind failed n acked) last (Some f) = record {
        start = i.start;
        few_calls = i.few_calls;
        legal = l;
        tables = i.tables ∙ sym (ap (λ (z : Standing). z.tables) there);
        acked = ap (acked_behind failed n) i.acked ∙ sym acked_there;
        last = i.last ∙ sym same;
        room = omega (arith, i.room, length-append h (e ∷ []), none, one);
        reserved = omega (arith, none);
        shelved = (idle, file_ended b c n failed kept h e f i.start l shown done o.deed_is (same ∙ sym newest));
      } in
      let filed : IsFiled g b h e x more room (acked_behind failed n acked) last (Some f) = read_filed g b x x words more e room (acked_behind failed n acked) last (Some f) hub grows in
      record { filed = record { basis = refl; entries = filed.entries; own = o.caller_is }; hub = filed.hub }

  -- the same, said of equal histories
  pub done_at : (b other : Basis) (kept : List Entry) (n : ℕ) (failed : Bool) (f : FileView D) → b ≡ other → IsDone g b kept n failed f → IsDone g other kept n failed f
  done_at b other kept n failed f same i = subst (λ z. IsDone g z kept n failed f) same i

  pub number_there : (b : Basis) (kept : List Entry) (n : ℕ) (failed : Bool) (f : FileView D) → IsDone g b kept n failed f → n ≡ (standing b kept).number
  number_there b kept n failed f i = sym i.number_is ∙ sym (number_kept b kept i.begun)

pub still_at : (b other : Basis) (c : ℕ) (kept late h now : List Entry) → b ≡ other → kept ≡ late → h ≡ now → IsStillOpen b c kept h → IsStillOpen other c late now
still_at b other c kept late h now p q r i = subst (λ z. IsStillOpen z c late now) p (subst (λ z. IsStillOpen b c z now) q (subst (IsStillOpen b c kept) r i))

pub reply_failed : (failed : Bool) (n m : ℕ) → n ≡ m → failed ≡ true → Err (refusal.DiskFault n) ≡ answer_of_commit (not failed) m
reply_failed failed n m same is = ap (λ k. Err (refusal.DiskFault k)) same ∙ ap (λ t. answer_of_commit (not t) m) (sym is)

pub reply_written : (failed : Bool) (n m : ℕ) → n ≡ m → failed ≡ false → Ok n ≡ answer_of_commit (not failed) m
reply_written failed n m same is = ap Ok same ∙ ap (λ t. answer_of_commit (not t) m) (sym is)
