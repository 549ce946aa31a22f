-- A file behind a write of a commit is what its type keeps, and shows no other commits.
use Rattle.std.proofs.Common.{◌≡◌, ◌≤◌, ◌<◌, ◌^◌, ℕ, ◌⊎◌, Bool, false, IsTrue, List, [], ◌∷◌, Option, None, Some, Result, Ok, Err, OnErr, OnOk, refl, sym, ap, subst, ◌∙◌, inl, inr, arith}
use Rattle.srv_edge.specs.Disk.{LeavesOnly, Only}
use Rattle.info_stream.specs.Text.{with_age}
use Rattle.msf_blocks.specs.Judging.{◌>>=◌}
use Rattle.msf_image.specs.declared.image.Image.{Image}
use Rattle.msf_image.specs.Reads.{read_file}
use Rattle.msf_image.specs.Relation.{Reads, contents_in}
use Rattle.msf_image.proofs.Relating.{judged_from}
use Rattle.cow_streams.specs.Planned.{Planned}
use Rattle.committer.specs.Left.{ShowsEither, file_after}
use Rattle.committer.specs.Stored as store
use Rattle.table_model.specs.Bounds.{Bounds}
use Rattle.table_model.specs.Cut.{Cut}
use Rattle.table_model.specs.File.{File, doubt, newest_cut, resolution, settled}
use Rattle.table_model.specs.Tables.{Tables}
use Rattle.type_store.specs.Commits.{HoldsOne, contents_of, cut_told, held_from, held_in}
use Rattle.type_store.specs.Committed.{HoldsTables, IsBase, IsCommitted}
use Rattle.type_store.specs.Files.{HasStates, IsFile, IsNewest, IsReady, IsWrittenOver, MayShow, Origin, Pending, TellsCut, TellsCuts}
use Rattle.type_store.specs.Holds.{Contents, Held, holding}
use Rattle.type_store.specs.declared.writing.Left.{Left}
use Rattle.type_store.specs.declared.writing.Left.TheVariants as left
use Rattle.type_store.specs.Writing.{Leaves, cuts_left, fresh_left}
use Rattle.type_store.specs.Written.{AreWithin, CanKeep, KeptNumbers}
use Rattle.type_store.proofs.Opened.{held_good, tells}
use Rattle.type_store.proofs.Shown.{reads_hold, shown}

-- ---- streams that hold what they held

told_on : (bounds : Bounds) (before after : List ℕ) (image : Image) (cut : Cut) → contents_in after image ≡ contents_in before image → TellsCut bounds before image cut → TellsCut bounds after image cut
told_on bounds before after image cut same told = ap (λ (streams : Contents). cut_told bounds (holding bounds (Some [] ∷ streams))) same ∙ told

newest_told : (bounds : Bounds) (seen : List ℕ) (s : store.File) (file : File) → TellsCuts bounds seen s file → TellsCut bounds seen (store.newest s) (newest_cut file)
newest_told bounds seen (store.settled i) (settled x) told = told
newest_told bounds seen (store.settled i) (doubt x p) told = absurd told
newest_told bounds seen (store.doubt b n) (settled x) told = absurd told
newest_told bounds seen (store.doubt b n) (doubt x p) told = told.1

all_told_on : (bounds : Bounds) (before after : List ℕ) (s : store.File) (file : File) → contents_in after (store.newest s) ≡ contents_in before (store.newest s) → contents_in after (store.base_of s) ≡ contents_in before (store.base_of s) → TellsCuts bounds before s file → TellsCuts bounds after s file
all_told_on bounds before after (store.settled i) (settled x) newest base told = told_on bounds before after i x newest told
all_told_on bounds before after (store.settled i) (doubt x p) newest base told = absurd told
all_told_on bounds before after (store.doubt b n) (settled x) newest base told = absurd told
all_told_on bounds before after (store.doubt b n) (doubt x p) newest base told = (told_on bounds before after b x base told.0, told_on bounds before after n p newest told.1)

resolved : (file : File) → settled (newest_cut file) ≡ resolution file
resolved (settled x) = refl
resolved (doubt x p) = refl

was_held : (bounds : Bounds) (file : List ℕ) (image : Image) (held : Held) → read_file file bounds.blocks ≡ Ok image → holding bounds (contents_of file image) ≡ Ok held → held_in bounds file ≡ Ok held
unfolding held_in
was_held bounds file image held is holds = ap (λ r. r >>= held_from bounds file) is ∙ holds

-- ---- the commit that is ready

-- the commit that is ready is the one that is written
pub ready_file : {D : Type 0} (told : Bool) (seen : D → List ℕ) (o : Origin) (s : store.Stored D) (fresh : Bool) (file : File) (last : ℕ) (kept now : Option Pending) (p q : Pending)
    → IsFile told seen o s fresh file last kept → kept ≡ now → now ≡ Some q → p ≡ q → IsFile told seen o s fresh file last (Some p)
ready_file told seen o s fresh file last kept now p q is one two three = subst (λ (r : Option Pending). IsFile told seen o s fresh file last r) (one ∙ two ∙ ap (λ (x : Pending). Some x) (sym three)) is

-- what holds of a file that a device tells
pub told_run : {D : Type 0} (moment : D → ℕ) (left_since : D → ℕ → List ℕ → Type 0) (old new : D) (told : Bool) (P Q : List ℕ → Type 0) → LeavesOnly moment left_since old new P → LeavesOnly moment left_since old new (λ _. IsTrue told) → ((c : List ℕ) → IsTrue told → P c → Q c) → LeavesOnly moment left_since old new Q
told_run moment left_since old new told P Q run tells each = record {
  later = run.later;
  each = λ c since. each c (tells.each c since) (run.each c since);
  before = λ t c le since.
      elim (run.before t c le since) [
        | inl past ↦ inl past
        | inr has ↦ elim (tells.before t c le since) [ inl past ↦ inl past | inr is ↦ inr (each c is has) ]
      ];
}

module _ (held : (limits : Bounds) (kept : KeptNumbers) (info : List ℕ) (age : ℕ) (tables : Tables) (opened contents : Contents) → CanKeep kept info → AreWithin limits tables → age < 2 ^ 32 → IsCommitted kept info age tables opened contents → HoldsTables limits kept (with_age info age) age tables contents)
    {D : Type 0} (told : Bool) (seen : D → List ℕ) (o : Origin) (s : store.Stored D) (fresh : Bool) (file : File) (last : ℕ) (p : Pending) (is : IsFile told seen o s fresh file last (Some p)) where
  abbrev after : List ℕ
  after = file_after s.file (seen s.device) p.plan

  ready : IsReady told o s.file (seen s.device) (newest_cut file) last p
  ready = is.prepared

  -- the planned image holds the new commit
  committed_on : (now : List ℕ) → contents_in now p.plan.image ≡ contents_in after p.plan.image → IsTrue told → IsCommitted o.kept o.info p.cut.number p.cut.tables (contents_of o.opened o.image) (contents_of now p.plan.image)
  committed_on now same t =
      let r = ready in
      subst (λ (x : Contents). IsCommitted o.kept o.info p.cut.number p.cut.tables (contents_of o.opened o.image) (Some [] ∷ x)) (sym same) (r.committed t)

  committed_tells : (now : List ℕ) → contents_in now p.plan.image ≡ contents_in after p.plan.image → IsTrue told → TellsCut o.bounds now p.plan.image p.cut
  committed_tells now same t =
      let r = ready in
      let small : p.cut.number < 2 ^ 32 = omega (arith, r.number, is.small) in
      tells o.bounds o.kept (with_age o.info p.cut.number) p.cut.number p.cut.tables now p.plan.image
      (held o.bounds o.kept o.info p.cut.number p.cut.tables (contents_of o.opened o.image) (contents_of now p.plan.image) is.origin.can r.within small (committed_on now same t))

  -- ---- what a crash leaves while it is written

  pub shows_one : (c : List ℕ) → IsTrue told → ShowsEither s.limit s.file (seen s.device) p.plan c → HoldsOne o.bounds (MayShow file p.cut) c
  shows_one c t shows =
      elim shows [
        | inl old ↦ (let h = shown o.bounds s.limit (seen s.device) s.file file c is.limit (is.cuts t) old in (h.0, inl h.1, h.2))
        | inr new ↦ (p.cut, inr refl, reads_hold o.bounds after c p.plan.image p.cut (subst (λ n. Reads c n p.plan.image (contents_in after p.plan.image)) is.limit new) (committed_tells after refl t))
      ]

  -- ---- what it leaves then

  module _ (s' : store.Stored D) (limit : s'.limit ≡ s.limit) where
    file_at : (f : store.File) (cuts : File) (first : Bool) → s'.file ≡ f → HasStates f cuts → (IsTrue told → TellsCuts o.bounds (seen s'.device) f cuts) → IsNewest told o first (store.newest f) (seen s'.device) (newest_cut cuts) → (newest_cut cuts).number ≤ last → IsFile told seen o s' first cuts last None
    file_at f cuts first same states tell newest begun = record {
      origin = is.origin;
      limit = limit ∙ is.limit;
      states = subst (λ (x : store.File). HasStates x cuts) (sym same) states;
      cuts = λ t. subst (λ (x : store.File). TellsCuts o.bounds (seen s'.device) x cuts) (sym same) (tell t);
      newest = subst (λ (x : store.File). IsNewest told o first (store.newest x) (seen s'.device) (newest_cut cuts)) (sym same) newest;
      begun = begun;
      small = is.small;
      prepared = tt;
    }

    -- the newest image as it was
    old_newest : (IsTrue told → contents_in (seen s'.device) (store.newest s.file) ≡ contents_in (seen s.device) (store.newest s.file)) → IsNewest told o fresh (store.newest s.file) (seen s'.device) (newest_cut file)
    old_newest same = record {
      block = is.newest.block;
      unknown = is.newest.unknown;
      within = is.newest.within;
      base_image = is.newest.base_image;
      base = λ t. subst (λ (x : Contents). IsBase fresh o.kept o.info (newest_cut file).number o.first.tables (contents_of o.opened o.image) (newest_cut file).tables (Some [] ∷ x)) (sym (same t)) (is.newest.base t);
    }

    -- the planned one
    new_newest : (IsTrue told → contents_in (seen s'.device) p.plan.image ≡ contents_in after p.plan.image) → IsNewest told o false p.plan.image (seen s'.device) p.cut
    new_newest same = let r = ready in record {
      block = r.block;
      unknown = r.unknown;
      within = r.within;
      base_image = r.image;
      base = λ t. committed_on (seen s'.device) (same t) t;
    }

    new_begun : p.cut.number ≤ last
    new_begun = let r = ready in omega (arith, r.number)

    pub file_left : {A : Type 0} (r : Result A Left) → Leaves told s.file (seen s.device) p.plan s'.file (seen s'.device) r → IsFile told seen o s' (fresh_left fresh r) (cuts_left file p.cut r) last None
    file_left (Ok done) w =
        let same : IsTrue told → contents_in (seen s'.device) p.plan.image ≡ contents_in after p.plan.image = λ t. ap (λ f. contents_in f p.plan.image) (w.contents t) in
        file_at (store.settled p.plan.image) (settled p.cut) false w.is tt (λ t. committed_tells (seen s'.device) (same t) t) (new_newest same) new_begun
    file_left (Err left.Unchanged) w =
        file_at s.file file fresh w.is is.states (λ t. all_told_on o.bounds (seen s.device) (seen s'.device) s.file file (w.contents t) (w.base t) (is.cuts t)) (old_newest w.contents) is.begun
    file_left (Err left.Settled) w =
        subst (λ (cuts : File). IsFile told seen o s' fresh cuts last None) (resolved file)
        (file_at (store.settled (store.newest s.file)) (settled (newest_cut file)) fresh w.is tt (λ t. told_on o.bounds (seen s.device) (seen s'.device) (store.newest s.file) (newest_cut file) (w.contents t) (newest_told o.bounds (seen s.device) s.file file (is.cuts t))) (old_newest w.contents) is.begun)
    file_left (Err left.Doubt) w =
        file_at (store.doubt (store.newest s.file) p.plan.image) (doubt (newest_cut file) p.cut) false w.is tt
        (λ t. (told_on o.bounds (seen s.device) (seen s'.device) (store.newest s.file) (newest_cut file) (w.contents t) (newest_told o.bounds (seen s.device) s.file file (is.cuts t)), committed_tells (seen s'.device) (w.next t) t))
        (new_newest w.next) new_begun

    -- ---- a file that is written

    written_over : (c : List ℕ) → IsTrue told → s'.file ≡ store.settled p.plan.image → c ≡ after → store.Shows s'.limit s'.file (seen s'.device) c → IsWrittenOver o.bounds o.opened c p.cut
    written_over c t settles only shows =
        let r = ready in
        let h = is.origin.holds t in
        let reads : Reads c s'.limit p.plan.image (contents_in (seen s'.device) p.plan.image) = subst (λ (f : store.File). store.Shows s'.limit f (seen s'.device) c) settles shows in
        let read = judged_from c o.bounds.blocks p.plan.image (contents_in (seen s'.device) p.plan.image) (subst (λ n. Reads c n p.plan.image (contents_in (seen s'.device) p.plan.image)) (limit ∙ is.limit) reads) in
        let same : contents_in c p.plan.image ≡ contents_in after p.plan.image = ap (λ f. contents_in f p.plan.image) only in
        record {
          kept = o.kept;
          info = o.info;
          old_image = o.image;
          image = p.plan.image;
          was_read = is.origin.read t;
          is_read = read;
          block = r.block;
          unknown = r.unknown;
          held = h.held;
          was_held = was_held o.bounds o.opened o.image h.held (is.origin.read t) h.holds;
          numbers = h.kept_are;
          info_stream = h.info_stream;
          committed = committed_on c same t;
          holds = held_good o.bounds c p.plan.image p.cut read (committed_tells c same t);
        }

    pub all_written_over : {A : Type 0} (images : List ℕ → Type 0) (r : Result A Left) → Leaves told s.file (seen s.device) p.plan s'.file (seen s'.device) r → OnOk r (Only after images) → ((c : List ℕ) → images c → IsTrue told)
        → ((c : List ℕ) → images c → store.Shows s'.limit s'.file (seen s'.device) c) → OnOk r ((c : List ℕ) → images c → IsWrittenOver o.bounds o.opened c p.cut)
    all_written_over images (Ok done) w only tells shows = λ c left. written_over c (tells c left) w.is (only c left) (shows c left)
    all_written_over images (Err l) w only tells shows = tt

-- ---- on what the next commit builds

pub takes_base : {A : Type 0} (told : Bool) (old : store.File) (before : List ℕ) (file : store.File) (later : List ℕ) (plan : Planned) (was now : Bool) (r : Result A Left) → Leaves told old before plan file later r
    → now ≡ fresh_left was r → OnOk r ((store.newest file ≡ plan.image) × (now ≡ false))
takes_base told old before file later plan was now (Ok done) l fresh = (ap store.newest l.is, fresh)
takes_base told old before file later plan was now (Err why) l fresh = tt

pub fails_on : {A : Type 0} (told : Bool) (old : store.File) (before : List ℕ) (file : store.File) (later : List ℕ) (p : Pending) (was now : Bool) (cuts behind : File) (r : Result A Left) → Leaves told old before p.plan file later r
    → now ≡ fresh_left was r → behind ≡ cuts_left cuts p.cut r
    → OnErr r ((((behind ≡ cuts) ⊎ (behind ≡ resolution cuts)) × ((store.newest file ≡ store.newest old) × (now ≡ was))) ⊎ ((behind ≡ doubt (newest_cut cuts) p.cut) × ((store.newest file ≡ p.plan.image) × (now ≡ false))))
fails_on told old before file later p was now cuts behind (Ok done) l fresh is = tt
fails_on told old before file later p was now cuts behind (Err left.Unchanged) l fresh is = inl (inl is, (ap store.newest l.is, fresh))
fails_on told old before file later p was now cuts behind (Err left.Settled) l fresh is = inl (inr is, (ap store.newest l.is, fresh))
fails_on told old before file later p was now cuts behind (Err left.Doubt) l fresh is = inr (is, (ap store.newest l.is, fresh))
