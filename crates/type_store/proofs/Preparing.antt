-- What is planned for a commit is a commit that may be written.
use Rattle.std.proofs.Common.{◌≡◌, ◌≤◌, ◌<◌, ◌+◌, ◌-◌, ◌*◌, ◌/◌, ◌^◌, ℕ, Bool, true, false, IsTrue, List, [], ◌∷◌, length, drop, Option, None, Some, Result, Ok, Err, refl, sym, ap, subst, ◌∙◌, arith}
use Rattle.std.specs.Prelude.{IfErr, IsErrAnd, IsErrOf}
use Rattle.cow_streams.specs.declared.fault.PlanFault.{PlanFault}
use Rattle.cow_streams.specs.declared.fault.PlanFault.TheVariants as plan
use Rattle.cow_streams.specs.declared.fault.Which.TheVariants as which
use Rattle.committer.specs.Fault.{PassesBlocks, PassesDirectory, fault_of_plan}
use Rattle.committer.specs.Left.{file_after}
use Rattle.committer.specs.Stored as store
use Rattle.cow_streams.specs.Edits.{AreEdits, edited}
use Rattle.cow_streams.specs.Plan.{IsPlan}
use Rattle.cow_streams.specs.Planned.{Planned, new_blocks, new_dir_bytes, planned}
use Rattle.msf_blocks.specs.Blocks.{IsBlockSize}
use Rattle.msf_blocks.specs.Edit.{StreamEdit}
use Rattle.msf_image.specs.declared.image.Image.{Image}
use Rattle.msf_image.specs.Reads.{IsWhole}
use Rattle.msf_image.specs.Relation.{Reads, contents_in}
use Rattle.table_model.specs.Bounds.{Bounds, bounded_table}
use Rattle.table_model.specs.Cut.{Cut}
use Rattle.table_model.specs.File.{File, newest_cut}
use Rattle.table_model.specs.Tables.{Tables}
use Rattle.type_store.specs.Commit.{commit_edits, extent_of}
use Rattle.type_store.specs.Commits.{contents_of}
use Rattle.type_store.specs.Committed.{GoesOn, HoldsTables, IsBase, IsCommitted, edited_contents}
use Rattle.type_store.specs.Files.{Begun, FileView, FitsDirectory, HasBounds, IsFile, IsFull, IsReady, IsRefused, Origin, Pending, by_blocks, by_directory}
use Rattle.type_store.specs.Holds.{Contents}
use Rattle.type_store.specs.Inside.{cut_in, cuts_of}
use Rattle.type_store.specs.Planning.{Commit, IsWrittenImage, MayCommit, edits_of}
use Rattle.type_store.specs.Preparing.{AreKept, HasNoPlace, commit_on}
use Rattle.type_store.specs.Shape.{MayNeed, Shape, directory_bytes, shape_of}
use Rattle.type_store.specs.Written.{AreWithin, CanKeep, KeptNumbers}

-- ---- the tables

pub within_bounds : (bounds : Bounds) (tables : Tables) → HasBounds bounds tables → AreKept tables → AreWithin bounds tables
within_bounds bounds tables has are = record {
  types = are.types;
  items = are.items;
  names = are.names;
  type_limits = λ i. record { max_records = has.type_records i; max_bytes = has.type_bytes i; records = tables.types.records };
  item_limits = λ i. record { max_records = has.item_records i; max_bytes = has.item_bytes i; records = tables.items.records };
  name_limit = has.names;
}

-- ---- the plan

-- the edits that were made, as those of the commit
made_as : (c : Commit) (image : Image) (size : ℕ) (edits : List StreamEdit) → size ≡ image.head.block → edits ≡ edits_of c size → edits ≡ edits_of c image.head.block
made_as c image size edits block made = made ∙ ap (edits_of c) block

pub edits_may : (c : Commit) (image : Image) (size : ℕ) (edits : List StreamEdit) → size ≡ image.head.block → edits ≡ edits_of c size → AreEdits image.head.block image.directory (edits_of c image.head.block) → AreEdits image.head.block image.directory edits
edits_may c image size edits block made are = subst (AreEdits image.head.block image.directory) (sym (made_as c image size edits block made)) are

pub short_made : (c : Commit) (image : Image) (size : ℕ) (edits : List StreamEdit) → size ≡ image.head.block → edits ≡ edits_of c size → new_dir_bytes image (edits_of c image.head.block) ≡ directory_bytes c.shape c.tables
    → directory_bytes c.shape c.tables < 2 ^ 32 → new_dir_bytes image edits < 2 ^ 32
short_made c image size edits block made bytes less = let same = ap (new_dir_bytes image) (made_as c image size edits block made) in omega (arith, same, bytes, less)

-- a fact of the edits that were made
pub of_made : (P : List StreamEdit → Type 0) (c : Commit) (image : Image) (size : ℕ) (edits : List StreamEdit) → size ≡ image.head.block → edits ≡ edits_of c size → P edits → P (edits_of c image.head.block)
of_made P c image size edits block made has = subst P (made_as c image size edits block made) has

shape_block : (c : Commit) (image : Image) → MayCommit c image → c.shape.block ≡ image.head.block
shape_block c image may = ap (λ (s : Shape). s.block) may.shape_is

pub shape_size : (c : Commit) (image : Image) → MayCommit c image → IsBlockSize c.shape.block
shape_size c image may = subst IsBlockSize (sym (shape_block c image may)) may.whole.head.block

-- a directory that passes its limit
pub no_directory : (c : Commit) (image : Image) (needed : ℕ) → MayCommit c image → new_dir_bytes image (edits_of c image.head.block) ≡ directory_bytes c.shape c.tables
    → PassesDirectory image (edits_of c image.head.block) needed → (needed ≡ directory_bytes c.shape c.tables) × (¬ FitsDirectory c.shape c.tables)
no_directory c image needed may bytes passes =
    let is = passes.is ∙ bytes in
    (is, λ less. omega (arith, less, is, passes.passes, ap (λ b. b * b / 4) (shape_block c image may)))

pub fits : (c : Commit) (image : Image) → MayCommit c image → new_dir_bytes image (edits_of c image.head.block) ≡ directory_bytes c.shape c.tables
    → new_dir_bytes image (edits_of c image.head.block) ≤ image.head.block * image.head.block / 4 → FitsDirectory c.shape c.tables
fits c image may bytes less = omega (arith, bytes, less, ap (λ b. b * b / 4) (shape_block c image may))

-- more blocks than the limit
pub no_blocks : (c : Commit) (image : Image) (limit needed : ℕ) → MayCommit c image → new_dir_bytes image (edits_of c image.head.block) ≡ directory_bytes c.shape c.tables → image.head.blocks ≤ limit
    → (needed ≡ new_blocks image (edits_of c image.head.block) → image.head.blocks < needed → MayNeed c.shape c.tables needed)
    → PassesBlocks limit image (edits_of c image.head.block) needed → FitsDirectory c.shape c.tables × (limit < needed) × MayNeed c.shape c.tables needed
no_blocks c image limit needed may bytes limited law passes =
    (fits c image may bytes passes.directory, passes.passes, law passes.is (omega (arith, limited, passes.passes)))

-- why a plan was refused
pub no_place : {X : Type 0} (c : Commit) (image : Image) (limit : ℕ) (r : Result X PlanFault) (why : PlanFault) → r ≡ Err why → MayCommit c image → new_dir_bytes image (edits_of c image.head.block) ≡ directory_bytes c.shape c.tables → image.head.blocks ≤ limit
    → ((needed : ℕ) → needed ≡ new_blocks image (edits_of c image.head.block) → image.head.blocks < needed → MayNeed c.shape c.tables needed)
    → ((needed : ℕ) → IsErrOf r (plan.Full which.Directory needed) → PassesDirectory image (edits_of c image.head.block) needed)
    → ((needed : ℕ) → IsErrOf r (plan.Full which.Blocks needed) → PassesBlocks limit image (edits_of c image.head.block) needed) → HasNoPlace limit c.shape c.tables why
no_place c image limit r (plan.Full which.Directory needed) is may bytes limited law directory blocks = no_directory c image needed may bytes (directory needed (subst (λ x. IsErrOf x (plan.Full which.Directory needed)) (sym is) refl))
no_place c image limit r (plan.Full which.Blocks needed) is may bytes limited law directory blocks = no_blocks c image limit needed may bytes limited (law needed) (blocks needed (subst (λ x. IsErrOf x (plan.Full which.Blocks needed)) (sym is) refl))
no_place c image limit r plan.OutOfMemory is may bytes limited law directory blocks = tt

module _ {D : Type 0} (told : Bool) (seen : D → List ℕ) (o : Origin) (s : store.Stored D) (fresh : Bool) (file : File) (last : ℕ) (ready : Option Pending) (is : IsFile told seen o s fresh file last ready) (tables : Tables)
    (on : GoesOn (newest_cut file).tables tables) (within : AreWithin o.bounds tables) where
  abbrev cut : Cut
  cut = record { number = last + 1; tables = tables }

  abbrev old : Image
  old = store.newest s.file

  abbrev c : Commit
  c = commit_on o fresh (newest_cut file).tables cut

  pub may_commit : IsWhole old → MayCommit c old
  may_commit whole = record {
    can = is.origin.can;
    short = is.origin.short;
    whole = whole;
    shape_is = is.origin.shape ∙ ap (λ b. shape_of b o.shape.blocks o.shape.sizes o.kept) (sym is.newest.block);
    room = is.origin.room;
    base = is.newest.base_image;
    on = on;
    within = within;
  }

  module _ (written : (limits : Bounds) (size first_age age next : ℕ) (fresh : Bool) (kept : KeptNumbers) (info : List ℕ) (first old tables : Tables) (opened contents : Contents) → IsBlockSize size → CanKeep kept info
      → HoldsTables limits kept info first_age first opened → IsBase fresh kept info age first opened old contents → GoesOn old tables
      → IsCommitted kept info next tables opened (edited_contents (commit_edits size kept (extent_of fresh old) info next tables) contents))
      (next : (c : Commit) (limit : ℕ) (image : Image) (p : Planned) → MayCommit c image → p ≡ planned image (edits_of c image.head.block) → IsPlan limit image (edits_of c image.head.block) p → IsWrittenImage c.shape c.tables p.image)
      (whole : IsWhole old) (small : last < 2 ^ 32 - 1) (p : Planned) (is_planned : p ≡ planned old (edits_of c old.head.block)) (sound : IsPlan s.limit old (edits_of c old.head.block) p)
      (reads : IsTrue told → Reads (file_after s.file (seen s.device) p) s.limit p.image (edited (edits_of c old.head.block) (contents_in (seen s.device) old))) where
    committed : IsTrue told → IsCommitted o.kept o.info (last + 1) tables (contents_of o.opened o.image) (contents_of (file_after s.file (seen s.device) p) p.image)
    committed t =
        let same = ap (λ (x : List (Option (List ℕ))). Some [] ∷ x) (reads t).contents in
        subst (λ (x : Contents). IsCommitted o.kept o.info (last + 1) tables (contents_of o.opened o.image) x) same
        (written o.bounds old.head.block o.first.number (newest_cut file).number (last + 1) fresh o.kept o.info o.first.tables (newest_cut file).tables tables (contents_of o.opened o.image) (contents_of (seen s.device) old)
        whole.head.block is.origin.can (is.origin.holds t) (is.newest.base t) on)

    pub is_ready : IsReady told o s.file (seen s.device) (newest_cut file) (last + 1) (record { cut = cut; plan = p })
    is_ready = record {
      planned = (edits_of c old.head.block, subst (λ n. IsPlan n old (edits_of c old.head.block) p) is.limit sound);
      number = refl;
      on = on;
      within = within;
      block = sound.block ∙ is.newest.block;
      unknown = sound.unknown ∙ is.newest.unknown;
      other_map = sound.other_map;
      image = next c s.limit old p (may_commit whole) is_planned sound;
      committed = committed;
    }

    pub prepared_file : IsFile told seen o s fresh file (last + 1) (Some (record { cut = cut; plan = p }))
    prepared_file = record {
      origin = is.origin;
      limit = is.limit;
      states = is.states;
      cuts = is.cuts;
      newest = is.newest;
      begun = omega (arith, is.begun);
      small = omega (arith, small);
      prepared = is_ready;
    }

-- ---- the parts of the program's file

pub newest_in : (before : Option Begun) (newest : Begun) → newest_cut (cuts_of before newest) ≡ cut_in newest
newest_in None newest = refl
newest_in (Some b) newest = refl

pub may_plan : {D : Type 0} (told : Bool) (seen : D → List ℕ) (o : Origin) (s : store.Stored D) (before : Option Begun) (newest : Begun) (last : ℕ) (ready : Option Pending) (tables : Tables) (made : Cut)
    → IsFile told seen o s newest.fresh (cuts_of before newest) last ready → GoesOn (newest_cut (cuts_of before newest)).tables tables → AreWithin o.bounds tables → IsWhole (store.newest s.file) → made ≡ record { number = last + 1; tables = tables }
    → MayCommit (commit_on o newest.fresh newest.cut.tables made) (store.newest s.file)
may_plan told seen o s before newest last ready tables made is on within whole same =
    subst (λ (x : Cut). MayCommit (commit_on o newest.fresh newest.cut.tables x) (store.newest s.file)) (sym same)
    (subst (λ (x : Cut). MayCommit (commit_on o newest.fresh x.tables (record { number = last + 1; tables = tables })) (store.newest s.file)) (newest_in before newest)
    (may_commit told seen o s newest.fresh (cuts_of before newest) last ready is tables on within whole))

pub ready_to_write : {D : Type 0} (told : Bool) (seen : D → List ℕ) (o : Origin) (s : store.Stored D) (before : Option Begun) (newest : Begun) (last : ℕ) (ready : Option Pending) (tables : Tables) (made : Cut) (now : Pending)
    → IsFile told seen o s newest.fresh (cuts_of before newest) last ready → GoesOn (newest_cut (cuts_of before newest)).tables tables → AreWithin o.bounds tables
    → ((limits : Bounds) (size first_age age next : ℕ) (fresh : Bool) (kept : KeptNumbers) (info : List ℕ) (first old tables : Tables) (opened contents : Contents) → IsBlockSize size → CanKeep kept info
    → HoldsTables limits kept info first_age first opened → IsBase fresh kept info age first opened old contents → GoesOn old tables
    → IsCommitted kept info next tables opened (edited_contents (commit_edits size kept (extent_of fresh old) info next tables) contents))
    → ((c : Commit) (limit : ℕ) (image : Image) (p : Planned) → MayCommit c image → p ≡ planned image (edits_of c image.head.block) → IsPlan limit image (edits_of c image.head.block) p → IsWrittenImage c.shape c.tables p.image)
    → IsWhole (store.newest s.file) → last < 2 ^ 32 - 1 → (p : Planned) → made ≡ record { number = last + 1; tables = tables }
    → p ≡ planned (store.newest s.file) (edits_of (commit_on o newest.fresh newest.cut.tables made) (store.newest s.file).head.block)
    → IsPlan s.limit (store.newest s.file) (edits_of (commit_on o newest.fresh newest.cut.tables made) (store.newest s.file).head.block) p
    → (IsTrue told → Reads (file_after s.file (seen s.device) p) s.limit p.image (edited (edits_of (commit_on o newest.fresh newest.cut.tables made) (store.newest s.file).head.block) (contents_in (seen s.device) (store.newest s.file))))
    → now ≡ record { cut = record { number = last + 1; tables = tables }; plan = p } → IsFile told seen o s newest.fresh (cuts_of before newest) (last + 1) (Some now)
ready_to_write told seen o s before newest last ready tables made now is on within written next whole small p same plan sound reads now_is =
    let old = store.newest s.file in
    let new : Cut = record { number = last + 1; tables = tables } in
    let e : commit_on o newest.fresh newest.cut.tables made ≡ commit_on o newest.fresh (newest_cut (cuts_of before newest)).tables new =
    ap (λ (x : Cut). commit_on o newest.fresh newest.cut.tables x) same ∙ ap (λ (x : Cut). commit_on o newest.fresh x.tables new) (sym (newest_in before newest)) in
    subst (λ (q : Pending). IsFile told seen o s newest.fresh (cuts_of before newest) (last + 1) (Some q)) (sym now_is)
    (prepared_file told seen o s newest.fresh (cuts_of before newest) last ready is tables on within written next whole small p
    (plan ∙ ap (λ (x : Commit). planned old (edits_of x old.head.block)) e)
    (subst (λ (x : Commit). IsPlan s.limit old (edits_of x old.head.block) p) e sound)
    (subst (λ (x : Commit). IsTrue told → Reads (file_after s.file (seen s.device) p) s.limit p.image (edited (edits_of x old.head.block) (contents_in (seen s.device) old))) e reads))

-- ---- why there is none

pub is_refused : {D : Type 0} (v : FileView D) (tables : Tables) (why : PlanFault) → v.last < 2 ^ 32 - 1 → HasNoPlace v.bounds.blocks v.shape tables why → IsRefused v tables (fault_of_plan why)
is_refused v tables (plan.Full which.Directory needed) small why = subst (λ n. IsFull v.bounds.blocks v.shape v.last tables 6 n) (sym why.0) (by_directory small why.1)
is_refused v tables (plan.Full which.Blocks needed) small why = by_blocks needed small why.0 why.1 why.2
is_refused v tables plan.OutOfMemory small why = small

pub told_why : {X E : Type 0} (r : Result X E) (x : E) (P : E → Type 0) → IsErrAnd r (λ e. e ≡ x) → P x → IfErr r P
told_why (Ok done) x P is has = tt
told_why (Err e) x P is has = subst P (sym is) has
