-- A desk over a book, in the course of its session.
use Rattle.std.proofs.Common.{◌≡◌, ◌⊎◌, inl, inr, ◌+◌, ℕ, List, [], ◌∷◌, ◌++◌, Some, Contains, refl, sym, ap, subst, ◌∙◌, arith}
use Rattle.std.proofs.lemmas.List.Elements.{Contains-append_left, Contains-push, Contains-push_cases}
use Rattle.srv_edge.specs.declared.device.Device as device
use Rattle.srv_edge.specs.declared.failed.SessionEnd.{SessionEnd}
use Rattle.srv_edge.specs.Count.{RoseBy}
use Rattle.srv_edge.specs.Disk.{LeavesOnly}
use Rattle.srv_edge.specs.Frames.{Message}
use Rattle.srv_edge.proofs.Moments.{joined, started, weaker}
use Rattle.request_frames.specs.Requests.{Asked, IsAsked, commit}
use Rattle.request_frames.specs.Session.{IsSession}
use Rattle.request_frames.specs.Talk.{disk_faults}
use Rattle.request_frames.proofs.Mapping.{Simulates, talk_follows, with_talk}
use Rattle.table_model.specs.Bounds.{Bounds}
use Rattle.table_model.specs.Cut.{Cut}
use Rattle.table_model.specs.File.{MayLeave, settled}
use Rattle.type_store.specs.Commits.{HoldsOne}
use Rattle.type_store.specs.Files.{FailsTo, FileView, IsShown, MayShow, cut_of}
use Rattle.type_store.specs.Opened.{IsOpened}
use Rattle.type_store.specs.Shape.{Shape}
use Rattle.hub.specs.Books.{BookView}
use Rattle.client_session.specs.Commits.{Commits, SoloAnswers, Writes, faults_of}
use Rattle.client_session.specs.Course.{Answers, AnswersCommit, Course, acknowledged, course_from, faulted, next_cut}
use Rattle.client_session.specs.Served.{IsServed}
use Rattle.client_session.specs.Standing.{IsSafe, Keeps, MayLeaveIn, StandsAt}
use Rattle.client_session.specs.Tables.{AnswersByTables, Tables}
use Rattle.client_session.proofs.Leaving.{failed_leaves, settled_leaves}

-- a cut that a list of one holds
of_one : {X : Type 0} (x y : X) → Contains (x ∷ []) y → y ≡ x
of_one x y has = elim (Contains-push_cases [] x y has) [ inl has_none ↦ absurd (omega (arith, has_none.1)) | inr same ↦ sym same ]

-- a file that holds a cut with P holds one with Q
holds_other : (bounds : Bounds) (P Q : Cut → Type 0) (image : List ℕ) → ((cut : Cut) → P cut → Q cut) → HoldsOne bounds P image → HoldsOne bounds Q image
holds_other bounds P Q image less holds = (holds.0, less holds.0 holds.1, holds.2)

module _ {D : Type 0} (d : device.Ghosts D) (start : D) where
  -- A run goes on by a write: each image since its start is one that the device had then, or holds one of all cuts, of which
  -- the written one is the last.
  since : (v w : FileView D) (cut : Cut) (allowed begun : List Cut) → Keeps d start v allowed begun → Writes d v w cut
      → LeavesOnly d.moment d.left_since start w.device (λ image. d.may_leave start image ⊎ HoldsOne w.bounds (Contains (begun ++ cut ∷ [])) image)
  since v w cut allowed begun keeps writes =
      let P : Bounds → List ℕ → Type 0 = λ bounds image. d.may_leave start image ⊎ HoldsOne bounds (Contains (begun ++ cut ∷ [])) image in
      let earlier : (image : List ℕ) → d.may_leave start image ⊎ HoldsOne v.bounds (Contains begun) image → P v.bounds image = λ image either.
      elim either [
        | inl first ↦ inl first
        | inr held ↦ inr (holds_other v.bounds (Contains begun) (Contains (begun ++ cut ∷ [])) image (λ c has. Contains-append_left begun (cut ∷ []) c has) held)
      ] in
      let shows : (c : Cut) → MayShow v.file cut c → Contains (begun ++ cut ∷ []) c = λ c may.
      elim may [
        | inl left ↦ Contains-append_left begun (cut ∷ []) c (keeps.among c (keeps.now c left))
        | inr same ↦ subst (λ x. Contains (begun ++ cut ∷ []) x) (sym same) (Contains-push begun cut)
      ] in
      let later : (image : List ℕ) → HoldsOne v.bounds (MayShow v.file cut) image → P v.bounds image = λ image held.
      inr (holds_other v.bounds (MayShow v.file cut) (Contains (begun ++ cut ∷ [])) image shows held) in
      let one = weaker d.moment d.left_since start v.device (λ image. d.may_leave start image ⊎ HoldsOne v.bounds (Contains begun) image) (P v.bounds) keeps.any_moment earlier in
      let two = weaker d.moment d.left_since v.device w.device (HoldsOne v.bounds (MayShow v.file cut)) (P v.bounds) writes.any_moment later in
      subst (λ bounds. LeavesOnly d.moment d.left_since start w.device (P bounds)) (sym writes.bounds) (joined d.moment d.left_since start v.device w.device (P v.bounds) one two)

  -- behind a commit that was acknowledged
  keeps_acknowledged : (v w : FileView D) (cut : Cut) (allowed begun : List Cut) → Keeps d start v allowed begun → Writes d v w cut → w.file ≡ settled cut → Keeps d start w (cut ∷ []) (begun ++ cut ∷ [])
  keeps_acknowledged v w cut allowed begun keeps writes file = record {
    now = λ c left. subst (λ x. Contains (cut ∷ []) x) (sym (settled_leaves cut c (subst (λ f. MayLeave f c) file left))) (Contains-push [] cut);
    among = λ c has. subst (λ x. Contains (begun ++ cut ∷ []) x) (sym (of_one cut c has)) (Contains-push begun cut);
    shown = writes.shown;
    any_moment = since v w cut allowed begun keeps writes;
  }

  -- behind one in which the device failed
  keeps_faulted : (v w : FileView D) (cut : Cut) (allowed begun : List Cut) → Keeps d start v allowed begun → Writes d v w cut → FailsTo v.file cut w.file → Keeps d start w (allowed ++ cut ∷ []) (begun ++ cut ∷ [])
  keeps_faulted v w cut allowed begun keeps writes file = record {
    now = λ c left.
        elim (failed_leaves v.file w.file cut c file left) [
          | inl before ↦ Contains-append_left allowed (cut ∷ []) c (keeps.now c before)
          | inr same ↦ subst (λ x. Contains (allowed ++ cut ∷ []) x) (sym same) (Contains-push allowed cut)
        ];
    among = λ c has.
        elim (Contains-push_cases allowed cut c has) [
          | inl before ↦ Contains-append_left begun (cut ∷ []) c (keeps.among c before)
          | inr same ↦ subst (λ x. Contains (begun ++ cut ∷ []) x) same (Contains-push begun cut)
        ];
    shown = writes.shown;
    any_moment = since v w cut allowed begun keeps writes;
  }

  -- A file and a course that fit: the file has these bounds and this shape, and its last number and its cuts are those of the
  -- course, with these tables.
  record Fits (w : FileView D) (bounds : Bounds) (shape : Shape) (tables : Tables) (c : Course) : Type 0 where
    bounds_are : w.bounds ≡ bounds
    shape_is : w.shape ≡ shape
    number : c.number ≡ w.last
    tables_are : c.tables ≡ tables
    keeps : Keeps d start w c.allowed c.begun

  -- a course at the numbers of a file
  abbrev course_of : FileView D → Tables → List Cut → List Cut → Course
  course_of v tables allowed begun = record { number = v.last; tables = tables; allowed = allowed; begun = begun }

  -- a commit that is refused, or wants memory, leaves the file
  still_fits : (v w : FileView D) (tables : Tables) (allowed begun : List Cut) → w ≡ v → Keeps d start v allowed begun → Fits w v.bounds v.shape tables (course_of v tables allowed begun)
  still_fits v w tables allowed begun same keeps =
      subst (λ x. Fits x v.bounds v.shape tables (course_of v tables allowed begun)) (sym same) (record { bounds_are = refl; shape_is = refl; number = refl; tables_are = refl; keeps = keeps })

  -- A commit leads from a course at the file's own numbers to one at those of the new file.
  commit_follows : (v w : FileView D) (tables : Tables) (allowed begun : List Cut) (reply : Message) → Keeps d start v allowed begun → Commits d v tables reply w
      → (c : Course) × Fits w v.bounds v.shape tables c × AnswersCommit v.bounds.blocks v.shape (course_of v tables allowed begun) reply c
  commit_follows v w tables allowed begun reply keeps (inl whole) =
      let writes = whole.1.writes in
      let cut = cut_of (v.last + 1) tables in (
        acknowledged (course_of v tables allowed begun),
        record { bounds_are = writes.bounds; shape_is = writes.shape; number = sym writes.last; tables_are = refl; keeps = keeps_acknowledged v w cut allowed begun keeps writes whole.1.file },
        inl (writes.begins, whole.0, refl),
      )
  commit_follows v w tables allowed begun reply keeps (inr (inl failed)) =
      let writes = failed.1.writes in
      let cut = cut_of (v.last + 1) tables in (
        faulted (course_of v tables allowed begun),
        record { bounds_are = writes.bounds; shape_is = writes.shape; number = sym writes.last; tables_are = refl; keeps = keeps_faulted v w cut allowed begun keeps writes failed.1.file },
        inr (inl (writes.begins, failed.0, refl)),
      )
  commit_follows v w tables allowed begun reply keeps (inr (inr (inl full))) =
      (course_of v tables allowed begun, still_fits v w tables allowed begun full.4 keeps, inr (inr (inl (full.0, full.1, full.2, full.3, refl))))
  commit_follows v w tables allowed begun reply keeps (inr (inr (inr wants))) =
      (course_of v tables allowed begun, still_fits v w tables allowed begun wants.2 keeps, inr (inr (inr (wants.0, wants.1, refl))))

  -- the same from any course that fits
  commit_follows_at : (v w : FileView D) (bounds : Bounds) (shape : Shape) (tables : Tables) (c : Course) (reply : Message) → Fits v bounds shape tables c → Commits d v tables reply w
      → (new : Course) × Fits w bounds shape tables new × AnswersCommit bounds.blocks shape c reply new
  commit_follows_at v w bounds shape tables c reply fits commits =
      let P : ℕ → Tables → Bounds → Shape → Type 0 = λ n x b s.
      (new : Course) × Fits w b s tables new × AnswersCommit b.blocks s (record { number = n; tables = x; allowed = c.allowed; begun = c.begun }) reply new in
      let own : P v.last tables v.bounds v.shape = commit_follows v w tables c.allowed c.begun reply fits.keeps commits in
      subst (λ n. P n c.tables bounds shape) (sym fits.number)
      (subst (λ x. P v.last x bounds shape) (sym fits.tables_are)
      (subst (λ b. P v.last tables b shape) fits.bounds_are (subst (λ s. P v.last tables v.bounds s) fits.shape_is own)))

  -- where a desk stands, its file fits
  fits_there : (bounds : Bounds) (shape : Shape) (s : BookView D) (c : Course) (v : FileView D) → s.file ≡ Some v → StandsAt d start bounds shape s c → Fits v bounds shape s.tables c
  fits_there bounds shape s c v is stands =
      let same : stands.view ≡ v = let some : Some stands.view ≡ Some v = sym stands.there ∙ is in cc in
      subst (λ x. Fits x bounds shape s.tables c) same (record {
        bounds_are = stands.bounds_are;
        shape_is = stands.shape_is;
        number = stands.number;
        tables_are = stands.tables;
        keeps = stands.keeps;
      })

  -- a desk stands where its file fits
  stands_where : (bounds : Bounds) (shape : Shape) (s : BookView D) (tables : Tables) (c : Course) (v : FileView D) → s.file ≡ Some v → s.tables ≡ tables → Fits v bounds shape tables c → StandsAt d start bounds shape s c
  stands_where bounds shape s tables c v is tables_are fits = record {
    view = v;
    there = is;
    bounds_are = fits.bounds_are;
    shape_is = fits.shape_is;
    number = fits.number;
    tables = fits.tables_are ∙ sym tables_are;
    keeps = fits.keeps;
  }

  -- behind a request that the tables answer
  stands_still : (bounds : Bounds) (shape : Shape) (old new : BookView D) (c : Course) → new.file ≡ old.file → StandsAt d start bounds shape old c → StandsAt d start bounds shape new (record c { tables = new.tables })
  stands_still bounds shape old new c same stands = record {
    view = stands.view;
    there = same ∙ stands.there;
    bounds_are = stands.bounds_are;
    shape_is = stands.shape_is;
    number = stands.number;
    tables = refl;
    keeps = stands.keeps;
  }

  -- each answer of the desk is one of its course
  pub solo_follows : (bounds : Bounds) (shape : Shape) → Simulates (SoloAnswers d) (Answers bounds.blocks shape) (StandsAt d start bounds shape)
  solo_follows bounds shape version old new c a reply asked stands (inl calls) = (
    record c { tables = new.tables },
    stands_still bounds shape old new c calls.file stands,
    inl (new.tables, subst (λ x. AnswersByTables x a reply new.tables) (sym stands.tables) calls.tables, refl),
  )
  solo_follows bounds shape version old new c a reply asked stands (inr commits) =
      let to = commits.1.file in
      let follow = commit_follows_at to.before to.after bounds shape old.tables c reply (fits_there bounds shape old c to.before to.was stands) to.commits in (
        follow.0,
        stands_where bounds shape new old.tables follow.0 to.after to.is commits.1.tables follow.1,
        inr (commits.0, follow.2),
      )

  -- ---- one answer

  -- what a file at rest leaves
  at_rest : (bounds : Bounds) (v : FileView D) (allowed begun : List Cut) → v.bounds ≡ bounds → Keeps d start v allowed begun → (image : List ℕ) → d.may_leave v.device image → HoldsOne bounds (Contains allowed) image
  at_rest bounds v allowed begun is keeps image may =
      subst (λ b. HoldsOne b (Contains allowed) image) is (holds_other v.bounds (MayLeave v.file) (Contains allowed) image keeps.now (keeps.shown image may))

  -- one that no call was made on
  still : ((x : D) (image : List ℕ) → d.left_since x (d.moment x) image → d.may_leave x image) → (bounds : Bounds) (v : FileView D) (c : Course) (a : Asked) → v.bounds ≡ bounds → Keeps d start v c.allowed c.begun
      → LeavesOnly d.moment d.left_since v.device v.device (HoldsOne bounds (MayLeaveIn c a))
  still only_now bounds v c a is keeps =
      started d.moment d.left_since v.device (HoldsOne bounds (MayLeaveIn c a)) (d.may_leave v.device) (only_now v.device)
      (λ image may. holds_other bounds (Contains c.allowed) (MayLeaveIn c a) image (λ cut has. inl has) (at_rest bounds v c.allowed c.begun is keeps image may))

  -- one that a commit is written to
  writing : (bounds : Bounds) (shape : Shape) (v w : FileView D) (tables : Tables) (c : Course) (a : Asked) → a ≡ commit → Fits v bounds shape tables c → Writes d v w (cut_of (v.last + 1) tables)
      → LeavesOnly d.moment d.left_since v.device w.device (HoldsOne bounds (MayLeaveIn c a))
  writing bounds shape v w tables c a is fits writes =
      let new = cut_of (v.last + 1) tables in
      let next : next_cut c ≡ new = ap (λ n. cut_of (n + 1) c.tables) fits.number ∙ ap (cut_of (v.last + 1)) fits.tables_are in
      let shows : (cut : Cut) → MayShow v.file new cut → MayLeaveIn c a cut = λ cut may.
      elim may [ inl left ↦ inl (fits.keeps.now cut left) | inr same ↦ inr (is, same ∙ sym next) ] in
      weaker d.moment d.left_since v.device w.device (HoldsOne v.bounds (MayShow v.file new)) (HoldsOne bounds (MayLeaveIn c a)) writes.any_moment
      (λ image held. subst (λ b. HoldsOne b (MayLeaveIn c a) image) fits.bounds_are (holds_other v.bounds (MayShow v.file new) (MayLeaveIn c a) image shows held))

  -- a commit
  committing : ((x : D) (image : List ℕ) → d.left_since x (d.moment x) image → d.may_leave x image) → (bounds : Bounds) (shape : Shape) (v w : FileView D) (tables : Tables) (c : Course) (a : Asked) (reply : Message) → a ≡ commit
      → Fits v bounds shape tables c → Commits d v tables reply w → LeavesOnly d.moment d.left_since v.device w.device (HoldsOne bounds (MayLeaveIn c a))
  committing only_now bounds shape v w tables c a reply is fits (inl whole) = writing bounds shape v w tables c a is fits whole.1.writes
  committing only_now bounds shape v w tables c a reply is fits (inr (inl failed)) = writing bounds shape v w tables c a is fits failed.1.writes
  committing only_now bounds shape v w tables c a reply is fits (inr (inr (inl full))) =
      subst (λ x. LeavesOnly d.moment d.left_since v.device x.device (HoldsOne bounds (MayLeaveIn c a))) (sym full.4) (still only_now bounds v c a fits.bounds_are fits.keeps)
  committing only_now bounds shape v w tables c a reply is fits (inr (inr (inr wants))) =
      subst (λ x. LeavesOnly d.moment d.left_since v.device x.device (HoldsOne bounds (MayLeaveIn c a))) (sym wants.2) (still only_now bounds v c a fits.bounds_are fits.keeps)

  -- each answer is safe
  pub each_safe : ((x : D) (image : List ℕ) → d.left_since x (d.moment x) image → d.may_leave x image) → (version : ℕ) (bounds : Bounds) (shape : Shape) (old new : BookView D) (c : Course) (a : Asked) (reply : Message) → IsAsked version a
      → StandsAt d start bounds shape old c → SoloAnswers d old a reply new → IsSafe d start bounds shape old c a reply new
  each_safe only_now version bounds shape old new c a reply asked stands (inl calls) =
      let next = solo_follows bounds shape version old new c a reply asked stands (inl calls) in
      let fits_now = fits_there bounds shape new next.0 stands.view (calls.file ∙ stands.there) next.1 in
      record {
        before = stands.view;
        after = stands.view;
        was = stands.there;
        is = calls.file ∙ stands.there;
        any_moment = still only_now bounds stands.view c a stands.bounds_are stands.keeps;
        course = next.0;
        answered = next.2;
        stands = next.1;
        now = at_rest bounds stands.view next.0.allowed next.0.begun fits_now.bounds_are fits_now.keeps;
      }
  each_safe only_now version bounds shape old new c a reply asked stands (inr commits) =
      let to = commits.1.file in
      let fits = fits_there bounds shape old c to.before to.was stands in
      let next = solo_follows bounds shape version old new c a reply asked stands (inr commits) in
      let fits_now = fits_there bounds shape new next.0 to.after to.is next.1 in
      record {
        before = to.before;
        after = to.after;
        was = to.was;
        is = to.is;
        any_moment = committing only_now bounds shape to.before to.after old.tables c a reply commits.0 fits to.commits;
        course = next.0;
        answered = next.2;
        stands = next.1;
        now = at_rest bounds to.after next.0.allowed next.0.begun fits_now.bounds_are fits_now.keeps;
      }

  -- A desk stands at the start of a course once its file was opened, and this left nothing but what the device might have left.
  pub starts : (bounds : Bounds) (seen : List ℕ) (v : FileView D) (s : BookView D) → s.file ≡ Some v → IsOpened bounds seen v s.tables → IsShown d.may_leave v → LeavesOnly d.moment d.left_since start v.device (d.may_leave start)
      → StandsAt d start bounds v.shape s (course_from (cut_of v.last s.tables))
  starts bounds seen v s there opened shown any_moment =
      let cut = cut_of v.last s.tables in
      record {
        view = v;
        there = there;
        bounds_are = opened.bounds_are;
        shape_is = refl;
        number = refl;
        tables = refl;
        keeps = record {
          now = λ c left. subst (λ x. Contains (cut ∷ []) x) (sym (settled_leaves cut c (subst (λ f. MayLeave f c) opened.file left))) (Contains-push [] cut);
          among = λ c has. has;
          shown = shown;
          any_moment =
              weaker d.moment d.left_since start v.device (d.may_leave start) (λ image. d.may_leave start image ⊎ HoldsOne v.bounds (Contains (cut ∷ [])) image) any_moment (λ image may. inl may);
        };
      }

-- A session of a desk over a book, whatever else a desk's state has beside its book, is one of each course in which it stood.
pub served : {D S : Type 0} (d : device.Ghosts D) (book : S → BookView D) (limit : ℕ) (old new : S) (read sent : List ℕ) (end : SessionEnd)
    → (session : IsSession (λ x a reply y. SoloAnswers d (book x) a reply (book y)) 1 limit old new read sent end)
    → RoseBy (disk_faults session.replies) (faults_of d.fault_count (book old).file) (faults_of d.fault_count (book new).file) → IsServed d limit (book old) (book new) read sent end
served {D} {S} d book limit old new read sent end session few = λ start bounds shape c stands.
    let answers : S → Asked → Message → S → Type 0 = λ x a reply y. SoloAnswers d (book x) a reply (book y) in
    let there : S → Course → Type 0 = λ x c. StandsAt d start bounds shape (book x) c in
    let follows : Simulates answers (Answers bounds.blocks shape) there =
    λ version x y t a reply asked at answered. solo_follows d start bounds shape version (book x) (book y) t a reply asked at answered in
    let talk = talk_follows answers (Answers bounds.blocks shape) there follows old new c session.frames session.replies stands session.talk in
    record { course = talk.0; stands = talk.1; session = with_talk (Answers bounds.blocks shape) c talk.0 session talk.2; few_faults = few }
