-- What a hub leaves behind the workers of a server.
use Rattle.std.proofs.Common.{◌≡◌, ◌+◌, ℕ, IsTrue, Bool, List, [], Some, Ok, refl, sym, ap, subst, ◌∙◌, arith, inl, inr}
use Rattle.srv_edge.specs.declared.device.Device as device
use Rattle.srv_edge.specs.declared.door.Door as door
use Rattle.srv_edge.specs.declared.sink.Sink as sink
use Rattle.srv_edge.specs.declared.failed.Limits.{Limits}
use Rattle.srv_edge.specs.declared.limit.TheConstants.{MOST_BLOCKS, MOST_BYTES, MOST_CALLS, MOST_NAME_BYTES, MOST_RECORDS}
use Rattle.srv_edge.specs.Count.{HasCause, RoseBy}
use Rattle.srv_edge.specs.Reading.{OnlyReads}
use Rattle.atomic_table.specs.Seated.{TableId}
use Rattle.turnstile.specs.declared.history.Basis.{Basis}
use Rattle.turnstile.specs.declared.history.Entry.{Entry}
use Rattle.turnstile.specs.Histories.{calls_by}
use Rattle.turnstile.specs.Passes.{PassView, opening_pass}
use Rattle.table_model.specs.Bounds.{bounds_of, standard}
use Rattle.table_model.specs.File.{newest_cut}
use Rattle.table_model.specs.Tables.{Tables}
use Rattle.core_model.specs.History.{age_of}
use Rattle.core_model.specs.Legal.{faulted_ends}
use Rattle.type_store.specs.Commits.{Holds, cut_told, held_in}
use Rattle.type_store.specs.Files.{FileView, HasBounds, IsShown, cut_of}
use Rattle.type_store.specs.Opened.{HasShape, IsOpened}
use Rattle.hub.specs.declared.end.Ended as hub
use Rattle.hub.specs.Bases.{basis_of, bounds_in, faults_at_opening, loans_in}
use Rattle.hub.specs.Ends.{IsClosed}
use Rattle.hub.proofs.Opening.{age_back, loans_back, shape_back, tables_back}
use Rattle.build_server.specs.Server.{Accepts, IsOpenedBasis, LeavesHistory, RunsServer, ServesFrom, ServesOver, status_behind, summary_of}
use Rattle.build_server.specs.declared.server.Closed.{Closed}
use Rattle.build_server.specs.declared.server.Closed.TheVariants.{Early, Served}
use Rattle.program_status.specs.declared.status.Status.{Status}
use Rattle.program_status.specs.declared.status.Status.TheVariants as status
use Rattle.program_status.specs.Prints.{Prints}
use Rattle.program_status.specs.Statuses.{IsUnserved, MayNotServe}
use Rattle.program_status.proofs.Bounds.{within_bounds}
use Rattle.build_server.specs.Workers.{IsLeftBy}
use Rattle.build_server.proofs.Passes.{none_above}

-- the limits of the program
abbrev pub program_limits : Limits
program_limits = record {
  records = MOST_RECORDS;
  bytes = MOST_BYTES;
  name_bytes = MOST_NAME_BYTES;
  calls = MOST_CALLS;
  blocks = MOST_BLOCKS;
  few_records = omega arith;
  few_bytes = omega arith;
  few_name_bytes = omega arith;
  some_name_bytes = omega arith;
  few_calls = omega arith;
  few_blocks = omega arith;
  some_blocks = omega arith;
}

-- what a closed hub leaves whose first pass has retired the passes of the workers
pub leaves_history : {D : Type 0} (d : device.Ghosts D) (workers : ℕ) (gate : TableId) (basis : Basis) (first : PassView) (left : hub.Ended D) (file : D)
    → IsLeftBy workers (opening_pass gate basis) first → IsClosed d first left → ((v : FileView D) → left.book.file ≡ Some v → IsShown d.may_leave v)
    → bounds_in basis ≡ standard → faults_at_opening basis ≡ d.fault_count file → d.loans file ≡ loans_in basis → (history : List Entry) × LeavesHistory d workers basis history file left
leaves_history {D} d workers gate basis first left file by closed shown bounds faults loans =
    let c : IsClosed d (record (opening_pass gate basis) { seen = first.seen; made = workers + 1; ended = first.ended }) left = subst (λ p. IsClosed d p left) by.same closed in (
      c.history,
      record {
        legal = c.legal;
        callers = λ n which.
            elim which [
              | inl zero ↦ subst (λ m. calls_by m c.history ≡ []) (sym zero) c.mine
              | inr above ↦ c.others n (λ zero. absurd (omega (arith, zero, above))) (none_above 1 first.ended n by.retired (omega (arith, by.count, above)))
            ];
        none_under_way = c.idle;
        words = c.words;
        tables = c.tables;
        acked = c.acked;
        from = c.from;
        view = c.file;
        there = c.there;
        few_faults = subst (λ m. RoseBy (faulted_ends c.history) m (d.fault_count c.file.device)) faults c.holds.faults;
        now = λ image may.
            let s = shown c.file c.there image may in
            (s.0, c.holds.shown s.0 s.1, subst (λ b. Holds b image s.0) (c.holds.bounds ∙ bounds) s.2);
        loans = c.holds.loans ∙ sym loans;
      },
    )

module _ {D : Type 0} (d : device.Ghosts D) (limits : Limits) (v : FileView D) (tables : Tables) (opened : IsOpened (bounds_of limits) (d.seen v.device) v tables) where
  -- the basis on a file that was just opened
  pub opened_basis : (file : D) → bounds_of limits ≡ standard → limits.calls ≡ MOST_CALLS → (IsTrue d.tells → Holds standard (d.seen file) (newest_cut v.file))
      → (IsTrue d.tells → HasShape standard (d.seen file) v.shape) → IsOpenedBasis d file (cut_of v.last tables) (basis_of d limits v tables)
  opened_basis file bounds calls holds shape = record {
    holds = λ tells. subst (Holds standard (d.seen file)) (ap newest_cut opened.file) (holds tells);
    bounds = subst (λ b. HasBounds b tables) bounds (within_bounds (bounds_of limits) tables opened.within);
    opened = sym (ap (λ n. cut_of n tables) (age_back d limits (d.seen v.device) v tables opened) ∙ ap (cut_of (age_of (basis_of d limits v tables))) (tables_back d limits (d.seen v.device) v tables opened));
    calls = calls;
    shape_is = λ tells. subst (HasShape standard (d.seen file)) (shape_back d limits v tables) (shape tells);
  }

-- What was served from a device that was read alone was served from the one that was given.
pub served_from : {D O E K : Type 0} (d : device.Ghosts D) (o : door.Ghosts O E) (k : sink.Ghosts K) (sessions workers : ℕ) (basis : Basis) (file opened : D) (door door' : O) (to to' : K) (answer : Status) (left : hub.Ended D)
    → OnlyReads d file opened → ServesFrom d o k sessions workers basis opened door door' to to' answer left → ServesFrom d o k sessions workers basis file door door' to to' answer left
served_from d o k sessions workers basis file opened door door' to to' answer left reads s =
    let l = s.leaves in
    record {
      history = s.history;
      leaves = record {
        legal = l.legal;
        callers = l.callers;
        none_under_way = l.none_under_way;
        words = l.words;
        tables = l.tables;
        acked = l.acked;
        from = l.from;
        view = l.view;
        there = l.there;
        few_faults = omega (arith, l.few_faults, reads.never_falls);
        now = l.now;
        loans = l.loans ∙ reads.loans;
      };
      accepted = s.accepted;
      failed = s.failed;
      accepts = s.accepts;
      printing = s.printing;
      printed = s.printed;
      writes = s.writes;
      answered = s.answered;
    }

module _ {D O E K : Type 0} (d : device.Ghosts D) (o : door.Ghosts O E) (k : sink.Ghosts K) (sessions workers : ℕ) where
  -- what was served over a hub on a file that was just opened
  pub serves_on : (limits : Limits) (v : FileView D) (tables given : Tables) (gate : TableId) (first last : PassView) (left : hub.Ended D) (door door' : O) (to to' : K) (accepted : ℕ) (failed : Bool) (printing answer : Status)
      → bounds_of limits ≡ standard → limits.calls ≡ MOST_CALLS → first ≡ opening_pass gate (basis_of d limits v given) → given ≡ tables → IsLeftBy workers first last → IsClosed d last left
      → ((w : FileView D) → left.book.file ≡ Some w → IsShown d.may_leave w) → Accepts o sessions accepted failed door door' → Prints k (summary_of accepted left) status.Ok to to' printing
      → HasCause (printing ≡ status.WriteFault) (k.faults to) (k.faults to') → answer ≡ status_behind failed printing
      → (x : Limits) × (bounds_of x ≡ standard) × (x.calls ≡ MOST_CALLS) × ServesFrom d o k sessions workers (basis_of d x v tables) v.device door door' to to' answer left
  serves_on limits v tables given gate first last left door door' to to' accepted failed printing answer bounds calls opening same by closed shown accepts printed writes answered =
      let basis = basis_of d limits v tables in
      let starts : first ≡ opening_pass gate basis = opening ∙ ap (λ t. opening_pass gate (basis_of d limits v t)) same in
      let h = leaves_history d workers gate basis last left v.device (subst (λ p. IsLeftBy workers p last) starts by) closed shown bounds refl (loans_back d limits v tables) in (
        limits,
        bounds,
        calls,
        record {
          history = h.0;
          leaves = h.1;
          accepted = accepted;
          failed = failed;
          accepts = accepts;
          printing = printing;
          printed = printed;
          writes = writes;
          answered = answered;
        },
      )

  -- a run over a device whose file was opened
  pub runs_over : (count : ℕ) (file : D) (v : FileView D) (tables : Tables) (door door' : O) (to to' : K) (answer : Status) (closed : Closed D) → count ≡ workers → IsOpened standard (d.seen file) v tables
      → (IsTrue d.tells → Holds standard (d.seen file) (newest_cut v.file)) → (IsTrue d.tells → HasShape standard (d.seen file) v.shape) → OnlyReads d file v.device
      → ServesOver d o k sessions count v tables door door' to to' answer closed → RunsServer d o k sessions workers file door door' to to' answer closed
  runs_over count file v tables door door' to to' answer (Early file') same opened told shape reads over = record {
    answered = subst MayNotServe (sym over.0) tt;
    told = λ tells. subst (IsUnserved (cut_told standard (held_in standard (d.seen file)))) (sym over.0) tt;
    disk = record {
      never_falls = omega (arith, reads.never_falls, ap d.fault_count over.1);
      rose = λ is. let e : status.OutOfMemory ≡ status.DiskFault = sym over.0 ∙ is in absurd cc;
    };
    same_door = over.2;
    unsent = over.3;
    only_reads = subst (OnlyReads d file) (sym over.1) reads;
  }
  runs_over count file v tables door door' to to' answer (Served left) same opened told shape reads over =
      let limits = over.0 in
      let seen : IsOpened standard (d.seen v.device) v tables = subst (λ s. IsOpened standard s v tables) (sym reads.seen) opened in
      let within : IsOpened (bounds_of limits) (d.seen v.device) v tables = subst (λ b. IsOpened b (d.seen v.device) v tables) (sym over.1) seen in
      record {
        cut = cut_of v.last tables;
        basis = basis_of d limits v tables;
        opened = opened_basis d limits v tables within file over.1 over.2 told shape;
        serves = served_from d o k sessions workers (basis_of d limits v tables) file v.device door door' to to' answer left reads
            (subst (λ n. ServesFrom d o k sessions n (basis_of d limits v tables) v.device door door' to to' answer left) same over.3);
      }
