use Rattle.std.proofs.Common.{◌≡◌, false, All, OnOk, ap, subst, sym, ◌∙◌}
use Rattle.free_page_maps.specs.FreeBlocks.{is_free}
use Rattle.stream_directory.specs.Directory.{IsDirectory}
use Rattle.msf_image.specs.declared.image.Image.{Image}
use Rattle.msf_blocks.specs.Judging.{Tells}
use Rattle.msf_blocks.proofs.Judging.{told_on}
use Rattle.msf_image.specs.Faults.{damage_in}
use Rattle.msf_image.specs.Reads.{used_blocks, with_free}
use Rattle.msf_image.proofs.Directories.{done}
use Rattle.msf_image.proofs.Moments.{only_reads_on}
use Rattle.msf_image.proofs.Opening.{at_free, at_listed, at_streams, at_superblock, whole_judged}
use Rattle.msf_image.proofs.Relating.{opened}
use Rattle.msf_image.proofs.open.open_image.Goals as goal

pub returns-in_err-head-clause-reads : goal.returns-in_err-head-clause-reads
returns-in_err-head-clause-reads g c = λ tells.
    told_on damage_in _ c.in_err-head.field-0.0 _ _ _ c.from_residual.ensures.1 (c.in_err-head.ensures.reads tells) (λ damage. at_superblock _ _ damage)

pub returns-in_err-listed-clause-reads : goal.returns-in_err-listed-clause-reads
returns-in_err-listed-clause-reads g c = λ tells.
    told_on damage_in _ c.in_err-listed.field-0.0 _ _ _ c.from_residual-in_err-listed.ensures.1 (c.in_err-listed.ensures.reads tells) (λ damage. at_listed _ _ _ _ damage c.in_ok-head.ensures.only_reads.seen (c.in_ok-head.ensures.reads tells))

pub returns-in_err-directory-clause-reads : goal.returns-in_err-directory-clause-reads
returns-in_err-directory-clause-reads g c = λ tells.
    told_on damage_in _ c.in_err-directory.field-0.0 _ _ _ c.from_residual-in_err-directory.ensures.1 (c.in_err-directory.ensures.reads tells) (λ damage. at_streams _ _ _ _ _ _ damage c.in_ok-head.ensures.only_reads.seen c.in_ok-listed.ensures.only_reads.seen (c.in_ok-head.ensures.reads tells) (c.in_ok-listed.ensures.reads tells ∙ ap done (sym c.deref.ensures.value)))

pub returns-clause-reads : goal.returns-clause-reads
returns-clause-reads g c = λ tells.
    subst (Tells damage_in (λ image. image) c.judge_used.result) (sym (at_free _ _ _ _ _ _ _ _ _ c.in_ok-head.ensures.only_reads.seen c.in_ok-listed.ensures.only_reads.seen c.in_ok-directory.ensures.only_reads.seen (c.in_ok-head.ensures.reads tells)
    (c.in_ok-listed.ensures.reads tells ∙ ap done (sym c.deref.ensures.value)) (c.in_ok-directory.ensures.reads tells) (c.in_ok-free.ensures.reads tells)))
    (subst (λ l. Tells damage_in (λ image. image) c.judge_used.result (with_free (used_blocks l c.in_ok-directory.directory) (record { head = c.in_ok-head.head; directory = c.in_ok-directory.directory; free = c.in_ok-free.free }))) (c.deref-2.ensures.value ∙ sym c.deref.ensures.value) c.judge_used.ensures.told)

pub returns-clause-image : goal.returns-clause-image
returns-clause-image g c = λ tells.
    let head = c.in_ok-head.ensures in
    let directory = c.in_ok-directory.ensures in
    let none_free = subst (λ l. OnOk c.judge_used.result (All (λ b. is_free c.in_ok-free.free b ≡ false) (used_blocks l c.in_ok-directory.directory))) (c.deref-2.ensures.value ∙ sym c.deref.ensures.value) c.judge_used.ensures.none_free in
    opened c.judge_used.result _ _ _ _ c.args.limit c.in_ok-head.head c.deref.result.now c.in_ok-directory.directory c.in_ok-free.free head.only_reads.seen c.in_ok-listed.ensures.only_reads.seen directory.only_reads.seen head.passes (head.text tells) head.limited (head.inside tells)
    (c.in_ok-listed.ensures.reads tells ∙ ap done (sym c.deref.ensures.value)) directory.found (directory.spelled tells) (c.in_ok-free.ensures.reads tells) c.judge_used.ensures.same none_free

pub returns-clause-whole : goal.returns-clause-whole
returns-clause-whole g c =
    let image : Image = record { head = c.in_ok-head.head; directory = c.in_ok-directory.directory; free = c.in_ok-free.free } in
    let listed = c.in_ok-listed.ensures in
    let free = c.in_ok-free.ensures in
    let directory = subst (λ l. IsDirectory c.in_ok-head.head l c.in_ok-directory.directory) c.deref.ensures.value c.in_ok-directory.ensures.found in
    let none_free = subst (λ l. OnOk c.judge_used.result (All (λ b. is_free c.in_ok-free.free b ≡ false) (used_blocks l c.in_ok-directory.directory))) c.deref-2.ensures.value c.judge_used.ensures.none_free in
    whole_judged c.judge_used.result image _ c.in_ok-head.ensures.passes listed.block_map listed.count listed.usable directory free.blocks free.inside free.unreserved free.rising c.judge_used.ensures.same none_free

pub returns-in_err-free-clause-only_reads : goal.returns-in_err-free-clause-only_reads
returns-in_err-free-clause-only_reads g c =
    let counts = g.met.D.Device.counts_now in
    let front = only_reads_on g.D.Device counts _ _ _ c.in_ok-head.ensures.only_reads c.in_ok-listed.ensures.only_reads in
    only_reads_on g.D.Device counts _ _ _ (only_reads_on g.D.Device counts _ _ _ front c.in_ok-directory.ensures.only_reads) c.in_err-free.ensures.only_reads

pub returns-clause-only_reads : goal.returns-clause-only_reads
returns-clause-only_reads g c =
    let counts = g.met.D.Device.counts_now in
    let front = only_reads_on g.D.Device counts _ _ _ c.in_ok-head.ensures.only_reads c.in_ok-listed.ensures.only_reads in
    only_reads_on g.D.Device counts _ _ _ (only_reads_on g.D.Device counts _ _ _ front c.in_ok-directory.ensures.only_reads) c.in_ok-free.ensures.only_reads
