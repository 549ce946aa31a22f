use Rattle.std.proofs.Common.{◌≡◌, ◌≤◌, ◌+◌, ◌*◌, length, sym, ap, subst, ◌∙◌, arith}
use Rattle.cow_streams.specs.Layout.{all_parts, layouts}
use Rattle.cow_streams.specs.Plan.{IsPlan}
use Rattle.cow_streams.specs.Planned.{FitsDirectory, image_of, new_blocks, new_dir_bytes}
use Rattle.cow_streams.specs.Supply.{blocks_with}
use Rattle.cow_streams.proofs.Outcome.{blocks_are, bytes_are}
use Rattle.cow_streams.proofs.Standing.{plan_is}
use Rattle.cow_streams.proofs.planning.plan.Goals as goal

pub overflow_cast-blocks : goal.overflow_cast-blocks
overflow_cast-blocks c =
    let old = image_of c.args.head.now c.args.directory.now c.args.free.now in
    let edits = c.args.edits.now in
    let blocks : c.blocks_after-blocks.result ≡ length (all_parts (layouts c.args.head.now.block edits c.args.directory.now)) = c.blocks_after-blocks.ensures ∙ ap (λ streams. length (all_parts (layouts c.args.head.now.block edits streams))) c.streams.ensures in
    let all = bytes_are old edits in
    let short = c.requires.short in
    omega (arith, blocks, all, short)

pub overflow_mul-dir_bytes : goal.overflow_mul-dir_bytes
overflow_mul-dir_bytes c =
    let old = image_of c.args.head.now c.args.directory.now c.args.free.now in
    let edits = c.args.edits.now in
    let blocks : c.blocks_after-blocks.result ≡ length (all_parts (layouts c.args.head.now.block edits c.args.directory.now)) = c.blocks_after-blocks.ensures ∙ ap (λ streams. length (all_parts (layouts c.args.head.now.block edits streams))) c.streams.ensures in
    let all = bytes_are old edits in
    let short = c.requires.short in
    omega (arith, blocks, all, short, c.len.ensures)

pub overflow_add-dir_bytes : goal.overflow_add-dir_bytes
overflow_add-dir_bytes c =
    let old = image_of c.args.head.now c.args.directory.now c.args.free.now in
    let edits = c.args.edits.now in
    let blocks : c.blocks_after-blocks.result ≡ length (all_parts (layouts c.args.head.now.block edits c.args.directory.now)) = c.blocks_after-blocks.ensures ∙ ap (λ streams. length (all_parts (layouts c.args.head.now.block edits streams))) c.streams.ensures in
    let all = bytes_are old edits in
    let short = c.requires.short in
    omega (arith, blocks, all, short, c.len.ensures)

pub overflow_mul-dir_bytes-2 : goal.overflow_mul-dir_bytes-2
overflow_mul-dir_bytes-2 c =
    let old = image_of c.args.head.now c.args.directory.now c.args.free.now in
    let edits = c.args.edits.now in
    let blocks : c.blocks_after-blocks.result ≡ length (all_parts (layouts c.args.head.now.block edits c.args.directory.now)) = c.blocks_after-blocks.ensures ∙ ap (λ streams. length (all_parts (layouts c.args.head.now.block edits streams))) c.streams.ensures in
    let all = bytes_are old edits in
    let short = c.requires.short in
    omega (arith, blocks, all, short, c.len.ensures)

pub overflow_add-dir_bytes-2 : goal.overflow_add-dir_bytes-2
overflow_add-dir_bytes-2 c =
    let old = image_of c.args.head.now c.args.directory.now c.args.free.now in
    let edits = c.args.edits.now in
    let blocks : c.blocks_after-blocks.result ≡ length (all_parts (layouts c.args.head.now.block edits c.args.directory.now)) = c.blocks_after-blocks.ensures ∙ ap (λ streams. length (all_parts (layouts c.args.head.now.block edits streams))) c.streams.ensures in
    let all = bytes_are old edits in
    let short = c.requires.short in
    omega (arith, blocks, all, short, c.len.ensures)

pub returns-then-dir_bytes-head-clause-directory : goal.returns-then-dir_bytes-head-clause-directory
returns-then-dir_bytes-head-clause-directory c =
    let old = image_of c.args.head.now c.args.directory.now c.args.free.now in
    let edits = c.args.edits.now in
    let blocks : c.blocks_after-blocks.result ≡ length (all_parts (layouts c.args.head.now.block edits c.args.directory.now)) = c.blocks_after-blocks.ensures ∙ ap (λ streams. length (all_parts (layouts c.args.head.now.block edits streams))) c.streams.ensures in
    let all = bytes_are old edits in
    let short = c.requires.short in
    let bytes : 4 + 4 * c.len.result + 4 * c.blocks_after-blocks.result ≡ new_dir_bytes old edits = omega (arith, blocks, all, c.len.ensures) in
    λ needed same.
    let is : 4 + 4 * c.len.result + 4 * c.blocks_after-blocks.result ≡ needed = cc in
    (omega (arith, is, bytes), omega (arith, is, c.if-dir_bytes-head.true))

pub give-requires-clause-bytes : goal.give-requires-clause-bytes
give-requires-clause-bytes c =
    let old = image_of c.args.head.now c.args.directory.now c.args.free.now in
    let edits = c.args.edits.now in
    let blocks : c.blocks_after-blocks.result ≡ length (all_parts (layouts c.args.head.now.block edits c.args.directory.now)) = c.blocks_after-blocks.ensures ∙ ap (λ streams. length (all_parts (layouts c.args.head.now.block edits streams))) c.streams.ensures in
    let all = bytes_are old edits in
    let short = c.requires.short in
    omega (arith, blocks, all, c.len.ensures)

pub give-requires-clause-directory : goal.give-requires-clause-directory
give-requires-clause-directory c =
    let old = image_of c.args.head.now c.args.directory.now c.args.free.now in
    let edits = c.args.edits.now in
    let blocks : c.blocks_after-blocks.result ≡ length (all_parts (layouts c.args.head.now.block edits c.args.directory.now)) = c.blocks_after-blocks.ensures ∙ ap (λ streams. length (all_parts (layouts c.args.head.now.block edits streams))) c.streams.ensures in
    let all = bytes_are old edits in
    let short = c.requires.short in
    let bytes : 4 + 4 * c.len.result + 4 * c.blocks_after-blocks.result ≡ new_dir_bytes old edits = omega (arith, blocks, all, c.len.ensures) in
    let fits : FitsDirectory old edits = omega (arith, bytes, c.if-dir_bytes-head.false) in
    fits

pub returns-then-blocks-limit-clause-blocks : goal.returns-then-blocks-limit-clause-blocks
returns-then-blocks-limit-clause-blocks c =
    let old = image_of c.args.head.now c.args.directory.now c.args.free.now in
    let edits = c.args.edits.now in
    let blocks : c.blocks_after-blocks.result ≡ length (all_parts (layouts c.args.head.now.block edits c.args.directory.now)) = c.blocks_after-blocks.ensures ∙ ap (λ streams. length (all_parts (layouts c.args.head.now.block edits streams))) c.streams.ensures in
    let all = bytes_are old edits in
    let short = c.requires.short in
    let bytes : 4 + 4 * c.len.result + 4 * c.blocks_after-blocks.result ≡ new_dir_bytes old edits = omega (arith, blocks, all, c.len.ensures) in
    let fits : FitsDirectory old edits = omega (arith, bytes, c.if-dir_bytes-head.false) in
    let given = c.deref.ensures.value ∙ c.in_ok-given.ensures.given in
    let is : c.blocks_with-blocks.result ≡ new_blocks old edits = c.blocks_with-blocks.ensures ∙ ap (blocks_with c.args.head.now.blocks) given ∙ blocks_are old edits in
    λ needed same.
    let at : c.blocks_with-blocks.result ≡ needed = cc in
    (fits, sym at ∙ is, omega (arith, at, c.if-blocks-limit.true))

pub lay_out-requires-clause-bytes : goal.lay_out-requires-clause-bytes
lay_out-requires-clause-bytes c =
    let old = image_of c.args.head.now c.args.directory.now c.args.free.now in
    let edits = c.args.edits.now in
    let blocks : c.blocks_after-blocks.result ≡ length (all_parts (layouts c.args.head.now.block edits c.args.directory.now)) = c.blocks_after-blocks.ensures ∙ ap (λ streams. length (all_parts (layouts c.args.head.now.block edits streams))) c.streams.ensures in
    let all = bytes_are old edits in
    let short = c.requires.short in
    omega (arith, blocks, all, c.len.ensures)

pub lay_out-requires-clause-directory : goal.lay_out-requires-clause-directory
lay_out-requires-clause-directory c =
    let old = image_of c.args.head.now c.args.directory.now c.args.free.now in
    let edits = c.args.edits.now in
    let blocks : c.blocks_after-blocks.result ≡ length (all_parts (layouts c.args.head.now.block edits c.args.directory.now)) = c.blocks_after-blocks.ensures ∙ ap (λ streams. length (all_parts (layouts c.args.head.now.block edits streams))) c.streams.ensures in
    let all = bytes_are old edits in
    let short = c.requires.short in
    let bytes : 4 + 4 * c.len.result + 4 * c.blocks_after-blocks.result ≡ new_dir_bytes old edits = omega (arith, blocks, all, c.len.ensures) in
    let fits : FitsDirectory old edits = omega (arith, bytes, c.if-dir_bytes-head.false) in
    fits

pub lay_out-requires-clause-few : goal.lay_out-requires-clause-few
lay_out-requires-clause-few c =
    let old = image_of c.args.head.now c.args.directory.now c.args.free.now in
    let edits = c.args.edits.now in
    let blocks : c.blocks_after-blocks.result ≡ length (all_parts (layouts c.args.head.now.block edits c.args.directory.now)) = c.blocks_after-blocks.ensures ∙ ap (λ streams. length (all_parts (layouts c.args.head.now.block edits streams))) c.streams.ensures in
    let all = bytes_are old edits in
    let short = c.requires.short in
    let bytes : 4 + 4 * c.len.result + 4 * c.blocks_after-blocks.result ≡ new_dir_bytes old edits = omega (arith, blocks, all, c.len.ensures) in
    let fits : FitsDirectory old edits = omega (arith, bytes, c.if-dir_bytes-head.false) in
    let given = c.deref.ensures.value ∙ c.in_ok-given.ensures.given in
    let is : c.blocks_with-blocks.result ≡ new_blocks old edits = c.blocks_with-blocks.ensures ∙ ap (blocks_with c.args.head.now.blocks) given ∙ blocks_are old edits in
    omega (arith, is, c.if-blocks-limit.false, c.requires.most)

pub returns-clause-sound : goal.returns-clause-sound
returns-clause-sound c =
    let old = image_of c.args.head.now c.args.directory.now c.args.free.now in
    let edits = c.args.edits.now in
    let blocks : c.blocks_after-blocks.result ≡ length (all_parts (layouts c.args.head.now.block edits c.args.directory.now)) = c.blocks_after-blocks.ensures ∙ ap (λ streams. length (all_parts (layouts c.args.head.now.block edits streams))) c.streams.ensures in
    let all = bytes_are old edits in
    let short = c.requires.short in
    let bytes : 4 + 4 * c.len.result + 4 * c.blocks_after-blocks.result ≡ new_dir_bytes old edits = omega (arith, blocks, all, c.len.ensures) in
    let fits : FitsDirectory old edits = omega (arith, bytes, c.if-dir_bytes-head.false) in
    let given = c.deref.ensures.value ∙ c.in_ok-given.ensures.given in
    let is : c.blocks_with-blocks.result ≡ new_blocks old edits = c.blocks_with-blocks.ensures ∙ ap (blocks_with c.args.head.now.blocks) given ∙ blocks_are old edits in
    let few : new_blocks old edits ≤ c.args.limit = omega (arith, is, c.if-blocks-limit.false) in
    subst (IsPlan c.args.limit old edits) (sym c.in_ok-lay_out.ensures) (plan_is c.args.limit old edits c.requires.whole c.requires.edits (omega (arith, c.requires.most)) fits few)

pub returns-clause-fits : goal.returns-clause-fits
returns-clause-fits c =
    let old = image_of c.args.head.now c.args.directory.now c.args.free.now in
    let edits = c.args.edits.now in
    let blocks : c.blocks_after-blocks.result ≡ length (all_parts (layouts c.args.head.now.block edits c.args.directory.now)) = c.blocks_after-blocks.ensures ∙ ap (λ streams. length (all_parts (layouts c.args.head.now.block edits streams))) c.streams.ensures in
    let all = bytes_are old edits in
    let short = c.requires.short in
    let bytes : 4 + 4 * c.len.result + 4 * c.blocks_after-blocks.result ≡ new_dir_bytes old edits = omega (arith, blocks, all, c.len.ensures) in
    let fits : FitsDirectory old edits = omega (arith, bytes, c.if-dir_bytes-head.false) in
    let given = c.deref.ensures.value ∙ c.in_ok-given.ensures.given in
    let is : c.blocks_with-blocks.result ≡ new_blocks old edits = c.blocks_with-blocks.ensures ∙ ap (blocks_with c.args.head.now.blocks) given ∙ blocks_are old edits in
    let few : new_blocks old edits ≤ c.args.limit = omega (arith, is, c.if-blocks-limit.false) in
    (fits, few)
