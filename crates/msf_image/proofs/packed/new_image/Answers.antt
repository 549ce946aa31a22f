use Rattle.std.proofs.Common.{◌≡◌, ◌∙◌, subst, sym, arith, lit<}
use Rattle.msf_image.specs.Packed.{packed_image, present}
use Rattle.msf_image.specs.Reads.{IsWhole}
use Rattle.msf_image.proofs.PackedFile.{packed_whole}
use Rattle.msf_image.proofs.PackedLoops.{content_as, has_room, length-text, sizes_of}
use Rattle.msf_image.proofs.packed.new_image.Goals as goal

pub content_of-requires-clause-sizes : goal.content_of-requires-clause-sizes
content_of-requires-clause-sizes c = sizes_of c.args.streams.now c.requires.sizes

pub content_of-requires-clause-short : goal.content_of-requires-clause-short
content_of-requires-clause-short c =
    let room = has_room c.args.block (present c.args.streams.now) c.requires in
    omega (arith, room.text, length-text c.args.block c.args.streams.now c.in_ok-laid.laid.image c.deref.result.now c.requires.block c.in_ok-laid.ensures.image (c.deref.ensures.value ∙ c.in_ok-text.ensures.text))

pub returns-clause-content : goal.returns-clause-content
returns-clause-content c =
    content_as c.args.block c.args.streams.now c.in_ok-laid.laid.image c.deref.result.now c.deref-2.result.now c.in_ok-content.content.items c.in_ok-laid.ensures.image (c.deref.ensures.value ∙ c.in_ok-text.ensures.text) (c.deref-2.ensures.value ∙ c.in_ok-laid.ensures.listed) c.in_ok-content.ensures

pub returns-clause-whole : goal.returns-clause-whole
returns-clause-whole c = subst IsWhole (sym c.in_ok-laid.ensures.image) (packed_whole c.args.block 0 (present c.args.streams.now) (lit< tt) c.requires)
