use Rattle.std.proofs.Common.{false, length, refl, sym, subst, ◌∙◌, arith}
use Rattle.std.proofs.lemmas.Bool.{both_ways}
use Rattle.msf_image.specs.Packed.{IsSmall}
use Rattle.msf_image.proofs.PackedLoops.{packable_from, sizes_of, small_of}
use Rattle.msf_image.proofs.packed.is_packable.Goals as goal

pub returns-then-not-are_short : goal.returns-then-not-are_short
returns-then-not-are_short c =
    (λ h. absurd (both_ways false refl h), λ p. absurd (both_ways c.are_short.result c.if-not-are_short.true (c.are_short.ensures.1 (sizes_of c.args.streams.now p.sizes))))

pub returns : goal.returns
returns c =
    let size = sym c.is_block_size.ensures ∙ c.if-not-is_block_size.false in (
      λ h. packable_from c.args.block c.args.streams.now size (c.begins_empty.ensures.0 c.if-not-begins_empty.false) (omega (arith, c.if-streams-ge-MOST_STREAMS.false)) (c.are_short.ensures.0 c.if-not-are_short.false)
          (subst (IsSmall c.args.block (length c.args.streams.now)) c.stream_blocks.ensures (c.is_small.ensures.0 h)),
      λ p. c.is_small.ensures.1 (subst (IsSmall c.args.block (length c.args.streams.now)) (sym c.stream_blocks.ensures) (small_of c.args.block c.args.streams.now p)),
    )
