use Rattle.std.proofs.Common.{◌≡◌, ℕ, Bool, cond, length, ap, sym, ◌∙◌, arith}
use Rattle.msf_blocks.specs.Bits.{has_bit}
use Rattle.free_page_maps.proofs.Listing.{below_where-none, length-below_where-le, length-below_where-more}
use Rattle.free_page_maps.proofs.counting.count_ones.Goals as goal
use Rattle.free_page_maps.proofs.counting.count_ones.Goals.{then-has_bit, else-has_bit}

abbrev number : Bool → ℕ
number t = cond t 1 0

pub loop-b-init : goal.loop-b-init
loop-b-init c = sym (ap length (below_where-none (has_bit c.args.bits.now)))

pub overflow_add-ones : goal.overflow_add-ones
overflow_add-ones c = omega (arith, c.loop-b.invariant, length-below_where-le c.loop-b.b (has_bit c.args.bits.now))

pub loop-b-preserved : goal.loop-b-preserved
loop-b-preserved c =
    let b = c.loop-b.b in
    let more = length-below_where-more b (has_bit c.args.bits.now) in
    elim c.if-has_bit.branch [
      | then-has_bit w ↦
          let one : number (has_bit c.args.bits.now b) ≡ 1 = ap number (sym c.has_bit.ensures ∙ w.if-has_bit.true) in omega (arith, w.ones-is, c.loop-b.invariant, more, one)
      | else-has_bit w ↦
          let none : number (has_bit c.args.bits.now b) ≡ 0 = ap number (sym c.has_bit.ensures ∙ w.if-has_bit.false) in omega (arith, w.ones-is, c.loop-b.invariant, more, none)
    ]
