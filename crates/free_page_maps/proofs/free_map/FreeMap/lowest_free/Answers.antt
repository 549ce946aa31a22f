use Rattle.std.proofs.Common.{◌≡◌, ◌≤◌, ℕ, false, subst, arith}
use Rattle.msf_blocks.specs.Bits.{has_bit}
use Rattle.free_page_maps.specs.FreeBlocks.{IsLeastFree, is_free}
use Rattle.free_page_maps.specs.Lowest.{IsLowestBit}
use Rattle.free_page_maps.proofs.Listing.{least_from_lowest, none_free}
use Rattle.free_page_maps.proofs.free_map.FreeMap.lowest_free.Goals as goal

pub lowest_bit-requires : goal.lowest_bit-requires
lowest_bit-requires c = omega (arith, c.deref.ensures.len, c.self.invariant)

pub returns-in-Some : goal.returns-in-Some
returns-in-Some c =
    let lowest = subst (λ bits. IsLowestBit bits c.args.from c.in-Some.b) c.deref.ensures.value c.in-Some.ensures in
    subst (λ m. IsLeastFree m c.args.from c.in-Some.b) c.self.view_is
    (least_from_lowest c.self.inside.blocks c.args.from c.in-Some.b c.self.inside.bits.items lowest (omega arith))

pub returns-in_default : goal.returns-in_default
returns-in_default c =
    let lowest = subst (λ bits. IsLowestBit bits c.args.from c.in-Some.b) c.deref.ensures.value c.in-Some.ensures in
    subst (λ m. (b : ℕ) → c.args.from ≤ b → is_free m b ≡ false) c.self.view_is
    (none_free c.self.inside.blocks c.args.from c.self.inside.bits.items (λ k le lt. lowest.lowest k le (omega arith)))

pub returns-in_default-2 : goal.returns-in_default-2
returns-in_default-2 c =
    let none = subst (λ bits. (k : ℕ) → c.args.from ≤ k → has_bit bits k ≡ false) c.deref.ensures.value c.in_default.ensures in
    subst (λ m. (b : ℕ) → c.args.from ≤ b → is_free m b ≡ false) c.self.view_is
    (none_free c.self.inside.blocks c.args.from c.self.inside.bits.items (λ k le lt. none k le))
