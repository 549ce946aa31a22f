-- A PDB stream that names a stream has the fields before its map.
use Rattle.std.proofs.Common.{◌≡◌, ◌≤◌, ◌-◌, ℕ, Bool, true, false, cond, List, Ok, Err, length, take, drop, refl, sym, ap, ◌∙◌, arith, leb, leb-true}
use Rattle.std.proofs.lemmas.List.{length-drop}
use Rattle.byteorder.specs.Endian.{little_number}
use Rattle.msf_blocks.specs.Judging.{◌>>=◌}
use Rattle.msf_blocks.proofs.Judging.{bound_ok}
use Rattle.info_stream.specs.declared.fault.InfoFault.TheVariants.{Short}
use Rattle.info_stream.specs.Named.{behind_guid, map_in, named_streams, stream_in, stream_named}
use Rattle.info_stream.specs.Reading.{field, number}

chosen_ok : {A E : Type 0} (b : Bool) (x y : A) (bad : E) → cond b (Ok x) (Err bad) ≡ Ok y → (b ≡ true) × (x ≡ y)
chosen_ok true x y bad e = (refl, cc)
chosen_ok false x y bad e = absurd cc

-- a field that fits, and what is behind it
field_long : (whole n : ℕ) (bytes : List ℕ) (got : List ℕ × List ℕ) → field whole n bytes ≡ Ok got → (n ≤ length bytes) × (got.1 ≡ drop n bytes)
field_long whole n bytes got e =
    let c = chosen_ok (leb n (length bytes)) (take n bytes, drop n bytes) got (Short (whole - length bytes)) e in
    (leb-true n (length bytes) c.0, ap (λ (g : List ℕ × List ℕ). g.1) (sym c.1))

number_long : (whole : ℕ) (bytes : List ℕ) (got : ℕ × List ℕ) → number whole bytes ≡ Ok got → (4 ≤ length bytes) × (got.1 ≡ drop 4 bytes)
unfolding number
number_long whole bytes got e =
    let b = bound_ok (field whole 4 bytes) (λ four. Ok (little_number 4 four.0, four.1)) got e in
    let f = field_long whole 4 bytes b.0 b.1 in
    let same : (little_number 4 b.0.0, b.0.1) ≡ got = cc in
    (f.0, ap (λ (g : ℕ × List ℕ). g.1) (sym same) ∙ f.1)

guid_long : (info rest : List ℕ) → behind_guid info ≡ Ok rest → 28 ≤ length info
unfolding behind_guid
guid_long info rest e =
    let w = length info in
    let v = bound_ok (number w info) (λ version. number w version.1 >>= λ signature. number w signature.1 >>= λ age. field w 16 age.1 >>= λ guid. Ok guid.1) rest e in
    let s = bound_ok (number w v.0.1) (λ signature. number w signature.1 >>= λ age. field w 16 age.1 >>= λ guid. Ok guid.1) rest v.2 in
    let a = bound_ok (number w s.0.1) (λ age. field w 16 age.1 >>= λ guid. Ok guid.1) rest s.2 in
    let g = bound_ok (field w 16 a.0.1) (λ guid. Ok guid.1) rest a.2 in
    let version = number_long w info v.0 v.1 in
    let signature = number_long w v.0.1 s.0 s.1 in
    let age = number_long w s.0.1 a.0 a.1 in
    let guid = field_long w 16 a.0.1 g.0 g.1 in
    let l1 : length v.0.1 ≡ length info - 4 = ap length version.1 ∙ length-drop 4 info in
    let l2 : length s.0.1 ≡ length v.0.1 - 4 = ap length signature.1 ∙ length-drop 4 v.0.1 in
    let l3 : length a.0.1 ≡ length s.0.1 - 4 = ap length age.1 ∙ length-drop 4 s.0.1 in
    omega (arith, version.0, guid.0, l1, l2, l3)

pub named_long : (info name : List ℕ) (number : ℕ) → stream_named info name ≡ Ok number → 28 ≤ length info
unfolding stream_named named_streams
named_long info name number e =
    let b = bound_ok (named_streams info) (stream_in name) number e in
    let m = bound_ok (behind_guid info) (map_in (length info)) b.0 b.1 in
    guid_long info m.0 m.1
