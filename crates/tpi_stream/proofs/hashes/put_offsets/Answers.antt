use Rattle.std.proofs.Common.{◌≡◌, ◌≤◌, ◌+◌, ◌-◌, ◌++◌, length, refl, sym, ap, ◌∙◌, arith}
use Rattle.tpi_stream.specs.Hashes.{offset_between, offset_text, offsets_between, start_at}
use Rattle.tpi_stream.proofs.Offsets.{offsets_end, offsets_next, put_all, put_one, start_most, start_next}
use Rattle.tpi_stream.proofs.hashes.put_offsets.Goals as goal

pub overflow_cast-end : goal.overflow_cast-end
overflow_cast-end c =
    let records = c.args.records.now in
    let i = c.loop-record.i in
    let lt = c.in-Some.ensures.some.0 refl in
    let next = start_next records i c.in-Some.record.now c.in-Some.ensures.record lt in
    let most = start_most records (i + 1) in
    omega (arith, next, most, c.requires.short)

pub overflow_add-end : goal.overflow_add-end
overflow_add-end c =
    let records = c.args.records.now in
    let i = c.loop-record.i in
    let lt = c.in-Some.ensures.some.0 refl in
    let next = start_next records i c.in-Some.record.now c.in-Some.ensures.record lt in
    let most = start_most records (i + 1) in
    omega (arith, next, most, c.loop-record.invariant.1, c.requires.short)

pub loop-record-init : goal.loop-record-init
loop-record-init c = (refl, c.requires.start, c.requires.from)

pub loop-record-preserved : goal.loop-record-preserved
loop-record-preserved c =
    let records = c.args.records.now in
    let n = length records in
    let i = c.loop-record.i in
    let now = c.loop-record.text.items in
    let lt = c.in-Some.ensures.some.0 refl in
    let r = c.in-Some.record.now in
    let next = start_next records i r c.in-Some.ensures.record lt in
    let end : c.loop-record.start + length r ≡ start_at records (i + 1) = ap (λ k. k + length r) c.loop-record.invariant.1 ∙ sym next in
    let put = c.in_ok-put_offset.ensures ∙ ap (λ k. now ++ offset_between i k (c.loop-record.start + length r)) c.loop-record.invariant.1
    ∙ ap (λ k. now ++ offset_between i (start_at records i) k) end in
    let rest = offsets_between records (i + 1) (n - (i + 1)) in
    let one = put_one c.args.text.now.items (offsets_between records c.args.from (n - c.args.from)) now (offset_text records i) rest (offsets_between records i (n - i)) c.loop-record.invariant.0 (offsets_next records i n lt) in
    (ap (λ xs. xs ++ rest) put ∙ one, end, omega (arith, lt))

pub returns : goal.returns
returns c =
    let records = c.args.records.now in
    let n = length records in
    let i = c.loop-record.i in
    let end : n ≤ i = grind (arith, c.in_default.ensures.some.1) in
    put_all c.args.text.now.items (offsets_between records c.args.from (n - c.args.from)) c.loop-record.text.items (offsets_between records i (n - i)) c.loop-record.invariant.0 (offsets_end records i n end)
