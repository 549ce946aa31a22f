use Rattle.std.proofs.Common.{◌∙◌, length, ap, arith}
use Rattle.record_table.proofs.Finding.{length-hashes, other_hash}
use Rattle.record_table.proofs.lookup.is_at.Goals as goal

pub hash_of-requires : goal.hash_of-requires
hash_of-requires c =
    omega (arith, ap length c.requires.hashes, length-hashes c.args.records.now)

pub returns-then-hash_of-hash : goal.returns-then-hash_of-hash
returns-then-hash_of-hash c =
    other_hash c.args.records.now c.args.bytes.now c.args.chains.now.hashes c.args.hash c.args.number c.requires.hashes c.requires.hash c.requires.there
    (λ same. c.if-hash_of-hash.true (c.hash_of.ensures ∙ same))
