use Rattle.std.proofs.Common.{◌≡◌, ◌+◌, ◌-◌, ◌++◌, [], ◌∷◌, ℕ, List, Some, take, sym, ap, ◌∙◌, arith}
use Rattle.std.specs.Prelude.{slice_get}
use Rattle.std.proofs.lemmas.List.{map-append, take_more}
use Rattle.std.proofs.lemmas.Option.{get_or_from_slice_get, slice_get_within}
use Rattle.chain_index.specs.Chains.{Chained}
use Rattle.record_table.specs.Buckets.{hashes_of}
use Rattle.type_hash.specs.Record.{record_hash}
use Rattle.record_table.proofs.table.chains_of.Goals as goal

-- the hashes of one record more
more : (records : List (List ℕ)) (i : ℕ) (r : List ℕ) → slice_get records i ≡ Some r → hashes_of (take (i + 1) records) ≡ hashes_of (take i records) ++ record_hash r ∷ []
more records i r is =
    let e = take_more records i r (slice_get_within records i r is) in
    ap hashes_of (e ∙ ap (λ x. take i records ++ x ∷ []) (get_or_from_slice_get records i r r is)) ∙ map-append record_hash (take i records) (r ∷ [])

pub loop-number-preserved : goal.loop-number-preserved
loop-number-preserved c =
    let linked : c.link.new.self.hashes ≡ c.loop-number.chains.hashes ++ c.of_record.result ∷ [] = ap (λ (x : Chained). x.hashes) c.link.ensures in
    let left : c.link.new.self.spare ≡ c.loop-number.chains.spare - 1 = ap (λ (x : Chained). x.spare) c.link.ensures in
    let hash : c.of_record.result ≡ record_hash c.in-Some.record.now = c.of_record.ensures in record {
      hashes = linked ∙ ap (λ x. x ++ c.of_record.result ∷ []) c.loop-number.invariant.hashes
          ∙ ap (λ h. hashes_of (take c.loop-number.number c.args.records.now) ++ h ∷ []) hash
          ∙ sym (more c.args.records.now c.loop-number.number c.in-Some.record.now c.in-Some.ensures.record);
      spare = omega arith;
    }
