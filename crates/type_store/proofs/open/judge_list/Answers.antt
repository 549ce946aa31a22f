use Rattle.std.proofs.Common.{◌≡◌, ◌<◌, ◌^◌, ℕ, get_or, length, arith}
use Rattle.std.proofs.lemmas.List.Elements.{All-from_get_or}
use Rattle.table_model.specs.Bounds.{bounds_of}
use Rattle.type_store.proofs.Kept.{IsByte, are_read}
use Rattle.type_store.proofs.open.judge_list.Goals as goal

pub returns-in-Ok-clause-found : goal.returns-in-Ok-clause-found
returns-in-Ok-clause-found c = are_read (bounds_of c.args.limits) c.args.stream.now c.in-Ok.records (All-from_get_or IsByte c.args.stream.now 0 (λ i lt. omega (arith, c.type_inv.stream i))) c.in-Ok.ensures.found
