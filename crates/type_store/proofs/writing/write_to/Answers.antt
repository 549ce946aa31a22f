use Rattle.type_store.proofs.writing.write_to.Goals as goal

pub returns-in-Ok-clause-leaves : goal.returns-in-Ok-clause-leaves
returns-in-Ok-clause-leaves g c = record {
  is = c.in-Ok.ensures.done;
  contents = λ told. c.in-Ok.ensures.only _ (g.met.D.Device.seen_is_one _ told);
}
