use Rattle.std.proofs.Common.{◌++◌, take, drop, ap, sym, ◌∙◌, append_assoc, arith}
use Rattle.std.proofs.lemmas.Grind.{common_steps}
use Rattle.std.proofs.lemmas.List.{take_rest}
use Rattle.srv_edge.proofs.Filling.{take_further}
use Rattle.srv_edge.proofs.Exchanging.{sink_goes_on}
use Rattle.srv_edge.proofs.give.give_all.Goals as goal

pub loop-sent-preserved : goal.loop-sent-preserved
loop-sent-preserved g c =
    let sent = c.loop-sent.sent in
    let n = c.in_ok-sent.field-0 in
    let bytes = c.args.bytes.now in
    let was = g.K.Sink.taken c.args.sink.now in
    record {
      within = grind (arith, common_steps);
      went = λ tells.
          c.in_ok-sent.ensures.bytes tells ∙ ap (λ xs. g.K.Sink.taken c.loop-sent.sink ++ take n xs) (take_rest bytes sent)
          ∙ ap (λ xs. xs ++ take n (drop sent bytes)) (c.loop-sent.invariant.went tells)
          ∙ append_assoc was (take sent bytes) (take n (drop sent bytes)) ∙ ap (λ xs. was ++ xs) (sym (take_further sent n bytes));
      calls = sink_goes_on c.loop-sent.invariant.calls (record { beside = c.give.ensures.beside; loans = c.give.ensures.loans; cause = record { never_falls = c.give.ensures.cause.never_falls; rose = λ no. absurd no } });
    }
