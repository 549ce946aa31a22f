use Rattle.std.proofs.Common.{◌≡◌, ◌+◌, ◌-◌, ◌++◌, length, drop, ap, ◌∙◌, arith, length-append}
use Rattle.std.proofs.lemmas.List.{length-drop}
use Rattle.srv_edge.specs.Frames.{word_bytes}
use Rattle.srv_edge.proofs.Numbers.{length-word_bytes}
use Rattle.request_frames.proofs.Framing.{grown}
use Rattle.request_frames.proofs.write.take_in.Goals as goal

-- the length is written over four bytes
four : (c : goal.After-set) → 0 + length c.word.result ≡ 4
four c = omega (arith, ap length c.word.ensures, length-word_bytes (length c.bytes.result.now - 4))

-- what stands in the piece afterwards
stands : (c : goal.After-set) → c.set.new.self ≡ word_bytes (length c.args.out.now - 4) ++ drop 4 c.args.out.now
stands c =
    c.set.ensures
    ∙ ap (λ n. c.word.result ++ drop n c.args.out.now) (four c)
    ∙ ap (λ xs. xs ++ drop 4 c.args.out.now) (c.word.ensures ∙ ap (λ xs. word_bytes (length xs - 4)) c.bytes.ensures.bytes)

pub returns-clause-frame : goal.returns-clause-frame
returns-clause-frame c = λ f more spelled. stands c ∙ grown f more c.args.out.now spelled

pub returns-clause-size : goal.returns-clause-size
returns-clause-size c =
    let n = length c.args.out.now - 4 in
    omega (
      arith,
      ap length (stands c),
      length-append (word_bytes n) (drop 4 c.args.out.now),
      length-word_bytes n,
      length-drop 4 c.args.out.now,
      c.requires,
    )
