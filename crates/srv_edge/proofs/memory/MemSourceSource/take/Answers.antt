use Rattle.std.proofs.Common.{◌≡◌, ◌<◌, ◌+◌, ◌++◌, ℕ, List, [], length, min, take, drop, ap, sym, ◌∙◌, arith, rules}
use Rattle.std.proofs.lemmas.Grind.{common_steps}
use Rattle.std.proofs.lemmas.List.{drop_all, length-drop}
use Rattle.srv_edge.proofs.Filling.{take_further, drop_further}
use Rattle.srv_edge.proofs.memory.MemSourceSource.take.Goals as goal

-- a piece of no bytes is the end of the input
none_left : (bytes : List ℕ) (at piece room n : ℕ) → 0 < piece → 0 < room → n ≡ min piece (min (length (drop at bytes)) room) → n ≡ 0 → drop (at + n) bytes ≡ []
none_left bytes at piece room n some asked count none = drop_all (at + n) bytes (omega (arith, length-drop at bytes))

pub returns : goal.returns
returns c =
    let bytes = c.args.self.now.bytes.items in
    let at = c.args.self.now.at in
    let n = c.copy_front-n.result in
    let front : take n c.copy_front-n.new.into ≡ take n (drop at bytes) = grind (arith, common_steps) in
    let count : n ≡ min c.args.self.now.piece (min (length (drop at bytes)) (length c.args.into.now)) = grind (arith, common_steps) in
    record {
      fails = sym c.if-next.false ∙ c.next.ensures.fails;
      count = count;
      bytes = (
        take_further at n bytes ∙ ap (λ xs. take at bytes ++ xs) (sym front),
        drop_further at n bytes ∙ ap (λ xs. xs ++ drop (at + n) bytes) (sym front),
        none_left bytes at _ _ n c.args.self.now.some c.requires count,
      );
      piece = search rules;
      calls = c.next.ensures.calls;
      made = c.next.ensures.made;
      counted = search rules;
      cause = search rules;
    }
