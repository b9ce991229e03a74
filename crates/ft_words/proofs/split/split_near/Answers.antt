use Rattle.std.proofs.Common.{ℕ, ◌++◌, ◌∷◌, List, take, ap, sym, ◌∙◌, arith, eq-eqb}
use Rattle.ft_words.proofs.Bytes.{free_take, free_text, around, behind}
use Rattle.ft_words.proofs.split.split_near.Goals as goal

pub returns-then-other-byte : goal.returns-then-other-byte
returns-then-other-byte c =
    let text = c.args.text.now in
    let at = c.loop-at.at in (
      free_take c.args.byte text at c.loop-at.invariant (omega arith),
      around c.args.byte text at (eq-eqb _ _ c.if-other-byte.true) (omega arith) ∙ ap (λ (rest : List ℕ). take at text ++ c.args.byte ∷ rest) (sym (behind text at)),
    )

pub returns : goal.returns
returns c = free_text c.args.byte c.args.text.now (λ j below. c.loop-at.invariant j (omega arith))
