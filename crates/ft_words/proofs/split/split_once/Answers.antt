use Rattle.std.proofs.Common.{ℕ, ◌++◌, ◌∷◌, List, take, ap, sym, ◌∙◌, arith}
use Rattle.ft_words.proofs.Bytes.{free_take, free_text, around, behind}
use Rattle.ft_words.proofs.split.split_once.Goals as goal

pub returns-in-None : goal.returns-in-None
returns-in-None c = free_text c.args.byte c.args.text.now (λ j below. c.in-None.ensures j (omega arith) below)

pub returns-in-Some : goal.returns-in-Some
returns-in-Some c =
    let first = c.in-Some.ensures in
    let text = c.args.text.now in
    let at = c.in-Some.at in (
      free_take c.args.byte text at (λ j below. first.0.before j (omega arith) below) (omega (arith, first.0.high)),
      around c.args.byte text at first.1 first.0.high ∙ ap (λ (rest : List ℕ). take at text ++ c.args.byte ∷ rest) (sym (behind text at)),
    )
