use Rattle.std.proofs.Common.{◌++◌, arith, sym}
use Rattle.std.proofs.lemmas.List.{take_at}
use Rattle.std.proofs.lemmas.Grind.{common_steps}
use Rattle.ft_body.proofs.PartsBack.{parts_of_none}
use Rattle.ft_body.proofs.pages.Lost.nothing.Goals as goal

pub returns : goal.returns
returns c = λ added. (
  c.args.pages.now.items ++ added,
  rw c.new.ensures.items (parts_of_none 0 (c.args.pages.now.items ++ added) (omega arith)),
  sym (take_at c.args.pages.now.items added c.len.result (grind (arith, common_steps))),
)
