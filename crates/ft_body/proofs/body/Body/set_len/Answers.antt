use Rattle.std.proofs.Common.{◌≡◌, ◌∙◌, sym, ap, length, arith}
use Rattle.ft_body.specs.Bytes.{resized}
use Rattle.ft_body.specs.Blocks.{bytes_of}
use Rattle.ft_body.proofs.Made.{resized_makes_none}
use Rattle.ft_body.proofs.Blocked.{length-bytes_of}
use Rattle.ft_body.proofs.body.Body.set_len.Goals as goal

pub returns-in_err-lost-clause-nothing : goal.returns-in_err-lost-clause-nothing
returns-in_err-lost-clause-nothing c = λ e.
    let same : c.self.inside.size ≡ c.args.size = sym (length-bytes_of c.self.inside.size c.self.inside.blocks.items) ∙ ap length c.self.view_is ∙ e in
    let no = c.in_err-lost.ensures.nothing same in absurd (grind (arith, no))

pub returns-clause-pages : goal.returns-clause-pages
returns-clause-pages c =
    let is : bytes_of c.args.size c.resize.new.blocks.items ≡ resized c.args.self.now c.args.size = c.in_ok-lost.ensures.after ∙ ap (λ xs. resized xs c.args.size) c.self.view_is in
    rw is (resized_makes_none c.args.self.now c.args.size)
