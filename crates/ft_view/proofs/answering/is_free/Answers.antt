use Rattle.std.proofs.Common.{◌≡◌, ◌≤◌, None, rules, arith}
use Rattle.ft_cells.specs.Cells.{kind_of, body_in, open_of}
use Rattle.ft_view.proofs.Free.{free_number, nothing}
use Rattle.ft_view.proofs.answering.is_free.Goals as goal

pub returns : goal.returns
returns c =
    let above : 2 ≤ c.args.number = omega arith in
    let kind : kind_of c.args.tree.now c.args.number ≡ None = search (rules, nothing) in
    let body : body_in c.args.tree.now c.args.number ≡ None = search (rules, nothing) in
    λ none. let closed : open_of c.args.tree.now c.args.number ≡ None = search (rules, nothing) in free_number c.args.tree.now c.requires c.args.number above kind body closed
