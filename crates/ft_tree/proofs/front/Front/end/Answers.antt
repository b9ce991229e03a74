use Rattle.std.proofs.Common.{◌-◌, length, unwrap_or, ap, ◌∙◌}
use Rattle.std.specs.List.{slice_get}
use Rattle.ft_tree.proofs.Learning.{last_or_first}
use Rattle.ft_tree.proofs.front.Front.end.Goals as goal

pub returns : goal.returns
returns c =
    c.unwrap_or.ensures ∙ ap (λ o. unwrap_or o 1) (c.copied.ensures ∙ c.last.ensures.value ∙ ap (λ xs. slice_get xs (length xs - 1)) c.as_slice.ensures.value)
    ∙ last_or_first c.args.self.now.dirs.items 1
