use Rattle.std.proofs.Common.{◌≡◌, ◌∙◌}
use Rattle.ft_tree.proofs.tree.Tree.copy.Goals as goal

pub returns : goal.returns
returns c =
    let inodes : c.in_ok-inodes.inodes ≡ c.self.inside.inodes = c.in_ok-inodes.ensures.cases in
    let opens : c.in_ok-opens.opens ≡ c.self.inside.opens = c.in_ok-opens.ensures.cases in
    (λ i. record { limits = c.self.inside.limits; directories = (inodes i).directories; files = (inodes i).files; opens = opens i }) ∙ c.self.view_is
