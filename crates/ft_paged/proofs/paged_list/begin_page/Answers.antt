use Rattle.std.proofs.Common.{◌++◌, ap, ◌∙◌}
use Rattle.std.proofs.lemmas.List.{append-nil}
use Rattle.ft_paged.specs.Roomy.{joined_items}
use Rattle.ft_paged.proofs.ListPages.{joined-push}
use Rattle.ft_paged.proofs.paged_list.begin_page.Goals as goal

pub returns-clause-same : goal.returns-clause-same
returns-clause-same c =
    ap (λ xs. joined_items c.push_reserved.new.self.items ++ xs) (ap (λ v. v.items) c.replace.ensures.after ∙ c.in_ok-page.ensures.items) ∙ append-nil (joined_items c.push_reserved.new.self.items)
    ∙ ap joined_items c.push_reserved.ensures.items ∙ joined-push c.reserve.new.self.items c.replace.result
    ∙ ap (λ ps. joined_items ps ++ c.replace.result.items) c.in_ok-reserve.ensures.items ∙ ap (λ v. joined_items c.args.full.now.items ++ v.items) c.replace.ensures.value
