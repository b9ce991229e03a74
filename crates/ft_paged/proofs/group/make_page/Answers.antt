use Rattle.std.proofs.Common.{◌+◌, ◌-◌, arith}
use Rattle.ft_paged.proofs.Groups.{group-more, count-more}
use Rattle.ft_paged.proofs.group.make_page.Goals as goal

pub returns-clause-same : goal.returns-clause-same
returns-clause-same g c = let page = c.requires.page in let few = c.requires.few in let len = c.len.ensures in
    group-more c.args.pages.now.items c.add_pages.new.pages.items (c.args.page + 1 - c.len-2.result) c.in_ok-add_pages.ensures.ok (omega arith)

pub returns-clause-valued : goal.returns-clause-valued
returns-clause-valued g c = count-more c.args.pages.now.items c.add_pages.new.pages.items (c.args.page + 1 - c.len-2.result) c.in_ok-add_pages.ensures.ok
