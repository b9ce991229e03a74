use Rattle.ft_shared.proofs.Feeding.{nothing_given}
use Rattle.ft_shared.proofs.publisher.Publisher.new.Goals as goal

pub invariant_of-result : goal.invariant_of-result
invariant_of-result g c = nothing_given g.J.ViewsBrand.opened g.J.ViewsBrand.shows c.args.blank.book c.in-Ok.writer.desk.shown.value c.args.blank.first c.in-Ok.writer.behind c.in-Ok.writer.log.items c.again.result c.args.blank.nothing c.new-in-Ok.result
    c.requires.book.0 c.requires.book.1 c.requires.nothing c.again.ensures c.requires.first c.requires.whole c.in-Ok.ensures.0 c.in-Ok.ensures.1 c.new-in-Ok.ensures.given
