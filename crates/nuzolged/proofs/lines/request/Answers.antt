use Rattle.std.proofs.Common.{subst}
use Rattle.ft_line.specs.Requests.{parse_line}
use Rattle.ft_session.specs.declared.session.Session.{Session}
use Rattle.nuzolged.specs.Lines.{IsLineTold}
use Rattle.nuzolged.proofs.Carried.{line_asked}
use Rattle.nuzolged.proofs.lines.request.Goals as goal

pub returns-in-Some : goal.returns-in-Some
returns-in-Some c =
    let meaning = parse_line c.args.line.now in
    line_asked c.execute-told.result c.args.tree.now.session c.put.new.self.session c.in-Some.session.value c.execute-told.new.session c.in-Some.ensures.taken c.put.ensures meaning
    (subst (λ (s : Session). IsLineTold s meaning c.execute-told.result c.execute-told.new.session) c.deref_mut.ensures.value c.execute-told.ensures)
