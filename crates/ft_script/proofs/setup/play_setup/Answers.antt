use Rattle.ft_script.proofs.SetupRunning.{cleared}
use Rattle.ft_script.proofs.setup.play_setup.Goals as goal

pub returns-in-Ok-clause-ok : goal.returns-in-Ok-clause-ok
returns-in-Ok-clause-ok g c =
    let played = c.play_all.new.core.state in
    let begun = cleared played c.checkpoint.new.self.state c.in-Ok.ensures.step in
    let all = c.in_ok-last.ensures.ok in
    ((played, all.0), all.1, begun.0, begun.1)
