use Rattle.ft_run.specs.Giving.{GivesAll}
use Rattle.ft_run.proofs.GivenFiles.{pairs}
use Rattle.ft_run.proofs.gets.give_files.Given as goal

-- the files of the `get`s so far were given what they were to get, or not
abbrev pub invariant-loop-get : goal.invariant-loop-get
invariant-loop-get g l = GivesAll (g.F.DiskFiles.tells l.files) (pairs l.yielded) l.all (g.E.Write.contents l.fn.errors) (g.E.Write.contents l.errors)
