use Rattle.std.specs.Io.KnownBytes.{Consumes}
use Rattle.ft_needs.proofs.front.front_of.Given as goal

-- what was read so far is the front
abbrev pub invariant-loop : goal.invariant-loop
invariant-loop g l = Consumes (g.R.Read.remaining l.initial.script) (g.R.Read.remaining l.script) l.front.items
