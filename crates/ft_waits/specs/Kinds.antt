-- The words for the kinds of waits-for edges.
use Rattle.std.specs.Prelude.{ℕ, List, codes}
use Rattle.ft_waits.specs.declared.edge.EdgeKind.{EdgeKind}
use Rattle.ft_waits.specs.declared.edge.EdgeKind.TheVariants.{Lock, Child}

-- the bytes of its name, `lock` or `child`
abbrev pub kind_name : EdgeKind → List ℕ
kind_name Lock = codes "lock"
kind_name Child = codes "child"
