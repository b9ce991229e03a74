use Rattle.std.proofs.Common.{subst, sym, drop}
use Rattle.std.specs.List.{Contains}
use Rattle.ft_index.specs.Slots.{keys_of}
use Rattle.ft_index.proofs.Indexes.{key_there_in, key_in_way}
use Rattle.ft_index.proofs.index.Index.candidates.Goals as goal

pub returns : goal.returns
returns c = λ key. (
  λ has. key_there_in c.self.inside.homes c.self.inside.slots.items c.args.self.now c.home.result c.args.hash c.self.view_is c.self.invariant.table c.home.ensures.home key
      (subst (λ xs. Contains (keys_of c.args.hash (drop c.home.result xs)) key) c.deref.ensures.value has),
  λ is. subst (λ xs. Contains (keys_of c.args.hash (drop c.home.result xs)) key) (sym c.deref.ensures.value)
      (key_in_way c.self.inside.homes c.self.inside.slots.items c.args.self.now c.home.result c.args.hash c.self.view_is c.self.invariant.table c.home.ensures.home key is),
)
