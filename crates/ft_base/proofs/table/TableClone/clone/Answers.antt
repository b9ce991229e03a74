use Rattle.std.proofs.Common.{◌==◌, subst, sym}
use Rattle.std.specs.Ordering.{nat_cmp}
use Rattle.std.specs.Map.{lookup}
use Rattle.std.specs.FinMap as finite
use Rattle.ft_base.specs.Copies.{Both}
use Rattle.ft_base.proofs.Views.{get-view, get-seen}
use Rattle.ft_base.proofs.Clones.{clones_at}
use Rattle.ft_base.proofs.table.TableClone.clone.Goals as goal

pub returns : goal.returns
returns g c = record {
  cases = λ key.
      let values = g.V.Clone.is_clone in
      let apart = clones_at values c.self.inside.map.entries c.in_ok-map.map.entries c.in_ok-map.ensures.cases key in
      subst (λ o. Both values o (finite.get (finite.from_entries {R = nat_cmp} c.in_ok-map.map.entries) key)) (get-seen c.self.inside.map.entries c.args.self.now key c.self.view_is)
      (subst (Both values (lookup (λ n. key == n) c.self.inside.map.entries)) (sym (get-view c.in_ok-map.map.entries key)) apart);
}
