use Rattle.std.proofs.Common.{ap, ◌∙◌}
use Rattle.std.specs.Prelude.{slice_index_or, None}
use Rattle.ft_inodes.specs.Keyed.{dir_in, file_in, is_dir, is_file, key_in}
use Rattle.ft_inodes.proofs.Keys.{shown-same, leads-same}
use Rattle.ft_inodes.proofs.Clones.{same-slots}
use Rattle.ft_inodes.proofs.inodes.InodesClone.clone.Goals as goal

pub invariant_of-result : goal.invariant_of-result
invariant_of-result c =
    let slots = same-slots c.self.inside.slab.slots c.in_ok-slab.slab.slots c.in_ok-slab.ensures.cases.slots in (
      leads-same is_dir c.self.inside.slab c.in_ok-slab.slab c.self.inside.directories c.in_ok-directories.directories c.self.invariant.0 (λ q. ap (λ m. key_in m q) c.in_ok-directories.ensures.cases)
          (λ q key at. ap (λ xs. slice_index_or xs key None) slots) (λ q key own. ap (λ xs. slice_index_or xs key None) slots),
      leads-same is_file c.self.inside.slab c.in_ok-slab.slab c.self.inside.files c.in_ok-files.files c.self.invariant.1 (λ q. ap (λ m. key_in m q) c.in_ok-files.ensures.cases)
          (λ q key at. ap (λ xs. slice_index_or xs key None) slots) (λ q key own. ap (λ xs. slice_index_or xs key None) slots),
    )

pub returns : goal.returns
returns c =
    let slots = same-slots c.self.inside.slab.slots c.in_ok-slab.slab.slots c.in_ok-slab.ensures.cases.slots in
    record {
      cases =
          (λ i. record {
            directories = shown-same dir_in c.self.inside.slab c.in_ok-slab.slab c.self.inside.directories c.in_ok-directories.directories (λ q. ap (λ m. key_in m q) c.in_ok-directories.ensures.cases) (λ q key at. ap (λ xs. slice_index_or xs key None) slots) i;
            files = shown-same file_in c.self.inside.slab c.in_ok-slab.slab c.self.inside.files c.in_ok-files.files (λ q. ap (λ m. key_in m q) c.in_ok-files.ensures.cases) (λ q key at. ap (λ xs. slice_index_or xs key None) slots) i;
          })
          ∙ c.self.view_is;
    }
