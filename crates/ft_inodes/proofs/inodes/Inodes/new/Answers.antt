use Rattle.std.proofs.Common.{refl}
use Rattle.ft_inodes.specs.Keyed.{dir_in, file_in, is_dir, is_file}
use Rattle.ft_inodes.proofs.Keys.{shown-empty}
use Rattle.ft_inodes.proofs.Slots.{leads-none}
use Rattle.ft_inodes.proofs.inodes.Inodes.new.Goals as goal

pub invariant_of-result : goal.invariant_of-result
invariant_of-result c = (
  leads-none is_dir (λ n. refl) c.new.result c.new-2.result c.new.ensures.empty c.new-2.ensures,
  leads-none is_file (λ n. refl) c.new.result c.new-3.result c.new.ensures.empty c.new-3.ensures,
)

pub returns : goal.returns
returns c = λ i. record {
  directories = shown-empty dir_in c.new.result c.new-2.result c.new-2.ensures i;
  files = shown-empty file_in c.new.result c.new-3.result c.new-3.ensures i;
}
