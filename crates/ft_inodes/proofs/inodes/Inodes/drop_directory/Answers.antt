use Rattle.std.proofs.Common.{refl, ap, ◌∙◌}
use Rattle.ft_inodes.specs.Stored.{InodeCells, without_directory}
use Rattle.ft_inodes.specs.Keyed.{dir_in, file_in, is_dir, is_file}
use Rattle.ft_inodes.proofs.Slots.{one-dir, not-both, gone-own, gone-other, gone-leads}
use Rattle.ft_inodes.proofs.inodes.Inodes.drop_directory.Goals as goal

pub invariant_of-self : goal.invariant_of-self
invariant_of-self c =
    let led = gone-leads dir_in is_dir file_in is_file one-dir not-both (λ n. refl) (λ n. refl) c.self.inside.slab c.self.inside.directories c.self.inside.files c.self.invariant.0 c.self.invariant.1
    c.take_out.new.slab c.take_out.new.index c.args.number c.take_out.ensures.slots c.take_out.ensures.index c.take_out.ensures.emptied in
    led

pub returns : goal.returns
returns c =
    (λ i. record {
      directories = gone-own dir_in is_dir file_in is_file one-dir not-both (λ n. refl) (λ n. refl) c.self.inside.slab c.self.inside.directories c.self.inside.files c.self.invariant.0 c.self.invariant.1
          c.take_out.new.slab c.take_out.new.index c.args.number c.take_out.ensures.slots c.take_out.ensures.index i;
      files = gone-other dir_in is_dir file_in is_file one-dir not-both (λ n. refl) (λ n. refl) c.self.inside.slab c.self.inside.directories c.self.inside.files c.self.invariant.0 c.self.invariant.1
          c.take_out.new.slab c.take_out.new.index c.args.number c.take_out.ensures.slots c.take_out.ensures.index i;
    })
    ∙ ap (λ (m : InodeCells). without_directory m c.args.number) c.self.view_is
