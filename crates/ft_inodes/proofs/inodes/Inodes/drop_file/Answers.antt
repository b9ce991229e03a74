use Rattle.std.proofs.Common.{refl, ap, ◌∙◌}
use Rattle.ft_inodes.specs.Stored.{InodeCells, without_file}
use Rattle.ft_inodes.specs.Keyed.{dir_in, file_in, is_dir, is_file}
use Rattle.ft_inodes.proofs.Slots.{one-file, neither, gone-own, gone-other, gone-leads}
use Rattle.ft_inodes.proofs.inodes.Inodes.drop_file.Goals as goal

pub invariant_of-self : goal.invariant_of-self
invariant_of-self c =
    let led = gone-leads file_in is_file dir_in is_dir one-file neither (λ n. refl) (λ n. refl) c.self.inside.slab c.self.inside.files c.self.inside.directories c.self.invariant.1 c.self.invariant.0
    c.take_out.new.slab c.take_out.new.index c.args.number c.take_out.ensures.slots c.take_out.ensures.index c.take_out.ensures.emptied in
    (led.1, led.0)

pub returns : goal.returns
returns c =
    (λ i. record {
      files = gone-own file_in is_file dir_in is_dir one-file neither (λ n. refl) (λ n. refl) c.self.inside.slab c.self.inside.files c.self.inside.directories c.self.invariant.1 c.self.invariant.0
          c.take_out.new.slab c.take_out.new.index c.args.number c.take_out.ensures.slots c.take_out.ensures.index i;
      directories = gone-other file_in is_file dir_in is_dir one-file neither (λ n. refl) (λ n. refl) c.self.inside.slab c.self.inside.files c.self.inside.directories c.self.invariant.1 c.self.invariant.0
          c.take_out.new.slab c.take_out.new.index c.args.number c.take_out.ensures.slots c.take_out.ensures.index i;
    })
    ∙ ap (λ (m : InodeCells). without_file m c.args.number) c.self.view_is
