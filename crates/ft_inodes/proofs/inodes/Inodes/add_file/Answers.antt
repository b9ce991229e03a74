use Rattle.std.proofs.Common.{refl, eq-eqb, ap, ◌∙◌}
use Rattle.std.proofs.lemmas.Result.{on_ok_weaker}
use Rattle.ft_inodes.specs.declared.inode.Inode.TheVariants.{File}
use Rattle.ft_inodes.specs.Stored.{InodeCells, with_file}
use Rattle.ft_inodes.specs.Keyed.{dir_in, file_in, is_dir, is_file, key_in}
use Rattle.ft_inodes.proofs.Keys.{leads-same}
use Rattle.ft_inodes.proofs.Slots.{one-file, neither, added-own, added-other, added-leads}
use Rattle.ft_inodes.proofs.Shown.{by_result, no-key}
use Rattle.ft_inodes.proofs.inodes.Inodes.add_file.Goals as goal

pub add-requires : goal.add-requires
add-requires c = no-key file_in c.self.inside.slab c.self.inside.files _ (ap (λ (m : InodeCells). m.files) c.self.view_is) c.args.number c.requires

pub invariant_of-self : goal.invariant_of-self
invariant_of-self c =
    by_result c.add.result c.add.ensures.ok c.add.ensures.err c.add.ensures.err_index
    (λ added.
    let led = added-leads file_in is_file dir_in is_dir one-file neither (λ n. refl) (λ n. refl) c.self.inside.slab c.self.inside.files c.self.inside.directories c.self.invariant.1 c.self.invariant.0
    c.add.new.slab c.add.new.index c.args.number (File c.args.number c.args.file) added (no-key file_in c.self.inside.slab c.self.inside.files _ (ap (λ (m : InodeCells). m.files) c.self.view_is) c.args.number c.requires) (eq-eqb c.args.number c.args.number refl) in
    (led.1, led.0))
    (λ same kept. (
      leads-same is_dir c.self.inside.slab c.add.new.slab c.self.inside.directories c.self.inside.directories c.self.invariant.0 (λ q. refl) (λ q key at. same key) (λ q key own. same key),
      leads-same is_file c.self.inside.slab c.add.new.slab c.self.inside.files c.add.new.index c.self.invariant.1 (λ q. ap (λ m. key_in m q) kept) (λ q key at. same key) (λ q key own. same key),
    ))

pub returns-clause-ok : goal.returns-clause-ok
returns-clause-ok c =
    on_ok_weaker c.add.result
    (λ added.
    (λ i. record {
      files = added-own file_in is_file dir_in is_dir one-file neither (λ n. refl) (λ n. refl) c.self.inside.slab c.self.inside.files c.self.inside.directories c.self.invariant.1 c.self.invariant.0
          c.add.new.slab c.add.new.index c.args.number (File c.args.number c.args.file) added i;
      directories = added-other file_in is_file dir_in is_dir one-file neither (λ n. refl) (λ n. refl) c.self.inside.slab c.self.inside.files c.self.inside.directories c.self.invariant.1 c.self.invariant.0
          c.add.new.slab c.add.new.index c.args.number (File c.args.number c.args.file) added i;
    })
    ∙ ap (λ (m : InodeCells). with_file m c.args.number c.args.file) c.self.view_is)
    c.add.ensures.ok
