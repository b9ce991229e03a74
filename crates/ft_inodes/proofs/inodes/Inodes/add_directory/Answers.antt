use Rattle.std.proofs.Common.{refl, eq-eqb, ap, ◌∙◌}
use Rattle.std.proofs.lemmas.Result.{on_ok_weaker}
use Rattle.ft_inodes.specs.declared.inode.Inode.TheVariants.{Directory}
use Rattle.ft_inodes.specs.Stored.{InodeCells, with_directory}
use Rattle.ft_inodes.specs.Keyed.{dir_in, file_in, is_dir, is_file, key_in}
use Rattle.ft_inodes.proofs.Keys.{leads-same}
use Rattle.ft_inodes.proofs.Slots.{one-dir, not-both, added-own, added-other, added-leads}
use Rattle.ft_inodes.proofs.Shown.{by_result, no-key}
use Rattle.ft_inodes.proofs.inodes.Inodes.add_directory.Goals as goal

pub add-requires : goal.add-requires
add-requires c = no-key dir_in c.self.inside.slab c.self.inside.directories _ (ap (λ (m : InodeCells). m.directories) c.self.view_is) c.args.number c.requires

pub invariant_of-self : goal.invariant_of-self
invariant_of-self c =
    by_result c.add.result c.add.ensures.ok c.add.ensures.err c.add.ensures.err_index
    (λ added.
    let led = added-leads dir_in is_dir file_in is_file one-dir not-both (λ n. refl) (λ n. refl) c.self.inside.slab c.self.inside.directories c.self.inside.files c.self.invariant.0 c.self.invariant.1
    c.add.new.slab c.add.new.index c.args.number (Directory c.args.number c.args.directory) added (no-key dir_in c.self.inside.slab c.self.inside.directories _ (ap (λ (m : InodeCells). m.directories) c.self.view_is) c.args.number c.requires) (eq-eqb c.args.number c.args.number refl) in
    led)
    (λ same kept. (
      leads-same is_dir c.self.inside.slab c.add.new.slab c.self.inside.directories c.add.new.index c.self.invariant.0 (λ q. ap (λ m. key_in m q) kept) (λ q key at. same key) (λ q key own. same key),
      leads-same is_file c.self.inside.slab c.add.new.slab c.self.inside.files c.self.inside.files c.self.invariant.1 (λ q. refl) (λ q key at. same key) (λ q key own. same key),
    ))

pub returns-clause-ok : goal.returns-clause-ok
returns-clause-ok c =
    on_ok_weaker c.add.result
    (λ added.
    (λ i. record {
      directories = added-own dir_in is_dir file_in is_file one-dir not-both (λ n. refl) (λ n. refl) c.self.inside.slab c.self.inside.directories c.self.inside.files c.self.invariant.0 c.self.invariant.1
          c.add.new.slab c.add.new.index c.args.number (Directory c.args.number c.args.directory) added i;
      files = added-other dir_in is_dir file_in is_file one-dir not-both (λ n. refl) (λ n. refl) c.self.inside.slab c.self.inside.directories c.self.inside.files c.self.invariant.0 c.self.invariant.1
          c.add.new.slab c.add.new.index c.args.number (Directory c.args.number c.args.directory) added i;
    })
    ∙ ap (λ (m : InodeCells). with_directory m c.args.number c.args.directory) c.self.view_is)
    c.add.ensures.ok
