use Rattle.std.proofs.Common.{◌≡◌, true, Option, Some, MutBor, sym, ap, subst, refl, inr, ◌∙◌}
use Rattle.std.specs.Prelude.{IsSome}
use Rattle.std.specs.Option.{ghost_name_of, option_copied_mut}
use borrow.Follows.Closed.{read_of}
use Rattle.std.specs.FinMap as finite
use Rattle.ft_base.proofs.Loans.{same_writes}
use Rattle.ft_cells.specs.Cells.{DirCells}
use Rattle.ft_inodes.specs.Stored.{InodeCells, with_directory}
use Rattle.ft_inodes.specs.Keyed.{dir_in, file_in, is_dir, is_file, dir_at, shown_by}
use Rattle.ft_inodes.specs.Lending.{set_dir}
use Rattle.ft_inodes.proofs.Slots.{one-dir, not-both, dir-there, dir-some, set_dir-is, dir-within, set_dir-own, written-own, written-other, written-leads}
use Rattle.ft_inodes.proofs.Shown.{shown-none, shown-some, lent_somewhere}
use Rattle.ft_inodes.proofs.inodes.Inodes.directory_mut.Goals as goal

-- the number has no key
pub returns-in_err-key : goal.returns-in_err-key
returns-in_err-key c = (
  (λ i. inr (c.self.view_is i)) ∙ ap (λ (o : Option (MutBor DirCells)). read_of (ghost_name_of o) (with_directory c.args.self.now c.args.number) c.args.self.now) (sym c.from_residual.ensures),
  record {
    writes_back = tt;
    value = ap option_copied_mut c.from_residual.ensures ∙ shown-none dir_in c.self.inside.slab c.self.inside.directories _ (ap (λ (m : InodeCells). m.directories) c.self.view_is) c.args.number c.in_err-key.ensures;
  },
)

pub unwrap-inode-requires : goal.unwrap-inode-requires
unwrap-inode-requires c =
    lent_somewhere c.get_mut.result (subst IsSome (sym c.get_mut.ensures.value) (dir-some c.args.number _ ((c.self.invariant.0 c.args.number c.in_ok-key.key).0 (sym c.in_ok-key.ensures))))

pub directory_mut-requires : goal.directory_mut-requires
directory_mut-requires c =
    let there = sym c.get_mut.ensures.value ∙ ap option_copied_mut c.unwrap-inode.ensures in
    dir-within c.args.number c.unwrap-inode.result.now (ap (is_dir c.args.number) (sym there) ∙ (c.self.invariant.0 c.args.number c.in_ok-key.key).0 (sym c.in_ok-key.ensures))

pub invariant_of-self-lent : goal.invariant_of-self-lent
invariant_of-self-lent c w =
    let there = sym c.get_mut.ensures.value ∙ ap option_copied_mut c.unwrap-inode.ensures in
    let own : is_dir c.args.number (Some c.unwrap-inode.result.now) ≡ true = ap (is_dir c.args.number) (sym there) ∙ (c.self.invariant.0 c.args.number c.in_ok-key.key).0 (sym c.in_ok-key.ensures) in
    let led = written-leads dir_in is_dir file_in is_file one-dir not-both (λ n. refl) (λ n. refl) c.self.inside.slab c.self.inside.directories c.self.inside.files c.self.invariant.0 c.self.invariant.1
    c.args.number c.in_ok-key.key c.unwrap-inode.result.now (set_dir c.unwrap-inode.result.now w) (sym c.in_ok-key.ensures) there (set_dir-own c.args.number c.unwrap-inode.result.now w own) in
    led

pub returns : goal.returns
returns c =
    let there = sym c.get_mut.ensures.value ∙ ap option_copied_mut c.unwrap-inode.ensures in
    let own : is_dir c.args.number (Some c.unwrap-inode.result.now) ≡ true = ap (is_dir c.args.number) (sym there) ∙ (c.self.invariant.0 c.args.number c.in_ok-key.key).0 (sym c.in_ok-key.ensures) in (
      same_writes _ _ _ (λ w.
          (λ i. record {
            directories = (written-own dir_in is_dir file_in is_file one-dir not-both (λ n. refl) (λ n. refl) c.self.inside.slab c.self.inside.directories c.self.inside.files c.self.invariant.0 c.self.invariant.1
                c.args.number c.in_ok-key.key c.unwrap-inode.result.now (set_dir c.unwrap-inode.result.now w) (sym c.in_ok-key.ensures) there
                ∙ ap (λ x. finite.insert (shown_by dir_in c.self.inside.slab c.self.inside.directories) c.args.number (dir_in (Some x))) (set_dir-is c.args.number c.unwrap-inode.result.now w own)) i;
            files = written-other dir_in is_dir file_in is_file one-dir not-both (λ n. refl) (λ n. refl) c.self.inside.slab c.self.inside.directories c.self.inside.files c.self.invariant.0 c.self.invariant.1
                c.args.number c.in_ok-key.key c.unwrap-inode.result.now (set_dir c.unwrap-inode.result.now w) (sym c.in_ok-key.ensures) there i;
          })
          ∙ ap (λ (m : InodeCells). with_directory m c.args.number w) c.self.view_is),
      record {
        writes_back = tt;
        value = sym c.directory_mut.ensures.value ∙ ap dir_at (sym there)
            ∙ shown-some dir_in c.self.inside.slab c.self.inside.directories _ (ap (λ (m : InodeCells). m.directories) c.self.view_is) c.args.number c.in_ok-key.key c.in_ok-key.ensures _
            (dir-there c.args.number _ ((c.self.invariant.0 c.args.number c.in_ok-key.key).0 (sym c.in_ok-key.ensures)));
      },
    )
