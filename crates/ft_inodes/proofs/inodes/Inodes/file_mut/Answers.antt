use Rattle.std.proofs.Common.{◌≡◌, true, Option, Some, MutBor, sym, ap, subst, refl, inr, ◌∙◌}
use Rattle.std.specs.Prelude.{IsSome}
use Rattle.std.specs.Option.{ghost_name_of, option_copied_mut}
use borrow.Follows.Closed.{read_of}
use Rattle.std.specs.FinMap as finite
use Rattle.ft_base.proofs.Loans.{same_writes}
use Rattle.ft_cells.specs.Cells.{FileCells}
use Rattle.ft_inodes.specs.Stored.{InodeCells, with_file}
use Rattle.ft_inodes.specs.Keyed.{dir_in, file_in, is_dir, is_file, file_at, shown_by}
use Rattle.ft_inodes.specs.Lending.{set_file}
use Rattle.ft_inodes.proofs.Slots.{one-file, neither, file-there, file-some, set_file-is, file-within, set_file-own, written-own, written-other, written-leads}
use Rattle.ft_inodes.proofs.Shown.{shown-none, shown-some, lent_somewhere}
use Rattle.ft_inodes.proofs.inodes.Inodes.file_mut.Goals as goal

-- the number has no key
pub returns-in_err-key : goal.returns-in_err-key
returns-in_err-key c = (
  (λ i. inr (c.self.view_is i)) ∙ ap (λ (o : Option (MutBor FileCells)). read_of (ghost_name_of o) (with_file c.args.self.now c.args.number) c.args.self.now) (sym c.from_residual.ensures),
  record {
    writes_back = tt;
    value = ap option_copied_mut c.from_residual.ensures ∙ shown-none file_in c.self.inside.slab c.self.inside.files _ (ap (λ (m : InodeCells). m.files) c.self.view_is) c.args.number c.in_err-key.ensures;
  },
)

pub unwrap-inode-requires : goal.unwrap-inode-requires
unwrap-inode-requires c =
    lent_somewhere c.get_mut.result (subst IsSome (sym c.get_mut.ensures.value) (file-some c.args.number _ ((c.self.invariant.1 c.args.number c.in_ok-key.key).0 (sym c.in_ok-key.ensures))))

pub file_mut-requires : goal.file_mut-requires
file_mut-requires c =
    let there = sym c.get_mut.ensures.value ∙ ap option_copied_mut c.unwrap-inode.ensures in
    file-within c.args.number c.unwrap-inode.result.now (ap (is_file c.args.number) (sym there) ∙ (c.self.invariant.1 c.args.number c.in_ok-key.key).0 (sym c.in_ok-key.ensures))

pub invariant_of-self-lent : goal.invariant_of-self-lent
invariant_of-self-lent c w =
    let there = sym c.get_mut.ensures.value ∙ ap option_copied_mut c.unwrap-inode.ensures in
    let own : is_file c.args.number (Some c.unwrap-inode.result.now) ≡ true = ap (is_file c.args.number) (sym there) ∙ (c.self.invariant.1 c.args.number c.in_ok-key.key).0 (sym c.in_ok-key.ensures) in
    let led = written-leads file_in is_file dir_in is_dir one-file neither (λ n. refl) (λ n. refl) c.self.inside.slab c.self.inside.files c.self.inside.directories c.self.invariant.1 c.self.invariant.0
    c.args.number c.in_ok-key.key c.unwrap-inode.result.now (set_file c.unwrap-inode.result.now w) (sym c.in_ok-key.ensures) there (set_file-own c.args.number c.unwrap-inode.result.now w own) in
    (led.1, led.0)

pub returns : goal.returns
returns c =
    let there = sym c.get_mut.ensures.value ∙ ap option_copied_mut c.unwrap-inode.ensures in
    let own : is_file c.args.number (Some c.unwrap-inode.result.now) ≡ true = ap (is_file c.args.number) (sym there) ∙ (c.self.invariant.1 c.args.number c.in_ok-key.key).0 (sym c.in_ok-key.ensures) in (
      same_writes _ _ _ (λ w.
          (λ i. record {
            files = (written-own file_in is_file dir_in is_dir one-file neither (λ n. refl) (λ n. refl) c.self.inside.slab c.self.inside.files c.self.inside.directories c.self.invariant.1 c.self.invariant.0
                c.args.number c.in_ok-key.key c.unwrap-inode.result.now (set_file c.unwrap-inode.result.now w) (sym c.in_ok-key.ensures) there
                ∙ ap (λ x. finite.insert (shown_by file_in c.self.inside.slab c.self.inside.files) c.args.number (file_in (Some x))) (set_file-is c.args.number c.unwrap-inode.result.now w own)) i;
            directories = written-other file_in is_file dir_in is_dir one-file neither (λ n. refl) (λ n. refl) c.self.inside.slab c.self.inside.files c.self.inside.directories c.self.invariant.1 c.self.invariant.0
                c.args.number c.in_ok-key.key c.unwrap-inode.result.now (set_file c.unwrap-inode.result.now w) (sym c.in_ok-key.ensures) there i;
          })
          ∙ ap (λ (m : InodeCells). with_file m c.args.number w) c.self.view_is),
      record {
        writes_back = tt;
        value = sym c.file_mut.ensures.value ∙ ap file_at (sym there)
            ∙ shown-some file_in c.self.inside.slab c.self.inside.files _ (ap (λ (m : InodeCells). m.files) c.self.view_is) c.args.number c.in_ok-key.key c.in_ok-key.ensures _
            (file-there c.args.number _ ((c.self.invariant.1 c.args.number c.in_ok-key.key).0 (sym c.in_ok-key.ensures)));
      },
    )
