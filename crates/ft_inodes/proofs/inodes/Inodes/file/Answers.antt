use Rattle.std.proofs.Common.{sym, ap, option_copied, ◌∙◌}
use Rattle.ft_inodes.specs.Stored.{InodeCells}
use Rattle.ft_inodes.specs.Keyed.{file_in, file_at}
use Rattle.ft_inodes.proofs.Slots.{file-there}
use Rattle.ft_inodes.proofs.Shown.{shown-none, shown-some}
use Rattle.ft_inodes.proofs.inodes.Inodes.file.Goals as goal

-- the number has no key
pub returns-in_err-key : goal.returns-in_err-key
returns-in_err-key c =
    ap option_copied c.from_residual.ensures ∙ shown-none file_in c.self.inside.slab c.self.inside.files _ (ap (λ (m : InodeCells). m.files) c.self.view_is) c.args.number c.in_err-key.ensures

-- (there is something under each key)
pub returns-in_err-get : goal.returns-in_err-get
returns-in_err-get c =
    ap option_copied c.from_residual-in_err-get.ensures ∙ ap file_at c.in_err-get.ensures
    ∙ shown-some file_in c.self.inside.slab c.self.inside.files _ (ap (λ (m : InodeCells). m.files) c.self.view_is) c.args.number c.in_ok-key.key c.in_ok-key.ensures _
    (file-there c.args.number _ ((c.self.invariant.1 c.args.number c.in_ok-key.key).0 (sym c.in_ok-key.ensures)))

pub returns : goal.returns
returns c =
    c.file.ensures ∙ ap file_at c.in_ok-get.ensures
    ∙ shown-some file_in c.self.inside.slab c.self.inside.files _ (ap (λ (m : InodeCells). m.files) c.self.view_is) c.args.number c.in_ok-key.key c.in_ok-key.ensures _
    (file-there c.args.number _ ((c.self.invariant.1 c.args.number c.in_ok-key.key).0 (sym c.in_ok-key.ensures)))
