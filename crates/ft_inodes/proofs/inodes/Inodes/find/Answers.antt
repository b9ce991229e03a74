use Rattle.std.proofs.Common.{sym, ap, ◌∙◌}
use Rattle.ft_inodes.specs.Stored.{InodeCells, is_stored}
use Rattle.ft_inodes.specs.Keyed.{dir_in, file_in}
use Rattle.ft_inodes.proofs.Shown.{some-shown}
use Rattle.ft_inodes.proofs.inodes.Inodes.find.Goals.{in-Dir, in-File}
use Rattle.ft_inodes.proofs.inodes.Inodes.find.Goals as goal

-- it is stored where its number has a key
pub returns : goal.returns
returns c =
    c.map.ensures.variant
    ∙ elim c.match-node.branch [
      | in-Dir w ↦
          some-shown dir_in c.self.inside.slab c.self.inside.directories _ (ap (λ (m : InodeCells). m.directories) c.self.view_is) w.in-Dir.number c.match-node.map (w.map-is ∙ w.key_of.ensures)
          ∙ ap (is_stored c.args.self.now) (sym w.in-Dir.is)
      | in-File w ↦
          some-shown file_in c.self.inside.slab c.self.inside.files _ (ap (λ (m : InodeCells). m.files) c.self.view_is) w.in-File.number c.match-node.map (w.map-is ∙ w.key_of-in-File.ensures)
          ∙ ap (is_stored c.args.self.now) (sym w.in-File.is)
    ]
