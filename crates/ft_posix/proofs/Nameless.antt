-- Nothing names a file that is not there.
use Rattle.std.proofs.Common.{◌≡◌, ℕ, true, Option, Some, None, eqb-true, refl, sym, subst, ◌∙◌}
use Rattle.std.proofs.lemmas.Bool.{false≢true}
use Rattle.ft_laws.proofs.Tests.{by_test}
use Rattle.ft_cells.specs.declared.cell.Cell.{Cell}
use Rattle.ft_cells.specs.declared.cell.Cell.TheVariants.{Entry, Names, Parent, Links, Bytes, Fd, DirAttributes, FileAttributes}
use Rattle.ft_cells.specs.declared.node.Node.{Node}
use Rattle.ft_cells.specs.declared.node.Node.TheVariants.{Dir as DirNode, File as FileNode}
use Rattle.ft_cells.specs.declared.open_file.OpenFile.{OpenFile}
use Rattle.ft_cells.specs.Cells.{Cells, entry_of, open_of}
use Rattle.ft_tree.specs.Held.{held}
use Rattle.ft_posix.specs.Posix.{node_names, description_names, names_file}
use Rattle.ft_posix.specs.RunLaws.{NamelessLaw}
use Rattle.ft_posix.proofs.Named.{Named, by_entry, by_open}
use Rattle.ft_posix.proofs.Shown.{named-there}

pub named : (cells : Cells) (i : ℕ) (c : Cell) → names_file c (held cells c) i ≡ true → Named cells i
named cells i (Entry entry) e = by_node (entry_of cells entry.dir entry.name) refl e
  where
    by_node : (o : Option Node) → entry_of cells entry.dir entry.name ≡ o → node_names o i ≡ true → Named cells i
    by_node None is e = absurd (false≢true e)
    by_node (Some (DirNode j)) is e = absurd (false≢true e)
    by_node (Some (FileNode kind j)) is e = subst (Named cells) (eqb-true j i e) (by_entry entry.dir entry.name j is)
named cells i (Names d) e = absurd (false≢true e)
named cells i (Parent d) e = absurd (false≢true e)
named cells i (Links j) e = absurd (false≢true e)
named cells i (Bytes j) e = absurd (false≢true e)
named cells i (DirAttributes d) e = absurd (false≢true e)
named cells i (FileAttributes j) e = absurd (false≢true e)
named cells i (Fd f) e = by_description (open_of cells f) refl e
  where
    by_description : (o : Option OpenFile) → open_of cells f ≡ o → description_names o i ≡ true → Named cells i
    by_description None is e = absurd (false≢true e)
    by_description (Some o) is e = subst (Named cells) (eqb-true o.file i e) (by_open f o is)

pub nameless : NamelessLaw
nameless cells sound i gone c = by_test (names_file c (held cells c) i)
    (λ e. absurd (false≢true (sym gone ∙ named-there cells sound i (named cells i c e))))
    (λ e. e)
