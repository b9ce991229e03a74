-- The code of a plain tree, by which it can be part of what clauses see of a struct.
use Rattle.std.specs.Prelude.{Option, refl}
use Rattle.std.specs.Ordering.{nat_cmp}
use Rattle.std.specs.FinMap as finite
use Rattle.std.specs.Coded.{Coded, code_by, coded×, coded_ℕ, coded_option}
use Rattle.ft_cells.specs.contracts.entry.Entry as entry
use Rattle.ft_cells.specs.Entries.{entry_cmp}
use Rattle.ft_cells.specs.declared.node.Node.{Node}
use Rattle.ft_cells.specs.Nodes.{coded_node}
use Rattle.ft_cells.specs.declared.attributes.Attributes.{Attributes}
use Rattle.ft_cells.specs.contracts.attributes.Attributes as attributes
use Rattle.ft_cells.specs.declared.open_file.OpenFile.{OpenFile}
use Rattle.ft_cells.specs.contracts.open_file.OpenFile as open_file
use Rattle.ft_cells.specs.declared.limits.TreeLimits.{TreeLimits}
use Rattle.ft_cells.specs.contracts.limits.TreeLimits as allowed
use Rattle.ft_cells.specs.Cells.{Contents, coded_contents}
use Rattle.ft_cells.specs.Plain.{PlainFile, PlainDirs, PlainFiles, PlainTree}

-- how a plain file is coded
abbrev pub coded_file : Coded PlainFile
coded_file = code_by (Option Attributes × Contents) (coded× (coded_option attributes.the_row.coded) coded_contents) (λ f. (f.attributes, f.contents)) (λ p. record { attributes = p.0; contents = p.1 }) (λ _. refl)

-- how a plain tree is coded. A reader does not need to know this.
abbrev pub coded_tree : Coded PlainTree
coded_tree =
    code_by (TreeLimits × (finite.FinMap entry_cmp Node × (PlainDirs × (PlainFiles × finite.FinMap nat_cmp OpenFile))))
    (coded× allowed.the_row.coded (coded× (finite.code entry.the_row.coded coded_node) (coded× (finite.code coded_ℕ (coded_option attributes.the_row.coded)) (coded× (finite.code coded_ℕ coded_file) (finite.code coded_ℕ open_file.the_row.coded)))))
    (λ p. (p.limits, (p.edges, (p.dirs, (p.files, p.opens))))) (λ p. record { limits = p.0; edges = p.1.0; dirs = p.1.1.0; files = p.1.1.1.0; opens = p.1.1.1.1 }) (λ _. refl)
