-- Why the tree of a report cannot be told.
use Rattle.std.proofs.Common.{◌≡◌, ◌⊎◌, ℕ, List, [], ◌∷◌, ◌++◌, map, Some, inl, inr, sym, ap, ◌∙◌, subst}
use Rattle.std.specs.Option.{unwrap_or}
use Rattle.std.specs.FinMap as finite
use Rattle.ft_path.specs.Name.{IsName}
use Rattle.ft_copy.specs.declared.found.FolderEntry.{FolderEntry}
use Rattle.ft_copy.specs.declared.copy_fault.CopyFault.{CopyFault}
use Rattle.ft_copy.specs.declared.copy_fault.CopyFault.TheVariants.{Memory, BadName}
use Rattle.ft_copy.specs.Told.{HasNoName}
use Rattle.ft_save.specs.declared.index.Edge.{Edge as IndexEdge}
use Rattle.ft_save.specs.declared.index.Index.{Index}
use Rattle.ft_save.specs.declared.row.Row.{Row}
use Rattle.ft_save.specs.Trees.{Indexes, IsRefused, listed}

-- a name among these is none
pub no_name : (all front : List FolderEntry) (edge : IndexEdge) (more : List IndexEdge) (t other : CopyFault) → all ≡ front ++ map listed (edge ∷ more) → t ≡ other
    → (other ≡ Memory) ⊎ ((other ≡ BadName) × ¬ IsName edge.name) → (t ≡ Memory) ⊎ ((t ≡ BadName) × HasNoName all)
no_name all front edge more t other is same (inl memory) = inl (same ∙ memory)
no_name all front edge more t other is same (inr none) = inr (same ∙ none.0, (front, listed edge, map listed more, is, none.1))

-- the names of a directory are those that the rows tell
pub refused_name : (index : Index) (rows : List Row) (path : List ℕ) (node : ℕ) (edges : List IndexEdge) (t : CopyFault) → Indexes index rows → finite.get index.edges node ≡ Some edges
    → (t ≡ Memory) ⊎ ((t ≡ BadName) × HasNoName (map listed edges)) → IsRefused rows path node t
refused_name index rows path node edges t h is (inl memory) = subst (λ e. IsRefused rows path node e) (sym memory) tt
refused_name index rows path node edges t h is (inr none) =
    subst (λ e. IsRefused rows path node e) (sym none.0) (subst HasNoName (sym (ap (λ o. map listed (unwrap_or o [])) is) ∙ h.names node) none.1)
