-- A way along directories that gets longer.
use Rattle.std.proofs.Common.{◌≡◌, ◌-◌, ℕ, suc, false, List, [], ◌∷◌, ◌++◌, length, Some, unwrap_or, refl, ap, ◌∙◌, arith}
use Rattle.std.specs.List.{slice_get}
use Rattle.ft_path.specs.Name.{is_dot, is_dot_dot}
use Rattle.ft_cells.specs.Entries.{entry_at}
use Rattle.ft_cells.specs.declared.cell.Cell.TheVariants.{Entry}
use Rattle.ft_cells.specs.declared.node.Node.TheVariants.{Dir as DirNode}
use Rattle.ft_cells.specs.Looks.{View}
use Rattle.ft_tree.specs.Fronts.{LeadAlong, end_along}

-- the last of these is where the way ends
last-ends : (i : ℕ) (dirs : List ℕ) (d e : ℕ) → unwrap_or (slice_get (i ∷ dirs) (length (i ∷ dirs) - 1)) d ≡ end_along e (i ∷ dirs)
last-ends i [] d e = ap (λ n. unwrap_or (slice_get (i ∷ []) n) d) zeroth
  where
    zeroth : length (i ∷ []) - 1 ≡ 0
    zeroth = omega arith
last-ends i (j ∷ dirs) d e = ap (λ n. unwrap_or (slice_get (i ∷ j ∷ dirs) n) d) more ∙ last-ends j dirs d i
  where
    more : length (i ∷ j ∷ dirs) - 1 ≡ suc (length (j ∷ dirs) - 1)
    more = omega arith

pub last_or_first : (dirs : List ℕ) (d : ℕ) → unwrap_or (slice_get dirs (length dirs - 1)) d ≡ end_along d dirs
last_or_first [] d = refl
last_or_first (i ∷ dirs) d = last-ends i dirs d d

-- one more directory at its end
pub leads_on : (v : View) (d : ℕ) (names : List (List ℕ)) (dirs : List ℕ) (name : List ℕ) (i : ℕ) → LeadAlong v d names dirs → is_dot name ≡ false → is_dot_dot name ≡ false → v (Entry (entry_at (end_along d dirs) name)) ≡ Some (DirNode i)
    → LeadAlong v d (names ++ name ∷ []) (dirs ++ i ∷ [])
leads_on v d [] [] name i lead dot dots shows = (dot, dots, shows, tt)
leads_on v d [] (j ∷ dirs) name i lead dot dots shows = absurd lead
leads_on v d (n ∷ names) [] name i lead dot dots shows = absurd lead
leads_on v d (n ∷ names) (j ∷ dirs) name i lead dot dots shows = (lead.0, lead.1, lead.2, leads_on v j names dirs name i lead.3 dot dots shows)

pub ends_on : (d : ℕ) (dirs : List ℕ) (i : ℕ) → end_along d (dirs ++ i ∷ []) ≡ i
ends_on d [] i = refl
ends_on d (j ∷ dirs) i = ends_on j dirs i
