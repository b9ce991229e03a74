-- The reads of a way that gets longer.
use Rattle.std.proofs.Common.{◌≡◌, ℕ, List, [], ◌∷◌, ◌++◌, refl, ap}
use Rattle.ft_cells.specs.Entries.{entry_at}
use Rattle.ft_cells.specs.declared.cell.Cell.TheVariants.{Entry}
use Rattle.ft_cells.specs.Looks.{View}
use Rattle.ft_posix.specs.declared.call.Mode.TheVariants.{Read as ReadMode}
use Rattle.ft_posix.specs.Besides.{reads_of}
use Rattle.ft_tree.specs.Fronts.{LeadAlong, entries_along, end_along}

pub reads_on : (v : View) (d : ℕ) (names : List (List ℕ)) (dirs : List ℕ) (name : List ℕ) (i : ℕ) → LeadAlong v d names dirs
    → reads_of (entries_along d (names ++ name ∷ []) (dirs ++ i ∷ [])) ≡ reads_of (entries_along d names dirs) ++ record { cell = Entry (entry_at (end_along d dirs) name); mode = ReadMode } ∷ []
reads_on v d [] [] name i lead = refl
reads_on v d [] (j ∷ dirs) name i lead = absurd lead
reads_on v d (n ∷ names) [] name i lead = absurd lead
reads_on v d (n ∷ names) (j ∷ dirs) name i lead = ap (λ rs. record { cell = Entry (entry_at d n); mode = ReadMode } ∷ rs) (reads_on v j names dirs name i lead.3)
