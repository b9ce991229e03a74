-- A tree that is looked at, and the looks at it.
use Rattle.std.specs.Prelude.{◌≡◌, ℕ, Bool, true, false, List, [], ◌∷◌, length, Result, Ok, Err, refl}
use Rattle.std.specs.Coded.{Coded, code_by, coded×, coded_list}
use Rattle.std.specs.FinMap as finite
use Rattle.ft_base.specs.declared.memory.Memory.{Memory}
use Rattle.ft_cells.specs.declared.cell.Cell.{Cell}
use Rattle.ft_cells.specs.declared.cell.Cell.TheVariants.{Names, Bytes}
use Rattle.ft_cells.specs.contracts.cell.Cell as cell
use Rattle.ft_cells.specs.Cells.{Cells, coded_cells}
use Rattle.ft_cells.specs.Looks.{Looks, Answer, Look, Shows, answer, looked_at}
use Rattle.ft_tree.specs.Views.{view_of}
use Rattle.ft_posix.specs.contracts.call.Mode as mode
use Rattle.ft_posix.specs.declared.call.Mode.TheVariants.{Read as ReadMode}
use Rattle.ft_posix.specs.Accesses.{Modes, with_looks}

-- the cells that are looked at, how they are accessed so far, and the cells that are known in
-- advance to be read: the entries on the way of a path's front
pub record Looking : Type 0 where
  pub cells : Cells
  pub modes : Modes
  pub front : List Cell

-- the code of a looking, which a reader can skip
abbrev pub coded_looking : Coded Looking
coded_looking =
    code_by (Cells × (Modes × List Cell)) (coded× coded_cells (coded× (finite.code cell.the_row.coded mode.the_row.coded) (coded_list cell.the_row.coded)))
    (λ l. (l.cells, (l.modes, l.front))) (λ p. record { cells = p.0; modes = p.1.0; front = p.1.1 }) (λ _. refl)

-- with a look at one cell noted
abbrev pub noted_at : Looking → Cell → Looking
noted_at old c = record { cells = old.cells; modes = finite.insert old.modes c ReadMode; front = old.front }

-- with all looks noted
abbrev pub noted : {A : Type 0} → Looking → Looks A → Looking
noted old looks = record { cells = old.cells; modes = with_looks old.modes (looked_at looks (view_of old.cells)); front = old.front }

-- the result is the answer of the looks, and they are noted; or there is not enough memory, and the
-- cells are the same
abbrev pub Observes : {A : Type 0} → Looking → Looks A → Looking → Result A Memory → Type 0
Observes old looks new (Ok x) = (x ≡ answer looks (view_of old.cells)) × (new ≡ noted old looks)
Observes old looks new (Err memory) = new.cells ≡ old.cells

-- one look at a cell
abbrev pub look_at : (c : Cell) → Looks (Shows c)
look_at c = Look c (λ x. Answer x)

-- the list is empty
abbrev pub is_none_of : {A : Type 0} → List A → Bool
is_none_of [] = true
is_none_of (x ∷ xs) = false

-- whether a directory has no entry
abbrev pub is_bare : ℕ → Looks Bool
is_bare d = Look (Names d) (λ names. Answer (is_none_of names))

-- the size of a file
abbrev pub size_at : ℕ → Looks ℕ
size_at i = Look (Bytes i) (λ contents. Answer (length contents.bytes))

-- a look at the names of a directory, without a result
abbrev pub names_noted : ℕ → Looks (Unit {0})
names_noted d = Look (Names d) (λ names. Answer tt)
