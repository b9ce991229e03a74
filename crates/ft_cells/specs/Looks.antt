-- Ways to find something out about a tree, look by look. Each look is at one cell, and the value
-- that the cell shows decides how to go on. (Rules of this project.)
use Rattle.std.specs.Prelude.{◌≡◌, ℕ, List, [], ◌∷◌, Option, Result, Ok, Err, refl}
use Rattle.std.proofs.Common.{ap, ◌∙◌}
use Rattle.ft_cells.specs.declared.node.Node.{Node}
use Rattle.ft_cells.specs.declared.cell.Cell.{Cell}
use Rattle.ft_cells.specs.declared.cell.Cell.TheVariants.{Entry, Names, Parent, Links, Bytes, Fd, DirAttributes, FileAttributes}
use Rattle.ft_cells.specs.declared.open_file.OpenFile.{OpenFile}
use Rattle.ft_cells.specs.declared.attributes.Attributes.{Attributes}
use Rattle.ft_cells.specs.Cells.{Contents}

-- what a cell shows when it is looked at. An entry shows its node or none. Names show a list of
-- names with nodes. A parent shows a number or none, and links show a count. Bytes show a list of
-- bytes, with their time or none. A descriptor shows its description or none. Attributes show those
-- that are stored, or none.
abbrev pub Shows : Cell → Type 0
Shows (Entry entry) = Option Node
Shows (Names d) = List (List ℕ × Node)
Shows (Parent d) = Option ℕ
Shows (Links i) = ℕ
Shows (Bytes i) = Contents
Shows (Fd f) = Option OpenFile
Shows (DirAttributes d) = Option Attributes
Shows (FileAttributes i) = Option Attributes

-- what each cell shows
abbrev pub View : Type 0
View = (c : Cell) → Shows c

-- a way to find something out: an answer at once, or a look at one cell. After a look, the value
-- that the cell shows decides how to go on. The walk, a call and its accesses are one such text.
pub data Looks (A : Type 0) : Type 0 where
  Answer : A → Looks A
  Look : (c : Cell) → (Shows c → Looks A) → Looks A

-- one part after another: the second goes on with the answer of the first
abbrev pub then : {A B : Type 0} → Looks A → (A → Looks B) → Looks B
then (Answer x) f = f x
then (Look c next) f = Look c (λ x. then (next x) f)

-- the next part goes on with a value, and an error ends the way
abbrev pub or_else : {A B E : Type 0} → (E → B) → (A → Looks B) → Result A E → Looks B
or_else fail f (Ok x) = f x
or_else fail f (Err e) = Answer (fail e)

module _ {A : Type 0} where
  -- the answer in a view
  abbrev pub answer : Looks A → View → A
  answer (Answer x) v = x
  answer (Look c next) v = answer (next (v c)) v

  -- the cells that are looked at in a view, in order
  abbrev pub looked_at : Looks A → View → List Cell
  looked_at (Answer x) v = []
  looked_at (Look c next) v = c ∷ looked_at (next (v c)) v

-- the state of a reader after it has noted each of the cells, one after another
abbrev pub all_noted : {R : Type 0} → (R → Cell → R) → R → List Cell → R
all_noted noted r [] = r
all_noted noted r (c ∷ cs) = all_noted noted (noted r c) cs

-- each of the cells shows the same value in both views
abbrev pub Agree : View → View → List Cell → Type 0
Agree v w [] = Unit {0}
Agree v w (c ∷ cs) = (v c ≡ w c) × Agree v w cs

module _ {A : Type 0} where
  -- if each cell that is looked at in one view shows the same in another, the answers are equal
  pub answer-agree : (s : Looks A) (v w : View) → Agree v w (looked_at s v) → answer s v ≡ answer s w
  answer-agree (Answer x) v w a = refl
  answer-agree (Look c next) v w a = answer-agree (next (v c)) v w a.1 ∙ ap (λ x. answer (next x) w) a.0

  -- if each cell that is looked at in one view shows the same in another, the lists of cells that
  -- are looked at are equal
  pub looked_at-agree : (s : Looks A) (v w : View) → Agree v w (looked_at s v) → looked_at s v ≡ looked_at s w
  looked_at-agree (Answer x) v w a = refl
  looked_at-agree (Look c next) v w a = ap (λ cs. c ∷ cs) (looked_at-agree (next (v c)) v w a.1 ∙ ap (λ x. looked_at (next x) w) a.0)

-- the answer of two parts, one after the other, is the answer of the second part
pub answer-then : {A B : Type 0} (s : Looks A) (f : A → Looks B) (v : View) → answer (then s f) v ≡ answer (f (answer s v)) v
answer-then (Answer x) f v = refl
answer-then (Look c next) f v = answer-then (next (v c)) f v

-- a reader notes two parts, one after the other, by noting the first and then the second
pub all_noted-then : {R A B : Type 0} (noted : R → Cell → R) (r : R) (s : Looks A) (f : A → Looks B) (v : View)
    → all_noted noted r (looked_at (then s f) v) ≡ all_noted noted (all_noted noted r (looked_at s v)) (looked_at (f (answer s v)) v)
all_noted-then noted r (Answer x) f v = refl
all_noted-then noted r (Look c next) f v = all_noted-then noted (noted r c) (next (v c)) f v
