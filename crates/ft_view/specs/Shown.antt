-- The value that is shown to readers.
use Rattle.std.specs.Prelude.{◌≡◌, List, refl}
use Rattle.std.specs.Coded.{Coded, code_by, coded×}
use Rattle.ft_cells.specs.Plain.{PlainTree}
use Rattle.ft_cells.specs.PlainCode.{coded_tree}
use Rattle.ft_posix.specs.declared.stamped.StampedCall.{StampedCall}
use Rattle.ft_posix.specs.Exec.{exec}
use Rattle.ft_view.specs.ViewNames.{Views, SeenPrefix, coded_prefix}
use Rattle.ft_view.specs.Replay.{replayed}

-- a plain tree, with a list of a book
pub record Shown : Type 0 where
  pub tree : PlainTree
  pub front : SeenPrefix

-- the code of what is shown
abbrev pub coded_shown : Coded Shown
coded_shown = code_by (PlainTree × SeenPrefix) (coded× coded_tree coded_prefix) (λ s. (s.tree, s.front)) (λ p. record { tree = p.0; front = p.1 }) (λ _. refl)

-- The list is one of the book of these views, and the tree is its replay from their base.
pub record IsReplayOf (opened : Views) (s : Shown) : Type 0 where
  pub book : s.front.book ≡ opened.book
  pub tree : s.tree ≡ replayed opened.base s.front.calls

-- The tree is the replay of a list of the book of these views, and the list is whole: one of those
-- that may be shown.
pub record IsViewOf (opened : Views) (shows : List StampedCall → Type 0) (s : Shown) : Type 0 where
  pub replay : IsReplayOf opened s
  pub whole : shows s.front.calls

-- the tree after one more call, and the list that ends with the call
abbrev pub advanced : Shown → StampedCall → SeenPrefix → Shown
advanced s c front = record { tree = (exec s.tree c.stamp c.call).0; front = front }
