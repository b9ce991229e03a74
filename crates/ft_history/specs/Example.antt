-- One legal history of the tiny tree with a commit, an undo and an abort, amid the calls of another
-- transaction.
use Rattle.std.specs.Prelude.{ℕ, Some, None, List, [], ◌∷◌}
use Rattle.ft_laws.specs.Calls.{Done, made}
use Rattle.ft_laws.specs.Tiny.{What, empty, tiny_calls}
use Rattle.ft_laws.specs.Tiny.What.{Mkdir, Create}
use Rattle.ft_history.specs.History.{Base, Event}
use Rattle.ft_history.specs.History.Event.{Begin, Call, Undo, Commit, Abort}
use Rattle.ft_history.specs.Legal.{outcome}

-- a history of the tiny tree
abbrev pub Events : Type 0
Events = List (Event tiny_calls)

-- the empty tree, with 0 as the last transaction and 1 as the last stamp
abbrev pub start : Base tiny_calls
start = record { store = empty; transaction = 0; stamp = 1 }

-- t's call with the stamp k, as it is after the standing calls of h
abbrev pub asked : Events → ℕ → ℕ → What → Done tiny_calls
asked h t k w = made tiny_calls (outcome tiny_calls start h) t (record { stamp = k; what = w })

-- 1 and 3 are top-level transactions, and 2 is a child of 1.
abbrev pub begun : Events
begun = Begin 3 None ∷ Begin 2 (Some 1) ∷ Begin 1 None ∷ []

-- 2 makes the directory 0,
abbrev pub with_directory : Events
with_directory = Call (asked begun 2 2 (Mkdir None 0)) ∷ begun

-- 3 makes the file 1,
abbrev pub neighbour : Done tiny_calls
neighbour = asked with_directory 3 3 (Create None 1)

-- 2 commits,
abbrev pub child_committed : Events
child_committed = Commit 2 ∷ Call neighbour ∷ with_directory

-- 1 makes the file 2 in the directory,
abbrev pub with_file : Events
with_file = Call (asked child_committed 1 4 (Create (Some 0) 2)) ∷ child_committed

-- then 1 undoes that and aborts, and 3 commits: seven steps after the begins, and nothing of 1 and
-- 2 is left.
abbrev pub interleaved : Events
interleaved = Commit 3 ∷ Abort 1 ∷ Undo 4 ∷ with_file
