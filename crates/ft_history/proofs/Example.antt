-- The history of the example is legal.
use Rattle.std.proofs.Common.{◌≡◌, ◌<◌, ℕ, Some, None, [], ◌∷◌, refl, subst, arith}
use Rattle.ft_laws.specs.Tiny.{What, HasSmallNames, tiny_calls}
use Rattle.ft_laws.specs.Tiny.What.{Mkdir, Create}
use Rattle.ft_laws.proofs.Tiny.{empty_ready}
use Rattle.ft_history.specs.History.{last_stamp, IsLive}
use Rattle.ft_history.specs.History.Event.{Begin, Call}
use Rattle.ft_history.specs.Locks.{blockers_of}
use Rattle.ft_history.specs.Legal.{MayGrant, Legal}
use Rattle.ft_history.specs.Example.{Events, start, asked, begun, with_directory, neighbour, child_committed, with_file, interleaved}
use Rattle.ft_history.proofs.Words.{same_some, none_some}

-- a call is granted
pub is_granted : (h : Events) (t k : ℕ) (w : What) → IsLive tiny_calls start.transaction h t → last_stamp tiny_calls start.stamp h < k → 1 < k → HasSmallNames w → blockers_of tiny_calls h t (asked h t k w).accesses ≡ [] → MayGrant tiny_calls start h (asked h t k w)
is_granted h t k w live next two small free = record { live = live; next = next; ready = empty_ready k w two small; fits = record { accesses = refl; reply = refl }; unblocked = free }

begun_legal : Legal tiny_calls start begun
begun_legal = (
  record { next = refl; live = λ q e. absurd (none_some q e) },
  (
    record { next = refl; live = λ q e. subst (IsLive tiny_calls start.transaction (Begin 1 None ∷ [])) (same_some 1 q e) refl },
    (record { next = refl; live = λ q e. absurd (none_some q e) }, tt),
  ),
)

pub directory_legal : Legal tiny_calls start with_directory
directory_legal = (is_granted begun 2 2 (Mkdir None 0) refl (omega arith) (omega arith) (omega arith) refl, begun_legal)

pub neighbour_legal : Legal tiny_calls start (Call neighbour ∷ with_directory)
neighbour_legal = (
  is_granted with_directory 3 3 (Create None 1) refl (omega arith) (omega arith) (omega arith) refl,
  directory_legal,
)

pub child_legal : Legal tiny_calls start child_committed
child_legal = (
  record { live = refl; no_child = refl },
  neighbour_legal,
)

pub file_legal : Legal tiny_calls start with_file
file_legal = (
  is_granted child_committed 1 4 (Create (Some 0) 2) refl (omega arith) (omega arith) (omega arith) refl,
  child_legal,
)

pub interleaved_legal : Legal tiny_calls start interleaved
interleaved_legal = (
  record { live = refl; no_child = refl },
  (
    refl,
    (
      (1, asked child_committed 1 4 (Create (Some 0) 2), record { live = refl; no_child = refl; target = refl }, refl),
      file_legal,
    ),
  ),
)
