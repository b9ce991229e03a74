-- The answer about the locks of a transaction.
use Rattle.std.specs.Prelude.{◌≡◌, ◌⊎◌, ◌==◌, ℕ, List, [], ◌∷◌, ◌++◌, filter, length, Option, Some, None}
use Rattle.ft_lock_rules.specs.declared.line.LockLine.{LockLine}
use Rattle.ft_core.specs.States.{State}
use Rattle.ft_core.specs.Reports.{AreLockLines}
use Rattle.ft_line.specs.Reports.{locks_text, attribute_locks_text}
use Rattle.ft_session.specs.Buffers.{filled}
use Rattle.ft_session.specs.declared.session.Session.{Session}
use Rattle.nuzolged.specs.declared.nuz_answer.NuzAnswer.{NuzAnswer}
use Rattle.nuzolged.specs.Numbers.{told_size, no_memory, closed}

-- those of these locks that a transaction owns
abbrev pub owned_by : ℕ → List LockLine → List LockLine
owned_by txn locks = filter (λ lock. lock.owner == txn) locks

-- the reports `locks` and `attributes` of a script (docs/SCRIPT.md), each with its line feed, of
-- exactly these locks
abbrev pub text_of : List LockLine → List ℕ
text_of locks = locks_text locks ++ 10 ∷ (attribute_locks_text locks ++ 10 ∷ [])

-- the text of those locks of a state that a transaction owns
abbrev pub IsTextOfLocks : State → ℕ → List ℕ → Type 0
IsTextOfLocks s txn text = (locks : List LockLine) × AreLockLines s locks × (text ≡ text_of (owned_by txn locks))

-- The text is copied, and its length told; or there was no memory for it.
abbrev pub HasLocks : State → ℕ → NuzAnswer → List ℕ → List ℕ → Type 0
HasLocks s txn told before after =
    ((text : List ℕ) × IsTextOfLocks s txn text × (told ≡ told_size (length text)) × (after ≡ filled text before)) ⊎ ((told ≡ no_memory) × (after ≡ before))

-- the same through a handle, which may be closed
abbrev pub AreLocksTold : Option Session → ℕ → NuzAnswer → List ℕ → List ℕ → Type 0
AreLocksTold None txn told before after = (told ≡ closed) × (after ≡ before)
AreLocksTold (Some session) txn told before after = HasLocks session.core.state txn told before after
