-- The outcome of a call that is tried on the parts of a core.
use Rattle.std.specs.Prelude.{◌≡◌, ◌≢◌, ℕ, List, []}
use Rattle.ft_posix.specs.declared.call.Call.{Call}
use Rattle.ft_posix.specs.Accesses.{accesses_of}
use Rattle.ft_posix.specs.Stored.{outcome}
use Rattle.ft_lock_rules.specs.declared.rule.Rule.{Rule}
use Rattle.ft_lock_rules.specs.Locks.{AreBlockers}
use Rattle.ft_core.specs.declared.parts.Parts.{Parts}
use Rattle.ft_core.specs.declared.parts.Made.{Made}
use Rattle.ft_core.specs.declared.parts.Tried.{Tried}
use Rattle.ft_core.specs.declared.parts.Tried.TheVariants.{Made as WasMade, Blocked}
use Rattle.ft_core.specs.Makes.{IsMadeOn, IsUnmade}

-- t's call with stamp k is made with the reply that it has on the cells before; nobody blocked it
pub record IsMade (rule : Rule) (old new : Parts) (t k : ℕ) (call : Call) (made : Made) : Type 0 where
  pub free : AreBlockers rule old.locks old.forest t (accesses_of old.tree k call) []
  pub reply : made.reply ≡ (outcome old.tree k call).reply
  pub made_on : IsMadeOn old new (outcome old.tree k call).writes t k (accesses_of old.tree k call)

-- these, at least one, block it, and nothing has changed
pub record IsBlocked (rule : Rule) (old new : Parts) (t k : ℕ) (call : Call) (blockers : List ℕ) : Type 0 where
  pub some : blockers ≢ []
  pub are : AreBlockers rule old.locks old.forest t (accesses_of old.tree k call) blockers
  pub unmade : IsUnmade old new

-- one of the two, if this was written of what is made
abbrev pub IsTried : Rule → Parts → Parts → ℕ → ℕ → Call → Made → Tried → Type 0
IsTried rule old new t k call made WasMade = IsMade rule old new t k call made
IsTried rule old new t k call made (Blocked blockers) = IsBlocked rule old new t k call blockers.items

-- all its accesses are given, if it was made
abbrev pub IsWhole : Parts → ℕ → Call → Made → Tried → Type 0
IsWhole old k call made WasMade = made.accesses.items ≡ accesses_of old.tree k call
IsWhole old k call made (Blocked blockers) = Unit {0}
