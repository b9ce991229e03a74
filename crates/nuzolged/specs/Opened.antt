-- The contents of an opened handle.
use Rattle.std.specs.Prelude.{◌≡◌, ◌⊎◌, ◌==◌, ◌&&◌, ℕ, Bool, cond, true, nat_le, List, [], Option, Some, None, suc, zero, slice_index}
use Rattle.ft_lock_rules.specs.declared.rule.Rule.{Rule}
use Rattle.ft_lock_rules.specs.declared.rule.Rule.TheVariants.{Profile, Moss}
use Rattle.ft_core.specs.declared.fault.Fault.{Fault}
use Rattle.ft_core.specs.declared.fault.Fault.TheVariants.{Memory, BadLimits}
use Rattle.ft_core.specs.declared.limits.Limits.{Limits as CoreLimits}
use Rattle.ft_core.specs.Limits.{are_within, greatest_limits}
use Rattle.ft_core.specs.States.{first_state}
use Rattle.ft_session.specs.declared.last_answer.LastAnswer.TheVariants.{Text}
use Rattle.ft_session.specs.declared.session.Session.{Session}
use Rattle.nuzolged.specs.declared.handle.Handle.{Handle}
use Rattle.nuzolged.specs.declared.limits.Limits.{Limits}
use Rattle.nuzolged.specs.Numbers.{fault_number}

-- the rule of a number
abbrev pub rule_of : ℕ → Option Rule
rule_of zero = Some Profile
rule_of (suc zero) = Some Moss
rule_of (suc (suc zero)) = Some Profile
rule_of (suc (suc (suc zero))) = Some Moss
rule_of (suc (suc (suc (suc number)))) = None

-- whether calls wait behind older asks by this number
abbrev pub fair_of : ℕ → Bool
fair_of number = nat_le 2 number

-- the limits that C gives except those that are reserved
abbrev pub plain_limits : Limits → CoreLimits
plain_limits limits = record {
  file_size = limits.file_size;
  links = limits.links;
  depth = limits.depth;
  transactions = limits.transactions;
  calls = limits.calls;
}

-- nothing is asked of limits to come
abbrev pub is_zero : List ℕ → Bool
is_zero reserved = slice_index reserved 0 == 0 && slice_index reserved 1 == 0 && slice_index reserved 2 == 0

-- the limits that C gives, as a core has them; none if a reserved one is not 0, which no core has
abbrev pub limits_given : Limits → Option CoreLimits
limits_given limits = cond (is_zero limits.reserved) (Some (plain_limits limits)) None

-- why no tree has these limits: one of them is above the greatest, or there was no memory
abbrev pub fault_of_limits : CoreLimits → Fault
fault_of_limits limits = cond (are_within limits greatest_limits) Memory BadLimits

-- a core over the empty tree that grants calls by this rule, with these limits, of which nothing
-- has been asked yet
abbrev pub IsNew : Rule → CoreLimits → Session → Type 0
IsNew rule limits session = (are_within limits greatest_limits ≡ true) × (session.core.state ≡ first_state rule limits) × (session.last ≡ Text [])

-- the handle holds a session with such a core
abbrev pub HasNew : Rule → CoreLimits → Handle → Type 0
HasNew rule limits handle = (session : Session) × (handle.session ≡ Some session) × IsNew rule limits session

-- in its session calls wait behind older asks, or do not, and no transaction has asked yet
abbrev pub HasTurns : Bool → Handle → Type 0
HasTurns fair handle = (session : Session) × (handle.session ≡ Some session) × (session.is_fair ≡ fair) × (session.turns.items ≡ [])

-- the same of a tree, if there is one
abbrev pub HasTurnsIfAny : Bool → Option Handle → Type 0
HasTurnsIfAny fair None = Unit {0}
HasTurnsIfAny fair (Some handle) = HasTurns fair handle

-- There is a new tree. Or there is none: there are no such options, no tree has such limits, or
-- there was no memory.
abbrev pub IsOpened : Option Rule → Option CoreLimits → ℕ → Option Handle → Type 0
IsOpened None limits code tree = (code ≡ 1201) × (tree ≡ None)
IsOpened (Some rule) None code tree = (code ≡ 1012) × (tree ≡ None)
IsOpened (Some rule) (Some limits) code tree = ((code ≡ 0) × ((handle : Handle) × (tree ≡ Some handle) × HasNew rule limits handle)) ⊎ ((code ≡ fault_number (fault_of_limits limits)) × (tree ≡ None))

-- the same session, in which calls wait behind older asks, or do not
abbrev pub with_fair : Bool → Session → Session
with_fair fair session = record session { is_fair = fair }
