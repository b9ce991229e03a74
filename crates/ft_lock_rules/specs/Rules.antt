-- By which rule a lock blocks a call.
use Rattle.std.specs.Prelude.{Bool, true, false}
use Rattle.ft_lock_rules.specs.declared.rule.Rule.{Rule}
use Rattle.ft_lock_rules.specs.declared.rule.Rule.TheVariants.{Profile, Moss}

-- a lock that an ancestor holds blocks too
abbrev pub is_strict : Rule → Bool
is_strict Profile = false
is_strict Moss = true
