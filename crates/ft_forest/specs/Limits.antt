-- What a forest allows if nobody sets other limits (rules of this project).
use Rattle.ft_forest.specs.declared.TheConstants.{DEFAULT_TRANSACTIONS, DEFAULT_DEPTH}
use Rattle.ft_forest.specs.declared.limits.ForestLimits.{ForestLimits}

-- 100,000 transactions since the base, at most 64 deep
abbrev pub default_limits : ForestLimits
default_limits = record { transactions = DEFAULT_TRANSACTIONS; depth = DEFAULT_DEPTH }
