-- The flags that set limits, in the words of the crate `clap`.
use Rattle.std.specs.Prelude.{◌≡◌, ◌⊎◌, ℕ, List, codes, Option, None, Some}
use Rattle.clap.specs.Words.{App, Row, Rule, Text, first_of, new_rule, with_rule}
use Rattle.ft_core.specs.Limits.{greatest_limits}
use Rattle.ft_needs.specs.Values.{limit_of, size_of}
use Rattle.ft_command.specs.declared.limits.Flag.{Flag}
use Rattle.ft_command.specs.declared.limits.Flag.TheVariants.{LargestFile, MostCalls, MostTransactions, Deepest}
use Rattle.ft_command.specs.declared.limits.AskedLimits.{AskedLimits}

-- the name of a flag
abbrev pub flag_name : Flag → Text
flag_name LargestFile = codes "largest-file"
flag_name MostCalls = codes "most-calls"
flag_name MostTransactions = codes "most-transactions"
flag_name Deepest = codes "deepest"

-- a flag with a value
abbrev pub limit_rule : Flag → Rule
limit_rule flag = record (new_rule (flag_name flag)) { long = Some (flag_name flag); value_names = 1 }

-- a command that may have each of them
abbrev pub limited : App → App
limited app = with_rule (with_rule (with_rule (with_rule app (limit_rule LargestFile)) (limit_rule MostCalls)) (limit_rule MostTransactions)) (limit_rule Deepest)

-- the limit that the value of a flag gives: a size may have a unit after it
abbrev pub flag_limit : Flag → Text → Option ℕ
flag_limit LargestFile text = size_of text greatest_limits.file_size
flag_limit MostCalls text = limit_of text greatest_limits.calls
flag_limit MostTransactions text = limit_of text greatest_limits.transactions
flag_limit Deepest text = limit_of text greatest_limits.depth

-- the limit that a flag requests, if it was found, by what was found of it
abbrev pub IsAskedBy : Flag → Option Text → Option ℕ → Type 0
IsAskedBy flag None asked = asked ≡ None
IsAskedBy flag (Some text) asked = (limit : ℕ) × (asked ≡ Some limit) × (flag_limit flag text ≡ Some limit)

-- the same, by all that was found
abbrev pub IsAsked : Flag → List Row → Option ℕ → Type 0
IsAsked flag found asked = IsAskedBy flag (first_of (flag_name flag) found) asked

-- each limit is asked for by its flag
abbrev pub TellsLimits : List Row → AskedLimits → Type 0
TellsLimits found asked =
    IsAsked LargestFile found asked.file_size × IsAsked MostCalls found asked.calls × IsAsked MostTransactions found asked.transactions × IsAsked Deepest found asked.depth

-- a flag was found with a value that is no limit
abbrev pub IsBadLimit : Flag → List Row → Type 0
IsBadLimit flag found = (text : Text) × (first_of (flag_name flag) found ≡ Some text) × (flag_limit flag text ≡ None)

-- one of them was
abbrev pub HasBadLimit : List Row → Type 0
HasBadLimit found = (flag : Flag) × IsBadLimit flag found
