-- The limits of a core: of its tree, as POSIX has them of a file system (POSIX.1-2017, System
-- Interfaces, pathconf: FILESIZEBITS and LINK_MAX), and of what happens. (Their values are rules of
-- this project.)
use Rattle.std.specs.Prelude.{ℕ, Bool, ◌&&◌, nat_le}
use Rattle.ft_body.specs.declared.TheConstants.{LARGEST_SIZE}
use Rattle.ft_cells.specs.declared.limits.TreeLimits.{TreeLimits}
use Rattle.ft_cells.specs.Limits.{default_limits as default_of_tree}
use Rattle.ft_forest.specs.declared.TheConstants.{DEFAULT_DEPTH, DEFAULT_TRANSACTIONS, MOST_TRANSACTIONS}
use Rattle.ft_core.specs.declared.TheConstants.{DEFAULT_CALLS, MOST_CALLS, MOST_DEPTH, MOST_LINKS}
use Rattle.ft_core.specs.declared.limits.Limits.{Limits}

-- the limits of a history: how deep a transaction may be, and how many transactions and granted
-- calls there may be since the base
pub record HistoryLimits : Type 0 where
  pub depth : ℕ
  pub transactions : ℕ
  pub calls : ℕ

-- those of a tree
abbrev pub of_tree : Limits → TreeLimits
of_tree l = record { file_size = l.file_size; links = l.links }

-- those of a history
abbrev pub of_history : Limits → HistoryLimits
of_history l = record { depth = l.depth; transactions = l.transactions; calls = l.calls }

-- if nobody asks for more: files of a mebibyte with 1,000 links, transactions 64 deep, 100,000 of
-- them, and 1,000,000 calls
abbrev pub default_limits : Limits
default_limits = record {
  file_size = default_of_tree.file_size;
  links = default_of_tree.links;
  depth = DEFAULT_DEPTH;
  transactions = DEFAULT_TRANSACTIONS;
  calls = DEFAULT_CALLS;
}

-- the greatest: files of 2^47 bytes with 2^32 links, transactions 4,096 deep, 2^62 of them, and
-- 2^62 calls
abbrev pub greatest_limits : Limits
greatest_limits = record { file_size = LARGEST_SIZE; links = MOST_LINKS; depth = MOST_DEPTH; transactions = MOST_TRANSACTIONS; calls = MOST_CALLS }

-- each limit is at most that of the others
abbrev pub are_within : Limits → Limits → Bool
are_within l most =
    nat_le l.file_size most.file_size && nat_le l.links most.links && nat_le l.depth most.depth
    && nat_le l.transactions most.transactions && nat_le l.calls most.calls
