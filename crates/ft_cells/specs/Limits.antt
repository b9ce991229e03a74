-- The limits of a tree if no others are set (POSIX.1-2017, System Interfaces, pathconf, which
-- leaves FILESIZEBITS and LINK_MAX to the file system; these are rules of this project).
use Rattle.ft_cells.specs.declared.TheConstants.{DEFAULT_FILE_SIZE, DEFAULT_LINKS}
use Rattle.ft_cells.specs.declared.limits.TreeLimits.{TreeLimits}

-- files of a mebibyte, with 1,000 links
abbrev pub default_limits : TreeLimits
default_limits = record { file_size = DEFAULT_FILE_SIZE; links = DEFAULT_LINKS }
