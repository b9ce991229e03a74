-- Where a path leads: pathname resolution (POSIX.1-2017, Base Definitions, 4.13). There is one look
-- per component, and one for each symbolic link that is followed. That relative paths also start at
-- the root is a rule of this project.
use Rattle.std.specs.Prelude.{ℕ, zero, suc, Bool, cond, ◌==◌, ◌||◌, List, [], ◌∷◌, ◌++◌, Option, Some, None, unwrap_or, Result, Ok, Err}
use Rattle.std.specs.Option.{option_map}
use Rattle.ft_path.specs.Name.{is_dot, is_dot_dot}
use Rattle.ft_tree.specs.declared.reader.TheConstants.{MOST_FOLLOWED}
use Rattle.ft_path.specs.FilePath.{target_parts, begins_with_slash}
use Rattle.ft_path.specs.declared.path.Parts.{Parts}
use Rattle.ft_path.specs.declared.errno.Errno.{Errno}
use Rattle.ft_path.specs.declared.errno.Errno.TheVariants.{ENOENT, ENOTDIR, ELOOP}
use Rattle.ft_cells.specs.Entries.{entry_at}
use Rattle.ft_cells.specs.declared.node.Found.{Found}
use Rattle.ft_cells.specs.declared.node.Found.TheVariants.{Place, Whole}
use Rattle.ft_cells.specs.declared.node.Node.{Node}
use Rattle.ft_cells.specs.declared.node.Node.TheVariants.{Dir as DirNode, File as FileNode}
use Rattle.ft_cells.specs.declared.node.Form.TheVariants.{Regular, Link}
use Rattle.ft_cells.specs.declared.node.PathEnd.{PathEnd}
use Rattle.ft_cells.specs.declared.node.PathEnd.TheVariants.{Named, Itself}
use Rattle.ft_tree.specs.declared.reader.Halt.{Halt}
use Rattle.ft_tree.specs.declared.reader.Halt.TheVariants.{Fault, Onto}
use Rattle.ft_tree.specs.declared.reader.Way.{Way}
use Rattle.ft_tree.specs.declared.reader.Route.{Route}
use Rattle.ft_tree.specs.declared.reader.Following.{Following}
use Rattle.ft_tree.specs.declared.reader.Met.{Met}
use Rattle.ft_tree.specs.declared.reader.Leg.{Leg as LegOf}
use Rattle.ft_tree.specs.declared.reader.Leg.TheVariants.{Ends as EndsOf, Meets as MeetsOf}
use Rattle.ft_cells.specs.declared.cell.Cell.TheVariants.{Entry, Parent, Bytes}
use Rattle.ft_cells.specs.Nodes.{number_of}
use Rattle.ft_cells.specs.Looks.{Looks, Answer, Look, then, or_else}

-- the end of a leg of a walk: the end of the walk, or a symbolic link that is to be followed. The
-- link comes with its directory, and with the names after it.
pub data Leg : Type 0 where
  Ends : Result PathEnd Errno → Leg
  Meets : ℕ → ℕ → List (List ℕ) → Leg

-- the parent of a directory; the parent of the root is the root (4.13: dot-dot in the root may be
-- the root)
abbrev pub up : ℕ → Looks ℕ
up dir = cond (dir == 1) (Answer 1) (Look (Parent dir) (λ p. Answer (unwrap_or p 1)))

-- an entry on the way must be a directory (4.13, the path prefix): a missing entry is ENOENT, a
-- file is ENOTDIR, and a link is followed
abbrev pub passed : Option Node → Result ℕ Halt
passed None = Err (Fault ENOENT)
passed (Some (DirNode i)) = Ok i
passed (Some (FileNode Regular i)) = Err (Fault ENOTDIR)
passed (Some (FileNode Link i)) = Err (Onto i)

-- a component that is not the last: `.` stays, `..` goes up, and a name is looked up
abbrev pub inner : ℕ → List ℕ → Looks (Result ℕ Halt)
inner dir name = cond (is_dot name) (Answer (Ok dir)) (cond (is_dot_dot name) (then (up dir) (λ p. Answer (Ok p))) (Look (Entry (entry_at dir name)) (λ x. Answer (passed x))))

-- what a last name leads to. A file with a slash after it is ENOTDIR. A link is followed if the
-- call says so, or if a slash follows it (4.13, on trailing slashes and on links).
abbrev pub reached : ℕ → List ℕ → Bool → Bool → Option Node → Result PathEnd Halt
reached dir name follow slash None = Ok (Named (entry_at dir name) None slash)
reached dir name follow slash (Some (DirNode i)) = Ok (Named (entry_at dir name) (Some (DirNode i)) slash)
reached dir name follow slash (Some (FileNode Regular i)) = cond slash (Err (Fault ENOTDIR)) (Ok (Named (entry_at dir name) (Some (FileNode Regular i)) slash))
reached dir name follow slash (Some (FileNode Link i)) = cond (follow || slash) (Err (Onto i)) (Ok (Named (entry_at dir name) (Some (FileNode Link i)) slash))

-- the last component: `.` and `..` lead to a directory itself, and a name to its place
abbrev pub last : ℕ → List ℕ → Bool → Bool → Looks (Result PathEnd Halt)
last dir name follow slash = cond (is_dot name) (Answer (Ok (Itself dir))) (cond (is_dot_dot name) (then (up dir) (λ p. Answer (Ok (Itself p)))) (Look (Entry (entry_at dir name)) (λ x. Answer (reached dir name follow slash x))))

-- a leg with its names copied instead of borrowed. A reader does not need to know this.
abbrev pub leg_in : LegOf → Leg
leg_in (EndsOf end) = Ends end
leg_in (MeetsOf met) = Meets met.link met.dir met.names.now

-- the end of a leg in a directory, with these names left
abbrev pub halted : ℕ → List (List ℕ) → Halt → Leg
halted dir names (Fault e) = Ends (Err e)
halted dir names (Onto link) = Meets link dir names

-- the leg from a directory: a component, and those after it, up to a link that is to be followed
abbrev pub leg_from : ℕ → List ℕ → List (List ℕ) → Bool → Bool → Looks Leg
leg_from dir name [] follow slash = then (last dir name follow slash) (or_else (halted dir []) (λ spot. Answer (Ends (Ok spot))))
leg_from dir name (next ∷ more) follow slash = then (inner dir name) (or_else (halted dir (next ∷ more)) (λ i. leg_from i next more follow slash))

-- the leg from a directory; without any component it ends at the directory
abbrev pub leg : ℕ → List (List ℕ) → Bool → Bool → Looks Leg
leg dir [] follow slash = Answer (Ends (Ok (Itself dir)))
leg dir (name ∷ names) follow slash = leg_from dir name names follow slash

-- the leg along a route. A reader does not need to know this.
abbrev pub leg_along : Route → Bool → Looks Leg
leg_along route follow = leg route.start route.names.now follow route.slash

-- a target that begins with a slash starts at the root, and any other target starts in the
-- directory of its link
abbrev pub start_of : ℕ → List ℕ → ℕ
start_of dir target = cond (begins_with_slash target) 1 dir

-- whether a slash follows the last name after a target replaces its link; a slash after the target
-- counts if no name is left after it
abbrev pub slash_after : Bool → List (List ℕ) → Bool → Bool
slash_after slash [] behind = slash || behind
slash_after slash (name ∷ names) behind = slash

-- the way of a target with these parts and then the names that were left, or the error of the
-- target
abbrev pub way_of : ℕ → List (List ℕ) → Bool → List ℕ → Result Parts Errno → Result Way Errno
way_of dir names slash target (Ok parts) = Ok (record { start = start_of dir target; names = parts.names ++ names; slash = slash_after slash names parts.trailing })
way_of dir names slash target (Err e) = Err e

-- the way from a link in a directory: its target, and then the names that were left (4.13). That
-- the way may be longer than {PATH_MAX} is a choice of this project, which POSIX leaves open.
abbrev pub way_behind : ℕ → List (List ℕ) → Bool → List ℕ → Result Way Errno
way_behind dir names slash target = way_of dir names slash target (target_parts target)

-- a walk goes on if a leg has met a link: the target of the link is looked at, and is followed
abbrev pub onward : (ℕ → List (List ℕ) → Bool → Looks (Result PathEnd Errno)) → Bool → Leg → Looks (Result PathEnd Errno)
onward go slash (Ends end) = Answer end
onward go slash (Meets link dir names) =
    Look (Bytes link) (λ target. or_else Err (λ (way : Way). go way.start way.names way.slash) (way_behind dir names slash target.bytes))

-- the end of a walk that may follow no more links: a link that is met is ELOOP
abbrev pub ended : Leg → Result PathEnd Errno
ended (Ends end) = end
ended (Meets link dir names) = Err ELOOP

-- the walk from a directory that follows at most this many links
abbrev pub walk_on : ℕ → Bool → ℕ → List (List ℕ) → Bool → Looks (Result PathEnd Errno)
walk_on zero follow dir names slash = then (leg dir names follow slash) (λ end. Answer (ended end))
walk_on (suc left) follow dir names slash = then (leg dir names follow slash) (onward (walk_on left follow) slash)

-- the walk along a route that may still follow some links. A reader does not need to know this.
abbrev pub rest_along : Following → Route → Looks (Result PathEnd Errno)
rest_along links route = walk_on links.left links.last route.start route.names.now route.slash

-- the walk from a link that was met. A reader does not need to know this.
abbrev pub rest_from : Following → Met → Bool → Looks (Result PathEnd Errno)
rest_from links met slash = onward (walk_on links.left links.last) slash (Meets met.link met.dir met.names.now)

-- the walk of components from a directory: it follows at most 40 links ({SYMLOOP_MAX}), and it
-- follows the last component if the call says so
abbrev pub walk_from : Bool → ℕ → List (List ℕ) → Bool → Looks (Result PathEnd Errno)
walk_from follow dir names slash = walk_on MOST_FOLLOWED follow dir names slash

-- the walk along a route: from its start, over its names, and with its slash
abbrev pub walk_along : Bool → Route → Looks (Result PathEnd Errno)
walk_along follow route = walk_from follow route.start route.names.now route.slash

-- the walk of the components of a path, from the root
abbrev pub walk : Bool → List (List ℕ) → Bool → Looks (Result PathEnd Errno)
walk follow names slash = walk_from follow 1 names slash

-- a place with the number in it, or a whole directory
abbrev pub found_at : PathEnd → Found
found_at (Named entry x slash) = Place entry.dir (option_map number_of x)
found_at (Itself dir) = Whole dir

-- what `lookup` reports of the end of a walk
abbrev pub found : Result PathEnd Errno → Result Found Errno
found (Ok spot) = Ok (found_at spot)
found (Err e) = Err e
