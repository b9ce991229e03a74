-- The target of an entry: a number with its kind (POSIX.1-2017, Base Definitions, 3, Directory
-- Entry: an entry associates a name with a file). Kinds never change, so a node says no more than
-- its number does, and no law on cells needs a premise about kinds.
-- Numbers name directories, files and descriptors. The root is 1, and what a call makes or opens
-- has the stamp of the call. That is a rule of this project: POSIX leaves file serial numbers free,
-- and gives the lowest descriptor that is free.
-- Names and the bytes of files are lists of bytes.
use Rattle.std.specs.Prelude.{◌≡◌, ℕ, zero, suc, List, map, refl}
use Rattle.std.specs.Coded.{Coded, code_by, coded×, coded_ℕ}
use Rattle.ft_cells.specs.declared.node.Kind.{Kind}
use Rattle.ft_cells.specs.declared.node.Kind.TheVariants.{Dir as DirKind, File as FileKind, Link as LinkKind}
use Rattle.ft_cells.specs.declared.node.Form.TheVariants.{Regular, Link}
use Rattle.ft_cells.specs.declared.node.Node.{Node}
use Rattle.ft_cells.specs.declared.node.Node.TheVariants.{Dir as DirNode, File as FileNode}

-- the number of a node
abbrev pub number_of : Node → ℕ
number_of (DirNode i) = i
number_of (FileNode form i) = i

-- the kind of a node
abbrev pub kind_of_node : Node → Kind
kind_of_node (DirNode i) = DirKind
kind_of_node (FileNode Regular i) = FileKind
kind_of_node (FileNode Link i) = LinkKind

-- names with the kinds of the nodes that they lead to
abbrev pub with_kinds : List (List ℕ × Node) → List (List ℕ × Kind)
with_kinds es = map (λ e. (e.0, kind_of_node e.1)) es

-- a node is coded as its kind and its number, so that clauses may see it as part of other values. A
-- reader does not need to know this.
abbrev pub node_to_pair : Node → ℕ × ℕ
node_to_pair (DirNode i) = (0, i)
node_to_pair (FileNode Regular i) = (1, i)
node_to_pair (FileNode Link i) = (2, i)

-- the node of such a pair
abbrev pub node_from : ℕ → ℕ → Node
node_from zero i = DirNode i
node_from (suc zero) i = FileNode Regular i
node_from (suc (suc kind)) i = FileNode Link i

-- the node of a pair is the node from which the pair was made
abbrev pub node_back : (n : Node) → node_from (node_to_pair n).0 (node_to_pair n).1 ≡ n
node_back (DirNode i) = refl
node_back (FileNode Regular i) = refl
node_back (FileNode Link i) = refl

-- how a node is coded
abbrev pub coded_node : Coded Node
coded_node = code_by (ℕ × ℕ) (coded× coded_ℕ coded_ℕ) node_to_pair (λ p. node_from p.0 p.1) node_back
