-- The texts of what calls reply, and of what a tree holds (docs/SCRIPT.md).
use Rattle.std.specs.Prelude.{ℕ, ◌||◌, ◌==◌, Bool, true, false, nat_le, List, [], ◌∷◌, ◌++◌, length, codes, if◌then◌else◌, Option, None, Some}
use Rattle.std.specs.Fmt.{decimal}
use Rattle.std.specs.List.{filter_map, flat_map, list_any}
use Rattle.percent_encoding.specs.Percent.{percent_encode_byte}
use Rattle.ft_path.specs.Errno.{errno_name}
use Rattle.ft_cells.specs.declared.node.Kind.{Kind}
use Rattle.ft_cells.specs.declared.node.Kind.TheVariants.{Dir, File, Link}
use Rattle.ft_cells.specs.declared.node.Form.TheVariants as forms
use Rattle.ft_cells.specs.declared.node.Node.{Node}
use Rattle.ft_cells.specs.declared.node.Node.TheVariants as nodes
use Rattle.ft_cells.specs.Nodes.{number_of}
use Rattle.ft_cells.specs.declared.open_file.AccessMode.{AccessMode}
use Rattle.ft_cells.specs.declared.open_file.AccessMode.TheVariants.{ReadOnly, WriteOnly, ReadWrite}
use Rattle.ft_cells.specs.declared.row.TreeRow.{TreeRow}
use Rattle.ft_cells.specs.declared.row.TreeRow.TheVariants as rows
use Rattle.ft_cells.specs.declared.attributes.Attributes.{Attributes}
use Rattle.ft_cells.specs.declared.attributes.Timestamp.{Timestamp}
use Rattle.ft_posix.specs.declared.call.Reply.{Reply}
use Rattle.ft_posix.specs.declared.call.Reply.TheVariants.{Done, Names, Number, Bytes, Info, Failed}
use Rattle.ft_words.specs.Modes.{attributes_text, time_text}

-- The bytes 0 to 32, `%`, and those from 127 on are printed as `%` and two upper-case hexadecimal
-- digits.
abbrev pub is_coded : ℕ → Bool
is_coded b = nat_le b 32 || (b == 37) || nat_le 127 b

-- a byte so printed, any other byte as itself
abbrev pub coded_byte : ℕ → List ℕ
coded_byte b = if is_coded b then percent_encode_byte b else b ∷ []

-- all of some bytes
abbrev pub coded : List ℕ → List ℕ
coded bytes = flat_map coded_byte bytes

-- a name after a space; behind a directory's a slash, and behind a symbolic link's `@`
abbrev pub listed : List ℕ → Kind → List ℕ
listed name Dir = codes " " ++ coded name ++ codes "/"
listed name File = codes " " ++ coded name
listed name Link = codes " " ++ coded name ++ codes "@"

-- all of some names
abbrev pub listing : List (List ℕ × Kind) → List ℕ
listing names = flat_map (λ entry. listed entry.0 entry.1) names

-- bytes after a space, where there are any
abbrev pub data_text : List ℕ → List ℕ
data_text [] = []
data_text (first ∷ more) = codes " " ++ coded (first ∷ more)

-- a directory, a file or a symbolic link
abbrev pub kind_text : Kind → List ℕ
kind_text Dir = codes "dir"
kind_text File = codes "file"
kind_text Link = codes "link"

-- attributes after their name, where they are not the default ones
abbrev pub attributes_tail : Option Attributes → List ℕ
attributes_tail None = []
attributes_tail (Some attributes) = codes " attributes " ++ attributes_text attributes

-- the time of bytes after its name, where there is one
abbrev pub time_tail : Option Timestamp → List ℕ
time_tail None = []
time_tail (Some time) = codes " time " ++ time_text time

-- what a call replied: `ok` with what it tells, or the name of the error
abbrev pub reply_text : Reply → List ℕ
reply_text Done = codes "ok"
reply_text (Names names) = codes "ok " ++ decimal (length names) ++ listing names
reply_text (Number number) = codes "ok " ++ decimal number
reply_text (Bytes bytes) = codes "ok " ++ decimal (length bytes) ++ data_text bytes
reply_text (Info info) =
    codes "ok " ++ kind_text info.kind ++ codes " " ++ decimal info.number ++ codes " " ++ decimal info.links ++ codes " " ++ decimal info.size
    ++ attributes_tail info.attributes ++ time_tail info.time
reply_text (Failed errno) = errno_name errno

-- each of some lines after a line feed
abbrev pub lines_text : {A : Type 0} → (A → List ℕ) → List A → List ℕ
lines_text text_of lines = flat_map (λ line. 10 ∷ text_of line) lines

-- ---- what the tree holds

-- for reading, for writing, or for both
abbrev pub access_text : AccessMode → List ℕ
access_text ReadOnly = codes "r"
access_text WriteOnly = codes "w"
access_text ReadWrite = codes "rw"

-- a letter where a flag is set
abbrev pub flag_text : Bool → List ℕ → List ℕ
flag_text true letter = letter
flag_text false letter = []

-- a symbolic link with its target, or another file with its size and bytes
abbrev pub file_text : Bool → ℕ → ℕ → List ℕ → List ℕ
file_text true number size bytes = codes "link " ++ decimal number ++ data_text bytes
file_text false number size bytes = codes "file " ++ decimal number ++ codes " " ++ decimal size ++ data_text bytes

-- a row of a tree: a directory, an edge, a file, attributes that are not the default ones, the time
-- of bytes, or a descriptor. Which numbers are those of symbolic links the row itself does not say.
abbrev pub row_text : (ℕ → Bool) → TreeRow → List ℕ
row_text is_link (rows.Dir number) = codes "dir " ++ decimal number
row_text is_link (rows.Edge entry node) = codes "edge " ++ decimal entry.dir ++ codes " " ++ coded entry.name ++ codes " " ++ decimal (number_of node)
row_text is_link (rows.File number size bytes) = file_text (is_link number) number size bytes
row_text is_link (rows.Attributes number attributes) = codes "attributes " ++ decimal number ++ codes " " ++ attributes_text attributes
row_text is_link (rows.Time file time) = codes "time " ++ decimal file ++ codes " " ++ time_text time
row_text is_link (rows.Fd fd file access append offset) = codes "fd " ++ decimal fd ++ codes " " ++ decimal file ++ codes " " ++ access_text access ++ flag_text append (codes "a") ++ codes " " ++ decimal offset

-- how many rows there are, and the rows
abbrev pub rows_text : (ℕ → Bool) → List TreeRow → List ℕ
rows_text is_link rows = codes "tree " ++ decimal (length rows) ++ lines_text (row_text is_link) rows

-- the number of a symbolic link
abbrev pub link_of : Node → Option ℕ
link_of (nodes.Dir dir) = None
link_of (nodes.File forms.Regular file) = None
link_of (nodes.File forms.Link file) = Some file

-- that of the symbolic link to which an edge leads
abbrev pub link_in : TreeRow → Option ℕ
link_in (rows.Dir number) = None
link_in (rows.Edge entry node) = link_of node
link_in (rows.File number size bytes) = None
link_in (rows.Attributes number attributes) = None
link_in (rows.Time file time) = None
link_in (rows.Fd fd file access append offset) = None

-- an edge leads to a symbolic link of this number
abbrev pub is_link : List TreeRow → ℕ → Bool
is_link rows number = list_any (λ link. number == link) (filter_map link_in rows)

-- what a tree holds
abbrev pub tree_text : List TreeRow → List ℕ
tree_text rows = rows_text (is_link rows) rows
