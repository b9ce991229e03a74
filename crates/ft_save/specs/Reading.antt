-- How the report of what the tree holds is read with which replies end.
use Rattle.std.specs.Prelude.{◌==◌, ◌-◌, ◌&&◌, not, nat_lt, ℕ, ℤ, Bool, false, zero, suc, List, [], ◌∷◌, codes, length, if◌then◌else◌, Option, None, Some, option_and_then, option_map}
use Rattle.std.specs.List.{slice_get}
use Rattle.std.specs.Option.{option_map_or}
use Rattle.std.specs.Str.{bytes_eq}
use Rattle.percent_encoding.specs.Percent.{percent_decode}
use Rattle.ft_words.specs.Spelling.{parse_i64, lines_of, words_of, parse_u64, parse_u32}
use Rattle.ft_words.specs.Modes.{parse_mode}
use Rattle.ft_words.specs.Calls.{both, last_word, only, three}
use Rattle.ft_dot.specs.Reading.{behind}
use Rattle.ft_save.specs.declared.row.Row.{Row}
use Rattle.ft_save.specs.declared.row.Row.TheVariants.{Folder, Edge, File, Attributes, Time, Descriptor}
use Rattle.ft_cells.specs.declared.attributes.TheConstants.{MOST_NANOSECONDS}
use Rattle.ft_cells.specs.declared.node.Form.TheVariants.{Regular, Link}
use Rattle.ft_path.specs.declared.TheConstants.{LONGEST_PATH}
use Rattle.ft_path.specs.Name.{has_nul}

-- `tree N`
abbrev pub count_of : List (List ℕ) → Option ℕ
count_of words = option_and_then (only parse_u64) (behind (codes "tree") words)

-- ---- rows, by the words behind their names

-- `NODE`
abbrev pub folder_of : List (List ℕ) → Option Row
folder_of words = option_map Folder (only parse_u64 words)

-- `FOLDER NAME NODE`
abbrev pub edge_of : List (List ℕ) → Option Row
edge_of words = option_map (λ e. Edge e.0 (percent_decode e.1) e.2) (three parse_u64 Some (only parse_u64) words)

-- a file has as many bytes as its row says
abbrev pub sized : ℕ → ℕ → List ℕ → Option Row
sized node size bytes = if length bytes == size then Some (File node Regular bytes) else None

-- `NODE SIZE DATA`; the data may be absent with its space
abbrev pub file_of : List (List ℕ) → Option Row
file_of words = option_and_then (λ f. sized f.0 f.1 (percent_decode f.2)) (three parse_u64 parse_u64 last_word words)

-- a symbolic link can lead there: it is a path of a tree, whatever names are in it
abbrev pub is_target : List ℕ → Bool
is_target bytes = not (length bytes == 0) && not (nat_lt LONGEST_PATH (length bytes)) && not (has_nul bytes)

-- a symbolic link that can be
abbrev pub linked : ℕ → List ℕ → Option Row
linked node bytes = if is_target bytes then Some (File node Link bytes) else None

-- `NODE TARGET`
abbrev pub link_of : List (List ℕ) → Option Row
link_of words = option_and_then (λ l. linked l.0 (percent_decode l.1)) (both parse_u64 last_word words)

-- the attributes of a number
abbrev pub with_attributes : ℕ → ℕ → ℕ → ℕ → Row
with_attributes node mode owner group = Attributes node (record { mode = mode; owner = owner; group = group })

-- `NODE MODE OWNER GROUP`
abbrev pub attributes_of : List (List ℕ) → Option Row
attributes_of words = option_map (λ a. with_attributes a.0 a.1 a.2.0 a.2.1) (three parse_u64 parse_mode (both parse_u32 (only parse_u32)) words)

-- a time that can be: it has less than a second of nanoseconds
abbrev pub timed : ℕ → ℤ → ℕ → Option Row
timed node seconds nanoseconds =
    if nat_lt MOST_NANOSECONDS nanoseconds then None else Some (Time node (record { seconds = seconds; nanoseconds = nanoseconds }))

-- `NODE SECONDS NANOSECONDS`
abbrev pub time_of : List (List ℕ) → Option Row
time_of words = option_and_then (λ t. timed t.0 t.1 t.2) (three parse_u64 parse_i64 (only parse_u32) words)

-- `FD FILE ACCESS OFFSET`
abbrev pub fd_of : List (List ℕ) → Option Row
fd_of words = option_map (λ f. Descriptor) (three parse_u64 parse_u64 (both Some (only parse_u64)) words)

-- the row that the words after its name describe
abbrev pub row_by : List ℕ → List (List ℕ) → Option Row
row_by word words =
    if bytes_eq word (codes "dir") then folder_of words
    else (if bytes_eq word (codes "edge") then edge_of words
    else (if bytes_eq word (codes "file") then file_of words
    else (if bytes_eq word (codes "link") then link_of words
    else (if bytes_eq word (codes "attributes") then attributes_of words
    else (if bytes_eq word (codes "time") then time_of words
    else (if bytes_eq word (codes "fd") then fd_of words else None))))))

-- the row that a line describes, by its words
abbrev pub row_of : List (List ℕ) → Option Row
row_of [] = None
row_of (word ∷ words) = row_by word words

-- ---- reports

-- lines that are exactly so many rows
abbrev pub rows_of : ℕ → List (List ℕ) → Option (List Row)
rows_of zero [] = Some []
rows_of zero (line ∷ lines) = None
rows_of (suc count) [] = None
rows_of (suc count) (line ∷ lines) = option_and_then (λ row. option_map (λ rows. row ∷ rows) (rows_of count lines)) (row_of (words_of line))

-- lines that are a report: `tree N` and N rows
abbrev pub tree_at : List ℕ → List (List ℕ) → Option (List Row)
tree_at line lines = option_and_then (λ count. rows_of count lines) (count_of (words_of line))

-- one of two, the second if it is there
abbrev pub later : {A : Type 0} → Option A → Option A → Option A
later first None = first
later first (Some other) = Some other

-- The rows of the report with which lines end.
abbrev pub last_tree : List (List ℕ) → Option (List Row)
last_tree [] = None
last_tree (line ∷ lines) = later (tree_at line lines) (last_tree lines)

-- the last byte is a line feed
abbrev pub ends_a_line : List ℕ → Bool
ends_a_line bytes = option_map_or (λ byte. byte == 10) (slice_get bytes (length bytes - 1)) false

-- The rows of the report with which replies end. Its last line is whole, with its line feed.
abbrev pub tree_told : List ℕ → Option (List Row)
tree_told bytes = if ends_a_line bytes then last_tree (lines_of bytes) else None
