-- How a script spells its transaction, its descriptors and its paths.
use Rattle.std.specs.Prelude.{◌≡◌, ◌≤◌, ◌||◌, ◌==◌, ℕ, Bool, true, false, not, List, [], ◌∷◌, ◌++◌, codes, length, nat_eq, if◌then◌else◌}
use Rattle.std.specs.List.{ends_with, list_all}
use Rattle.ft_path.specs.declared.TheConstants.{LONGEST_PATH}
use Rattle.ft_posix.specs.declared.call.Call.{Call}
use Rattle.ft_posix.specs.declared.call.Call.TheVariants as calls
use Rattle.ft_words.specs.CallTexts.{call_text}
use Rattle.ft_words.specs.Modes.{owner_text, time_text}
use Rattle.ft_words.specs.Texts.{data_text}
use Rattle.ft_load.specs.declared.spelling.Spelling.{Spelling}

-- ---- the parts of a spelling

-- the script has names, and is for any core; if not, it has numbers, and is for a new core
abbrev pub has_names : Spelling → Bool
has_names spelling = spelling.has_names

-- The path of the directory that holds everything, or no bytes if that is the root. It comes before
-- each path of the source.
abbrev pub top_of : Spelling → List ℕ
top_of spelling = spelling.top.now

-- ---- lines

-- the line that begins the transaction: it has the name `load`, or is number 1 of a new core
abbrev pub begin_line : Spelling → List ℕ
begin_line spelling = if has_names spelling then codes "begin as load\n" else codes "begin\n"

-- the line that commits it
abbrev pub commit_line : Spelling → List ℕ
commit_line spelling = if has_names spelling then codes "commit load\n" else codes "commit 1\n"

-- a call with the name `file` in place of a descriptor; an `open` gives its descriptor that name
abbrev pub named_text : Call → List ℕ
named_text (calls.Open path flags) = call_text (calls.Open path flags) ++ codes " as file"
named_text (calls.Close fd) = codes "close file"
named_text (calls.Write fd bytes) = codes "write file" ++ data_text bytes
named_text (calls.Fchown fd owner group) = codes "fchown file " ++ owner_text owner ++ codes " " ++ owner_text group
named_text (calls.Futime fd time) = codes "futime file " ++ time_text time
named_text other = call_text other

-- a call of the transaction, on its line
abbrev pub call_line : Spelling → Call → List ℕ
call_line spelling call = if has_names spelling then codes "load " ++ named_text call ++ 10 ∷ [] else codes "1 " ++ call_text call ++ 10 ∷ []

-- ---- paths

-- a path without the slashes at its end
abbrev pub IsWithoutLastSlashes : List ℕ → List ℕ → Type 0
IsWithoutLastSlashes path front =
    (slashes : List ℕ) × (path ≡ front ++ slashes) × (list_all (λ byte. byte == 47) slashes ≡ true) × (ends_with nat_eq front (47 ∷ []) ≡ false)

-- the path has at most 4,095 bytes, and so a tree can have it
abbrev pub PathFits : List ℕ → Type 0
PathFits path = length path ≤ LONGEST_PATH

-- the path in the tree of what is at this path below the directory that holds everything
abbrev pub below : Spelling → List ℕ → List ℕ
below spelling path = top_of spelling ++ path

-- the path of this directory
abbrev pub top_path : Spelling → List ℕ
top_path spelling = if length (top_of spelling) == 0 then codes "/" else top_of spelling

-- it is new: the script makes it, or it is the root of a new core
abbrev pub is_top_new : Spelling → Bool
is_top_new spelling = not (has_names spelling) || not (length (top_of spelling) == 0)
