-- The meaning of a line in which names stand for numbers. (The format is this project's own:
-- docs/SCRIPT.md.)
use Rattle.std.specs.Prelude.{◌≡◌, ℕ, Bool, true, false, List, [], ◌∷◌, ◌++◌, ◌&&◌, ◌||◌, ◌-◌, suc, length, take, get_or, nat_lt, codes, if◌then◌else◌, Option, None, Some, is_some, option_and_then, option_map, option_copied}
use Rattle.std.specs.Fmt.{decimal}
use Rattle.std.specs.Option.{option_map_or}
use Rattle.std.specs.Str.{bytes_eq}
use Rattle.std.specs.Str.Lines.{strip_carriage_return}
use Rattle.ft_posix.specs.declared.call.Call.{Call}
use Rattle.ft_posix.specs.declared.call.Call.TheVariants as calls
use Rattle.ft_core.specs.declared.request.Request.TheVariants.{Begin, Sub, Retry, Ask}
use Rattle.ft_words.specs.Spelling.{words_of}
use Rattle.ft_words.specs.Calls.{descriptor_calls, look_up}
use Rattle.ft_line.specs.declared.line.ScriptLine.{ScriptLine}
use Rattle.ft_line.specs.declared.line.ScriptLine.TheVariants as line
use Rattle.ft_line.specs.Requests.{asked_by, or_bad, parse_line, txn_words}
use Rattle.ft_transfer.specs.declared.transfer.Transfer.{Transfer}
use Rattle.ft_transfer.specs.Words.{transfer_of}
use Rattle.ft_names.specs.Names.{Naming, is_name}
use Rattle.ft_names.specs.declared.meaning.LineMeaning.{LineMeaning}
use Rattle.ft_names.specs.declared.meaning.LineMeaning.TheVariants as means
use Rattle.ft_names.specs.declared.meaning.NamedLine.{NamedLine}

-- ---- words with numbers

-- a word as it is, or the digits of the number for which it stands, if it is a name
abbrev pub number_word : Naming → List ℕ → Option (List ℕ)
number_word names word = if is_name word then option_map decimal (names word) else Some word

-- words of which the first may be a name
abbrev pub number_first : Naming → List (List ℕ) → Option (List (List ℕ))
number_first names [] = Some []
number_first names (word ∷ words) = option_map (λ number. number ∷ words) (number_word names word)

-- a call, whose first argument may be a name if it is a descriptor
abbrev pub numbered_call : Naming → List (List ℕ) → Option (List (List ℕ))
numbered_call names [] = Some []
numbered_call names (verb ∷ words) = option_map (λ others. verb ∷ others) (if is_some (look_up descriptor_calls verb) then number_first names words else Some words)

-- a word that requests a new transaction, or something of one
abbrev pub is_request_word : List ℕ → Bool
is_request_word word = bytes_eq word (codes "begin") || is_some (look_up txn_words word)

-- words of which the first may be the name of a transaction, and the others are a call
abbrev pub numbered_ask : Naming → List ℕ → List (List ℕ) → Option (List (List ℕ))
numbered_ask names word words = option_and_then (λ txn. option_map (λ others. txn ∷ others) (numbered_call names words)) (number_word names word)

-- The words of a line, with numbers in place of names. After such a word, the second word may be a
-- name; in any other line, the first word and the descriptor of a call may be. `None` if a name is
-- not known.
abbrev pub numbered : Naming → List (List ℕ) → Option (List (List ℕ))
numbered names [] = None
numbered names (word ∷ words) = if is_request_word word then option_map (λ others. word ∷ others) (number_first names words) else numbered_ask names word words

-- the meaning of the words then
abbrev pub with_numbers : Naming → List (List ℕ) → ScriptLine
with_numbers names words = option_map_or (λ all. or_bad (asked_by all)) (numbered names words) line.Bad

-- a word or its number was put after the words of a text
abbrev pub PutsNumber : Naming → List ℕ → List ℕ → List ℕ → Type 0
PutsNumber names word text text_after = (number : List ℕ) × (number_word names word ≡ Some number) × (words_of text_after ≡ words_of text ++ number ∷ [])

-- words were put after those of a text
abbrev pub Puts : List ℕ → Option (List (List ℕ)) → List ℕ → Type 0
Puts text words text_after = (put : List (List ℕ)) × (words ≡ Some put) × (words_of text_after ≡ words_of text ++ put)

-- ---- a line that gives a name

-- The words before `as` and a name, and the name, if the last two of at least three words are so.
abbrev pub split_name : List (List ℕ) → Option (List (List ℕ) × List ℕ)
split_name words =
    let count = length words - 2 in
    let name = get_or words (suc count) [] in
    if nat_lt 0 count && (bytes_eq (get_or words count []) (codes "as") && is_name name) then Some (take count words, name) else None

-- whether a call opens a file
abbrev pub is_open : Call → Bool
is_open (calls.Open path flags) = true
is_open other = false

-- whether what is answered may get a name: `begin`, `sub`, `retry` and `open`
abbrev pub may_give : ScriptLine → Bool
may_give (line.Request Begin) = true
may_give (line.Request (Sub txn)) = true
may_give (line.Request (Retry txn)) = true
may_give (line.Request (Ask txn call)) = is_open call
may_give other = false

-- ---- a transfer

-- the transfer that words request, whose transaction may be a name
abbrev pub transfer_in : Naming → List (List ℕ) → Option Transfer
transfer_in names words = option_and_then transfer_of (numbered names words)

-- ---- the meaning of a line, and the name that it gives

-- a line that is not a valid request
abbrev pub bad : LineMeaning × Option (List ℕ)
bad = (means.Line line.Bad, None)

-- a meaning, or if it is bad, another one
abbrev pub unless_bad : ScriptLine → LineMeaning × Option (List ℕ) → LineMeaning × Option (List ℕ)
unless_bad line.Silent other = (means.Line line.Silent, None)
unless_bad line.Bad other = other
unless_bad (line.Request request) other = (means.Line (line.Request request), None)
unless_bad (line.Query report) other = (means.Line (line.Query report), None)

-- words that are a transfer, or bad
abbrev pub transfer_meaning : Naming → List (List ℕ) → LineMeaning × Option (List ℕ)
transfer_meaning names words = option_map_or (λ transfer. (means.Transfer transfer, None)) (transfer_in names words) bad

-- a meaning whose answer gets this name, if it may
abbrev pub giving : List ℕ → ScriptLine → LineMeaning × Option (List ℕ)
giving name meaning = if may_give meaning then (means.Line meaning, Some name) else bad

-- words that end in `as` and a name, or may be a transfer, which gives no name
abbrev pub giving_meaning : Naming → List (List ℕ) → LineMeaning × Option (List ℕ)
giving_meaning names words = option_map_or (λ parts. giving parts.1 (with_numbers names parts.0)) (split_name words) (transfer_meaning names words)

-- words that have names in them
abbrev pub named_meaning : Naming → List (List ℕ) → LineMeaning × Option (List ℕ)
named_meaning names words = unless_bad (with_numbers names words) (giving_meaning names words)

-- The meaning of a line, and the name that it gives. A line that is not bad without names has the
-- same meaning with names, and only a line that is bad otherwise may be a transfer.
abbrev pub meaning_in : Naming → List ℕ → LineMeaning × Option (List ℕ)
meaning_in names bytes = unless_bad (parse_line bytes) (named_meaning names (words_of (strip_carriage_return bytes)))

-- A line is bad without names, and with numbers in place of names, and does not end in `as` and a
-- name.
abbrev pub IsBadOtherwise : Naming → List ℕ → Type 0
IsBadOtherwise names bytes =
    let words = words_of (strip_carriage_return bytes) in
    (parse_line bytes ≡ line.Bad) × (with_numbers names words ≡ line.Bad) × (split_name words ≡ None)

-- what `NamedLine` holds
abbrev pub seen : NamedLine → LineMeaning × Option (List ℕ)
seen named = (named.meaning, option_copied named.given)
