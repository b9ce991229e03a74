-- The request of a line. Each table has words, and their requests. (The format of scripts is this
-- project's own: docs/SCRIPT.md.)
use Rattle.std.specs.Prelude.{ℕ, List, [], ◌∷◌, codes, Option, None, Some, option_and_then, option_map}
use Rattle.std.specs.Option.{option_map_or}
use Rattle.ft_core.specs.declared.request.Request.{Request}
use Rattle.ft_core.specs.declared.request.Request.TheVariants.{Begin, Sub, Commit, Abort, Undo, Retry, Drop, Ask, Checkpoint}
use Rattle.ft_words.specs.Spelling.{words_of_line, parse_u64}
use Rattle.ft_words.specs.Calls.{look_up, parse_call}
use Rattle.ft_line.specs.declared.line.Query.TheVariants.{Tree, Locks, Attributes, Waits}
use Rattle.ft_line.specs.declared.line.ScriptLine.{ScriptLine}
use Rattle.ft_line.specs.declared.line.ScriptLine.TheVariants as line

-- the words that are a request if they are the only one of their line
abbrev pub lone_words : List (List ℕ × ScriptLine)
lone_words = (codes "begin", line.Request Begin) ∷ (codes "checkpoint", line.Request Checkpoint) ∷ (codes "tree", line.Query Tree) ∷ (codes "locks", line.Query Locks) ∷ (codes "waits", line.Query Waits) ∷ (codes "attributes", line.Query Attributes) ∷ []

-- the words that are a request for one transaction, whose number is the other word
abbrev pub txn_words : List (List ℕ × (ℕ → Request))
txn_words = (codes "sub", Sub) ∷ (codes "commit", Commit) ∷ (codes "abort", Abort) ∷ (codes "undo", Undo) ∷ (codes "retry", Retry) ∷ (codes "drop", Drop) ∷ []

-- what a word asks of one transaction
abbrev pub txn_request : List ℕ → ℕ → Option Request
txn_request word txn = option_map (λ make. make txn) (look_up txn_words word)

-- a line that begins with a word
abbrev pub asked_by_word : List ℕ → List (List ℕ) → Option ScriptLine
asked_by_word word [] = look_up lone_words word
asked_by_word word (number ∷ []) = option_map line.Request (option_and_then (txn_request word) (parse_u64 number))
asked_by_word word (number ∷ other ∷ words) = None

-- a line that begins with the number of a transaction: a call
abbrev pub asked_by_txn : ℕ → List (List ℕ) → Option ScriptLine
asked_by_txn txn [] = None
asked_by_txn txn (name ∷ words) = option_map (λ call. line.Request (Ask txn call)) (parse_call name words)

-- a number and a call, or one of those words; `None` for all else
abbrev pub asked_by : List (List ℕ) → Option ScriptLine
asked_by [] = None
asked_by (first ∷ words) = option_map_or (λ txn. asked_by_txn txn words) (parse_u64 first) (asked_by_word first words)

-- if a line is not a valid request, it is bad
abbrev pub or_bad : Option ScriptLine → ScriptLine
or_bad None = line.Bad
or_bad (Some meaning) = meaning

-- The meaning of a line: nothing (`Silent`), no valid request (`Bad`), a request, or a report.
abbrev pub parse_line : List ℕ → ScriptLine
parse_line bytes = option_map_or (λ words. or_bad (asked_by words)) (words_of_line bytes) line.Silent
