-- How a report of which transaction waits for which is read from the lines of replies, and which
-- one is the last. (The format of replies is this project's own: docs/SCRIPT.md.)
use Rattle.std.specs.Prelude.{◌==◌, ℕ, zero, suc, List, [], ◌∷◌, codes, if◌then◌else◌, Option, None, Some, option_and_then, option_map}
use Rattle.std.specs.Str.{bytes_eq}
use Rattle.ft_waits.specs.declared.edge.Edge.{Edge}
use Rattle.ft_waits.specs.declared.edge.EdgeKind.{EdgeKind}
use Rattle.ft_waits.specs.declared.edge.EdgeKind.TheVariants.{Lock, Child}
use Rattle.ft_waits.specs.declared.verdict.Verdict.{Verdict}
use Rattle.ft_waits.specs.declared.verdict.Verdict.TheVariants.{Cycle, Ranked}
use Rattle.ft_words.specs.Spelling.{words_of, parse_u64}
use Rattle.ft_words.specs.Calls.{look_up, only, three}
use Rattle.ft_dot.specs.declared.report.Report.{Report}

-- ---- the words of a line

-- the words after this one, if the line begins with it
abbrev pub behind : List ℕ → List (List ℕ) → Option (List (List ℕ))
behind word [] = None
behind word (first ∷ others) = if bytes_eq first word then Some others else None

-- the results of a reader for each, if it reads them all
abbrev pub each : {A B : Type 0} → (A → Option B) → List A → Option (List B)
each read [] = Some []
each read (x ∷ xs) = option_and_then (λ y. option_map (λ ys. y ∷ ys) (each read xs)) (read x)

-- what is before the first place of a byte, and what is after it
abbrev pub cut_at : ℕ → List ℕ → Option (List ℕ × List ℕ)
cut_at byte [] = None
cut_at byte (b ∷ bs) = if b == byte then Some ([], bs) else option_map (λ parts. (b ∷ parts.0, parts.1)) (cut_at byte bs)

-- ---- the lines of a report

-- the number of `edges N`
abbrev pub count_of : List (List ℕ) → Option ℕ
count_of words = option_and_then (only parse_u64) (behind (codes "edges") words)

-- the names of the kinds
abbrev pub kind_words : List (List ℕ × EdgeKind)
kind_words = (codes "lock", Lock) ∷ (codes "child", Child) ∷ []

-- the edge of `edge FROM TO KIND`
abbrev pub edge_of : List (List ℕ) → Option Edge
edge_of words = option_map (λ e. record { from = e.0; to = e.1; kind = e.2 }) (option_and_then (three parse_u64 parse_u64 (only (look_up kind_words))) (behind (codes "edge") words))

-- the transaction and the rank of `T:RANK`
abbrev pub rank_of : List ℕ → Option (ℕ × ℕ)
rank_of word = option_and_then (λ parts. option_and_then (λ txn. option_map (λ rank. (txn, rank)) (parse_u64 parts.1)) (parse_u64 parts.0)) (cut_at 58 word)

-- the verdict by the word that it begins with: the members of a cycle, or ranks
abbrev pub told_by : List ℕ → List (List ℕ) → Option Verdict
told_by word words =
    if bytes_eq word (codes "cycle") then option_map Cycle (each parse_u64 words)
    else (if bytes_eq word (codes "ranks") then option_map Ranked (each rank_of words) else None)

-- the cycle of `cycle A B ..`, or the ranks of `ranks T:RANK ..`
abbrev pub verdict_of : List (List ℕ) → Option Verdict
verdict_of [] = None
verdict_of (word ∷ words) = told_by word words

-- ---- reports

-- the report with one more edge before its own
abbrev pub with_edge : Edge → Report → Report
with_edge edge report = record { edges = edge ∷ report.edges; verdict = report.verdict }

-- lines that begin with so many edges and then a verdict
abbrev pub report_of : ℕ → List (List ℕ) → Option Report
report_of count [] = None
report_of zero (line ∷ lines) = option_map (λ verdict. record { edges = []; verdict = verdict }) (verdict_of (words_of line))
report_of (suc count) (line ∷ lines) = option_and_then (λ edge. option_map (with_edge edge) (report_of count lines)) (edge_of (words_of line))

-- a report with which lines begin: `edges N`, N edges, and a verdict
abbrev pub report_at : List ℕ → List (List ℕ) → Option Report
report_at line lines = option_and_then (λ count. report_of count lines) (count_of (words_of line))

-- the second of two reports, or the first if there is no second
abbrev pub later : Option Report → Option Report → Option Report
later report None = report
later report (Some other) = Some other

-- The last report among the lines of replies.
abbrev pub last_report : List (List ℕ) → Option Report
last_report [] = None
last_report (line ∷ lines) = later (report_at line lines) (last_report lines)
