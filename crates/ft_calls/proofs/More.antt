-- Edits that are made out behind others.
use Rattle.std.proofs.Common.{◌≡◌, ℕ, true, List, [], ◌∷◌, ◌++◌, refl, ap, ◌∙◌}
use Rattle.std.proofs.lemmas.Bool.{false≢true}
use Rattle.ft_cells.specs.declared.entry.Entry.{Entry}
use Rattle.ft_cells.specs.declared.node.Node.{Node}
use Rattle.ft_cells.specs.Cells.{Cells}
use Rattle.ft_posix.specs.declared.intent.Edit.{Edit}
use Rattle.ft_posix.specs.declared.intent.PlannedReply.{PlannedReply}
use Rattle.ft_posix.specs.Outcomes.{Write, Outcome}
use Rattle.ft_posix.specs.Dirs.{if_empty}
use Rattle.ft_posix.specs.Looking.{is_none_of}
use Rattle.ft_posix.specs.Computes.{reply_of, writes_of, outcome_of}
use Rattle.ft_posix.proofs.Moving.{and_more}

-- more is written, and the same is told
pub tells-more : (cells : Cells) (told : PlannedReply) (es fs : List Edit) (o : Outcome) (more : List Write) → writes_of cells fs ≡ writes_of cells es ++ more → outcome_of cells (record { told = told; edits = es }) ≡ o → outcome_of cells (record { told = told; edits = fs }) ≡ and_more o more
tells-more cells told es fs o more edits is = ap (λ ws. record { reply = reply_of cells told; writes = ws }) edits ∙ ap (λ (q : Outcome). and_more q more) is

-- an empty directory is removed
pub bare-removed : (entry : Entry) (number : ℕ) (names : List (List ℕ × Node)) → is_none_of names ≡ true → if_empty entry number names ≡ if_empty entry number []
bare-removed entry number [] is = refl
bare-removed entry number (x ∷ xs) is = absurd (false≢true is)
