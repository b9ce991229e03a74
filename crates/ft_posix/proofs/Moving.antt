-- What a renaming that changes a parent comes to.
use Rattle.std.proofs.Common.{◌≡◌, ℕ, true, List, [], ◌∷◌, ◌++◌, refl, ap, ◌∙◌}
use Rattle.std.proofs.lemmas.Bool.{false≢true}
use Rattle.ft_cells.specs.declared.entry.Entry.{Entry}
use Rattle.ft_cells.specs.declared.node.Node.{Node}
use Rattle.ft_cells.specs.Cells.{Cells}
use Rattle.ft_posix.specs.declared.intent.Edit.{Edit}
use Rattle.ft_posix.specs.declared.intent.Intent.{Intent}
use Rattle.ft_posix.specs.declared.intent.PlannedReply.TheVariants.{Done}
use Rattle.ft_posix.specs.Outcomes.{Write, Outcome}
use Rattle.ft_posix.specs.Links.{if_bare}
use Rattle.ft_posix.specs.Looking.{is_none_of}
use Rattle.ft_posix.specs.Computes.{write_of, writes_of, outcome_of}

-- more is written
abbrev pub and_more : Outcome → List Write → Outcome
and_more o more = record { reply = o.reply; writes = o.writes ++ more }

-- what is done by edits
abbrev pub done : List Edit → Intent
done edits = record { told = Done; edits = edits }

pub comes-more : (cells : Cells) (es fs : List Edit) (o : Outcome) (more : List Write) → writes_of cells fs ≡ writes_of cells es ++ more → outcome_of cells (done es) ≡ o → outcome_of cells (done fs) ≡ and_more o more
comes-more cells es fs o more edits is i = record { reply = ap (λ (q : Outcome). q.reply) is i; writes = (edits ∙ ap (λ (q : Outcome). q.writes ++ more) is) i }

-- edits behind others
pub writes_of-append : (cells : Cells) (es fs : List Edit) → writes_of cells (es ++ fs) ≡ writes_of cells es ++ writes_of cells fs
writes_of-append cells [] fs = refl
writes_of-append cells (e ∷ es) fs = ap (λ ws. write_of cells e ∷ ws) (writes_of-append cells es fs)

-- an empty directory is replaced
pub bare-replaced : (old : Entry) (moved : ℕ) (new : Entry) (replaced : ℕ) (names : List (List ℕ × Node)) → is_none_of names ≡ true → if_bare old moved new replaced names ≡ if_bare old moved new replaced []
bare-replaced old moved new replaced [] is = refl
bare-replaced old moved new replaced (x ∷ xs) is = absurd (false≢true is)
