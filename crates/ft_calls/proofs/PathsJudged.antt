-- A call on a path whose text and arguments are judged first.
use Rattle.std.proofs.Common.{◌≡◌, Bool, Option, Some, None, Result, Ok, Err, refl, ap, subst, ◌∙◌}
use Rattle.ft_path.specs.declared.errno.Errno.{Errno}
use Rattle.ft_path.specs.declared.path.Parts.{Parts}
use Rattle.ft_cells.specs.declared.node.PathEnd.{PathEnd}
use Rattle.ft_cells.specs.Looks.{Looks, then, or_else}
use Rattle.ft_posix.specs.declared.intent.Intent.{Intent}
use Rattle.ft_posix.specs.declared.intent.CallError.{CallError}
use Rattle.ft_posix.specs.declared.intent.CallError.TheVariants.{Memory as NoMemory, Errno as Fails}
use Rattle.ft_posix.specs.Outcomes.{Outcome, failed, from_parts, from_judged}
use Rattle.ft_posix.specs.Looking.{Looking}
use Rattle.ft_posix.specs.Computes.{Computes, Resolves}
use Rattle.ft_posix.proofs.Looking.{finds_then}
use Rattle.ft_calls.specs.Judged.{judged}

-- to judge, to walk and to go on is the call
judged-then : (fault : Option Errno) (follow : Bool) (text : Result Parts Errno) (go : PathEnd → Looks Outcome) → then (judged fault follow text) (or_else failed go) ≡ from_judged fault follow text go
judged-then fault follow (Err e) go = refl
judged-then (Some e) follow (Ok parts) go = refl
judged-then None follow (Ok parts) go = refl

-- a call without arguments that may be at fault
judged-parts : (follow : Bool) (text : Result Parts Errno) (go : PathEnd → Looks Outcome) → from_judged None follow text go ≡ from_parts follow text go
judged-parts follow (Err e) go = refl
judged-parts follow (Ok parts) go = refl

module _ (old : Looking) (follow : Bool) (text : Result Parts Errno) (go : PathEnd → Looks Outcome) (mid : Looking) where
  -- the fault that was made out is that of the arguments
  module _ (found fault : Option Errno) (is : found ≡ fault) where
    -- the call goes on where the path leads
    pub judged_on : (spot : PathEnd) → Resolves old (judged found follow text) mid (Ok spot) → (new : Looking) (r : Result Intent CallError) → Computes mid (go spot) new r → Computes old (from_judged fault follow text go) new r
    judged_on spot h new r comes =
        subst (λ (s : Looks Outcome). Computes old s new r) (judged-then found follow text go ∙ ap (λ f. from_judged f follow text go) is)
        (finds_then old (judged found follow text) (or_else failed go) (Ok spot) mid new r h.0 h.1 comes)

    -- it leads nowhere, or memory was wanting
    pub judged_lost : (d : CallError) → Resolves old (judged found follow text) mid (Err d) → Computes old (from_judged fault follow text go) mid (Err d)
    judged_lost (Fails e) h =
        subst (λ (s : Looks Outcome). Computes old s mid (Err (Fails e))) (judged-then found follow text go ∙ ap (λ f. from_judged f follow text go) is)
        (finds_then old (judged found follow text) (or_else failed go) (Err e) mid mid (Err (Fails e)) h.0 h.1 (refl, refl))
    judged_lost NoMemory h = tt

  -- so does a call without arguments that may be at fault
  pub found_on : (spot : PathEnd) → Resolves old (judged None follow text) mid (Ok spot) → (new : Looking) (r : Result Intent CallError) → Computes mid (go spot) new r → Computes old (from_parts follow text go) new r
  found_on spot h new r comes = subst (λ (s : Looks Outcome). Computes old s new r) (judged-parts follow text go) (judged_on None None refl spot h new r comes)

  -- or it leads nowhere
  pub found_lost : (d : CallError) → Resolves old (judged None follow text) mid (Err d) → Computes old (from_parts follow text go) mid (Err d)
  found_lost d h = subst (λ (s : Looks Outcome). Computes old s mid (Err d)) (judged-parts follow text go) (judged_lost None None refl d h)
