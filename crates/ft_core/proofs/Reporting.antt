-- What a core tells of who waits.
use Rattle.std.proofs.Common.{◌≡◌, ◌++◌, ℕ, List, [], ◌∷◌, map, ap, ◌∙◌}
use Rattle.std.proofs.lemmas.List.{map-append, append_assoc}
use Rattle.ft_posix.specs.declared.call.Call.{Call}
use Rattle.ft_core.specs.States.{State}
use Rattle.ft_core.specs.declared.reports.Pending.{Pending}
use Rattle.ft_core.specs.Reports.{blockers_now, waits_from, as_wait}

-- One ask more of those that are left.
pub wait_more : (s : State) (old new : List Pending) (p : Pending) (call : Call) (rest : List (ℕ × Call)) → new ≡ old ++ p ∷ [] → p.blockers.items ≡ blockers_now s p.txn call
    → map as_wait new ++ waits_from s rest ≡ map as_wait old ++ waits_from s ((p.txn, call) ∷ rest)
wait_more s old new p call rest pushed are =
    ap (λ list. map as_wait list ++ waits_from s rest) pushed
    ∙ ap (λ list. list ++ waits_from s rest) (map-append as_wait old (p ∷ []))
    ∙ append_assoc (map as_wait old) (as_wait p ∷ []) (waits_from s rest)
    ∙ ap (λ ys. map as_wait old ++ (p.txn, ys) ∷ waits_from s rest) are
