-- What the events say, oldest first, is what the history has.
use Rattle.std.proofs.Common.{◌≡◌, ℕ, Bool, true, false, cond, ◌==◌, List, [], ◌∷◌, ◌++◌, Some, None, refl, sym, ap, ◌∙◌, append_assoc, append-nil}
use Rattle.std.specs.Prelude.{map}
use Rattle.std.specs.List.{filter_map, cons_option}
use Rattle.ft_posix.specs.Posix.{posix_calls}
use Rattle.ft_history.specs.History.{parent, grants}
use Rattle.ft_history.specs.History.Event.{Begin as WasBegun, Call as WasGranted, Undo as WasUndone, Commit as WasCommitted, Abort as WasAborted}
use Rattle.ft_history.specs.Logs.{passing}
use Rattle.ft_core.specs.declared.request.Event.{Event}
use Rattle.ft_core.specs.declared.request.Event.TheVariants.{Begin, Call as CallEvent, Undo, Commit, Abort}
use Rattle.ft_core.specs.Histories.{History, Granted, granted, told, told_after}
use Rattle.ft_job_reports.specs.declared.report.CallReport.{CallReport}
use Rattle.ft_job_reports.specs.Reports.{as_told, calls_of}
use Rattle.ft_job_reports.specs.Reading.{granted_by, parent_behind}

-- ---- the calls of a transaction

abbrev asked_by : ℕ → Granted → Bool
asked_by t c = c.asker == t

-- one call before
one_before : (b : Bool) (d : Granted) (longer shorter : List Granted) (last : List CallReport) → map as_told longer ≡ map as_told shorter ++ last → map as_told (cond b (d ∷ longer) longer) ≡ map as_told (cond b (d ∷ shorter) shorter) ++ last
one_before true d longer shorter last h = ap (λ (calls : List CallReport). as_told d ∷ calls) h
one_before false d longer shorter last h = h

-- one call more
calls_snoc : (t : ℕ) (cs : List Granted) (c : Granted) → map as_told (passing (asked_by t) (cs ++ c ∷ [])) ≡ map as_told (passing (asked_by t) cs) ++ cond (c.asker == t) (as_told c ∷ []) []
calls_snoc t [] c = by_asker (c.asker == t)
  where
    by_asker : (b : Bool) → map as_told (cond b (c ∷ []) []) ≡ cond b (as_told c ∷ []) []
    by_asker true = refl
    by_asker false = refl
calls_snoc t (d ∷ cs) c = one_before (d.asker == t) d (passing (asked_by t) (cs ++ c ∷ [])) (passing (asked_by t) cs) (cond (c.asker == t) (as_told c ∷ []) []) (calls_snoc t cs c)

joined : (b : Bool) (front : List CallReport) (call : CallReport) (later : List CallReport) → (front ++ cond b (call ∷ []) []) ++ later ≡ front ++ cons_option (cond b (Some call) None) later
joined true front call later = append_assoc front (call ∷ []) later
joined false front call later = ap (λ (calls : List CallReport). calls ++ later) (append-nil front)

calls_told : (h : History) (t : ℕ) (events : List Event) → calls_of (told_after h events) t ≡ calls_of h t ++ filter_map (granted_by t) events
calls_told h t [] = sym (append-nil (calls_of h t))
calls_told h t (CallEvent k u call reply accesses ∷ events) =
    let c = granted k u call reply accesses in
    calls_told (WasGranted c ∷ h) t events
    ∙ (ap (λ (calls : List CallReport). calls ++ filter_map (granted_by t) events) (calls_snoc t (grants posix_calls h) c) ∙ joined (u == t) (calls_of h t) (as_told c) (filter_map (granted_by t) events))
calls_told h t (Begin u p ∷ events) = calls_told (WasBegun u p ∷ h) t events
calls_told h t (Undo k ∷ events) = calls_told (WasUndone k ∷ h) t events
calls_told h t (Commit u ∷ events) = calls_told (WasCommitted u ∷ h) t events
calls_told h t (Abort u ∷ events) = calls_told (WasAborted u ∷ h) t events

pub calls_are : (t : ℕ) (events : List Event) → calls_of (told events) t ≡ filter_map (granted_by t) events
calls_are t events = calls_told [] t events

-- ---- the parent

parent_told : (h : History) (t : ℕ) (events : List Event) → parent posix_calls (told_after h events) t ≡ parent_behind t (parent posix_calls h t) events
parent_told h t [] = refl
parent_told h t (Begin u p ∷ events) = parent_told (WasBegun u p ∷ h) t events
parent_told h t (CallEvent k u call reply accesses ∷ events) = parent_told (WasGranted (granted k u call reply accesses) ∷ h) t events
parent_told h t (Undo k ∷ events) = parent_told (WasUndone k ∷ h) t events
parent_told h t (Commit u ∷ events) = parent_told (WasCommitted u ∷ h) t events
parent_told h t (Abort u ∷ events) = parent_told (WasAborted u ∷ h) t events

pub parent_is : (t : ℕ) (events : List Event) → parent posix_calls (told events) t ≡ parent_behind t None events
parent_is t events = parent_told [] t events
