-- What had committed when a transaction was begun, as the events say, oldest first.
use Rattle.std.proofs.Common.{◌≡◌, ℕ, Bool, true, false, cond, ◌==◌, ◌||◌, List, [], ◌∷◌, refl, sym, ap, ◌∙◌}
use Rattle.ft_posix.specs.Posix.{posix_calls}
use Rattle.ft_history.specs.History.{is_committed}
use Rattle.ft_history.specs.History.Event.{Begin as WasBegun, Call as WasGranted, Undo as WasUndone, Commit as WasCommitted, Abort as WasAborted}
use Rattle.ft_core.specs.declared.request.Event.{Event}
use Rattle.ft_core.specs.declared.request.Event.TheVariants.{Begin, Call as CallEvent, Undo, Commit, Abort}
use Rattle.ft_core.specs.Histories.{History, granted, told, told_after}
use Rattle.ft_job_reports.specs.declared.history.Seen.{Seen}
use Rattle.ft_job_reports.specs.Reports.{had_committed}
use Rattle.ft_job_reports.specs.Reading.{seen_after, seen_behind}

-- what a history has of it
abbrev seen_in : History → ℕ → ℕ → Seen
seen_in h t x = record { committed = is_committed posix_calls h x; had = had_committed h t x }

begun : (b : Bool) (committed had : Bool) → ◌≡◌ {A = Seen} (record { committed = committed; had = cond b committed had }) (cond b (record { committed = committed; had = committed }) (record { committed = committed; had = had }))
begun true committed had = refl
begun false committed had = refl

ended : (b : Bool) (committed had : Bool) → ◌≡◌ {A = Seen} (record { committed = b || committed; had = had }) (cond b (record { committed = true; had = had }) (record { committed = committed; had = had }))
ended true committed had = refl
ended false committed had = refl

seen_told : (h : History) (t x : ℕ) (events : List Event) → seen_in (told_after h events) t x ≡ seen_behind t x (seen_in h t x) events
seen_told h t x [] = refl
seen_told h t x (Begin u p ∷ events) =
    seen_told (WasBegun u p ∷ h) t x events ∙ ap (λ (seen : Seen). seen_behind t x seen events) (begun (t == u) (is_committed posix_calls h x) (had_committed h t x))
seen_told h t x (CallEvent k u call reply accesses ∷ events) = seen_told (WasGranted (granted k u call reply accesses) ∷ h) t x events
seen_told h t x (Undo k ∷ events) = seen_told (WasUndone k ∷ h) t x events
seen_told h t x (Commit u ∷ events) =
    seen_told (WasCommitted u ∷ h) t x events ∙ ap (λ (seen : Seen). seen_behind t x seen events) (ended (x == u) (is_committed posix_calls h x) (had_committed h t x))
seen_told h t x (Abort u ∷ events) = seen_told (WasAborted u ∷ h) t x events

pub had_is : (t x : ℕ) (events : List Event) → had_committed (told events) t x ≡ (seen_behind t x (record { committed = false; had = false }) events).had
had_is t x events = ap (λ (seen : Seen). seen.had) (seen_told [] t x events)
