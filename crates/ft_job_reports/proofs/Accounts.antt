-- Each event is accounted for where each call amid the jobs is one of theirs, and none of theirs is
-- undone.
use Rattle.std.proofs.Common.{◌≡◌, ℕ, Bool, true, false, ◌||◌, ◌&&◌, ◌==◌, not, List, [], ◌∷◌, ◌++◌, refl, sym, ap, ◌∙◌, ◌⊎◌, inl, inr, ⊎_elim, subst}
use Rattle.std.proofs.lemmas.Bool.{and_from, and_parts, both_ways, cases_Bool, eq-eqb, eqb-true, false≢true, false_from_ne_true, not-true, not_from_false, or_cases, or_from, or_left, or_right}
use Rattle.std.proofs.lemmas.List.Elements.{All-nil, All-cons, All-head, All-tail}
use Rattle.std.specs.Prelude.{All}
use Rattle.std.specs.List.{list_all, list_any}
use Rattle.ft_laws.specs.Lists.{In}
use Rattle.ft_laws.proofs.Lists.{In-front, In-back, In-cases}
use Rattle.ft_posix.specs.Posix.{posix_calls}
use Rattle.ft_history.specs.History.{grants, is_undone}
use Rattle.ft_history.specs.History.Event.{Begin as WasBegun, Call as WasGranted, Undo as WasUndone, Commit as WasCommitted, Abort as WasAborted}
use Rattle.ft_core.specs.declared.request.Event.{Event}
use Rattle.ft_core.specs.declared.request.Event.TheVariants.{Begin, Call as CallEvent, Undo, Commit, Abort}
use Rattle.ft_core.specs.Histories.{History, Granted, granted, told, told_after}
use Rattle.ft_job_reports.specs.declared.report.CallReport.{CallReport}
use Rattle.ft_job_reports.specs.declared.report.Report.{Report}
use Rattle.ft_job_reports.specs.Reports.{AreKept, is_amid, is_reported}
use Rattle.ft_job_reports.specs.Reading.{has_stamp, is_accounted, is_stamp_reported}

-- ---- calls amid the jobs

-- the call is of a reported transaction, or before the jobs
abbrev IsAccounted : List Report → Granted → Type 0
IsAccounted reports c = is_amid reports c.asker c.call.stamp ≡ true → is_reported reports c.asker ≡ true

-- each call of the history is
abbrev pub AreAccounted : List Report → History → Type 0
AreAccounted reports h = (c : Granted) → In c (grants posix_calls h) → is_amid reports c.asker c.call.stamp ≡ true → is_reported reports c.asker ≡ true

in_snoc : (cs : List Granted) (c d : Granted) → In d (cs ++ c ∷ []) → In d cs ⊎ (d ≡ c)
in_snoc cs c d there = by_place (In-cases d cs (c ∷ []) there)
  where
    by_place : In d cs ⊎ In d (c ∷ []) → In d cs ⊎ (d ≡ c)
    by_place (inl old) = inl old
    by_place (inr (inl new)) = inr new
    by_place (inr (inr none)) = absurd none

implied : (a b : Bool) → (not a || b) ≡ true → a ≡ true → b ≡ true
implied true b h is = h
implied false b h is = absurd (false≢true is)

old_or_new : (reports : List Report) (cs : List Granted) (d : Granted) → ((c : Granted) → In c cs → IsAccounted reports c) → IsAccounted reports d → (c : Granted) → In c (cs ++ d ∷ []) → IsAccounted reports c
old_or_new reports cs d old new c there = ⊎_elim (λ (before : In c cs). old c before) (λ (same : c ≡ d). subst (IsAccounted reports) (sym same) new) (in_snoc cs d c there)

accounted_told : (reports : List Report) (h : History) (events : List Event) → AreAccounted reports h → list_all (is_accounted reports) events ≡ true → AreAccounted reports (told_after h events)
accounted_told reports h [] old all = old
accounted_told reports h (CallEvent k u call reply accesses ∷ events) old all =
    let d = granted k u call reply accesses in
    let parts = and_parts (is_accounted reports (CallEvent k u call reply accesses)) (list_all (is_accounted reports) events) all in
    accounted_told reports (WasGranted d ∷ h) events (old_or_new reports (grants posix_calls h) d old (implied (is_amid reports u k) (is_reported reports u) parts.0)) parts.1
accounted_told reports h (Begin u p ∷ events) old all = accounted_told reports (WasBegun u p ∷ h) events old all
accounted_told reports h (Undo k ∷ events) old all = accounted_told reports (WasUndone k ∷ h) events old (and_parts (not (is_stamp_reported reports k)) (list_all (is_accounted reports) events) all).1
accounted_told reports h (Commit u ∷ events) old all = accounted_told reports (WasCommitted u ∷ h) events old all
accounted_told reports h (Abort u ∷ events) old all = accounted_told reports (WasAborted u ∷ h) events old all

pub all_accounted : (reports : List Report) (events : List Event) → list_all (is_accounted reports) events ≡ true → AreAccounted reports (told events)
all_accounted reports events all = accounted_told reports [] events (λ (c : Granted) none. absurd none) all

-- A call that was granted before the events is granted after them.
in_told : (c : Granted) (h : History) (events : List Event) → In c (grants posix_calls h) → In c (grants posix_calls (told_after h events))
in_told c h [] there = there
in_told c h (CallEvent k u call reply accesses ∷ events) there =
    let d = granted k u call reply accesses in
    in_told c (WasGranted d ∷ h) events (In-front c (grants posix_calls h) (d ∷ []) there)
in_told c h (Begin u p ∷ events) there = in_told c (WasBegun u p ∷ h) events there
in_told c h (Undo k ∷ events) there = in_told c (WasUndone k ∷ h) events there
in_told c h (Commit u ∷ events) there = in_told c (WasCommitted u ∷ h) events there
in_told c h (Abort u ∷ events) there = in_told c (WasAborted u ∷ h) events there

-- ---- undone calls

-- no reported stamp is that of an undone call
abbrev AreNotUndone : List Report → History → Type 0
AreNotUndone reports h = (k : ℕ) → is_stamp_reported reports k ≡ true → is_undone posix_calls h k ≡ false

-- what is undone stays so
undone_told : (k : ℕ) (h : History) (events : List Event) → is_undone posix_calls h k ≡ true → is_undone posix_calls (told_after h events) k ≡ true
undone_told k h [] is = is
undone_told k h (CallEvent j u call reply accesses ∷ events) is = undone_told k (WasGranted (granted j u call reply accesses) ∷ h) events is
undone_told k h (Begin u p ∷ events) is = undone_told k (WasBegun u p ∷ h) events is
undone_told k h (Undo j ∷ events) is = undone_told k (WasUndone j ∷ h) events (or_right (k == j) (is_undone posix_calls h k) is)
undone_told k h (Commit u ∷ events) is = undone_told k (WasCommitted u ∷ h) events is
undone_told k h (Abort u ∷ events) is = undone_told k (WasAborted u ∷ h) events is

-- a reported stamp is none that is not reported
other_stamp : (reports : List Report) (j k : ℕ) → is_stamp_reported reports j ≡ false → is_stamp_reported reports k ≡ true → (k == j) ≡ false
other_stamp reports j k not is = false_from_ne_true (k == j) (λ same. false≢true (sym not ∙ ap (is_stamp_reported reports) (sym (eqb-true k j same)) ∙ is))

kept_told : (reports : List Report) (h : History) (events : List Event) → AreNotUndone reports h → list_all (is_accounted reports) events ≡ true → AreNotUndone reports (told_after h events)
kept_told reports h [] old all = old
kept_told reports h (CallEvent k u call reply accesses ∷ events) old all =
    kept_told reports (WasGranted (granted k u call reply accesses) ∷ h) events old (and_parts (is_accounted reports (CallEvent k u call reply accesses)) (list_all (is_accounted reports) events) all).1
kept_told reports h (Begin u p ∷ events) old all = kept_told reports (WasBegun u p ∷ h) events old all
kept_told reports h (Undo j ∷ events) old all =
    let parts = and_parts (not (is_stamp_reported reports j)) (list_all (is_accounted reports) events) all in
    kept_told reports (WasUndone j ∷ h) events
    (λ k is. or_from (k == j) (is_undone posix_calls h k) (other_stamp reports j k (not-true (is_stamp_reported reports j) parts.0) is) (old k is)) parts.1
kept_told reports h (Commit u ∷ events) old all = kept_told reports (WasCommitted u ∷ h) events old all
kept_told reports h (Abort u ∷ events) old all = kept_told reports (WasAborted u ∷ h) events old all

module _ (h : History) where
  abbrev IsKept : CallReport → Type 0
  IsKept c = is_undone posix_calls h c.stamp ≡ false

  calls_kept : (calls : List CallReport) → ((k : ℕ) → list_any (λ (c : CallReport). c.stamp == k) calls ≡ true → is_undone posix_calls h k ≡ false) → All IsKept calls
  calls_kept [] each = All-nil IsKept
  calls_kept (c ∷ calls) each =
      All-cons IsKept c calls (each c.stamp (or_left (c.stamp == c.stamp) _ (eq-eqb c.stamp c.stamp refl))) (calls_kept calls (λ k is. each k (or_right (c.stamp == k) _ is)))

  kept_calls : (calls : List CallReport) → All IsKept calls → (k : ℕ) → list_any (λ (c : CallReport). c.stamp == k) calls ≡ true → is_undone posix_calls h k ≡ false
  kept_calls [] all k is = absurd (false≢true is)
  kept_calls (c ∷ calls) all k is =
      ⊎_elim (λ (same : (c.stamp == k) ≡ true). ap (is_undone posix_calls h) (sym (eqb-true c.stamp k same)) ∙ All-head IsKept c calls all) (λ (later : list_any (λ (d : CallReport). d.stamp == k) calls ≡ true). kept_calls calls (All-tail IsKept c calls all) k later) (or_cases (c.stamp == k) _ is)

  reports_kept : (reports : List Report) → AreNotUndone reports h → All (AreKept h) reports
  reports_kept [] each = All-nil (AreKept h)
  reports_kept (r ∷ reports) each =
      All-cons (AreKept h) r reports (calls_kept r.calls (λ k is. each k (or_left (has_stamp k r) _ is))) (reports_kept reports (λ k is. each k (or_right (has_stamp k r) _ is)))

  kept_reports : (reports : List Report) → All (AreKept h) reports → AreNotUndone reports h
  kept_reports [] all k is = absurd (false≢true is)
  kept_reports (r ∷ reports) all k is =
      ⊎_elim (λ (here : has_stamp k r ≡ true). kept_calls r.calls (All-head (AreKept h) r reports all) k here) (λ (later : is_stamp_reported reports k ≡ true). kept_reports reports (All-tail (AreKept h) r reports all) k later) (or_cases (has_stamp k r) _ is)

pub all_kept : (reports : List Report) (events : List Event) → list_all (is_accounted reports) events ≡ true → All (AreKept (told events)) reports
all_kept reports events all = reports_kept (told events) reports (kept_told reports [] events (λ k is. refl) all)

-- ---- and the other way round

implies : (a b : Bool) → (a ≡ true → b ≡ true) → (not a || b) ≡ true
implies true b h = h refl
implies false b h = refl

-- the stamp of an undone call is not reported
not_reported : (reports : List Report) (k : ℕ) (h : History) (events : List Event) → AreNotUndone reports (told_after (WasUndone k ∷ h) events) → is_stamp_reported reports k ≡ false
not_reported reports k h events kept =
    let undone = undone_told k (WasUndone k ∷ h) events (or_left (k == k) (is_undone posix_calls h k) (eq-eqb k k refl)) in
    false_from_ne_true (is_stamp_reported reports k) (λ is. false≢true (sym (kept k is) ∙ undone))

told_accounted : (reports : List Report) (h : History) (events : List Event) → AreAccounted reports (told_after h events) → AreNotUndone reports (told_after h events) → list_all (is_accounted reports) events ≡ true
told_accounted reports h [] each kept = refl
told_accounted reports h (CallEvent k u call reply accesses ∷ events) each kept =
    let d = granted k u call reply accesses in
    let there = in_told d (WasGranted d ∷ h) events (In-back d (grants posix_calls h) (d ∷ []) (inl refl)) in
    and_from (is_accounted reports (CallEvent k u call reply accesses)) (list_all (is_accounted reports) events) (implies (is_amid reports u k) (is_reported reports u) (each d there)) (told_accounted reports (WasGranted d ∷ h) events each kept)
told_accounted reports h (Begin u p ∷ events) each kept = told_accounted reports (WasBegun u p ∷ h) events each kept
told_accounted reports h (Undo k ∷ events) each kept =
    and_from (not (is_stamp_reported reports k)) (list_all (is_accounted reports) events) (not_from_false (is_stamp_reported reports k) (not_reported reports k h events kept)) (told_accounted reports (WasUndone k ∷ h) events each kept)
told_accounted reports h (Commit u ∷ events) each kept = told_accounted reports (WasCommitted u ∷ h) events each kept
told_accounted reports h (Abort u ∷ events) each kept = told_accounted reports (WasAborted u ∷ h) events each kept

pub accounted_all : (reports : List Report) (events : List Event) → AreAccounted reports (told events) → All (AreKept (told events)) reports → list_all (is_accounted reports) events ≡ true
accounted_all reports events each kept = told_accounted reports [] events each (kept_reports (told events) reports kept)
