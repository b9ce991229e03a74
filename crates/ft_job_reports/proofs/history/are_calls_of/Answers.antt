use Rattle.std.proofs.Common.{◌≡◌, ℕ, ◌+◌, ◌<◌, ◌≤◌, true, false, [], length, Option, Some, None, sym, ap, ◌∙◌, append-nil, arith, refl, subst}
use Rattle.std.specs.Prelude.{is_some}
use Rattle.std.proofs.lemmas.Bool.{false≢true}
use Rattle.std.proofs.lemmas.Bool.Decides.{Decides-eqb}
use Rattle.ft_job_reports.specs.declared.report.CallReport.{CallReport}
use Rattle.ft_job_reports.specs.Reading.{granted_by}
use Rattle.ft_job_reports.proofs.Told.{calls_are}
use Rattle.ft_job_reports.proofs.Fronts.{IsFront, at, skips, goes_with, next_is, is_longer, is_whole, is_shorter}
use Rattle.ft_job_reports.proofs.history.are_calls_of.Goals as goal
use Rattle.ft_job_reports.proofs.history.are_calls_of.Goals.{then-is_call_of+in-Some, else-is_call_of}

none_of : (o : Option CallReport) → is_some o ≡ false → o ≡ None
none_of None h = refl
none_of (Some call) h = absurd (false≢true (sym h))

some_of : (o : Option CallReport) → is_some o ≡ true → (call : CallReport) × (o ≡ Some call)
some_of None h = absurd (false≢true h)
some_of (Some call) h = (call, refl)

pub loop-event-preserved : goal.loop-event-preserved
loop-event-preserved c =
    let events = c.args.events.now in
    let calls = c.args.calls.now in
    let i = c.loop-event.event-index in
    let made = c.loop-event.made in
    let so_far = c.loop-event.invariant.same in
    let event = c.event-item.result in
    let here = at events i event c.loop-event-test.true c.event-item.is in
    elim c.if-is_call_of.branch [
      | then-is_call_of+in-Some w ↦
          let call = w.in-Some.call.now in
          let next = at calls made call w.in-Some.ensures.lookup.3.0 w.in-Some.ensures.lookup.1 in
          let more = goes_with (granted_by c.args.txn) events calls i made so_far event here call (w.is_told.ensures.0 w.if-is_told.true) next in
          record { same = subst (IsFront (granted_by c.args.txn) events calls (i + 1)) (sym w.made-is) more; small = omega (arith, w.made-is, w.in-Some.ensures.lookup.3.0) }
      | else-is_call_of w ↦
          let as_before = skips (granted_by c.args.txn) events calls i made so_far event here (none_of (granted_by c.args.txn event) (sym c.is_call_of.ensures ∙ w.if-is_call_of.false)) in
          record { same = subst (IsFront (granted_by c.args.txn) events calls (i + 1)) (sym w.made-is) as_before; small = omega (arith, w.made-is, c.loop-event.invariant.small) }
    ]

pub returns : goal.returns
returns c =
    let events = c.args.events.now in
    let calls = c.args.calls.now in
    let made = c.loop-event.made in
    let ended = c.loop-event-test.false in
    let whole = is_whole (granted_by c.args.txn) events calls c.loop-event.event-index made c.loop-event.invariant.same ended in
    let shorter = is_shorter (granted_by c.args.txn) events calls c.loop-event.event-index made c.loop-event.invariant.same ended in
    let all_made = Decides-eqb made (length calls) in (
      λ all. let same = all_made.0 all in calls_are c.args.txn events ∙ whole (omega (arith, same)),
      λ are. all_made.1 (not_less made (length calls) c.loop-event.invariant.small (λ less. shorter [] less (sym (calls_are c.args.txn events) ∙ are ∙ sym (append-nil calls)))),
    )
  where
    not_less : (m n : ℕ) → m ≤ n → (m < n → ⊥) → m ≡ n
    not_less m n within less = grind (arith, within, less)

pub returns-in-None : goal.returns-in-None
returns-in-None c =
    let t = c.args.txn in
    let events = c.args.events.now in
    let calls = c.args.calls.now in
    let here = at events c.loop-event.event-index c.event-item.result c.loop-event-test.true c.event-item.is in
    let event = some_of (granted_by t c.event-item.result) (sym c.is_call_of.ensures ∙ c.if-is_call_of.true) in
    let longer = is_longer (granted_by t) events calls c.loop-event.event-index c.loop-event.made c.loop-event.invariant.same c.event-item.result here event.0 event.1 c.in-None.ensures.lookup.3 in
    (λ are. absurd (false≢true are), λ are. absurd (longer (sym (calls_are t events) ∙ are)))

pub returns-in-Some-2 : goal.returns-in-Some-2
returns-in-Some-2 c =
    let t = c.args.txn in
    let events = c.args.events.now in
    let calls = c.args.calls.now in
    let made = c.loop-event.made in
    let call = c.in-Some.call.now in
    let here = at events c.loop-event.event-index c.event-item.result c.loop-event-test.true c.event-item.is in
    let next = at calls made call c.in-Some.ensures.lookup.3.0 c.in-Some.ensures.lookup.1 in
    let event = some_of (granted_by t c.event-item.result) (sym c.is_call_of.ensures ∙ c.if-is_call_of.true) in
    let same = next_is (granted_by t) events calls c.loop-event.event-index made c.loop-event.invariant.same c.event-item.result here event.0 event.1 call [] next in (
      λ are. absurd (false≢true are),
      λ are. absurd (false≢true (sym c.if-is_told.false ∙ c.is_told.ensures.1 (event.1 ∙ ap Some (same (sym (calls_are t events) ∙ are ∙ sym (append-nil calls)))))),
    )
