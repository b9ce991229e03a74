use Rattle.std.proofs.Common.{◌≡◌, ◌+◌, ◌<◌, ◌≤◌, List, [], ◌++◌, length, Some, sym, ap, ◌∙◌, append-nil, arith, refl, subst}
use Rattle.std.specs.List.{slice_get}
use Rattle.std.proofs.lemmas.Bool.{false≢true}
use Rattle.ft_posix.specs.declared.call.Call.{Call}
use Rattle.ft_job_reports.specs.Asked.{asked_by, all_asked, calls_told}
use Rattle.ft_job_reports.proofs.Fronts.{IsFront, at, skips, goes_with, next_is, is_longer, is_shorter}
use Rattle.ft_job_reports.proofs.Following.{length-told, told_at}
use Rattle.ft_job_reports.proofs.steps.extent_of.Goals as goal
use Rattle.ft_job_reports.proofs.steps.extent_of.Goals.{in-Some+in-Some-get, in_default}

pub loop-step-preserved : goal.loop-step-preserved
loop-step-preserved c =
    let ds = c.args.descriptors.now in
    let steps = c.args.steps.now in
    let calls = c.args.calls.now in
    let i = c.loop-step.step-index in
    let made = c.loop-step.made in
    let step = c.step-item.result in
    let so_far = c.loop-step.invariant.same in
    let here = at steps i step c.loop-step-test.true c.step-item.is in
    let asked = sym c.in_ok-call.ensures in
    elim c.match-branch-2.branch [
      | in-Some+in-Some-get w ↦
          let told = w.in-Some-get.told.now in
          let next = at calls made told w.in-Some-get.ensures.lookup.3.0 w.in-Some-get.ensures.lookup.1 in
          let next_call : slice_get (calls_told calls) made ≡ Some w.in-Some.call = told_at calls made told next ∙ ap Some (w.is_of.ensures.0 w.if-is_of.true) in
          let more = goes_with (asked_by ds) steps (calls_told calls) i made so_far step here w.in-Some.call (asked ∙ w.in-Some.is) next_call in
          record { same = subst (IsFront (asked_by ds) steps (calls_told calls) (i + 1)) (sym w.made-is) more; small = omega (arith, w.made-is, w.in-Some-get.ensures.lookup.3.0) }
      | in_default w ↦
          let as_before = skips (asked_by ds) steps (calls_told calls) i made so_far step here (asked ∙ w.in_default.is) in
          record { same = subst (IsFront (asked_by ds) steps (calls_told calls) (i + 1)) (sym w.made-is) as_before; small = omega (arith, w.made-is, c.loop-step.invariant.small) }
    ]

pub returns-in-None-clause-whole : goal.returns-in-None-clause-whole
returns-in-None-clause-whole c =
    let ds = c.args.descriptors.now in
    let steps = c.args.steps.now in
    let calls = c.args.calls.now in
    let here = at steps c.loop-step.step-index c.step-item.result c.loop-step-test.true c.step-item.is in
    let asked = sym c.in_ok-call.ensures ∙ c.in-Some.is in
    let all : length (calls_told calls) ≤ c.loop-step.made = omega (arith, length-told calls, c.in-None.ensures.lookup.3) in
    let longer = is_longer (asked_by ds) steps (calls_told calls) c.loop-step.step-index c.loop-step.made c.loop-step.invariant.same c.step-item.result here c.in-Some.call asked all in
    (λ whole. absurd (cc), λ whole. absurd (longer whole))

-- the next call is another
not_first : (c : goal.After-drop-call-in-Some-2) (later : List Call) → all_asked c.args.descriptors.now c.args.steps.now ≡ calls_told c.args.calls.now ++ later → ⊥
not_first c later first =
    let steps = c.args.steps.now in
    let calls = c.args.calls.now in
    let made = c.loop-step.made in
    let told = c.in-Some-get.told.now in
    let here = at steps c.loop-step.step-index c.step-item.result c.loop-step-test.true c.step-item.is in
    let asked = sym c.in_ok-call.ensures ∙ c.in-Some.is in
    let next = told_at calls made told (at calls made told c.in-Some-get.ensures.lookup.3.0 c.in-Some-get.ensures.lookup.1) in
    let same = next_is (asked_by c.args.descriptors.now) steps (calls_told calls) c.loop-step.step-index made c.loop-step.invariant.same c.step-item.result here c.in-Some.call asked told.call later next first in
    false≢true (sym c.if-is_of.false ∙ c.is_of.ensures.1 (sym same))

pub returns-in-Some-2-clause-whole : goal.returns-in-Some-2-clause-whole
returns-in-Some-2-clause-whole c = (λ whole. absurd (cc), λ whole. absurd (not_first c [] (whole ∙ sym (append-nil (calls_told c.args.calls.now)))))

pub returns-in-Some-2-clause-front : goal.returns-in-Some-2-clause-front
returns-in-Some-2-clause-front c = (λ other. absurd (other refl), λ first. absurd (not_first c first.0 first.1))

pub returns-then-made-calls-clause-front : goal.returns-then-made-calls-clause-front
returns-then-made-calls-clause-front c =
    let ds = c.args.descriptors.now in
    let steps = c.args.steps.now in
    let calls = c.args.calls.now in
    let ended : length steps ≤ c.loop-step.step-index = omega (arith, c.loop-step-test.false) in
    let less : c.loop-step.made < length (calls_told calls) = omega (arith, length-told calls, c.if-made-calls.true) in
    let shorter = is_shorter (asked_by ds) steps (calls_told calls) c.loop-step.step-index c.loop-step.made c.loop-step.invariant.same ended in
    (λ other. absurd (other refl), λ first. absurd (shorter first.0 less first.1))
