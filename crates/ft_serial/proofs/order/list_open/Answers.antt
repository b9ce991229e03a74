use Rattle.std.proofs.Common.{◌≡◌, ◌<◌, ◌≤◌, ◌+◌, ◌++◌, ◌∷◌, [], cond, Option, List, map, length, take, sym, ap, subst, ◌∙◌, append-nil, append_assoc}
use Rattle.std.specs.Prelude.{slice_get}
use Rattle.std.proofs.lemmas.List.{take_all}
use Rattle.std.specs.FinMap as finite
use Rattle.ft_posix.specs.declared.stamped.StampedCall.{StampedCall}
use Rattle.ft_core.specs.declared.request.Event.{Event}
use Rattle.ft_core.specs.States.{history}
use Rattle.ft_serial.specs.Serials.{stamped}
use Rattle.ft_serial.specs.Walks.{call_of, option_list}
use Rattle.ft_serial.proofs.Opening.{open_in, open-at, walk-knows, open-are}
use Rattle.ft_serial.proofs.Reaching.{start, values}
use Rattle.ft_serial.proofs.order.list_open.Goals as goal
use Rattle.ft_serial.proofs.order.list_open.Goals.{then-is_open_at+in_ok-call+in-Some+in_ok-push, then-is_open_at+in_ok-call+in_default, else-is_open_at}

-- one call more, or none
one-more : (old before now after new : List StampedCall) → before ≡ old ++ now → new ≡ before ++ after → new ≡ old ++ (now ++ after)
one-more old before now after new was is = is ∙ ap (λ xs. xs ++ after) was ∙ append_assoc old now after

pub loop-place-preserved : goal.loop-place-preserved
loop-place-preserved c =
    let events = c.args.core.now.state.events in
    let h = history c.args.core.now.state in
    let place = c.loop-place.place in
    let now = map stamped (open_in h (take place events)) in
    let within : place < length events = subst (λ (es : List Event). place < length es) c.history-events.ensures.events c.loop-place-test.true in
    let next = open-at (finite.contains_key c.args.walk.now.undone) h events place c.is_open_at.result (walk-knows (start c.args.core.now c.history-events.ensures.reached) (values c.args.core.now c.history-events.ensures.reached) events c.history-events.ensures.reached.legal c.args.walk.now c.args.calls.now.items c.requires place) within c.is_open_at.ensures in
    let copied : (o : Option StampedCall) → o ≡ call_of (slice_get c.history-events.result.now place) → option_list (call_of (slice_get events place)) ≡ option_list o = λ o is.
    ap option_list (sym (is ∙ ap (λ (es : List Event). call_of (slice_get es place)) c.history-events.ensures.events)) in
    let done : (after : List StampedCall) → cond c.is_open_at.result (option_list (call_of (slice_get events place))) [] ≡ after → c.if-is_open_at.calls.items ≡ c.loop-place.calls.items ++ after → c.if-is_open_at.calls.items ≡ c.args.calls.now.items ++ map stamped (open_in h (take (place + 1) events)) = λ after is pushed.
    one-more c.args.calls.now.items c.loop-place.calls.items now after c.if-is_open_at.calls.items c.loop-place.invariant pushed ∙ ap (λ xs. c.args.calls.now.items ++ xs) (sym (next ∙ ap (λ xs. now ++ xs) is)) in
    elim c.if-is_open_at.branch [
      | then-is_open_at+in_ok-call+in-Some+in_ok-push w ↦
          done (w.in-Some.call ∷ []) (ap (λ b. cond b (option_list (call_of (slice_get events place))) []) w.if-is_open_at.true ∙ copied w.in_ok-call.field-0 w.in_ok-call.ensures ∙ ap option_list w.in-Some.is)
          (ap (λ v. v.items) w.calls-is ∙ w.in_ok-push.ensures.items)
      | then-is_open_at+in_ok-call+in_default w ↦
          done [] (ap (λ b. cond b (option_list (call_of (slice_get events place))) []) w.if-is_open_at.true ∙ copied w.in_ok-call.field-0 w.in_ok-call.ensures ∙ ap option_list w.in_default.is)
          (ap (λ v. v.items) w.calls-is ∙ sym (append-nil c.loop-place.calls.items))
      | else-is_open_at w ↦
          done [] (ap (λ b. cond b (option_list (call_of (slice_get events place))) []) w.if-is_open_at.false)
          (ap (λ v. v.items) w.calls-is ∙ sym (append-nil c.loop-place.calls.items))
    ]

pub returns : goal.returns
returns c =
    let core = c.args.core.now in
    let reached = c.history-events.ensures.reached in
    let past : length core.state.events ≤ c.loop-place.place = subst (λ (es : List Event). length es ≤ c.loop-place.place) c.history-events.ensures.events c.loop-place-test.false in
    c.loop-place.invariant
    ∙ ap (λ (es : List Event). c.args.calls.now.items ++ map stamped (open_in (history core.state) es)) (take_all c.loop-place.place core.state.events past)
    ∙ ap (λ cs. c.args.calls.now.items ++ map stamped cs) (open-are (start core reached) (values core reached) core.state.events reached.legal)
