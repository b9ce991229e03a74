-- What was given out, as clauses see it.
use Rattle.std.proofs.Common.{◌≡◌, ◌≤◌, ◌<◌, ◌+◌, ◌-◌, ℕ, Vec, Global, Option, Some, None, List, [], ◌∷◌, ◌++◌, Result, Ok, Err, IfOk, IfSome, IfNone, OnErr, length, take, drop, reverse, refl, sym, ap, subst, ◌∙◌, arith}
use mathlib.Core.List.{IsPrefix}
use Rattle.std.specs.FinMap as finite
use Rattle.ft_laws.specs.Lists.{Each, Pairs}
use Rattle.std.proofs.lemmas.List.{length-append, take_all, take-append-drop}
use Rattle.ft_base.specs.declared.memory.Memory.{Memory}
use Rattle.ft_posix.specs.declared.stamped.StampedCall.{StampedCall}
use Rattle.ft_history.specs.Logs.{joined}
use Rattle.ft_core.specs.declared.request.Event.{Event}
use Rattle.ft_core.specs.Histories.{told}
use Rattle.ft_core.specs.States.{StoredState, State}
use Rattle.ft_core.specs.Reached.{IsReached}
use Rattle.ft_serial.specs.declared.asked.Asked.{Asked}
use Rattle.ft_serial.specs.declared.walk.Walk.{Walk}
use Rattle.ft_serial.specs.Serials.{committed_calls, committed_in}
use Rattle.ft_serial.specs.Asked.{Lists, calls_in}
use Rattle.ft_serial.specs.CommittedCalls.{but_last, given_by}
use Rattle.ft_serial.specs.Walks.{Stamps, standing_call, HasCommitted, IsWalk, IsWalkOf, IsNext}
use Rattle.ft_serial.proofs.Taking.{given-first}

-- the front of a list
pub take-front : {A : Type 0} (xs ys : List A) → take (length xs) (xs ++ ys) ≡ xs
take-front [] ys = refl
take-front (x ∷ xs) ys = ap (λ zs. x ∷ zs) (take-front xs ys)

without-back : (xs ys : List StampedCall) → but_last (xs ++ ys) (length ys) ≡ xs
without-back xs ys =
    let both = length-append xs ys in
    let n : length (xs ++ ys) - length ys ≡ length xs = omega arith in
    ap (λ m. take m (xs ++ ys)) n ∙ take-front xs ys

pub given-is : (n : ℕ) (w : Walk) (events : List Event) (given : List StampedCall) → IsWalk n w events given → given_by w events ≡ given
given-is n w events given walk =
    let due = joined (standing_call (told events)) (reverse w.closing.items) in
    ap (λ calls. but_last calls (length due)) walk.split ∙ without-back given due

-- the core has gone on
pub walk-on : (n : ℕ) (w : Walk) (s : State) (events : List Event) (given : List StampedCall) → IsPrefix events s.events → IsWalk n w events given → IsWalkOf n w s given
walk-on n w s events given more walk =
    subst (λ (es : List Event). IsWalk n w es given) (sym (ap (λ m. take m s.events) walk.passed ∙ ap (take (length events)) (sym more.1) ∙ take-front events more.0)) walk

-- what was given out after a call
abbrev pub given_after : List StampedCall → Result (Option StampedCall) Memory → List StampedCall
given_after given (Ok (Some call)) = given ++ call ∷ []
given_after given (Ok None) = given
given_after given (Err memory) = given

pub walk-after : (n : ℕ) (w : Walk) (s : State) (given : List StampedCall) (r : Result (Option StampedCall) Memory) → IsNext n w s given r → IsWalkOf n w s (given_after given r)
walk-after n w s given (Ok (Some call)) next = next
walk-after n w s given (Ok None) next =
    let walk = next.0 in
    let past : length s.events ≤ n + w.passed = let is = walk.passed in omega arith in
    subst (λ (es : List Event). IsWalk n w es given) (sym (take_all (n + w.passed) s.events past)) walk
walk-after n w s given (Err memory) next = next

module _ (s : State) (old new : List StampedCall) where
  pub call-is : (r : Result (Option StampedCall) Memory) → new ≡ given_after old r → IfOk r (λ next. IfSome next (λ call. new ≡ old ++ call ∷ []))
  call-is (Ok (Some call)) is = is
  call-is (Ok None) is = tt
  call-is (Err memory) is = tt

  pub none-same : (r : Result (Option StampedCall) Memory) → new ≡ given_after old r → IfOk r (λ next. IfNone next (new ≡ old))
  none-same (Ok (Some call)) is = tt
  none-same (Ok None) is = is
  none-same (Err memory) is = tt

  pub none-all : (n : ℕ) (w : Walk) (r : Result (Option StampedCall) Memory) → new ≡ given_after old r → IsNext n w s old r → IfOk r (λ next. IfNone next (new ≡ committed_calls s))
  none-all n w (Ok (Some call)) is next = tt
  none-all n w (Ok None) is next = is ∙ next.1
  none-all n w (Err memory) is next = tt

  pub err-same : (r : Result (Option StampedCall) Memory) → new ≡ given_after old r → OnErr r (new ≡ old)
  err-same (Ok next) is = tt
  err-same (Err memory) is = is

-- One call of `next`, from a core that was seen before to one that has gone on; so many events are
-- forgotten.
module _ (core : StoredState) (reached : IsReached core) (n : ℕ) (w w' : Walk) (seen : List Event) (r : Result (Option StampedCall) Memory) (more : IsPrefix (take (n + w.passed) seen) core.state.events)
    (was : IsWalk n w (take (n + w.passed) seen) (given_by w (take (n + w.passed) seen))) (next : (given : List StampedCall) → IsWalkOf n w core.state given → IsNext n w' core.state given r) (now : StoredState) (is : now ≡ core) where
  abbrev first : List Event
  first = take (n + w.passed) seen

  abbrev old : List StampedCall
  old = given_by w first

  abbrev passed : List Event
  passed = take (n + w'.passed) now.state.events

  pub step : IsNext n w' core.state old r
  step = next old (walk-on n w core.state first old more was)

  after : IsWalkOf n w' core.state (given_after old r)
  after = walk-after n w' core.state old r step

  same : take (n + w'.passed) core.state.events ≡ passed
  same = ap (λ (v : StoredState). take (n + w'.passed) v.state.events) (sym is)

  pub new-is : given_by w' passed ≡ given_after old r
  new-is = ap (given_by w') (sym same) ∙ given-is n w' (take (n + w'.passed) core.state.events) (given_after old r) after

  pub still-walk : IsWalk n w' passed (given_by w' passed)
  still-walk = subst (λ (xs : List StampedCall). IsWalk n w' passed xs) (sym new-is) (subst (λ (es : List Event). IsWalk n w' es (given_after old r)) same after)

  pub events-first : IsPrefix passed core.state.events
  events-first = (drop (n + w'.passed) core.state.events, ap (λ xs. xs ++ drop (n + w'.passed) core.state.events) (sym same) ∙ take-append-drop (n + w'.passed) core.state.events)

  pub calls-first : IsPrefix (given_by w' passed) (committed_calls core.state)
  calls-first = subst (λ (xs : List StampedCall). IsPrefix xs (committed_calls core.state)) (sym new-is) (given-first core reached n w' (given_after old r) after)

  pub calls-kept : IsPrefix (given_by w' passed) (committed_in passed)
  calls-kept = (joined (standing_call (told passed)) (reverse w'.closing.items), sym still-walk.split)

  -- where there is none, all events were gone over
  pub none-whole : IfOk r (λ next. IfNone next (passed ≡ core.state.events))
  none-whole = whole r step
    where
      whole : (o : Result (Option StampedCall) Memory) → IsNext n w' core.state old o → IfOk o (λ next. IfNone next (passed ≡ core.state.events))
      whole (Ok (Some call)) next = tt
      whole (Ok None) next = sym same ∙ take_all (n + w'.passed) core.state.events (let is = next.0.passed in omega arith)
      whole (Err memory) next = tt

-- The events are forgotten.
pub walk-forgot : (n m : ℕ) (w w' : Walk) (events : List Event) (given : List StampedCall) → IsWalk n w events given → m ≡ length events → w'.passed ≡ 0 → w'.undone ≡ w.undone → w'.under ≡ w.under → w'.closing ≡ w.closing → IsWalk m w' events given
walk-forgot n m w w' events given was all none undone under closing = record {
  passed = omega (arith, all, none);
  undone = λ k there. was.undone k (sym (ap (λ (s : Stamps). finite.contains_key s k) undone) ∙ there);
  known = λ c i o. ap (λ (s : Stamps). finite.contains_key s c.call.stamp) undone ∙ was.known c i o;
  under = λ top o. ap (λ (l : Lists). calls_in l top) under ∙ was.under top o;
  closing = subst (λ s. Each (HasCommitted s (told events)) w'.closing.items) (sym undone) (subst (λ (v : Vec Asked Global). Each (HasCommitted w.undone (told events)) v.items) (sym closing) was.closing);
  falling = subst (λ (v : Vec Asked Global). Pairs (λ x y. y.call.stamp < x.call.stamp) v.items) (sym closing) was.falling;
  split = was.split ∙ ap (λ (v : Vec Asked Global). given ++ joined (standing_call (told events)) (reverse v.items)) (sym closing);
}

-- all events of a core that was seen twice
pub seen-again : (s t core : StoredState) → s ≡ core → t ≡ core → take (length s.state.events + 0) t.state.events ≡ core.state.events
seen-again s t core first second =
    (λ i. take (length (first i).state.events + 0) (second i).state.events)
    ∙ take_all (length core.state.events + 0) core.state.events (omega arith)
