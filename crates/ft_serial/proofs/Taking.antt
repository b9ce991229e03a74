-- The next call of the transaction that committed last is given out.
use Rattle.std.proofs.Common.{◌≡◌, ◌≤◌, ◌+◌, ℕ, Bool, cond, List, [], ◌∷◌, ◌++◌, length, take, drop, reverse, sym, ap, subst, ◌∙◌, arith, append-nil, append_assoc}
use mathlib.Core.List.{IsPrefix}
use Rattle.std.specs.FinMap as finite
use Rattle.std.proofs.lemmas.List.{take-append-drop, length-append}
use Rattle.ft_posix.specs.declared.stamped.StampedCall.{StampedCall}
use Rattle.ft_posix.specs.Posix.{posix_calls}
use Rattle.ft_history.specs.Logs.{joined}
use Rattle.ft_history.specs.Legal.{Legal}
use Rattle.ft_core.specs.declared.request.Event.{Event}
use Rattle.ft_core.specs.Histories.{told}
use Rattle.ft_core.specs.States.{StoredState, State, history}
use Rattle.ft_core.specs.Reached.{IsReached}
use Rattle.ft_serial.specs.declared.asked.Asked.{Asked}
use Rattle.ft_serial.specs.declared.walk.Walk.{Walk}
use Rattle.ft_serial.specs.Serials.{committed_in, committed_calls}
use Rattle.ft_serial.specs.Walks.{stands, standing_call, IsWalk, IsWalkOf}
use Rattle.ft_serial.proofs.Lasting.{committed-first}
use Rattle.ft_serial.proofs.Reaching.{start, values}
use Rattle.ft_serial.proofs.Walking.{walk-taken}

pub taken : (core : StoredState) → IsReached core → (forgotten : ℕ) (w w' : Walk) (given : List StampedCall) (front : List Asked) (a : Asked) (does : Bool) → IsWalkOf forgotten w core.state given → w.closing.items ≡ front ++ a ∷ []
    → w'.passed ≡ w.passed → w'.undone ≡ finite.remove w.undone a.call.stamp → w'.under ≡ w.under → w'.closing.items ≡ front
    → does ≡ stands (finite.contains_key w.undone) (history core.state) a.call.stamp a.txn → IsWalkOf forgotten w' core.state (given ++ cond does (a.call ∷ []) [])
taken core reached forgotten w w' given front a does was ends passed undone under left is =
    let events = core.state.events in
    let place = forgotten + w.passed in
    let whole = take-append-drop place events in
    subst (λ n. IsWalk forgotten w' (take (forgotten + n) events) (given ++ cond does (a.call ∷ []) [])) (sym passed)
    (walk-taken (start core reached) (values core reached) (take place events) (drop place events) (subst (λ (es : List Event). Legal posix_calls (start core reached) (told es)) (sym whole) reached.legal)
    forgotten w w' given front a does was ends passed undone under left
    (subst (λ (es : List Event). does ≡ stands (finite.contains_key w.undone) (told es) a.call.stamp a.txn) (sym whole) is))

pub none-taken : (forgotten : ℕ) (w : Walk) (s : State) (given : List StampedCall) → IsWalkOf forgotten w s (given ++ []) → IsWalkOf forgotten w s given
none-taken forgotten w s given walk = subst (λ (xs : List StampedCall). IsWalkOf forgotten w s xs) (append-nil given) walk

-- What was given out stands first among the committed calls.
pub given-first : (core : StoredState) → IsReached core → (forgotten : ℕ) (w : Walk) (given : List StampedCall) → IsWalkOf forgotten w core.state given → IsPrefix given (committed_calls core.state)
given-first core reached forgotten w given walk =
    let events = core.state.events in
    let whole = take-append-drop (forgotten + w.passed) events in
    let more = committed-first (start core reached) (values core reached) (take (forgotten + w.passed) events) (drop (forgotten + w.passed) events) (subst (λ (es : List Event). Legal posix_calls (start core reached) (told es)) (sym whole) reached.legal) in
    let due = joined (standing_call (told (take (forgotten + w.passed) events))) (reverse w.closing.items) in (
      due ++ more.0,
      sym (append_assoc given due more.0) ∙ ap (λ xs. xs ++ more.0) (sym walk.split) ∙ sym more.1 ∙ ap committed_in whole,
    )

prefix-length : (xs ys : List StampedCall) → IsPrefix xs ys → length xs ≤ length ys
prefix-length xs ys p = omega (arith, sym (length-append xs p.0) ∙ ap length p.1)

pub few-given : (core : StoredState) → IsReached core → (forgotten : ℕ) (w : Walk) (given : List StampedCall) → IsWalkOf forgotten w core.state given → length given ≤ length (committed_calls core.state)
few-given core reached forgotten w given walk = prefix-length given (committed_calls core.state) (given-first core reached forgotten w given walk)
