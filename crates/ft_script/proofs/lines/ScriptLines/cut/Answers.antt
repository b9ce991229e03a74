use Rattle.std.proofs.Common.{◌≡◌, ◌-◌, ◌++◌, ◌∷◌, List, ℕ, take, drop, sym, ap, ◌∙◌, subst, Err, append-nil, append_assoc, [], arith}
use Rattle.ft_words.specs.Spelling.{IsFreeOf}
use Rattle.ft_script.specs.Reading.{StopsCutting, uncut}
use Rattle.ft_script.proofs.Cutting.{free-append}
use Rattle.ft_script.proofs.Reading.{behind_line, free_begun, passed_on, stops_lengthening}
use Rattle.ft_script.proofs.lines.ScriptLines.cut.Goals as goal

pub returns-in_err-lengthen-in-Some-clause-fault : goal.returns-in_err-lengthen-in-Some-clause-fault
returns-in_err-lengthen-in-Some-clause-fault c =
    let lines = c.args.self.now in
    let line = c.drop_cut.new.line.items in
    let free = subst (IsFreeOf 10) (sym c.drop_cut.ensures) (free_begun lines.is_cut lines.line.items lines.free) in
    let parts = c.in-Some.ensures in
    let rest = subst (λ (xs : List ℕ). take (lines.end - lines.start) (drop lines.start xs) ≡ c.in-Some.piece.now ++ 10 ∷ c.in-Some.behind.now) c.deref.ensures.value parts.1 in
    let fault = c.in_err-lengthen-in-Some.field-0.0 in
    let stops = stops_lengthening fault line c.in-Some.piece.now (10 ∷ c.in-Some.behind.now) free parts.0 c.in_err-lengthen-in-Some.ensures.cause
    (λ is. c.in_err-lengthen-in-Some.ensures.too_long.0 (ap Err is)) in
    passed_on c.from_residual.result (λ e. StopsCutting e (uncut lines)) fault c.from_residual.ensures
    (subst (λ (begun : List ℕ). StopsCutting fault (begun ++ take (lines.end - lines.start) (drop lines.start lines.chunk.items))) c.drop_cut.ensures (subst (λ (xs : List ℕ). StopsCutting fault (line ++ xs)) (sym rest) stops))

pub returns-in_err-lengthen-in-None-clause-fault : goal.returns-in_err-lengthen-in-None-clause-fault
returns-in_err-lengthen-in-None-clause-fault c =
    let lines = c.args.self.now in
    let line = c.drop_cut.new.line.items in
    let free = subst (IsFreeOf 10) (sym c.drop_cut.ensures) (free_begun lines.is_cut lines.line.items lines.free) in
    let rest = take (lines.end - lines.start) (drop lines.start c.deref.result.now) in
    let fault = c.in_err-lengthen-in-None.field-0.0 in
    let stops = stops_lengthening fault line rest [] free c.in-None.ensures c.in_err-lengthen-in-None.ensures.cause
    (λ is. c.in_err-lengthen-in-None.ensures.too_long.0 (ap Err is)) in
    passed_on c.from_residual-in_err-lengthen-in-None.result (λ e. StopsCutting e (uncut lines)) fault c.from_residual-in_err-lengthen-in-None.ensures
    (subst (λ (begun : List ℕ). StopsCutting fault (begun ++ take (lines.end - lines.start) (drop lines.start lines.chunk.items))) c.drop_cut.ensures
    (subst (λ (xs : List ℕ). StopsCutting fault (line ++ take (lines.end - lines.start) (drop lines.start xs))) c.deref.ensures.value (subst (λ (xs : List ℕ). StopsCutting fault (line ++ xs)) (append-nil rest) stops)))

pub returns-in_ok-lengthen-in-Some-clause-line : goal.returns-in_ok-lengthen-in-Some-clause-line
returns-in_ok-lengthen-in-Some-clause-line c =
    let lines = c.args.self.now in
    let line = c.drop_cut.new.line.items in
    let free = subst (IsFreeOf 10) (sym c.drop_cut.ensures) (free_begun lines.is_cut lines.line.items lines.free) in
    let piece = c.in-Some.piece.now in
    let behind = c.in-Some.behind.now in
    let parts = c.in-Some.ensures in
    let rest = subst (λ (xs : List ℕ). take (lines.end - lines.start) (drop lines.start xs) ≡ piece ++ 10 ∷ behind) c.deref.ensures.value parts.1 in
    let left = behind_line lines.chunk.items piece behind lines.start lines.end rest lines.in_order (omega (arith, lines.within, lines.room, lines.chunk.ok.0)) in
    λ _. record {
      free = subst (IsFreeOf 10) (sym c.in_ok-lengthen-in-Some.ensures.ok) (free-append 10 line piece free parts.0);
      fits = c.in_ok-lengthen-in-Some.ensures.fits;
      ended = ap (λ (begun : List ℕ). begun ++ take (lines.end - lines.start) (drop lines.start lines.chunk.items)) (sym c.drop_cut.ensures)
          ∙ ap (λ (xs : List ℕ). line ++ xs) rest ∙ sym (append_assoc line piece (10 ∷ behind)) ∙ ap (λ (xs : List ℕ). xs ++ 10 ∷ behind) (sym c.in_ok-lengthen-in-Some.ensures.ok)
          ∙ ap (λ (xs : List ℕ). c.lengthen.new.begun.items ++ 10 ∷ xs) (sym left);
    }
