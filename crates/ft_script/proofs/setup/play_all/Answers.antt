use Rattle.std.proofs.Common.{◌≡◌, ◌+◌, ◌∷◌, ◌++◌, [], List, ℕ, suc, true, false, length, inl, length-append, refl, sym, ap, ◌∙◌, append_assoc, arith, rules}
use Rattle.ft_words.specs.Spelling.{lines_of}
use Rattle.ft_names.specs.Names.{Naming, moment, names_of, no_names}
use Rattle.ft_script.proofs.SetupRunning.{plays_more, lines_fit}
use Rattle.ft_script.proofs.setup.play_all.Goals as goal

pub loop-line-preserved : goal.loop-line-preserved
loop-line-preserved g c =
    let so_far = c.loop-line.invariant in
    let line = c.in-Some.line.now in
    let well : c.in_ok-well.well ≡ true = search rules in
    let rest_is : c.loop-line.rest ≡ line ∷ c.next.new.self = search rules in (
      so_far.0 ++ line ∷ [],
      so_far.1 ∙ ap (λ (l : List (List ℕ)). so_far.0 ++ l) rest_is ∙ sym (append_assoc so_far.0 (line ∷ []) c.next.new.self),
      plays_more (g.F.DiskFiles.tells c.args.files.now) (c.args.core.now.state, no_names) (moment c.loop-line.core c.loop-line.names) (moment c.play_line.new.core c.play_line.new.names) so_far.0 line so_far.2 (c.in_ok-well.ensures.well well),
      omega (arith, so_far.3, length-append so_far.0 (line ∷ [])),
    )

pub overflow_add-number : goal.overflow_add-number
overflow_add-number g c =
    let so_far = c.loop-line.invariant in
    let line = c.in-Some.line.now in
    let rest_is : c.loop-line.rest ≡ line ∷ c.next.new.self = search rules in
    let all : length (lines_of c.args.script.now) ≡ length (so_far.0 ++ line ∷ c.next.new.self) = ap length (so_far.1 ∙ ap (λ (l : List (List ℕ)). so_far.0 ++ l) rest_is) in
    let more = length-append so_far.0 (line ∷ c.next.new.self) in
    let fit = lines_fit c.args.script.now in
    let bound = c.type_inv.script in
    omega (arith, so_far.3, all, more, fit, bound)

pub returns-then-not-well-clause-fault : goal.returns-then-not-well-clause-fault
returns-then-not-well-clause-fault g c =
    let so_far = c.loop-line.invariant in
    let line = c.in-Some.line.now in
    let badly : c.in_ok-well.well ≡ false = search rules in
    let rest_is : c.loop-line.rest ≡ line ∷ c.next.new.self = search rules in
    let count : c.loop-line.number + 1 ≡ suc (length so_far.0) = omega (arith, so_far.3) in
    inl
    (so_far.0, line, c.next.new.self, moment c.loop-line.core c.loop-line.names, names_of c.play_line.new.names, so_far.1 ∙ ap (λ (l : List (List ℕ)). so_far.0 ++ l) rest_is, count, so_far.2, c.in_ok-well.ensures.badly badly)

pub loop-line-init : goal.loop-line-init
loop-line-init g c = ([], sym c.of-rest.ensures, ap (λ (names : Naming). (c.args.core.now.state, names)) c.new-names.ensures, refl)
