use Rattle.std.proofs.Common.{◌≡◌, ◌≤◌, ◌+◌, List, [], ◌∷◌, ◌++◌, length, arith, vec_len, vec_capacity, append_assoc, add-one, sym, ap, subst, ◌∙◌, IsOk, if◌then◌else◌}
use Rattle.std.specs.Vec.Iter.{into_iter_items}
use Rattle.ft_core.specs.declared.request.Request.{Request}
use Rattle.ft_core.specs.declared.request.Answer.{Answer}
use Rattle.ft_core.specs.Steps.{IsRun, exact_rule}
use Rattle.ft_core.proofs.Gathered.{state-is}
use Rattle.ft_core.proofs.Known.{call_laws, lock_laws}
use Rattle.ft_core.specs.Reached.{IsLegalAt}
use Rattle.ft_core.proofs.Legally.{legal-of, legal-run, legal-replies}
use Rattle.ft_core.proofs.RunsOn.{run-push}
use Rattle.ft_core.proofs.manager.Core.run.Goals as goal

pub loop-request-preserved : goal.loop-request-preserved
loop-request-preserved c =
    let rest : into_iter_items c.loop-request.request-iterator ≡ c.in-Some.request ∷ into_iter_items c.next.new.self = c.in-Some.ensures.steps.0 in
    let room : vec_len c.loop-request.answers + length (into_iter_items c.loop-request.request-iterator) ≤ vec_capacity c.loop-request.answers = c.loop-request.invariant.room in
    let longer : length (into_iter_items c.loop-request.request-iterator) ≡ length (into_iter_items c.next.new.self) + 1 = ap length rest ∙ sym (add-one (length (into_iter_items c.next.new.self))) in
    let fits : IsOk c.push.result = c.push.ensures.succeeds (omega arith) in
    let items : c.push.new.self.items ≡ c.loop-request.answers.items ++ c.answer-answer.result ∷ [] =
    c.push.ensures.items ∙ ap (λ b. if b then (c.loop-request.answers.items ++ c.answer-answer.result ∷ []) else c.loop-request.answers.items) fits in
    record {
      ran = subst (λ (answers : List Answer). IsRun exact_rule c.args.self.now.state (c.loop-request.yielded ++ c.in-Some.request ∷ []) answers c.answer-answer.new.self.state) (sym items)
          (run-push exact_rule c.args.self.now.state c.loop-request.yielded c.loop-request.answers.items c.loop-request.self.state c.in-Some.request c.answer-answer.result c.answer-answer.new.self.state c.loop-request.invariant.ran c.answer-answer.ensures);
      rest = append_assoc c.loop-request.yielded (c.in-Some.request ∷ []) (into_iter_items c.next.new.self) ∙ ap (λ (rs : List Request). c.loop-request.yielded ++ rs) (sym rest) ∙ c.loop-request.invariant.rest;
      room = let upper = c.push.ensures.upper_bound in let capacity = c.push.ensures.capacity in omega arith;
    }

pub returns-clause-headline : goal.returns-clause-headline
returns-clause-headline c =
    let l = c.loop-request in
    let first : IsLegalAt c.args.self.now.state = subst IsLegalAt (state-is c.self.view_is) (legal-of c.self.invariant.0.kept) in
    legal-replies call_laws l.self.state (legal-run call_laws lock_laws c.args.self.now.state l.yielded l.answers.items l.self.state first l.invariant.ran)
