use Rattle.std.proofs.Common.{◌==◌, [], length, eqb-true, vec_len, refl, ap, sym, subst, ◌∙◌}
use Rattle.std.proofs.lemmas.Bool.{false≢true}
use Rattle.std.proofs.lemmas.List.{nil_from_length}
use Rattle.std.specs.Option.{option_copied}
use Rattle.ft_posix.specs.Accesses.{accesses_of}
use Rattle.ft_posix.specs.Outcomes.{Outcome}
use Rattle.ft_posix.specs.Stored.{outcome}
use Rattle.ft_undo.proofs.Fresh.{no_bytes}
use Rattle.ft_lock_rules.specs.Locks.{AreBlockers}
use Rattle.ft_core.specs.Makes.{IsMadeOn}
use Rattle.ft_core.proofs.Known.{call_laws}
use Rattle.ft_core.proofs.Tried.{leads-of, all-blockers, all-granted, made-with, known-made, known-unmade}
use Rattle.ft_core.proofs.parts.Parts.try_with.Goals as goal

-- the stamp of the call is free, so nothing is stored of it
pub look_behind-requires-clause-fresh : goal.look_behind-requires-clause-fresh
look_behind-requires-clause-fresh c = no_bytes c.requires.free

pub look_behind-requires-clause-leads : goal.look_behind-requires-clause-leads
look_behind-requires-clause-leads c = leads-of c.args.self.now.tree c.args.self.now.locks c.args.asker.txn (option_copied c.front_for-front.result) c.front_for-front.ensures.held

pub returns-then-not-is_empty-clause-tried : goal.returns-then-not-is_empty-clause-tried
returns-then-not-is_empty-clause-tried c =
    let old = c.args.self.now in
    let found = c.in_ok-blockers.field-0.blockers in
    let noted = c.in_ok-accesses.field-0.accesses.items in
    let all = accesses_of old.tree c.args.asker.stamp c.args.call.now in
    record {
      some = λ none. false≢true (c.if-not-is_empty.ensures ∙ ap (λ n. n == 0) (found.ok.0 ∙ ap length none));
      are = all-blockers old.tree old.locks old.forest c.args.asker.txn noted all c.args.rule c.requires.no_holder (option_copied c.front_for-front.result) c.front_for-front.ensures.held c.front_for-front.ensures.alone c.in_ok-accesses.ensures.accesses c.in_ok-accesses.ensures.exact found.items
          (subst (λ xs. AreBlockers c.args.rule old.locks old.forest c.args.asker.txn xs found.items) c.as_slice.ensures.value c.in_ok-blockers.ensures.blockers);
      unmade = record { forest = refl; cells = refl; locks = refl; listed = λ t. refl; open_still = λ t. refl };
    }

pub returns-clause-tried : goal.returns-clause-tried
returns-clause-tried c =
    let old = c.args.self.now in
    let new = c.make.new.self in
    let t = c.args.asker.txn in
    let k = c.args.asker.stamp in
    let front = option_copied c.front_for-front.result in
    let noted = c.in_ok-accesses.field-0.accesses.items in
    let all = accesses_of old.tree k c.args.call.now in
    let comes = c.in_ok-accesses.ensures.outcome in
    let found = c.in_ok-blockers.field-0.blockers in
    let none : AreBlockers c.args.rule old.locks old.forest t noted [] =
    subst (λ xs. AreBlockers c.args.rule old.locks old.forest t xs []) c.as_slice.ensures.value
    (subst (λ ys. AreBlockers c.args.rule old.locks old.forest t c.as_slice.result.now ys) (nil_from_length found.items (sym found.ok.0 ∙ eqb-true (vec_len found) 0 (sym c.if-not-is_empty.ensures))) c.in_ok-blockers.ensures.blockers) in
    let made : IsMadeOn old new (outcome old.tree k c.args.call.now).writes t k noted =
    subst (IsMadeOn old new (outcome old.tree k c.args.call.now).writes t k) c.as_slice-2.ensures.value
    (subst (λ (o : Outcome). IsMadeOn old new o.writes t k c.as_slice-2.result.now) comes c.in_ok-make.ensures.made) in
    record {
      free = all-blockers old.tree old.locks old.forest t noted all c.args.rule c.requires.no_holder front c.front_for-front.ensures.held c.front_for-front.ensures.alone c.in_ok-accesses.ensures.accesses c.in_ok-accesses.ensures.exact [] none;
      reply = c.in_ok-tell.ensures.reply ∙ ap (λ o. o.reply) comes;
      made_on = made-with old new (outcome old.tree k c.args.call.now).writes t k noted all made
          (all-granted old.tree old.locks old.forest t noted all front c.front_for-front.ensures.held c.in_ok-accesses.ensures.accesses c.in_ok-accesses.ensures.exact new.locks made.granted);
    }

pub returns-clause-whole : goal.returns-clause-whole
returns-clause-whole c = λ wanted. c.in_ok-accesses.ensures.exact (c.front_for-front.ensures.none wanted)

pub returns-clause-known : goal.returns-clause-known
returns-clause-known c =
    known-made call_laws.setting c.args.self.now c.make.new.self c.learn_from.new.self c.forget_if_passed.new.self c.learn_from.ensures c.look_behind.new.edits c.forget_if_passed.ensures
    c.args.asker.txn c.args.asker.stamp c.as_slice-2.result.now c.in_ok-make.ensures.made

-- want of memory left what was known
pub returns-in_err-make-clause-known : goal.returns-in_err-make-clause-known
returns-in_err-make-clause-known c =
    known-unmade call_laws.setting c.args.self.now c.make.new.self c.learn_from.new.self c.forget_if_passed.new.self c.learn_from.ensures c.look_behind.new.edits c.forget_if_passed.ensures c.in_err-make.ensures.unmade
