use Rattle.std.proofs.Common.{Option, IfNone, IfSome, refl, sym, subst, ap, ◌∙◌}
use Rattle.ft_copy.specs.declared.found.FoundFile.{FoundFile}
use Rattle.ft_into.specs.Compares.{IsAnother}
use Rattle.ft_into.specs.Knows.{Opening}
use Rattle.ft_into.specs.Views.{kept_of, opening_of, same_of, seen}
use Rattle.ft_into.proofs.Compared.{Stays, close_changes, close_stays}
use Rattle.ft_into.proofs.comparing.ComparingFileTarget.close.Goals as goal

pub returns-in_ok-note-in-Some-2-clause-ok : goal.returns-in_ok-note-in-Some-2-clause-ok
returns-in_ok-note-in-Some-2-clause-ok g c =
    let tells = g.S.Source.tells c.args.self.now.disk.now in
    let remaining = g.S.File.Read.remaining in
    let old = seen remaining c.args.self.now in
    let opening : Opening = record { step = c.in-Some.open.step; same = same_of remaining c.in-Some.open.same } in
    let after = opening_of remaining c.take.new.self in
    let stays = subst (λ (o : Option FoundFile). IfSome o (Stays tells c.args.self.now.wishes c.args.time old opening after)) c.in-Some-2.is c.in_ok-found.ensures.some in (
      refl,
      refl,
      close_stays tells c.args.self.now.wishes c.args.time old opening after c.in-Some-2.found c.as_slice.result.now (kept_of c.note.new.self) (ap (opening_of remaining) (sym c.take.ensures.value ∙ c.in-Some.is))
          (ap (opening_of remaining) c.take.ensures.after) stays c.as_slice.ensures c.in_ok-note-in-Some-2.ensures,
    )

pub returns-in_ok-push-in-None-clause-ok : goal.returns-in_ok-push-in-None-clause-ok
returns-in_ok-push-in-None-clause-ok g c =
    let tells = g.S.Source.tells c.args.self.now.disk.now in
    let remaining = g.S.File.Read.remaining in
    let old = seen remaining c.args.self.now in
    let opening : Opening = record { step = c.in-Some.open.step; same = same_of remaining c.in-Some.open.same } in
    let after = opening_of remaining c.take.new.self in
    let other = subst (λ (o : Option FoundFile). IfNone o (IsAnother c.args.time opening.same)) c.in-None.is c.in_ok-found.ensures.none in (
      refl,
      refl,
      close_changes tells c.args.self.now.wishes c.args.time old opening after _ (ap (opening_of remaining) (sym c.take.ensures.value ∙ c.in-Some.is)) (ap (opening_of remaining) c.take.ensures.after) other
          c.in_ok-push-in-None.ensures.items,
    )
