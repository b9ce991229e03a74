use Rattle.std.proofs.Common.{ℕ, Bool, ◌&&◌, List, [], ◌∷◌, ◌++◌, Option, sym, ap, ◌∙◌, subst, rules}
use Rattle.std.proofs.lemmas.Iterator.{YieldsList-from_slice, YieldsList-from_zip}
use Rattle.std.proofs.lemmas.Iterator.Consumers.{YieldsList-end}
use Rattle.ft_plan_files.specs.declared.places.GetPlace.{GetPlace}
use Rattle.ft_run.specs.Giving.{GivesAll}
use Rattle.ft_run.proofs.GivenFiles.{gives_next, pairs}
use Rattle.ft_run.proofs.gets.give_files.Goals as goal

pub returns : goal.returns
returns g c =
    let gets = c.args.gets.now in
    let got = c.args.got.now in
    let all =
    YieldsList-end (YieldsList-from_zip (YieldsList-from_slice gets (search rules)) (YieldsList-from_slice got (search rules)))
    c.loop-get.yielded _ c.loop-get.yielded_by _ c.next.new.self c.in-None.is c.next.ensures.steps in
    subst (λ (pairs : List (GetPlace × Option (List ℕ))). GivesAll (g.F.DiskFiles.tells c.args.files.now) pairs c.loop-get.all (g.E.Write.contents c.args.errors.now) (g.E.Write.contents c.loop-get.errors)) all.0 c.loop-get.invariant

pub loop-get-preserved-then-all : goal.loop-get-preserved-then-all
loop-get-preserved-then-all g c =
    let tells = g.F.DiskFiles.tells c.args.files.now in
    let before = g.E.Write.contents c.args.errors.now in
    let after = g.E.Write.contents c.give_file-given.new.errors in
    let given = c.give_file-given.result in
    let more = gives_next tells c.loop-get.yielded (c.in-Some.get, c.in-Some.bytes) c.loop-get.all given before (g.E.Write.contents c.loop-get.errors) after c.loop-get.invariant c.give_file-given.ensures in
    subst (λ (all : Bool). GivesAll tells (pairs (c.loop-get.yielded ++ (c.in-Some.get, c.in-Some.bytes) ∷ [])) all before after) (ap (λ a. a && given) c.if-all.true) more

pub loop-get-preserved : goal.loop-get-preserved
loop-get-preserved g c =
    let tells = g.F.DiskFiles.tells c.args.files.now in
    let before = g.E.Write.contents c.args.errors.now in
    let after = g.E.Write.contents c.give_file-given.new.errors in
    let given = c.give_file-given.result in
    let more = gives_next tells c.loop-get.yielded (c.in-Some.get, c.in-Some.bytes) c.loop-get.all given before (g.E.Write.contents c.loop-get.errors) after c.loop-get.invariant c.give_file-given.ensures in
    subst (λ (all : Bool). GivesAll tells (pairs (c.loop-get.yielded ++ (c.in-Some.get, c.in-Some.bytes) ∷ [])) all before after) (ap (λ a. a && given) c.if-all.false ∙ sym c.if-all.false) more
