use Rattle.std.proofs.Common.{◌≡◌, Option, Some, ap, subst}
use Rattle.std.specs.Borrow.{Bor}
use Rattle.std.specs.Option.{option_copied}
use Rattle.ft_path.specs.Judged.{IsBehind}
use Rattle.ft_tree.specs.declared.front.Front.{Front}
use Rattle.ft_tree.specs.Views.{view_of}
use Rattle.ft_tree.specs.Fronts.{LeadsIfAny, entries_of}
use Rattle.ft_posix.specs.Accesses.{with_looks}
use Rattle.ft_posix.specs.Looking.{Looking}
use Rattle.ft_looks.specs.Rests.{IsRest}
use Rattle.ft_looks.proofs.Resting.{rest_is}
use Rattle.ft_looks.proofs.look.Look.rest_of.Goals as goal

pub returns : goal.returns
returns c =
    let i = c.self.inside in
    let front = c.in_ok-front.front.now in
    let is : i.front ≡ Some c.in_ok-front.front = c.in_ok-front.was in
    let old : Looking = record { cells = i.cursor; modes = with_looks i.touched (entries_of (option_copied i.front)); front = entries_of (option_copied i.front) } in
    subst (λ (l : Looking). IsRest l c.args.path.now c.end.result c.in_ok-rest.rest) c.self.view_is
    (rest_is old i.touched front (subst (λ (f : Option (Bor Front)). LeadsIfAny (view_of i.cursor) (option_copied f)) is c.self.invariant.0)
    (ap (λ (f : Option (Bor Front)). entries_of (option_copied f)) is) (ap (λ (f : Option (Bor Front)). with_looks i.touched (entries_of (option_copied f))) is)
    c.args.path.now c.in_ok-rest.rest (subst (λ text. IsBehind text c.in_ok-rest.rest c.args.path.now) c.as_slice.ensures.value c.in_ok-rest.ensures) c.end.result c.end.ensures)
