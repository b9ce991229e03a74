use Rattle.std.proofs.Common.{[], ◌<◌, is_some, reverse, Vec, Global, refl, sym, ap, subst, ◌∙◌}
use Rattle.std.specs.Ordering.{nat_cmp}
use Rattle.std.specs.FinMap as finite
use Rattle.std.proofs.lemmas.Bool.{false≢true}
use Rattle.ft_laws.specs.Lists.{Each, Pairs}
use Rattle.ft_history.specs.Logs.{joined}
use Rattle.ft_serial.specs.declared.asked.Asked.{Asked}
use Rattle.ft_serial.specs.Asked.{Lists, listed, calls_in}
use Rattle.ft_serial.specs.Walks.{Stamps, standing_call, HasCommitted}
use Rattle.ft_serial.proofs.walk.Walk.new.Goals as goal

pub returns : goal.returns
returns c = record {
  passed = refl;
  undone = λ k there. absurd (false≢true (sym (ap (λ (m : Stamps). finite.contains_key m k) c.new.ensures ∙ ap is_some (finite.get-empty {X = Unit {0}} nat_cmp k)) ∙ there));
  known = λ d i o. absurd i;
  under = λ top open_top. ap (λ (m : Lists). calls_in m top) c.new-2.ensures ∙ ap listed (finite.get-empty {X = Vec Asked Global} nat_cmp top);
  closing = subst (Each (HasCommitted c.new.result [])) (sym c.new-3.ensures.items) tt;
  falling = subst (Pairs (λ x y. y.call.stamp < x.call.stamp)) (sym c.new-3.ensures.items) tt;
  split = sym (ap (λ xs. joined (standing_call []) (reverse xs)) c.new-3.ensures.items);
}
