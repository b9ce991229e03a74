use Rattle.std.proofs.Common.{[], ◌∷◌, ◌++◌, sym, ap, ◌∙◌}
use Rattle.ft_copy.specs.Walks.{above}
use Rattle.ft_copy.proofs.Walking.{put_last}
use Rattle.ft_copy.proofs.walk.put_on_top.Goals as goal

pub loop-listed-preserved-in_ok-push : goal.loop-listed-preserved-in_ok-push
loop-listed-preserved-in_ok-push c =
    let left = c.loop-listed.walk.left.items in
    let path = c.args.path.now in
    let pushed = c.in_ok-push.ensures.items ∙ ap (λ p. left ++ p ∷ []) c.in_ok-place.ensures in
    record {
      left = c.loop-listed.invariant.left ∙ put_last left path c.loop-listed.names.items c.pop.new.self.items c.in-Some.listed c.in-Some.ensures.items
          ∙ ap (λ l. l ++ above path c.pop.new.self.items) (sym pushed);
      links = c.loop-listed.invariant.links;
      firsts = c.loop-listed.invariant.firsts;
    }

pub loop-listed-preserved : goal.loop-listed-preserved
loop-listed-preserved c =
    let left = c.loop-listed.walk.left.items in
    let path = c.args.path.now in
    let pushed = c.in_ok-push.ensures.items ∙ ap (λ p. left ++ p ∷ []) c.in_ok-place.ensures in
    record {
      left = c.loop-listed.invariant.left ∙ put_last left path c.loop-listed.names.items c.pop.new.self.items c.in-Some.listed c.in-Some.ensures.items
          ∙ ap (λ l. l ++ above path c.pop.new.self.items) (sym pushed);
      links = c.loop-listed.invariant.links;
      firsts = c.loop-listed.invariant.firsts;
    }
