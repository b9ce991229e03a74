use Rattle.std.proofs.Common.{filter, ap, ◌∙◌}
use Rattle.ft_path.specs.declared.path.Parts.{Parts}
use Rattle.ft_path.specs.declared.path.LastName.TheVariants.{Absent}
use Rattle.ft_path.specs.FilePath.{components, is_component, last_of}
use Rattle.ft_path.proofs.Lasting.{after, all_left, next_counts, next_empty}
use Rattle.ft_path.proofs.judged.JudgedPath.last.Goals as goal

pub loop-piece-init : goal.loop-piece-init
loop-piece-init c =
    ap (λ ps. after Absent (filter is_component ps)) (c.into_iter-piece-iterator.ensures.into_iter_gives ∙ c.of-piece-items.ensures)
    ∙ all_left (components c.self.inside.bytes.now) ∙ ap (λ (p : Parts). last_of p.names) c.self.view_is

pub loop-piece-preserved : goal.loop-piece-preserved
loop-piece-preserved c = next_empty c.in-Some.piece.now c.loop-piece.piece-iterator c.next.new.self c.in-Some.ensures.steps c.loop-piece.last _ c.loop-piece.invariant c.if-not-is_empty.ensures

pub loop-piece-preserved-then-not-is_empty : goal.loop-piece-preserved-then-not-is_empty
loop-piece-preserved-then-not-is_empty c =
    next_counts c.in-Some.piece.now c.loop-piece.piece-iterator c.next.new.self c.in-Some.ensures.steps c.loop-piece.last _ c.loop-piece.invariant c.if-not-is_empty.ensures c.kind_of-last.result c.kind_of-last.ensures
