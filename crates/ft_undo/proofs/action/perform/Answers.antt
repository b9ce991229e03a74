use Rattle.std.proofs.Common.{map, sym, ap, subst, ◌∙◌}
use Rattle.ft_laws.specs.Effects.{before}
use Rattle.ft_cells.specs.Cells.{Cells}
use Rattle.ft_tree.specs.Sound.{AreSoundCells, IsFree}
use Rattle.ft_tree.specs.Tidy.{tidy}
use Rattle.ft_posix.specs.Accesses.{written_cell}
use Rattle.ft_posix.specs.Outcomes.{Outcome}
use Rattle.ft_posix.specs.Perform.{OnlyTells}
use Rattle.ft_posix.specs.Posix.{posix}
use Rattle.ft_posix.specs.Stored.{put_all}
use Rattle.ft_undo.specs.Undone.{AreAsLeft}
use Rattle.ft_posix.proofs.Changes.{call-changes, only_tells-none}
use Rattle.ft_posix.proofs.Executed.{tidying}
use Rattle.ft_posix.proofs.Kept.{soundness, freshness}
use Rattle.ft_undo.proofs.Fresh.{no_bytes}
use Rattle.ft_undo.proofs.action.perform.Goals as goal

-- the number of the call is free, so nothing is stored of it
pub prepare-requires : goal.prepare-requires
prepare-requires c = record { fresh = no_bytes c.requires.free }

pub apply-requires : goal.apply-requires
apply-requires c = record { places = c.in_ok-intent.ensures.places c.requires.sound; apart = c.in_ok-intent.ensures.apart c.requires.sound }

pub returns : goal.returns
returns c =
    let old = c.args.tree.now in
    let k = c.args.stamp in
    let call = c.args.call.now in
    let sound = c.requires.sound in
    let free = c.requires.free in
    let comes = c.in_ok-intent.ensures.outcome in
    let made = c.in_ok-undo.ensures in
    let reply = c.in_ok-reply.ensures.reply ∙ ap (λ (o : Outcome). o.reply) comes in
    let stored = made.made ∙ ap (λ (o : Outcome). put_all old o.writes) comes in
    record {
      reply = reply;
      stored = stored;
      plain = tidying old k call sound free ∙ sym (λ i. (tidy (stored i), reply i));
      refused = tt;
      stays_sound = subst AreSoundCells (sym stored) (soundness old k call sound free);
      stays_free = λ j too other. subst (λ (cells : Cells). IsFree cells j) (sym stored) (freshness old k call sound free j too other);
      told_alone = λ tells. stored ∙ ap (put_all old) (only_tells-none old k _ _ (call-changes old sound k call) (subst OnlyTells reply tells));
      left = subst (λ (o : Outcome). AreAsLeft c.apply.new.tree c.apply.new.tree (map written_cell o.writes)) comes made.left;
      inverse = made.inverse ∙ ap (λ (o : Outcome). before posix old o.writes) comes;
      may_revert = λ cells left. made.may_revert cells (subst (λ (o : Outcome). AreAsLeft cells c.apply.new.tree (map written_cell o.writes)) (sym comes) left);
    }
