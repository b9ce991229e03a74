use Rattle.std.proofs.Common.{◌≡◌, IfOk, subst, sym, ap, ◌∙◌, arith}
use Rattle.ft_tree.specs.Tidy.{tidy}
use Rattle.ft_posix.specs.declared.call.Reply.{Reply}
use Rattle.ft_posix.specs.Computes.{reply_of}
use Rattle.ft_posix.specs.Outcomes.{Outcome}
use Rattle.ft_posix.proofs.Executed.{tidying}
use Rattle.ft_undo.proofs.Fresh.{no_bytes}
use Rattle.ft_view.specs.Replay.{reply_on}
use Rattle.ft_view.specs.declared.TheConstants.{READING}
use Rattle.ft_view.proofs.answering.reply.Goals as goal

-- the number is free, so nothing is stored of it
pub intend-requires : goal.intend-requires
intend-requires c = no_bytes (c.requires.free READING (omega arith))

pub returns : goal.returns
returns c =
    let cells = c.args.tree.now in
    let call = c.args.call.now in
    let plain = tidying cells READING call c.requires.sound (c.requires.free READING (omega arith)) in
    let same : reply_of cells c.in_ok-intend.field-0.told ≡ reply_on (tidy cells) call = ap (λ (o : Outcome). o.reply) c.in_ok-intend.ensures ∙ sym (ap (λ p. p.1) plain) in
    subst (λ (reply : Reply). IfOk c.reply.result (λ told. told ≡ reply)) same c.reply.ensures.reply
