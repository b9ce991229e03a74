use Rattle.std.proofs.Common.{rules, arith, ◌≡◌, ℕ, List, IfOk, subst, ap, ◌∙◌}
use Rattle.ft_tree.specs.Tidy.{tidy}
use Rattle.ft_posix.specs.declared.call.Reply.{Reply}
use Rattle.ft_posix.specs.declared.intent.PlannedReply.{PlannedReply}
use Rattle.ft_posix.specs.Computes.{reply_of}
use Rattle.ft_posix.specs.Stored.{outcome}
use Rattle.ft_undo.proofs.Fresh.{no_bytes}
use Rattle.ft_view.specs.declared.TheConstants.{READING}
use Rattle.ft_view.specs.Reading.{open_to_read, contents_on}
use Rattle.ft_view.proofs.Reading.{contents_are}
use Rattle.ft_view.proofs.answering.contents.Goals as goal

-- the number is free, so nothing is stored of it
pub intend-requires : goal.intend-requires
intend-requires c = no_bytes (c.requires.free READING (omega arith))

pub returns : goal.returns
returns c =
    let cells = c.args.tree.now in
    let copied : c.in_ok-try_clone.field-0 ≡ c.args.path.now = search rules in
    let comes = c.in_ok-told.ensures ∙ ap (λ (path : List ℕ). outcome cells READING (open_to_read path)) copied in
    let same : reply_of cells c.whole-told.result ≡ contents_on (tidy cells) c.args.path.now =
    ap (λ (told : PlannedReply). reply_of cells told) c.whole-told.ensures ∙ contents_are cells c.requires c.args.path.now c.in_ok-told.field-0 comes in
    subst (λ (reply : Reply). IfOk c.reply.result (λ told. told ≡ reply)) same c.reply.ensures.reply
