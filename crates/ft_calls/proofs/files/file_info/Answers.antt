use Rattle.std.proofs.Common.{ℕ, Option, [], Result, Ok, refl, ap}
use Rattle.ft_cells.specs.declared.attributes.Attributes.{Attributes}
use Rattle.ft_cells.specs.declared.attributes.Timestamp.{Timestamp}
use Rattle.ft_cells.specs.declared.cell.Cell.TheVariants.{Links}
use Rattle.ft_cells.specs.declared.node.Kind.{Kind}
use Rattle.ft_cells.specs.declared.node.Node.TheVariants.{File as FileNode}
use Rattle.ft_cells.specs.Nodes.{kind_of_node}
use Rattle.ft_cells.specs.Looks.{Looks, Answer, then}
use Rattle.ft_posix.specs.declared.call.FileInfo.{FileInfo}
use Rattle.ft_posix.specs.declared.call.Reply.TheVariants as reply
use Rattle.ft_posix.specs.declared.intent.Intent.{Intent}
use Rattle.ft_posix.specs.declared.intent.CallError.{CallError}
use Rattle.ft_posix.specs.declared.intent.PlannedReply.TheVariants.{Info}
use Rattle.ft_posix.specs.Outcomes.{Outcome, told}
use Rattle.ft_posix.specs.Files.{attributes_at}
use Rattle.ft_posix.specs.Looking.{look_at}
use Rattle.ft_posix.proofs.Looking.{finds_then}
use Rattle.ft_looks.specs.Sizes.{size_and_time_at}
use Rattle.ft_calls.proofs.files.file_info.Goals as goal

-- three looks, one after the other
pub returns : goal.returns
returns c =
    let form = c.args.form in
    let file = c.args.file in
    let links = c.in_ok-links.links in
    let size = c.in_ok-size.size in
    let time = c.in_ok-size.time in
    let attributes = c.in_ok-attributes.attributes in
    let new = c.attributes_at.new.look in
    let info : Kind → ℕ → ℕ → Option Timestamp → Option Attributes → FileInfo = λ kind links size time attributes. record { kind = kind; number = file; links = links; size = size; attributes = attributes; time = time } in
    let tells : Result Intent CallError = Ok (record { told = Info (info c.kind.result links size time attributes); edits = [] }) in
    let on_attributes : ℕ → ℕ → Option Timestamp → Option Attributes → Looks Outcome = λ links size time attributes. Answer (told (reply.Info (info (kind_of_node (FileNode form file)) links size time attributes))) in
    let on_size : ℕ → ℕ × Option Timestamp → Looks Outcome = λ links found. then (attributes_at form file) (on_attributes links found.0 found.1) in
    let on_links : ℕ → Looks Outcome = λ links. then (size_and_time_at file) (on_size links) in
    finds_then c.args.look.now (look_at (Links file)) on_links links c.links.new.self new tells c.in_ok-links.ensures.0 c.in_ok-links.ensures.1
    (finds_then c.links.new.self (size_and_time_at file) (on_size links) (size, time) c.size_and_time.new.self new tells c.in_ok-size.ensures.0 c.in_ok-size.ensures.1
    (finds_then c.size_and_time.new.self (attributes_at form file) (on_attributes links size time) attributes new new tells c.in_ok-attributes.ensures.0 c.in_ok-attributes.ensures.1
    (ap (λ (kind : Kind). told (reply.Info (info kind links size time attributes))) c.kind.ensures, refl)))
