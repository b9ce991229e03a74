-- What is read of a file through an Open that is not made.
use Rattle.std.proofs.Common.{◌≡◌, ◌≢◌, ℕ, ◌+◌, true, List, [], ◌∷◌, Option, Some, None, Result, Ok, Err, ◌⊎◌, inl, inr, refl, sym, ap, ◌∙◌, subst, arith}
use Rattle.ft_body.specs.declared.TheConstants.{LARGEST_SIZE}
use Rattle.ft_body.specs.Bytes.{bytes_at}
use Rattle.ft_path.specs.declared.errno.Errno.{Errno}
use Rattle.ft_path.specs.declared.errno.Errno.TheVariants.{ENOENT, EISDIR, ELOOP}
use Rattle.ft_path.specs.declared.path.Parts.{Parts}
use Rattle.ft_path.specs.FilePath.{parts_of}
use Rattle.ft_cells.specs.declared.cell.Cell.{Cell}
use Rattle.ft_cells.specs.declared.cell.Cell.TheVariants as cell
use Rattle.ft_cells.specs.declared.node.Form.TheVariants.{Regular, Link}
use Rattle.ft_cells.specs.declared.node.Node.TheVariants.{Dir as DirNode, File as FileNode}
use Rattle.ft_cells.specs.declared.node.PathEnd.{PathEnd}
use Rattle.ft_cells.specs.declared.node.PathEnd.TheVariants.{Named, Itself}
use Rattle.ft_cells.specs.declared.open_file.OpenFile.{OpenFile}
use Rattle.ft_cells.specs.Cells.{Cells, bytes_of, put_open}
use Rattle.ft_cells.specs.Looks.{Answer, answer, answer-then, or_else}
use Rattle.ft_tree.specs.Held.{Holds}
use Rattle.ft_tree.specs.Sound.{AreSoundCells, IsFree}
use Rattle.ft_tree.specs.Tidy.{tidy}
use Rattle.ft_tree.specs.Views.{view_of}
use Rattle.ft_tree.specs.Walk.{walk}
use Rattle.ft_posix.specs.declared.call.Call.TheVariants.{Read as ReadCall}
use Rattle.ft_posix.specs.declared.call.Reply.{Reply}
use Rattle.ft_posix.specs.declared.call.Reply.TheVariants.{Number, Bytes as BytesReply}
use Rattle.ft_posix.specs.declared.intent.Edit.{Edit}
use Rattle.ft_posix.specs.declared.intent.Edit.TheVariants.{Entry, Parent, Links, Overwrite, Resize, Open, DirAttributes, FileAttributes, Time}
use Rattle.ft_posix.specs.declared.intent.PlannedReply.{PlannedReply}
use Rattle.ft_posix.specs.declared.intent.Intent.{Intent}
use Rattle.ft_posix.specs.Computes.{reply_of, writes_of, outcome_of}
use Rattle.ft_posix.specs.Descriptors.{on_open, is_readable, read_open}
use Rattle.ft_posix.specs.Files.{description, opens, open_spot, open_parts}
use Rattle.ft_posix.specs.Outcomes.{Write, Outcome, failed}
use Rattle.ft_posix.specs.Stored.{outcome, put_all}
use Rattle.ft_posix.proofs.Executed.{tidying}
use Rattle.ft_posix.proofs.Kept.{soundness, freshness}
use Rattle.ft_posix.proofs.Setting.{setting}
use Rattle.ft_view.specs.declared.TheConstants.{READING}
use Rattle.ft_view.specs.Replay.{IsReadable}
use Rattle.ft_view.specs.Reading.{to_read, open_to_read, read_whole, contents_on, opened_in, whole_told, whole_of}

-- an Open for reading fails, or opens one file
abbrev Opens : ℕ → Outcome → Type 0
Opens fd o = ((e : Errno) × (o ≡ failed e)) ⊎ ((file : ℕ) × (o ≡ opens fd to_read file))

opens_at : (cells : Cells) (fd : ℕ) (end : Result PathEnd Errno) → Opens fd (answer (or_else failed (λ spot. Answer (open_spot fd to_read spot)) end) (view_of cells))
opens_at cells fd (Err e) = inl (e, refl)
opens_at cells fd (Ok (Named entry None slash)) = inl (ENOENT, refl)
opens_at cells fd (Ok (Named entry (Some (DirNode dir)) slash)) = inl (EISDIR, refl)
opens_at cells fd (Ok (Named entry (Some (FileNode Regular file)) slash)) = inr (file, refl)
opens_at cells fd (Ok (Named entry (Some (FileNode Link file)) slash)) = inl (ELOOP, refl)
opens_at cells fd (Ok (Itself dir)) = inl (EISDIR, refl)

opens_text : (cells : Cells) (fd : ℕ) (parts : Result Parts Errno) → Opens fd (answer (open_parts fd to_read parts) (view_of cells))
opens_text cells fd (Err e) = inl (e, refl)
opens_text cells fd (Ok parts) =
    subst (Opens fd) (sym (answer-then (walk true parts.names parts.trailing) (or_else failed (λ spot. Answer (open_spot fd to_read spot))) (view_of cells)))
    (opens_at cells fd (answer (walk true parts.names parts.trailing) (view_of cells)))

-- the file of a description that is written first
abbrev opened_by : (c : Cell) → Holds c → Option ℕ
opened_by (cell.Entry entry) to = None
opened_by (cell.Names d) to = None
opened_by (cell.Parent d) to = None
opened_by (cell.Links i) to = None
opened_by (cell.Bytes i) to = None
opened_by (cell.Fd f) None = None
opened_by (cell.Fd f) (Some o) = Some o.file
opened_by (cell.DirAttributes d) to = None
opened_by (cell.FileAttributes i) to = None

abbrev first_opened : List Write → Option ℕ
first_opened [] = None
first_opened (w ∷ ws) = opened_by w.cell w.value

-- all bytes of a file that is opened, or what is replied else
abbrev through : Cells → Option ℕ → Reply → Reply
through cells None reply = reply
through cells (Some file) reply = BytesReply (bytes_at (bytes_of cells file) 0 LARGEST_SIZE)

opened_alike : (cells : Cells) (edits : List Edit) → opened_in edits ≡ first_opened (writes_of cells edits)
opened_alike cells [] = refl
opened_alike cells (Entry entry to ∷ es) = refl
opened_alike cells (Parent d to ∷ es) = refl
opened_alike cells (Links i to ∷ es) = refl
opened_alike cells (Overwrite i at bytes ∷ es) = refl
opened_alike cells (Resize i size ∷ es) = refl
opened_alike cells (Open f None ∷ es) = refl
opened_alike cells (Open f (Some o) ∷ es) = refl
opened_alike cells (DirAttributes d to ∷ es) = refl
opened_alike cells (FileAttributes i to ∷ es) = refl
opened_alike cells (Time i to ∷ es) = refl

told_alike : (cells : Cells) (file : Option ℕ) (told : PlannedReply) → reply_of cells (whole_told file told) ≡ through cells file (reply_of cells told)
told_alike cells None told = refl
told_alike cells (Some file) told = refl

-- through the description of an Open the file is read from its start
read_opened : (cells : Cells) (file : ℕ) → AreSoundCells (put_open cells READING (Some (description to_read file))) → IsFree (put_open cells READING (Some (description to_read file))) (READING + 1)
    → read_whole (tidy (put_open cells READING (Some (description to_read file)))) (Number READING) ≡ through cells (Some file) (Number READING)
read_opened cells file sound free =
    let opened = put_open cells READING (Some (description to_read file)) in
    ap (λ p. p.1) (tidying opened (READING + 1) (ReadCall READING LARGEST_SIZE) sound free)
    ∙ ap (λ (place : Option OpenFile). (answer (on_open is_readable (read_open READING LARGEST_SIZE) place) (view_of opened)).reply) (setting.written cells (cell.Fd READING) (Some (description to_read file)))

-- what the cells hold after the Open, and what it has replied
abbrev ReadsThrough : Cells → Outcome → Type 0
ReadsThrough cells o = AreSoundCells (put_all cells o.writes) → IsFree (put_all cells o.writes) (READING + 1) → read_whole (tidy (put_all cells o.writes)) o.reply ≡ through cells (first_opened o.writes) o.reply

read_through : (cells : Cells) (o : Outcome) → Opens READING o → ReadsThrough cells o
read_through cells o (inl fails) = subst (ReadsThrough cells) (sym fails.1) (λ sound free. refl)
read_through cells o (inr opens) = subst (ReadsThrough cells) (sym opens.1) (read_opened cells opens.0)

-- what is told where the Open was looked at is what is read through it
pub contents_are : (cells : Cells) → IsReadable cells → (path : List ℕ) (intent : Intent) → outcome_of cells intent ≡ outcome cells READING (open_to_read path) → reply_of cells (whole_of intent) ≡ contents_on (tidy cells) path
contents_are cells readable path intent is =
    let open_call = open_to_read path in
    let free = readable.free READING (omega arith) in
    let next = readable.free (READING + 1) (omega arith) in
    let apart : READING + 1 ≢ READING = omega arith in
    let plain = ap (λ p. read_whole p.0 p.1) (tidying cells READING open_call readable.sound free) in
    let sound_after = soundness cells READING open_call readable.sound free in
    let free_after = freshness cells READING open_call readable.sound free (READING + 1) next apart in
    let read = read_through cells (outcome cells READING open_call) (opens_text cells READING (parts_of path)) sound_after free_after in
    told_alike cells (opened_in intent.edits) intent.told
    ∙ (ap (λ (file : Option ℕ). through cells file (reply_of cells intent.told)) (opened_alike cells intent.edits)
    ∙ (ap (λ (o : Outcome). through cells (first_opened o.writes) o.reply) is ∙ (sym read ∙ sym plain)))
