-- What a call comes to can be made: each written cell has its place or can make it, and no cell is
-- written twice.
use Rattle.std.proofs.Common.{◌≡◌, ◌≢◌, ℕ, Bool, true, false, cond, List, [], ◌∷◌, Option, Some, None, refl, sym, ap, subst, ◌∙◌}
use Rattle.std.specs.Prelude.{◌==◌}
use Rattle.std.proofs.lemmas.Bool.{false_from_ne_true}
use Rattle.std.proofs.lemmas.Option.{none-some, same_Some}
use Rattle.ft_cells.specs.Entries.{entry_at}
use Rattle.ft_cells.specs.declared.cell.Cell.{Cell}
use Rattle.ft_cells.specs.declared.cell.Cell.TheVariants as cell
use Rattle.ft_cells.specs.declared.node.Node.{Node}
use Rattle.ft_cells.specs.declared.node.Form.TheVariants.{Regular}
use Rattle.ft_cells.specs.declared.node.Node.TheVariants.{Dir as DirNode, File as FileNode}
use Rattle.ft_cells.specs.Nodes.{number_of}
use Rattle.ft_cells.specs.CellOrder.{same_cell, same_cell-is, cell_number, cell_name}
use Rattle.ft_cells.specs.Cells.{Cells, Contents, untimed, timed, no_contents, entry_of, parent_of, put_links, HasDirPlace, HasFilePlace}
use Rattle.ft_tree.specs.Sound.{Hangs, AreSoundCells}
use Rattle.ft_posix.specs.declared.call.Call.{Call}
use Rattle.ft_posix.specs.declared.intent.Edit.{Edit}
use Rattle.ft_posix.specs.declared.intent.Edit.TheVariants.{Entry, Parent, Links, Overwrite, Resize, Open, DirAttributes, FileAttributes, Time}
use Rattle.ft_posix.specs.Outcomes.{Write, sets, Outcome}
use Rattle.ft_posix.specs.Stored.{put, put_all, outcome}
use Rattle.ft_posix.specs.Files.{description}
use Rattle.ft_posix.specs.Attributes.{file_mode}
use Rattle.ft_posix.specs.Perform.{is_read}
use Rattle.ft_posix.specs.declared.intent.Intent.{Intent}
use Rattle.ft_body.specs.declared.TheConstants.{LARGEST_SIZE}
use Rattle.ft_body.specs.Bytes.{fitting, written, resized}
use Rattle.ft_tree.specs.Held.{held}
use Rattle.ft_posix.specs.Computes.{write_of, writes_of, outcome_of}
use Rattle.ft_posix.specs.Edits.{edited, CanEdit, CanEditAll, edit_cell, IsOther, Apart, IsOtherThan, AreApart, CanPut, CanPutAll, CanBeMade, SameOn, EditingLaw}
use Rattle.ft_posix.specs.Within.{IsWithin, AreWithin}
use Rattle.ft_posix.proofs.Edited.{write-cell, same-on, same-edited}
use Rattle.ft_posix.proofs.Named.{Named}
use Rattle.ft_posix.proofs.Left.{named-file}
use Rattle.ft_posix.proofs.Changes.{FileWrite, sets_contents, sets_file_attributes, sets_dir_attributes, closes, sets_open, AreFileWrites, made as made_dir, Change, no_change, makes, removes, creates_file, creates_link, links_file, unlinks, moves_file, replaces_file, moves_dir, replaces_dir, on_files, call-changes}
use Rattle.ft_posix.proofs.Places.{dir_place-parent, dir_place-hangs, dir_place-set, file_place-set, dir_place-put_all, file_place-put_all}

-- what a name leads to in a directory: that it leads somewhere is enough for a place
module _ (cells : Cells) (s : AreSoundCells cells) where
  at_entry : (d : ℕ) (name : List ℕ) (x : Node) → entry_of cells d name ≡ Some x → HasDirPlace cells d
  at_entry d name x is = dir_place-hangs cells s d (s.tree.starts d name x is)

  at_hangs : (d : ℕ) → Hangs (parent_of cells) d → HasDirPlace cells d
  at_hangs d h = dir_place-hangs cells s d h

  -- entries that lead to different things are different cells
  other_entry : (d : ℕ) (name : List ℕ) (e : ℕ) (other : List ℕ) → (entry_of cells d name ≡ entry_of cells e other → ⊥) → same_cell (cell.Entry (entry_at e other)) (cell.Entry (entry_at d name)) ≡ false
  other_entry d name e other differ =
      false_from_ne_true _ (λ is. let same = same_cell-is (cell.Entry (entry_at e other)) (cell.Entry (entry_at d name)) is in
      differ (λ i. entry_of cells (cell_number (sym same i)) (cell_name (sym same i))))

  files-put : (k : ℕ) (t : Cells) (ws : List Write) → ((i : ℕ) → Named cells i → HasFilePlace t i) → ((d : ℕ) → Hangs (parent_of cells) d → HasDirPlace t d) → AreFileWrites cells k ws → CanPutAll t ws
  files-put k t [] at dir each = tt
  files-put k t (w ∷ ws) at dir each = (
    one w each.0,
    files-put k (put t w) ws (λ i named. file_place-put_all (w ∷ []) t i (at i named)) (λ d hangs. dir_place-put_all (w ∷ []) t d (dir d hangs)) each.1,
  )
    where
      one : (w : Write) → FileWrite cells k w → CanPut t w
      one _ (sets_contents i contents named) = at i named
      one _ (sets_file_attributes i to named) = at i named
      one _ (sets_dir_attributes d to hangs) = dir d hangs
      one _ (closes f o is) = tt
      one _ (sets_open f o named at) = tt

  -- a directory that an entry leads to is stored
  dir_place-gone : (i d : ℕ) (name : List ℕ) → entry_of cells d name ≡ Some (DirNode i) → HasDirPlace cells i
  dir_place-gone i d name is = dir_place-parent cells i d (s.tree.leads d name i is)

  other_parents : (i j : ℕ) → i ≢ j → same_cell (cell.Parent j) (cell.Parent i) ≡ false
  other_parents i j apart = false_from_ne_true _ (λ is. apart (sym (ap cell_number (same_cell-is (cell.Parent j) (cell.Parent i) is))))

  change-made : (k : ℕ) (reads : Bool) (o : Outcome) → Change cells k reads o → CanBeMade cells o.writes
  change-made k reads _ (no_change reply) = record { places = tt; apart = tt }
  change-made k reads _ (makes mode d name hangs empty) = by_mode mode
    where
      new : List Write
      new = sets (cell.Parent k) (Some d) ∷ []

      by_mode : (mode : Option ℕ) → CanBeMade cells (made_dir k mode d name).writes
      by_mode None = record { places = (tt, (dir_place-put_all new cells d (at_hangs d hangs), tt)); apart = ((refl, tt), (tt, tt)) }
      by_mode (Some mode) = record {
        places = (tt, (dir_place-put_all new cells d (at_hangs d hangs), (dir_place-put_all (sets (cell.Entry (entry_at d name)) (Some (DirNode k)) ∷ []) (put_all cells new) k (dir_place-set cells k _), tt)));
        apart = ((refl, (refl, tt)), ((refl, tt), (tt, tt)));
      }
  change-made k reads _ (removes d name i is bare) = record {
    places = (dir_place-gone i d name is, (tt, (dir_place-put_all (sets (cell.DirAttributes i) None ∷ sets (cell.Parent i) None ∷ []) cells d (at_entry d name (DirNode i) is), tt)));
    apart = ((refl, (refl, tt)), ((refl, tt), (tt, tt)));
  }
  change-made k reads _ (creates_file flags d name hangs empty) = by_mode flags.mode
    where
      more : List Write
      more = sets (cell.Bytes k) no_contents ∷ sets (cell.Fd k) (Some (description flags k)) ∷ sets (cell.Entry (entry_at d name)) (Some (FileNode Regular k)) ∷ []

      by_mode : (mode : Option ℕ) → CanBeMade cells (sets (cell.Links k) 1 ∷ sets (cell.Bytes k) no_contents ∷ sets (cell.Fd k) (Some (description flags k)) ∷ sets (cell.Entry (entry_at d name)) (Some (FileNode Regular k)) ∷ file_mode k mode)
      by_mode None = record {
        places = (tt, (file_place-set cells k _, (tt, (at_hangs d hangs, tt))));
        apart = ((refl, (refl, (refl, tt))), ((refl, (refl, tt)), ((refl, tt), (tt, tt))));
      }
      by_mode (Some mode) = record {
        places = (tt, (file_place-set cells k _, (tt, (at_hangs d hangs, (file_place-put_all more (put_links cells k 1) k (file_place-set cells k _), tt)))));
        apart = ((refl, (refl, (refl, (refl, tt)))), ((refl, (refl, (refl, tt))), ((refl, (refl, tt)), ((refl, tt), (tt, tt)))));
      }
  change-made k reads _ (creates_link target d name hangs empty) = record {
    places = (tt, (file_place-set cells k _, (at_hangs d hangs, tt)));
    apart = ((refl, (refl, tt)), ((refl, tt), (tt, tt)));
  }
  change-made k reads _ (links_file i d name named hangs empty) = record { places = (at_hangs d hangs, (tt, tt)); apart = ((refl, tt), (tt, tt)) }
  change-made k reads _ (unlinks d name {form} i is) = record { places = (tt, (at_entry d name (FileNode form i) is, tt)); apart = ((refl, tt), (tt, tt)) }
  change-made k reads _ (moves_file d name {form} i e other is hangs empty) = record {
    places = (at_hangs e hangs, (dir_place-put_all (sets (cell.Entry (entry_at e other)) (Some (FileNode form i)) ∷ []) cells d (at_entry d name (FileNode form i) is), tt));
    apart = ((other_entry d name e other (λ same. none-some (FileNode form i) (sym (sym is ∙ same ∙ empty))), tt), (tt, tt));
  }
  change-made k reads _ (replaces_file d name {form} i e other {kind} j is was apart) = record {
    places = (at_entry e other (FileNode kind j) was, (dir_place-put_all (sets (cell.Entry (entry_at e other)) (Some (FileNode form i)) ∷ []) cells d (at_entry d name (FileNode form i) is), (tt, tt)));
    apart = ((other_entry d name e other (λ same. apart (ap number_of (same_Some (FileNode form i) (FileNode kind j) (sym is ∙ same ∙ was)))), (refl, tt)), ((refl, tt), (tt, tt)));
  }
  change-made k reads _ (moves_dir d name i e other is hangs clear empty) = by_parent (d == e)
    where
      by_parent : (b : Bool) → CanBeMade cells (sets (cell.Entry (entry_at e other)) (Some (DirNode i)) ∷ sets (cell.Entry (entry_at d name)) None ∷ cond b [] (sets (cell.Parent i) (Some e) ∷ []))
      by_parent true = record {
        places = (at_hangs e hangs, (dir_place-put_all (sets (cell.Entry (entry_at e other)) (Some (DirNode i)) ∷ []) cells d (at_entry d name (DirNode i) is), tt));
        apart = ((other_entry d name e other (λ same. none-some (DirNode i) (sym (sym is ∙ same ∙ empty))), tt), (tt, tt));
      }
      by_parent false = record {
        places = (at_hangs e hangs, (dir_place-put_all (sets (cell.Entry (entry_at e other)) (Some (DirNode i)) ∷ []) cells d (at_entry d name (DirNode i) is), (tt, tt)));
        apart = ((other_entry d name e other (λ same. none-some (DirNode i) (sym (sym is ∙ same ∙ empty))), (refl, tt)), ((refl, tt), (tt, tt)));
      }
  change-made k reads _ (replaces_dir d name i e other j is was apart clear bare) = by_parent (d == e)
    where
      differ : same_cell (cell.Entry (entry_at e other)) (cell.Entry (entry_at d name)) ≡ false
      differ = other_entry d name e other (λ same. apart (ap number_of (same_Some (DirNode i) (DirNode j) (sym is ∙ same ∙ was))))

      new : List Write
      new = sets (cell.Entry (entry_at e other)) (Some (DirNode i)) ∷ []

      there : HasDirPlace (put_all cells (sets (cell.Entry (entry_at e other)) (Some (DirNode i)) ∷ sets (cell.Entry (entry_at d name)) None ∷ [])) j
      there = dir_place-put_all (sets (cell.Entry (entry_at e other)) (Some (DirNode i)) ∷ sets (cell.Entry (entry_at d name)) None ∷ []) cells j (dir_place-gone j e other was)

      by_parent : (b : Bool) → CanBeMade cells (sets (cell.Entry (entry_at e other)) (Some (DirNode i)) ∷ sets (cell.Entry (entry_at d name)) None ∷ sets (cell.DirAttributes j) None ∷ sets (cell.Parent j) None ∷ cond b [] (sets (cell.Parent i) (Some e) ∷ []))
      by_parent true = record {
        places = (at_entry e other (DirNode j) was, (dir_place-put_all new cells d (at_entry d name (DirNode i) is), (there, (tt, tt))));
        apart = ((differ, (refl, (refl, tt))), ((refl, (refl, tt)), ((refl, tt), (tt, tt))));
      }
      by_parent false = record {
        places = (at_entry e other (DirNode j) was, (dir_place-put_all new cells d (at_entry d name (DirNode i) is), (there, (tt, (tt, tt)))));
        apart = ((differ, (refl, (refl, (refl, tt)))), ((refl, (refl, (refl, tt))), ((refl, (refl, tt)), ((other_parents i j apart, tt), (tt, tt)))));
      }
  change-made k reads _ (on_files reply ws each apart acts lists) = record { places = files-put k cells ws (λ i named. (named-file cells s i named).0) at_hangs each; apart = apart }

pub call-made : (cells : Cells) (k : ℕ) (call : Call) → AreSoundCells cells → CanBeMade cells (outcome cells k call).writes
call-made cells k call s = change-made cells s k (is_read call) (outcome cells k call) (call-changes cells s k call)

-- So the edits that mean these writes can be made.

write-same : (s t : Cells) (e : Edit) → held s (edit_cell e) ≡ held t (edit_cell e) → write_of s e ≡ write_of t e
write-same s t (Entry entry to) h = refl
write-same s t (Parent d to) h = refl
write-same s t (Links i to) h = refl
write-same s t (Overwrite i at bytes) h = ap (λ (was : Contents). sets (cell.Bytes i) (untimed (written was.bytes at (fitting LARGEST_SIZE bytes.now at)))) h
write-same s t (Resize i size) h = ap (λ (was : Contents). sets (cell.Bytes i) (untimed (resized was.bytes size))) h
write-same s t (Open f to) h = refl
write-same s t (DirAttributes d to) h = refl
write-same s t (FileAttributes i to) h = refl
write-same s t (Time i to) h = ap (λ (was : Contents). sets (cell.Bytes i) (timed was to)) h

other-edits : (cells : Cells) (c : Cell) (es : List Edit) → IsOtherThan c (writes_of cells es) → IsOther c es
other-edits cells c [] h = tt
other-edits cells c (e ∷ es) h = (ap (same_cell c) (sym (write-cell cells e)) ∙ h.0, other-edits cells c es h.1)

edits-apart : (cells : Cells) (es : List Edit) → AreApart (writes_of cells es) → Apart es
edits-apart cells [] h = tt
edits-apart cells (e ∷ es) h = (other-edits cells (edit_cell e) es (subst (λ c. IsOtherThan c (writes_of cells es)) (write-cell cells e) h.0), edits-apart cells es h.1)

can-edit : (s old : Cells) (e : Edit) → CanPut s (write_of old e) → IsWithin e → CanEdit s e
can-edit s old (Entry entry to) can within = can
can-edit s old (Parent d to) can within = tt
can-edit s old (Links i to) can within = tt
can-edit s old (Overwrite i at bytes) can within = (can, within)
can-edit s old (Resize i size) can within = (can, within)
can-edit s old (Open f to) can within = tt
can-edit s old (DirAttributes d to) can within = can
can-edit s old (FileAttributes i to) can within = can
can-edit s old (Time i to) can within = can

can-edit-all : (s old : Cells) (es : List Edit) → SameOn s old es → Apart es → CanPutAll s (writes_of old es) → AreWithin es → CanEditAll s es
can-edit-all s old [] same apart can within = tt
can-edit-all s old (e ∷ es) same apart can within = (
  can-edit s old e can.0 within.0,
  can-edit-all (put s (write_of s e)) old es (same-edited s old e es apart.0 same.1) apart.1
      (subst (λ w. CanPutAll (put s w) (writes_of old es)) (sym (write-same s old e same.0)) can.1) within.1,
)

-- a call's edits, on sound cells
module _ (cells : Cells) (k : ℕ) (call : Call) (s : AreSoundCells cells) (x : Intent) (comes : outcome_of cells x ≡ outcome cells k call) where
  made : CanBeMade cells (writes_of cells x.edits)
  made = subst (λ (o : Outcome). CanBeMade cells o.writes) (sym comes) (call-made cells k call s)

  pub edits-are-apart : Apart x.edits
  edits-are-apart = edits-apart cells x.edits made.apart

  pub edits-have-places : AreWithin x.edits → CanEditAll cells x.edits
  edits-have-places within = can-edit-all cells cells x.edits (same-on cells x.edits) edits-are-apart made.places within

-- Edits of different cells leave what their writes leave.

edited-writes : (s old : Cells) (es : List Edit) → SameOn s old es → Apart es → edited s es ≡ put_all s (writes_of old es)
edited-writes s old [] same apart = refl
edited-writes s old (e ∷ es) same apart =
    edited-writes (put s (write_of s e)) old es (same-edited s old e es apart.0 same.1) apart.1
    ∙ ap (λ w. put_all (put s w) (writes_of old es)) (write-same s old e same.0)

pub edited-all : (cells : Cells) (es : List Edit) → Apart es → edited cells es ≡ put_all cells (writes_of cells es)
edited-all cells es apart = edited-writes cells cells es (same-on cells es) apart

pub editing : EditingLaw
editing = record { made = edited-all; undisturbed = same-edited }
