-- A front leads on where the tree is edited elsewhere.
use Rattle.std.proofs.Common.{◌≡◌, ◌≢◌, ◌==◌, ◌-◌, ◌⊎◌, inl, inr, ℕ, true, false, List, [], ◌∷◌, length, take, drop, suc, arith, Option, None, refl, sym, ap, subst, ◌∙◌}
use Rattle.std.proofs.lemmas.Bool.{false≢true}
use Rattle.std.proofs.lemmas.Bool.Decides.{nat_tests}
use Rattle.std.proofs.lemmas.Option.{none-some}
use Rattle.ft_laws.specs.Lists.{In}
use Rattle.ft_path.specs.FilePath.{components}
use Rattle.ft_cells.specs.Entries.{entry_at}
use Rattle.ft_cells.specs.declared.cell.Cell.{Cell}
use Rattle.ft_cells.specs.declared.cell.Cell.TheVariants.{Entry}
use Rattle.ft_cells.specs.declared.entry.Entry.{Entry as EntryOf}
use Rattle.ft_cells.specs.CellOrder.{same_cell}
use Rattle.ft_cells.specs.Cells.{Cells}
use Rattle.ft_cells.specs.Looks.{View}
use Rattle.ft_tree.specs.Held.{held}
use Rattle.ft_tree.specs.declared.front.Front.{Front}
use Rattle.ft_tree.specs.Fronts.{LeadAlong, Leads, entries_along, front_entries}
use Rattle.ft_posix.proofs.Accessed.{in-any}
use Rattle.ft_posix.specs.CellLaws.{SettingLaw}
use Rattle.std.specs.List.{slice_get, list_any}
use Rattle.std.specs.Option.{option_to_list}
use Rattle.ft_posix.specs.declared.intent.Edit.{Edit}
use Rattle.ft_posix.specs.declared.intent.Edit.TheVariants.{Entry as EntryEdit, Parent as ParentEdit, Links as LinksEdit, Overwrite, Resize, Open, DirAttributes, FileAttributes, Time}
use Rattle.ft_posix.specs.Outcomes.{Write}
use Rattle.ft_posix.specs.Stored.{put, put_all}
use Rattle.ft_lock_rules.specs.Locks.{LockTable}
use Rattle.ft_core.specs.declared.memo.Memo.{Memo}
use Rattle.ft_core.specs.Memos.{IsTrueOf, StandElsewhere, AreElsewhere}

-- each entry shows the same in both views
abbrev ShowSame : View → View → List Cell → Type 0
ShowSame v w cs = (e : EntryOf) → In (Entry e) cs → v (Entry e) ≡ w (Entry e)

-- so names lead along in both
leads-too : (v w : View) (dir : ℕ) (names : List (List ℕ)) (dirs : List ℕ) → ShowSame v w (entries_along dir names dirs) → LeadAlong v dir names dirs → LeadAlong w dir names dirs
leads-too v w dir [] [] same lead = tt
leads-too v w dir [] (i ∷ dirs) same lead = lead
leads-too v w dir (name ∷ names) [] same lead = lead
leads-too v w dir (name ∷ names) (i ∷ dirs) same lead = (
  lead.0,
  lead.1,
  sym (same (entry_at dir name) (inl refl)) ∙ lead.2,
  leads-too v w i names dirs (λ e there. same e (inr there)) lead.3,
)

pub front-leads : (v w : View) (front : Front) → ShowSame v w (front_entries front) → Leads v front → Leads w front
front-leads v w front same leads = record { slashed = leads.slashed; way = leads-too v w 1 (components front.text.items) front.dirs.items same leads.way }

-- a cell that is none of those written keeps its value
abbrev pub IsNotWritten : Cell → List Write → Type 0
IsNotWritten c [] = Unit {0}
IsNotWritten c (w ∷ ws) = (same_cell w.cell c ≡ false) × IsNotWritten c ws

pub keeps-value : SettingLaw → (cells : Cells) (ws : List Write) (e : EntryOf) → IsNotWritten (Entry e) ws → held (put_all cells ws) (Entry e) ≡ held cells (Entry e)
keeps-value setting cells [] e none = refl
keeps-value setting cells (w ∷ ws) e none = keeps-value setting (put cells w) ws e none.1 ∙ setting.kept cells w.cell w.value (Entry e) none.0

-- The directories in which the entries on the way stand.

-- one of these numbers
abbrev pub IsOneOf : ℕ → List ℕ → Type 0
IsOneOf d ds = In d ds

stands : (e : EntryOf) (dir : ℕ) (names : List (List ℕ)) (dirs : List ℕ) → In (Entry e) (entries_along dir names dirs) → (e.dir ≡ dir) ⊎ In e.dir (take (length dirs - 1) dirs)
stands e dir [] dirs i = absurd i
stands e dir (name ∷ names) [] i = absurd i
stands e dir (name ∷ names) (next ∷ dirs) (inl is) = inl (cc)
stands e dir (name ∷ []) (next ∷ dirs) (inr i) = absurd i
stands e dir (name ∷ other ∷ names) (next ∷ []) (inr i) = absurd i
stands e dir (name ∷ other ∷ names) (next ∷ i ∷ dirs) (inr there) = inr (subst (λ ds. In e.dir ds) (sym (more next i dirs)) (elim (stands e next (other ∷ names) (i ∷ dirs) there) [ inl is ↦ inl is | inr rest ↦ inr rest ]))
  where
    more : (next i : ℕ) (dirs : List ℕ) → take (length (next ∷ i ∷ dirs) - 1) (next ∷ i ∷ dirs) ≡ next ∷ take (length (i ∷ dirs) - 1) (i ∷ dirs)
    more next i dirs = ap (λ n. take n (next ∷ i ∷ dirs)) far
      where
        far : length (next ∷ i ∷ dirs) - 1 ≡ suc (length (i ∷ dirs) - 1)
        far = omega arith

pub front-stands : (front : Front) (e : EntryOf) → In (Entry e) (front_entries front) → (e.dir ≡ 1) ⊎ In e.dir (take (length front.dirs.items - 1) front.dirs.items)
front-stands front e i = stands e 1 (components front.text.items) front.dirs.items i

-- what was forgotten is true of any tree
pub forgotten : (memo : Memo) (cells : Cells) (table : LockTable) → memo.txn ≡ None → IsTrueOf memo cells table
forgotten memo cells table none = λ t is. absurd (none-some t (sym none ∙ is))

-- Edits one after the other.

elsewhere-cons : (entries : List Cell) (edit : Edit) (es : List Edit) → AreElsewhere entries (edit ∷ []) → AreElsewhere entries es → AreElsewhere entries (edit ∷ es)
elsewhere-cons entries (EntryEdit entry to) es one more = (one.0, more)
elsewhere-cons entries (ParentEdit d to) es one more = more
elsewhere-cons entries (LinksEdit i to) es one more = more
elsewhere-cons entries (Overwrite i at bytes) es one more = more
elsewhere-cons entries (Resize i size) es one more = more
elsewhere-cons entries (Open f to) es one more = more
elsewhere-cons entries (DirAttributes d to) es one more = more
elsewhere-cons entries (FileAttributes i to) es one more = more
elsewhere-cons entries (Time i to) es one more = more

-- with one more at the front of what is left
pub elsewhere-left : (entries : List Cell) (edit : Edit) (left more all : List Edit) → left ≡ edit ∷ more → AreElsewhere entries (edit ∷ []) → (AreElsewhere entries left → AreElsewhere entries all) → AreElsewhere entries more → AreElsewhere entries all
elsewhere-left entries edit left more all is one whole rest = whole (subst (AreElsewhere entries) (sym is) (elsewhere-cons entries edit more one rest))

-- the first edit, the second, and the others
pub elsewhere-parts : (entries : List Cell) (es : List Edit) (first second : Option Edit) → first ≡ slice_get es 0 → second ≡ slice_get es 1 → AreElsewhere entries (option_to_list first) → AreElsewhere entries (option_to_list second) → AreElsewhere entries (drop 2 es) → AreElsewhere entries es
elsewhere-parts entries [] first second f s one two rest = tt
elsewhere-parts entries (e ∷ []) first second f s one two rest = subst (λ o. AreElsewhere entries (option_to_list o)) f one
elsewhere-parts entries (e ∷ d ∷ es) first second f s one two rest =
    elsewhere-cons entries e (d ∷ es) (subst (λ o. AreElsewhere entries (option_to_list o)) f one) (elsewhere-cons entries d es (subst (λ o. AreElsewhere entries (option_to_list o)) s two) rest)

-- a number that is none of these
pub not-there : (dir : ℕ) (ds : List ℕ) → list_any (λ y. y == dir) ds ≡ false → In dir ds → ⊥
not-there dir ds none i = false≢true (sym none ∙ in-any (λ y. y == dir) dir ds i same)
  where
    same : (dir == dir) ≡ true
    same = grind (arith, nat_tests)

-- no entry on the way of a front stands in a directory that is none of these
pub elsewhere-front : (front : Front) (dir : ℕ) (dirs : List ℕ) → dirs ≡ take (length front.dirs.items - 1) front.dirs.items → dir ≢ 1 → (In dir dirs → ⊥) → StandElsewhere (front_entries front) dir
elsewhere-front front dir dirs is root none = λ e i same. elim (front-stands front e i) [
  | inl at ↦ root (sym same ∙ at)
  | inr there ↦ none (subst (λ d. In d dirs) same (subst (In e.dir) (sym is) there))
]
