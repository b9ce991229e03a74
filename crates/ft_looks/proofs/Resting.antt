-- A path that goes on behind a front is walked from where that leads.
use Rattle.std.proofs.Common.{◌≡◌, ◌≢◌, ℕ, Bool, List, [], ◌∷◌, ◌++◌, Result, Ok, Err, refl, sym, ap, subst, ◌∙◌}
use Rattle.std.specs.FinMap as finite
use Rattle.std.specs.Result.{OnOk, OnErr}
use Rattle.ft_base.specs.declared.memory.Memory.{Memory}
use Rattle.ft_path.specs.declared.errno.Errno.{Errno}
use Rattle.ft_path.specs.declared.path.Parts.{Parts}
use Rattle.ft_path.specs.FilePath.{components}
use Rattle.ft_path.specs.Judged.{IsBehind}
use Rattle.ft_cells.specs.declared.node.PathEnd.{PathEnd}
use Rattle.ft_cells.specs.declared.cell.Cell.{Cell}
use Rattle.ft_cells.specs.Cells.{Cells}
use Rattle.ft_cells.specs.Looks.{View, answer, looked_at, all_noted}
use Rattle.ft_tree.specs.declared.front.Front.{Front}
use Rattle.ft_tree.specs.declared.reader.TheConstants.{MOST_FOLLOWED}
use Rattle.ft_tree.specs.Views.{view_of}
use Rattle.ft_tree.specs.Walk.{walk_from, walk}
use Rattle.ft_tree.specs.Fronts.{Leads as LeadsThere, front_entries, front_end}
use Rattle.ft_tree.proofs.Fronting.{walk-answer, walk-looked}
use Rattle.ft_posix.specs.declared.intent.CallError.{CallError}
use Rattle.ft_posix.specs.declared.intent.CallError.TheVariants.{Memory as NoMemory, Errno as Fails}
use Rattle.ft_posix.specs.Accesses.{Modes, with_looks, listed}
use Rattle.ft_posix.specs.Looking.{Looking, noted_at, noted}
use Rattle.ft_posix.specs.Computes.{Resolves}
use Rattle.ft_posix.proofs.Recorded.{all_noted-is}
use Rattle.ft_posix.specs.declared.call.Mode.TheVariants.{Read as ReadMode}
use Rattle.ft_posix.specs.declared.call.Access.{Access}
use Rattle.ft_posix.specs.declared.intent.Edit.{Edit}
use Rattle.ft_posix.specs.Edits.{with_edits}
use Rattle.ft_posix.specs.Besides.{AreReads, AreListedBut}
use Rattle.ft_posix.proofs.Fronted.{looks-behind, looks-insert, reads-insert, but-front, but-edits}
use Rattle.ft_looks.specs.Rests.{IsRest}

-- where a walk from a directory leads that notes each cell which it reads
pub leads_from : (old new : Looking) (follow : Bool) (dir : ℕ) (read names : List (List ℕ)) (slash trailing : Bool) → read ≡ names → slash ≡ trailing → (end told : Result PathEnd Errno) → end ≡ told
    → end ≡ answer (walk_from follow dir read slash) (view_of old.cells) → new ≡ all_noted noted_at old (looked_at (walk_from follow dir read slash) (view_of old.cells))
    → (told ≡ answer (walk_from follow dir names trailing) (view_of old.cells)) × (new ≡ noted old (walk_from follow dir names trailing))
leads_from old new follow dir read names slash trailing same as_slash end told is led looks = (
  sym is ∙ led ∙ (λ i. answer (walk_from follow dir (same i) (as_slash i)) (view_of old.cells)),
  looks ∙ all_noted-is old (looked_at (walk_from follow dir read slash) (view_of old.cells)) ∙ (λ i. noted old (walk_from follow dir (same i) (as_slash i))),
)

module _ (v : View) (front : Front) (leads : LeadsThere v front) (follow slash : Bool) where
  from-end : (names : List (List ℕ)) → names ≢ [] → answer (walk follow (components front.text.items ++ names) slash) v ≡ answer (walk_from follow (front_end front) names slash) v
  from-end [] some = absurd (some refl)
  from-end (next ∷ more) some = walk-answer v follow slash MOST_FOLLOWED 1 (components front.text.items) front.dirs.items leads.way next more

  from-looked : (names : List (List ℕ)) → names ≢ [] → looked_at (walk follow (components front.text.items ++ names) slash) v ≡ front_entries front ++ looked_at (walk_from follow (front_end front) names slash) v
  from-looked [] some = absurd (some refl)
  from-looked (next ∷ more) some = walk-looked v follow slash MOST_FOLLOWED 1 (components front.text.items) front.dirs.items leads.way next more

-- what is behind a front that leads there is such a rest
pub rest_is : (looking : Looking) (modes : Modes) (front : Front) → LeadsThere (view_of looking.cells) front → looking.front ≡ front_entries front → looking.modes ≡ with_looks modes (front_entries front)
    → (path rest : Parts) → IsBehind front.text.items rest path → (dir : ℕ) → dir ≡ front_end front → IsRest looking path dir rest
rest_is looking modes front leads entries are path rest behind dir is =
    let v = view_of looking.cells in
    let split : (follow : Bool) → walk follow path.names path.trailing ≡ walk follow (components front.text.items ++ rest.names) rest.trailing = λ follow. (λ i. walk follow (behind.names i) (sym behind.trailing i)) in
    record {
      end = λ follow. ap (λ s. answer s v) (split follow) ∙ from-end v front leads follow rest.trailing rest.names behind.some ∙ ap (λ d. answer (walk_from follow d rest.names rest.trailing) v) (sym is);
      looked = λ follow.
          ap (λ s. looked_at s v) (split follow) ∙ from-looked v front leads follow rest.trailing rest.names behind.some
          ∙ (λ i. sym entries i ++ looked_at (walk_from follow (sym is i) rest.names rest.trailing) v);
      seen = λ more.
          (λ i. with_looks (are i) (entries i ++ more)) ∙ looks-behind modes (front_entries front) more ∙ ap (λ m. with_looks m more) (sym are);
    }

-- who walks the rest has walked the path
pub leads_rest : (old new : Looking) (path rest : Parts) (dir : ℕ) (follow : Bool) → IsRest old path dir rest → (r : Result PathEnd CallError) → Resolves old (walk_from follow dir rest.names rest.trailing) new r → Resolves old (walk follow path.names path.trailing) new r
leads_rest old new path rest dir follow is r h = by_result r h
  where
    same : noted old (walk_from follow dir rest.names rest.trailing) ≡ noted old (walk follow path.names path.trailing)
    same =
        let modes = sym (is.seen (looked_at (walk_from follow dir rest.names rest.trailing) (view_of old.cells))) ∙ ap (with_looks old.modes) (sym (is.looked follow)) in
        ap (λ (m : Modes). let l : Looking = record { cells = old.cells; modes = m; front = old.front } in l) modes

    by_result : (r : Result PathEnd CallError) → Resolves old (walk_from follow dir rest.names rest.trailing) new r → Resolves old (walk follow path.names path.trailing) new r
    by_result (Ok spot) h = (h.0 ∙ sym (is.end follow), h.1 ∙ same)
    by_result (Err (Fails e)) h = (h.0 ∙ sym (is.end follow), h.1 ∙ same)
    by_result (Err NoMemory) h = tt

-- A look more, where the entries of the front are noted already.

pub noted-too : (cells : Cells) (front : List Cell) (modes new : Modes) (c : Cell) (looking : Looking) → record { cells = cells; modes = with_looks modes front; front = front } ≡ looking → new ≡ finite.insert modes c ReadMode
    → record { cells = cells; modes = with_looks new front; front = front } ≡ noted_at looking c
noted-too cells front modes new c looking view is =
    ap (λ (m : Modes). let l : Looking = record { cells = cells; modes = m; front = front } in l) (ap (λ m. with_looks m front) is ∙ looks-insert modes front c) ∙ ap (λ l. noted_at l c) view

-- nothing but reads is noted, whether memory was wanting or not
pub reads-after : (r : Result (Unit {0}) Memory) (old new : Modes) (c : Cell) → AreReads old → OnOk r (new ≡ finite.insert old c ReadMode) → OnErr r (new ≡ old) → AreReads new
reads-after (Ok x) old new c reads ok err = subst AreReads (sym ok) (reads-insert old c reads)
reads-after (Err e) old new c reads ok err = subst AreReads (sym err) reads

-- the accesses, with the edits
pub listed-but : (front : List Cell) (modes : Modes) (es : List Edit) (looking : Looking) → AreReads modes → (cells : Cells) → record { cells = cells; modes = with_looks modes front; front = front } ≡ looking
    → (list : List Access) (touched : Modes) → list ≡ listed touched → touched ≡ with_edits modes es → AreListedBut looking.front (with_edits looking.modes es) list
listed-but front modes es looking reads cells view list touched is are =
    subst (λ (l : Looking). AreListedBut l.front (with_edits l.modes es) list) view (record {
      some = with_edits modes es;
      are = but-edits front es modes (with_looks modes front) (but-front front modes reads);
      list_is = is ∙ ap listed are;
    })
