-- A walk whose front leads to a directory goes on from there.
use Rattle.std.proofs.Common.{◌≡◌, ℕ, zero, suc, Bool, false, cond, List, [], ◌∷◌, ◌++◌, Option, Some, Result, Ok, refl, sym, ap, append_assoc, ◌∙◌}
use Rattle.ft_path.specs.Name.{is_dot, is_dot_dot}
use Rattle.ft_cells.specs.Entries.{entry_at}
use Rattle.ft_cells.specs.declared.node.Node.{Node}
use Rattle.ft_cells.specs.declared.node.Node.TheVariants.{Dir as DirNode}
use Rattle.ft_cells.specs.declared.cell.Cell.TheVariants.{Entry}
use Rattle.ft_cells.specs.Looks.{Looks, Answer, Look, View, answer, looked_at, answer-then, then, or_else}
use Rattle.ft_tree.specs.declared.reader.Halt.{Halt}
use Rattle.ft_tree.specs.Walk.{Leg, inner, up, passed, halted, leg, leg_from, walk_on}
use Rattle.ft_tree.specs.Fronts.{LeadAlong, entries_along, end_along}
use Rattle.ft_tree.proofs.Following.{behind}

-- what is looked at in two parts, one after the other
looked_at-then : {A B : Type 0} (s : Looks A) (f : A → Looks B) (v : View) → looked_at (then s f) v ≡ looked_at s v ++ looked_at (f (answer s v)) v
looked_at-then (Answer x) f v = refl
looked_at-then (Look c next) f v = ap (λ cs. c ∷ cs) (looked_at-then (next (v c)) f v)

module _ (v : View) (follow slash : Bool) where
  module _ (dir : ℕ) (name : List ℕ) (next : List ℕ) (more : List (List ℕ)) (i : ℕ) (dot : is_dot name ≡ false) (dots : is_dot_dot name ≡ false) (shows : v (Entry (entry_at dir name)) ≡ Some (DirNode i)) where
    abbrev on : Result ℕ Halt → Looks Leg
    on = or_else (halted dir (next ∷ more)) (λ d. leg_from d next more follow slash)

    abbrev look : Looks (Result ℕ Halt)
    look = Look (Entry (entry_at dir name)) (λ x. Answer (passed x))

    looks : inner dir name ≡ look
    looks = ap (λ b. cond b (Answer (Ok dir)) (cond (is_dot_dot name) (then (up dir) (λ p. Answer (Ok p))) look)) dot ∙ ap (λ b. cond b (then (up dir) (λ p. Answer (Ok p))) look) dots

    step-answer : answer (leg_from dir name (next ∷ more) follow slash) v ≡ answer (leg_from i next more follow slash) v
    step-answer = ap (λ s. answer (then s on) v) looks ∙ ap (λ (x : Option Node). answer (on (passed x)) v) shows

    step-looked : looked_at (leg_from dir name (next ∷ more) follow slash) v ≡ Entry (entry_at dir name) ∷ looked_at (leg_from i next more follow slash) v
    step-looked = ap (λ s. looked_at (then s on) v) looks ∙ ap (λ (x : Option Node). Entry (entry_at dir name) ∷ looked_at (on (passed x)) v) shows

  -- a leg behind a way that leads along directories
  leg-answer : (dir : ℕ) (names : List (List ℕ)) (dirs : List ℕ) (next : List ℕ) (more : List (List ℕ)) → LeadAlong v dir names dirs → answer (leg dir (names ++ next ∷ more) follow slash) v ≡ answer (leg (end_along dir dirs) (next ∷ more) follow slash) v
  leg-answer dir [] [] next more lead = refl
  leg-answer dir [] (i ∷ dirs) next more lead = absurd lead
  leg-answer dir (name ∷ names) [] next more lead = absurd lead
  leg-answer dir (name ∷ []) (i ∷ dirs) next more lead = step-answer dir name next more i lead.0 lead.1 lead.2 ∙ leg-answer i [] dirs next more lead.3
  leg-answer dir (name ∷ other ∷ names) (i ∷ dirs) next more lead = step-answer dir name other (names ++ next ∷ more) i lead.0 lead.1 lead.2 ∙ leg-answer i (other ∷ names) dirs next more lead.3

  leg-looked : (dir : ℕ) (names : List (List ℕ)) (dirs : List ℕ) (next : List ℕ) (more : List (List ℕ)) → LeadAlong v dir names dirs → looked_at (leg dir (names ++ next ∷ more) follow slash) v ≡ entries_along dir names dirs ++ looked_at (leg (end_along dir dirs) (next ∷ more) follow slash) v
  leg-looked dir [] [] next more lead = refl
  leg-looked dir [] (i ∷ dirs) next more lead = absurd lead
  leg-looked dir (name ∷ names) [] next more lead = absurd lead
  leg-looked dir (name ∷ []) (i ∷ dirs) next more lead = step-looked dir name next more i lead.0 lead.1 lead.2 ∙ ap (λ cs. Entry (entry_at dir name) ∷ cs) (leg-looked i [] dirs next more lead.3)
  leg-looked dir (name ∷ other ∷ names) (i ∷ dirs) next more lead = step-looked dir name other (names ++ next ∷ more) i lead.0 lead.1 lead.2 ∙ ap (λ cs. Entry (entry_at dir name) ∷ cs) (leg-looked i (other ∷ names) dirs next more lead.3)

  -- a walk is a leg, and what is behind it
  walk-split : (left : ℕ) (dir : ℕ) (names : List (List ℕ)) → walk_on left follow dir names slash ≡ then (leg dir names follow slash) (behind left follow slash)
  walk-split zero dir names = refl
  walk-split (suc left) dir names = refl

  module _ (left : ℕ) (dir : ℕ) (names : List (List ℕ)) (dirs : List ℕ) (lead : LeadAlong v dir names dirs) (next : List ℕ) (more : List (List ℕ)) where
    abbrev whole : Looks Leg
    whole = leg dir (names ++ next ∷ more) follow slash

    abbrev rest : Looks Leg
    rest = leg (end_along dir dirs) (next ∷ more) follow slash

    pub walk-answer : answer (walk_on left follow dir (names ++ next ∷ more) slash) v ≡ answer (walk_on left follow (end_along dir dirs) (next ∷ more) slash) v
    walk-answer =
        ap (λ s. answer s v) (walk-split left dir (names ++ next ∷ more)) ∙ answer-then whole (behind left follow slash) v
        ∙ ap (λ e. answer (behind left follow slash e) v) (leg-answer dir names dirs next more lead)
        ∙ sym (ap (λ s. answer s v) (walk-split left (end_along dir dirs) (next ∷ more)) ∙ answer-then rest (behind left follow slash) v)

    pub walk-looked : looked_at (walk_on left follow dir (names ++ next ∷ more) slash) v ≡ entries_along dir names dirs ++ looked_at (walk_on left follow (end_along dir dirs) (next ∷ more) slash) v
    walk-looked =
        let k = behind left follow slash in
        ap (λ s. looked_at s v) (walk-split left dir (names ++ next ∷ more)) ∙ looked_at-then whole k v
        ∙ ap (λ cs. cs ++ looked_at (k (answer whole v)) v) (leg-looked dir names dirs next more lead)
        ∙ ap (λ e. (entries_along dir names dirs ++ looked_at rest v) ++ looked_at (k e) v) (leg-answer dir names dirs next more lead)
        ∙ append_assoc (entries_along dir names dirs) (looked_at rest v) (looked_at (k (answer rest v)) v)
        ∙ ap (λ cs. entries_along dir names dirs ++ cs) (sym (ap (λ s. looked_at s v) (walk-split left (end_along dir dirs) (next ∷ more)) ∙ looked_at-then rest k v))
