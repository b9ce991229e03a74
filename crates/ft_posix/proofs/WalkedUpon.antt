-- What a walk comes upon: it looks at entries and parents, and at the links to which these entries
-- lead; and at the entry at which it ends.
use Rattle.std.proofs.Common.{◌≡◌, ℕ, suc, zero, Bool, true, false, cond, ◌||◌, List, [], ◌∷◌, Option, Some, None, unwrap_or, Result, Ok, Err, refl, sym, subst, ◌∙◌}
use Rattle.std.specs.Prelude.{◌==◌}
use Rattle.std.proofs.lemmas.Option.{none-some, same_Some}
use Rattle.ft_laws.specs.Lists.{Each, In}
use Rattle.ft_laws.proofs.Lists.{Each-map}
use Rattle.ft_path.specs.Name.{is_dot, is_dot_dot}
use Rattle.ft_path.specs.FilePath.{target_parts}
use Rattle.ft_path.specs.declared.path.Parts.{Parts}
use Rattle.ft_path.specs.declared.errno.Errno.{Errno}
use Rattle.ft_cells.specs.Entries.{entry_at}
use Rattle.ft_cells.specs.declared.cell.Cell.{Cell}
use Rattle.ft_cells.specs.declared.cell.Cell.TheVariants.{Entry, Parent, Bytes}
use Rattle.ft_cells.specs.declared.node.Node.{Node}
use Rattle.ft_cells.specs.declared.node.Form.TheVariants.{Regular, Link as LinkForm}
use Rattle.ft_cells.specs.declared.node.Node.TheVariants.{Dir as DirNode, File as FileNode}
use Rattle.ft_cells.specs.declared.node.PathEnd.{PathEnd}
use Rattle.ft_cells.specs.declared.node.PathEnd.TheVariants.{Named as AtName, Itself}
use Rattle.ft_cells.specs.Cells.{Cells, entry_of, bytes_of}
use Rattle.ft_tree.specs.Views.{view_of}
use Rattle.ft_cells.specs.Looks.{Looks, Answer, Look, answer, looked_at, then, or_else, answer-then}
use Rattle.ft_tree.specs.declared.reader.Halt.{Halt}
use Rattle.ft_tree.specs.declared.reader.Halt.TheVariants.{Fault, Onto}
use Rattle.ft_tree.specs.declared.reader.Way.{Way}
use Rattle.ft_tree.specs.declared.reader.TheConstants.{MOST_FOLLOWED}
use Rattle.ft_tree.specs.Walk.{Leg, Ends, Meets, up, passed, inner, reached, last, halted, leg_from, leg, way_of, onward, ended, walk_on, walk}
use Rattle.ft_posix.specs.Links.{climb}
use Rattle.ft_posix.specs.Posix.{file_of}
use Rattle.ft_posix.proofs.Upon.{Sees, sees_entry}

-- each of the cells is among those that are seen
abbrev pub AreSeen : List Cell → List Cell → Type 0
AreSeen seen cs = Each (λ c. In c seen) cs

module _ (cells : Cells) where
  module _ {A : Type 0} where
    -- none of the cells that are looked at is of a file
    abbrev pub MeetsNone : Looks A → Type 0
    MeetsNone s = Each (λ c. file_of c ≡ None) (looked_at s (view_of cells))

    -- whichever of two is taken
    either-meets : (b : Bool) (s t : Looks A) → MeetsNone s → MeetsNone t → MeetsNone (cond b s t)
    either-meets true s t p q = p
    either-meets false s t p q = q

  -- and then what is looked at behind it
  then-meets : {A B : Type 0} (s : Looks A) (f : A → Looks B) → MeetsNone s → ((x : A) → MeetsNone (f x)) → MeetsNone (then s f)
  then-meets (Answer x) f p each = each x
  then-meets (Look c next) f p each = (p.0, then-meets (next (view_of cells c)) f p.1 each)

  -- an error ends it
  or_else-meets : {A B E : Type 0} (fail : E → B) (go : A → Looks B) → ((x : A) → MeetsNone (go x)) → (r : Result A E) → MeetsNone (or_else fail go r)
  or_else-meets fail go each (Ok x) = each x
  or_else-meets fail go each (Err e) = tt

  -- the way up looks at a parent
  up-meets : (d : ℕ) → MeetsNone (up d)
  up-meets d = either-meets (d == 1) (Answer 1) (Look (Parent d) (λ p. Answer (unwrap_or p 1))) tt (refl, tt)

  -- nor does the way up from a directory
  pub climb-meets : (n i d : ℕ) → MeetsNone (climb n i d)
  climb-meets zero i d = tt
  climb-meets (suc n) i d =
      either-meets (d == i) (Answer true) _ tt
      (either-meets (d == 1) (Answer false) (Look (Parent d) (λ p. climb n i (unwrap_or p 1))) tt (refl, climb-meets n i _))

  module _ (seen : List Cell) where
    -- a spot whose entry is seen, with what it leads to
    abbrev pub IsFound : PathEnd → Type 0
    IsFound (AtName entry x slash) = In (Entry entry) seen × (entry_of cells entry.dir entry.name ≡ x)
    IsFound (Itself d) = Unit {0}

    -- such a spot, or an error
    abbrev pub EndsFound : Result PathEnd Errno → Type 0
    EndsFound (Ok spot) = IsFound spot
    EndsFound (Err e) = Unit {0}

    -- a cell of a file that is looked at is of one whose name is seen
    abbrev pub IsSeenOf : Cell → Type 0
    IsSeenOf c = (i : ℕ) → file_of c ≡ Some i → Sees cells seen i

    of_none : (c : Cell) → file_of c ≡ None → IsSeenOf c
    of_none c none i is = absurd (none-some i (sym none ∙ is))

    of_link : (link : ℕ) → Sees cells seen link → IsSeenOf (Bytes link)
    of_link link sees i is = subst (Sees cells seen) (same_Some link i is) sees

    -- what is seen of two parts, one after the other, is seen of each
    pub seen-parts : {A B : Type 0} (s : Looks A) (f : A → Looks B) → AreSeen seen (looked_at (then s f) (view_of cells)) → AreSeen seen (looked_at s (view_of cells)) × AreSeen seen (looked_at (f (answer s (view_of cells))) (view_of cells))
    seen-parts (Answer x) f all = (tt, all)
    seen-parts (Look c next) f all = let parts = seen-parts (next (view_of cells c)) f all.1 in ((all.0, parts.0), parts.1)

    -- and what is of each is of both
    of_parts : {A B : Type 0} (s : Looks A) (f : A → Looks B) → Each IsSeenOf (looked_at s (view_of cells)) → Each IsSeenOf (looked_at (f (answer s (view_of cells))) (view_of cells)) → Each IsSeenOf (looked_at (then s f) (view_of cells))
    of_parts (Answer x) f p q = q
    of_parts (Look c next) f p q = (p.0, of_parts (next (view_of cells c)) f p.1 q)

    -- where all that is looked at is seen, the names of its files are seen, and so it is of the
    -- answer
    abbrev pub Observes : {A : Type 0} → (A → Type 0) → Looks A → Type 0
    Observes P s = AreSeen seen (looked_at s (view_of cells)) → Each IsSeenOf (looked_at s (view_of cells)) × P (answer s (view_of cells))

    -- whichever of two is taken
    either-finds : {A : Type 0} (P : A → Type 0) (b : Bool) (s t : Looks A) → Observes P s → Observes P t → Observes P (cond b s t)
    either-finds P true s t p q = p
    either-finds P false s t p q = q

    -- behind other looks
    then-finds : {A B : Type 0} (P : A → Type 0) (Q : B → Type 0) (s : Looks A) (f : A → Looks B) → Observes P s → ((x : A) → P x → Observes Q (f x)) → Observes Q (then s f)
    then-finds P Q s f first each all =
        let parts = seen-parts s f all in
        let one = first parts.0 in
        let two = each (answer s (view_of cells)) one.1 parts.1 in
        (of_parts s f one.0 two.0, subst Q (sym (answer-then s f (view_of cells))) two.1)

    abbrev Any : {A : Type 0} → A → Type 0
    Any x = Unit {0}

    -- the way up looks at no file
    up-finds : (d : ℕ) → Observes Any (up d)
    up-finds d all = (Each-map (λ c. file_of c ≡ None) IsSeenOf of_none (looked_at (up d) (view_of cells)) (up-meets d), tt)

    -- a link that is to be followed has a name that is seen
    abbrev HaltSeen : Halt → Type 0
    HaltSeen (Fault e) = Unit {0}
    HaltSeen (Onto link) = Sees cells seen link

    abbrev GoesSeen : Result ℕ Halt → Type 0
    GoesSeen (Ok d) = Unit {0}
    GoesSeen (Err halt) = HaltSeen halt

    abbrev LastSeen : Result PathEnd Halt → Type 0
    LastSeen (Ok spot) = IsFound spot
    LastSeen (Err halt) = HaltSeen halt

    abbrev LegSeen : Leg → Type 0
    LegSeen (Ends end) = EndsFound end
    LegSeen (Meets link dir names) = Sees cells seen link

    halted-seen : (d : ℕ) (names : List (List ℕ)) (halt : Halt) → HaltSeen halt → LegSeen (halted d names halt)
    halted-seen d names (Fault e) h = tt
    halted-seen d names (Onto link) h = h

    -- what an entry on the way leads to
    passed-seen : (d : ℕ) (name : List ℕ) (x : Option Node) → In (Entry (entry_at d name)) seen → entry_of cells d name ≡ x → GoesSeen (passed x)
    passed-seen d name None at is = tt
    passed-seen d name (Some (DirNode i)) at is = tt
    passed-seen d name (Some (FileNode Regular i)) at is = tt
    passed-seen d name (Some (FileNode LinkForm i)) at is = sees_entry d name i at is

    -- a component looks at an entry, or at a parent
    inner-finds : (d : ℕ) (name : List ℕ) → Observes GoesSeen (inner d name)
    inner-finds d name =
        either-finds GoesSeen (is_dot name) (Answer (Ok d)) _ (λ all. (tt, tt))
        (either-finds GoesSeen (is_dot_dot name) (then (up d) (λ p. Answer (Ok p))) (Look (Entry (entry_at d name)) (λ x. Answer (passed x)))
        (then-finds Any GoesSeen (up d) (λ p. Answer (Ok p)) (up-finds d) (λ p h all. (tt, tt)))
        (λ all. ((of_none (Entry (entry_at d name)) refl, tt), passed-seen d name (entry_of cells d name) all.0 refl)))

    -- what a last name leads to
    reached-seen : (d : ℕ) (name : List ℕ) (follow slash : Bool) (x : Option Node) → In (Entry (entry_at d name)) seen → entry_of cells d name ≡ x → LastSeen (reached d name follow slash x)
    reached-seen d name follow slash None at is = (at, is)
    reached-seen d name follow slash (Some (DirNode i)) at is = (at, is)
    reached-seen d name follow slash (Some (FileNode Regular i)) at is =
        elim slash as (λ b. LastSeen (cond b (Err (Fault _)) (Ok (AtName (entry_at d name) (Some (FileNode Regular i)) slash)))) [ true ↦ tt | false ↦ (at, is) ]
    reached-seen d name follow slash (Some (FileNode LinkForm i)) at is =
        elim (follow || slash) as (λ b. LastSeen (cond b (Err (Onto i)) (Ok (AtName (entry_at d name) (Some (FileNode LinkForm i)) slash)))) [ true ↦ sees_entry d name i at is | false ↦ (at, is) ]

    -- and so does the last
    last-finds : (d : ℕ) (name : List ℕ) (follow slash : Bool) → Observes LastSeen (last d name follow slash)
    last-finds d name follow slash =
        either-finds LastSeen (is_dot name) (Answer (Ok (Itself d))) _ (λ all. (tt, tt))
        (either-finds LastSeen (is_dot_dot name) (then (up d) (λ p. Answer (Ok (Itself p)))) (Look (Entry (entry_at d name)) (λ x. Answer (reached d name follow slash x)))
        (then-finds Any LastSeen (up d) (λ p. Answer (Ok (Itself p))) (up-finds d) (λ p h all. (tt, tt)))
        (λ all. ((of_none (Entry (entry_at d name)) refl, tt), reached-seen d name follow slash (entry_of cells d name) all.0 refl)))

    -- and so does each behind it
    last_leg-finds : (d : ℕ) (r : Result PathEnd Halt) → LastSeen r → Observes LegSeen (or_else (halted d []) (λ spot. Answer (Ends (Ok spot))) r)
    last_leg-finds d (Ok spot) h all = (tt, h)
    last_leg-finds d (Err halt) h all = (tt, halted-seen d [] halt h)

    inner_leg-finds : (d : ℕ) (names : List (List ℕ)) (go : ℕ → Looks Leg) → ((i : ℕ) → Observes LegSeen (go i)) → (r : Result ℕ Halt) → GoesSeen r → Observes LegSeen (or_else (halted d names) go r)
    inner_leg-finds d names go each (Ok i) h = each i
    inner_leg-finds d names go each (Err halt) h = λ all. (tt, halted-seen d names halt h)

    leg_from-finds : (names : List (List ℕ)) (d : ℕ) (name : List ℕ) (follow slash : Bool) → Observes LegSeen (leg_from d name names follow slash)
    leg_from-finds [] d name follow slash =
        then-finds LastSeen LegSeen (last d name follow slash) (or_else (halted d []) (λ spot. Answer (Ends (Ok spot)))) (last-finds d name follow slash) (last_leg-finds d)
    leg_from-finds (m ∷ ms) d name follow slash =
        let go : ℕ → Looks Leg = λ i. leg_from i m ms follow slash in
        then-finds GoesSeen LegSeen (inner d name) (or_else (halted d (m ∷ ms)) go) (inner-finds d name) (inner_leg-finds d (m ∷ ms) go (λ i. leg_from-finds ms i m follow slash))

    leg-finds : (d : ℕ) (names : List (List ℕ)) (follow slash : Bool) → Observes LegSeen (leg d names follow slash)
    leg-finds d [] follow slash = λ all. (tt, tt)
    leg-finds d (name ∷ names) follow slash = leg_from-finds names d name follow slash

    -- a walk that may follow no link any more
    ended-found : (end : Leg) → LegSeen end → EndsFound (ended end)
    ended-found (Ends end) h = h
    ended-found (Meets link dir names) h = tt

    -- behind a link, which is looked at
    way-finds : (go : ℕ → List (List ℕ) → Bool → Looks (Result PathEnd Errno)) → ((i : ℕ) (names : List (List ℕ)) (slash : Bool) → Observes EndsFound (go i names slash))
        → (d : ℕ) (names : List (List ℕ)) (slash : Bool) (target : List ℕ) (r : Result Parts Errno) → Observes EndsFound (or_else Err (λ (way : Way). go way.start way.names way.slash) (way_of d names slash target r))
    way-finds go each d names slash target (Ok parts) = each _ _ _
    way-finds go each d names slash target (Err e) = λ all. (tt, tt)

    onward-finds : (go : ℕ → List (List ℕ) → Bool → Looks (Result PathEnd Errno)) → ((i : ℕ) (names : List (List ℕ)) (slash : Bool) → Observes EndsFound (go i names slash)) → (slash : Bool) (end : Leg) → LegSeen end → Observes EndsFound (onward go slash end)
    onward-finds go each slash (Ends end) h = λ all. (tt, h)
    onward-finds go each slash (Meets link dir names) sees = λ all.
        let rest = way-finds go each dir names slash (bytes_of cells link) (target_parts (bytes_of cells link)) all.1 in
        ((of_link link sees, rest.0), rest.1)

    -- so does a walk from a directory
    walk_on-finds : (left : ℕ) (follow : Bool) (d : ℕ) (names : List (List ℕ)) (slash : Bool) → Observes EndsFound (walk_on left follow d names slash)
    walk_on-finds zero follow d names slash = then-finds LegSeen EndsFound (leg d names follow slash) (λ end. Answer (ended end)) (leg-finds d names follow slash) (λ end h all. (tt, ended-found end h))
    walk_on-finds (suc left) follow d names slash =
        then-finds LegSeen EndsFound (leg d names follow slash) (onward (walk_on left follow) slash) (leg-finds d names follow slash)
        (onward-finds (walk_on left follow) (λ i more after. walk_on-finds left follow i more after) slash)

    -- a walk looks at no file but at links whose name is seen, and ends at an entry that it has
    -- looked at, at a directory, or with an error
    pub walk-finds : (follow : Bool) (names : List (List ℕ)) (slash : Bool) → Observes EndsFound (walk follow names slash)
    walk-finds follow names slash = walk_on-finds MOST_FOLLOWED follow 1 names slash
