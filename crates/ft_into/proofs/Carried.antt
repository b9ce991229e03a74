-- What steps that are carried out come to.
use Rattle.std.proofs.Common.{◌≡◌, inl, inr, Bool, false, List, [], ◌∷◌, ◌++◌, map, refl, sym, ap, ◌∙◌, subst, append-nil, append_assoc}
use Rattle.std.specs.List.{flat_map}
use Rattle.std.proofs.lemmas.List.{map-append}
use Rattle.std.proofs.lemmas.List.Elements.{All-head, All-tail, All-push}
use Rattle.ft_cells.specs.declared.attributes.Attributes.{Attributes}
use Rattle.ft_copy.specs.declared.limits.CopyLimits.{CopyLimits}
use Rattle.ft_copy.specs.Asked.{Asked, DoesAll}
use Rattle.ft_copy.specs.Asked as asks
use Rattle.ft_copy.specs.Kept.{kept_attributes}
use Rattle.ft_copy.specs.Told.{Told}
use Rattle.ft_copy.specs.Runs.{Copies, asked_of}
use Rattle.ft_into.specs.declared.step.Act.{Act}
use Rattle.ft_into.specs.declared.step.Act.TheVariants as acts
use Rattle.ft_into.specs.declared.step.Step.{Step}
use Rattle.ft_into.specs.declared.carrying.Carrying.{Carrying as Struct}
use Rattle.ft_into.specs.Makes as makes
use Rattle.ft_into.specs.Makes.{Making, MakesAll, steps_of}
use Rattle.ft_into.specs.Carries.{AreRemovals, Carries, CarriesOut, CarriesTree, Carrying, IsDone, IsMadeOf, IsOpenAfter, IsRemoving, ending, making, removing}

-- ---- steps

is_removal : (step : Step) → step.act ≡ acts.Remove → record { act = acts.Remove; thing = step.thing; path = step.path } ≡ step
is_removal step h = ap (λ (act : Act). record { act = act; thing = step.thing; path = step.path }) (sym h)

-- the steps of what removals and other things come to
pub taken_of : (removed : List Step) (back : List Making) (rest : List Step) → AreRemovals removed
    → removed ++ (flat_map steps_of back ++ rest) ≡ flat_map steps_of (map removing removed ++ back) ++ rest
taken_of [] back rest h = refl
taken_of (step ∷ removed) back rest h =
    ap (λ (s : Step). s ∷ (removed ++ (flat_map steps_of back ++ rest))) (sym (is_removal step (All-head IsRemoving step removed h)))
    ∙ ap (λ (l : List Step). record { act = acts.Remove; thing = step.thing; path = step.path } ∷ l) (taken_of removed back rest (All-tail IsRemoving step removed h))

pub steps_more : (front back : List Making) → flat_map steps_of (front ++ back) ≡ flat_map steps_of front ++ flat_map steps_of back
steps_more [] back = refl
steps_more (making ∷ front) back = ap (λ (l : List Step). steps_of making ++ l) (steps_more front back) ∙ sym (append_assoc (steps_of making) (flat_map steps_of front) (flat_map steps_of back))

-- ---- what is made

module _ {M : Type 0} (does : M → Making → M → Type 0) where
  pub makes_more : (old middle new : M) (front back : List Making) → MakesAll does old front middle → MakesAll does middle back new → MakesAll does old (front ++ back) new
  makes_more old middle new [] back h k = subst (λ (m : M). MakesAll does m back new) h k
  makes_more old middle new (making ∷ front) back h k = (h.0, h.1, makes_more h.0 middle new front back h.2 k)

  pub makes_one : (old new : M) (making : Making) → does old making new → MakesAll does old (making ∷ []) new
  makes_one old new making h = (new, h, refl)

  -- removals, and then what is asked for
  pub carries : (old new : Carrying M) (asked : Asked) (removed : List Step) (own : List Making) (middle : M) → IsMadeOf asked own → AreRemovals removed
      → MakesAll does old.maker (map removing removed) middle → MakesAll does middle (own ++ ending asked) new.maker
      → old.rest ≡ removed ++ (flat_map steps_of (own ++ ending asked) ++ new.rest) → IsOpenAfter asked old.is_open own new.is_open → IsDone asked new.rest
      → Carries does old asked new
  carries old new asked removed own middle is_own removals did_removed did_own rest opened done = record {
    removed = removed;
    own = own;
    is_own = is_own;
    did = makes_more old.maker middle new.maker (map removing removed) (own ++ ending asked) did_removed did_own;
    taken = rest ∙ taken_of removed (own ++ ending asked) new.rest removals;
    opened = opened;
    done = done;
  }

  -- one thing after another
  pub carries_all : (asked : List Asked) (old new : Carrying M) → DoesAll (Carries does) old asked new
      → (made : List Making) × MakesAll does old.maker made new.maker × (old.rest ≡ flat_map steps_of made ++ new.rest)
  carries_all [] old new h = ([], ap (λ (c : Carrying M). c.maker) h, ap (λ (c : Carrying M). c.rest) (sym h))
  carries_all (first ∷ more) old new h =
      let one = h.1 in
      let all = map removing one.removed ++ (one.own ++ ending first) in
      let others = carries_all more h.0 new h.2 in (
        all ++ others.0,
        makes_more old.maker h.0.maker new.maker all others.0 one.did others.1,
        one.taken ∙ ap (λ (l : List Step). flat_map steps_of all ++ l) others.2
            ∙ sym (append_assoc (flat_map steps_of all) (flat_map steps_of others.0) new.rest)
            ∙ ap (λ (l : List Step). l ++ new.rest) (sym (steps_more all others.0)),
      )

-- ---- a whole copy

skip : {T : Type 0} (does : T → Asked → T → Type 0) (front back : List Asked) (new : T) (Q : Type 0) → ((old : T) → DoesAll does old back new → Q) → (old : T) → DoesAll does old (front ++ back) new → Q
skip does [] back new Q f old h = f old h
skip does (first ∷ front) back new Q f old h = skip does front back new Q f h.0 h.2

-- the same by what is seen of each state
pub does_all_seen : {S T : Type 0} (see : S → T) (does : T → Asked → T → Type 0) (asked : List Asked) (old new : S) → DoesAll (λ (one : S) a (other : S). does (see one) a (see other)) old asked new
    → DoesAll does (see old) asked (see new)
does_all_seen see does [] old new h = ap see h
does_all_seen see does (first ∷ more) old new h = (see h.0, h.1, does_all_seen see does more h.0 new h.2)

module _ {S M : Type 0} (see : S → Carrying M) (does : M → Making → M → Type 0) (limits : CopyLimits) (tells : Told → Type 0) where
  pub copies_seen : (old new : S) → Copies limits tells (λ (one : S) a (other : S). Carries does (see one) a (see other)) old new → Copies limits tells (Carries does) (see old) (see new)
  copies_seen old new h = record {
    top = h.top;
    begun = h.begun;
    visits = h.visits;
    walked = h.walked;
    links = h.links;
    done = h.done;
    folder = h.folder;
    root = h.root;
    walk = h.walk;
    all = h.all;
    last = h.last;
    all_links = h.all_links;
    did = does_all_seen see (Carries does) (asks.Start ∷ flat_map asked_of h.visits ++ flat_map asked_of h.links ++ asks.Finish (kept_attributes limits h.top.attributes) ∷ []) old new h.did;
  }

  -- all steps were carried out
  pub carries_out : (steps : List Step) (old new : S) → (see old).rest ≡ steps → Copies limits tells (λ (one : S) a (other : S). Carries does (see one) a (see other)) old new → CarriesOut does steps (see old).maker (see new).maker
  carries_out steps old new is h =
      let last = asks.Finish (kept_attributes limits h.top.attributes) ∷ [] in
      let before = asks.Start ∷ flat_map asked_of h.visits ++ flat_map asked_of h.links in
      let did = does_all_seen see (Carries does) (before ++ last) old new h.did in
      let made = carries_all does (before ++ last) (see old) (see new) did in
      let none : (see new).rest ≡ [] =
      skip (Carries does) before last (see new) ((see new).rest ≡ [])
      (λ (one : Carrying M) (d : DoesAll (Carries does) one last (see new)). ap (λ (c : Carrying M). c.rest) d.2 ∙ d.1.done) (see old) did in
      (made.0, made.1, sym (append-nil (flat_map steps_of made.0)) ∙ ap (λ (l : List Step). flat_map steps_of made.0 ++ l) (sym none) ∙ sym made.2 ∙ is)

-- ---- one request

module _ {M : Type 0} (does : M → Making → M → Type 0) where
  -- removals that were carried out, from a maker with these steps left
  abbrev pub HasRemoved : M → List Step → M → List Step → Type 0
  HasRemoved old rest new left = (removed : List Step) × MakesAll does old (map removing removed) new × (rest ≡ removed ++ left) × AreRemovals removed

  -- what no step names is left as it is
  pub leaves : (old new : Carrying M) (asked : Asked) (middle : M) (left : List Step) → HasRemoved old.maker old.rest middle left → ending asked ≡ []
      → new.maker ≡ middle → new.rest ≡ left → IsOpenAfter asked old.is_open [] new.is_open → IsDone asked new.rest → Carries does old asked new
  leaves old new asked middle left h none maker rest opened done =
      carries does old new asked h.0 [] middle (inl refl) h.3 h.1 (subst (λ (l : List Making). MakesAll does middle l new.maker) (sym none) maker)
      (subst (λ (l : List Making). old.rest ≡ h.0 ++ (flat_map steps_of l ++ new.rest)) (sym none) (h.2 ∙ ap (λ (l : List Step). h.0 ++ l) (sym rest))) opened done

  -- what the next step names is made
  pub takes : (old new : Carrying M) (asked : Asked) (act : Act) (own : Making) (step : Step) (middle before : M) (left : List Step) → HasRemoved old.maker old.rest middle left → ending asked ≡ []
      → making act asked ≡ own ∷ [] → steps_of own ≡ step ∷ [] → left ≡ step ∷ new.rest → before ≡ middle → does before own new.maker
      → IsOpenAfter asked old.is_open (own ∷ []) new.is_open → IsDone asked new.rest → Carries does old asked new
  takes old new asked act own step middle before left h none is one next same did opened done =
      carries does old new asked h.0 (own ∷ []) middle (inr (act, sym is)) h.3 h.1
      (subst (λ (l : List Making). MakesAll does middle (own ∷ l) new.maker) (sym none) (makes_one does middle new.maker own (subst (λ (m : M). does m own new.maker) same did)))
      (subst (λ (l : List Making). old.rest ≡ h.0 ++ (flat_map steps_of (own ∷ l) ++ new.rest)) (sym none)
      (h.2 ∙ ap (λ (l : List Step). h.0 ++ l) next ∙ ap (λ (l : List Step). h.0 ++ (l ++ new.rest)) (sym one ∙ sym (append-nil (steps_of own))))) opened done

  -- the root is made or left, and the maker finishes
  pub ends : (old new : Carrying M) (attributes : Attributes) (own : List Making) (middle after : M) (left : List Step) → HasRemoved old.maker old.rest middle left → IsMadeOf (asks.Finish attributes) own
      → MakesAll does middle own after → left ≡ flat_map steps_of own ++ new.rest → does after makes.Finish new.maker → new.is_open ≡ old.is_open → new.rest ≡ [] → Carries does old (asks.Finish attributes) new
  ends old new attributes own middle after left h is_own did next finished opened done =
      carries does old new (asks.Finish attributes) h.0 own middle is_own h.3 h.1
      (makes_more does middle after new.maker own (makes.Finish ∷ []) did (makes_one does after new.maker makes.Finish finished))
      (h.2 ∙ ap (λ (l : List Step). h.0 ++ l) (next ∙ ap (λ (l : List Step). l ++ new.rest) (sym (steps_more own (makes.Finish ∷ []) ∙ append-nil (flat_map steps_of own))))) opened done

  -- one more removal
  pub removes_more : (old middle new : M) (rest left : List Step) (step : Step) (more : List Step) → HasRemoved old rest middle left → left ≡ step ∷ more → step.act ≡ acts.Remove
      → does middle (removing step) new → HasRemoved old rest new more
  removes_more old middle new rest left step more h next act did = (
    h.0 ++ step ∷ [],
    subst (λ (l : List Making). MakesAll does old l new) (sym (map-append removing h.0 (step ∷ [])))
        (makes_more does old middle new (map removing h.0) (removing step ∷ []) h.1 (makes_one does middle new (removing step) did)),
    h.2 ∙ ap (λ (l : List Step). h.0 ++ l) next ∙ sym (append_assoc h.0 (step ∷ []) more),
    All-push IsRemoving h.0 step h.3 act,
  )

-- ---- the whole, for the target

abbrev pub see : {M : Type 0} → Struct M → Carrying M
see carrying = record { maker = carrying.maker; rest = carrying.rest.now; is_open = carrying.is_open }

module _ {M : Type 0} (does : M → Making → M → Type 0) (limits : CopyLimits) (tells : Told → Type 0) (old new : Struct M) where
  abbrev pub CopiesTo : Type 0
  CopiesTo = Copies limits tells (λ (one : Struct M) a (other : Struct M). Carries does (see one) a (see other)) old new

  pub steps_done : CopiesTo → CarriesOut does old.rest.now old.maker new.maker
  steps_done h = carries_out see does limits tells old.rest.now old new refl h

  pub tree_done : old.is_open ≡ false → CopiesTo → CarriesTree does limits tells old.rest.now old.maker new.maker
  tree_done closed h =
      (see new, refl, subst (λ (is_open : Bool). Copies limits tells (Carries does) (record { maker = old.maker; rest = old.rest.now; is_open = is_open }) (see new)) closed (copies_seen see does limits tells old new h))
