-- How looks go together.
use Rattle.std.proofs.Common.{◌≡◌, ℕ, Bool, true, false, cond, List, Option, Some, None, Result, Ok, Err, refl, sym, ap, subst, ◌∙◌}
use Rattle.ft_path.specs.declared.errno.Errno.{Errno}
use Rattle.ft_path.specs.declared.path.Parts.{Parts}
use Rattle.ft_path.specs.declared.errno.Errno.TheVariants.{EBADF, EINVAL}
use Rattle.ft_cells.specs.declared.cell.Cell.TheVariants.{Fd}
use Rattle.ft_cells.specs.declared.open_file.OpenFile.{OpenFile}
use Rattle.ft_cells.specs.Looks.{Looks, Answer, answer, looked_at, all_noted, answer-then, then, or_else}
use Rattle.ft_tree.specs.Views.{view_of}
use Rattle.ft_cells.specs.declared.node.PathEnd.{PathEnd}
use Rattle.ft_tree.specs.Walk.{walk}
use Rattle.ft_posix.specs.declared.intent.Intent.{Intent}
use Rattle.ft_posix.specs.declared.intent.CallError.{CallError}
use Rattle.ft_posix.specs.declared.intent.CallError.TheVariants.{Memory as NoMemory, Errno as Fails}
use Rattle.ft_posix.specs.Outcomes.{Outcome, failed, from_parts, unless}
use Rattle.ft_posix.specs.Descriptors.{on_open, with_open}
use Rattle.ft_posix.specs.Links.{climb, unless_below}
use Rattle.ft_posix.specs.Looking.{Looking, noted_at, noted, Observes, look_at}
use Rattle.ft_posix.specs.Computes.{outcome_of, Computes, Resolves, Parses}
use Rattle.ft_posix.proofs.Recorded.{with_looks-then, all_noted-is}

-- what a part looked at, and what is looked at behind it
pub noted-then : {A B : Type 0} (old : Looking) (s : Looks A) (f : A → Looks B) (x : A) (mid : Looking) → x ≡ answer s (view_of old.cells) → mid ≡ noted old s → noted mid (f x) ≡ noted old (then s f)
noted-then old s f x mid is looks =
    ap (λ (l : Looking). noted l (f x)) looks
    ∙ ap (λ y. noted (noted old s) (f y)) is
    ∙ ap (λ m. record { cells = old.cells; modes = m; front = old.front }) (sym (with_looks-then old.modes s f (view_of old.cells)))

-- and what is answered behind it
pub answer-on : {A B : Type 0} (old : Looking) (s : Looks A) (f : A → Looks B) (x : A) (mid : Looking) → x ≡ answer s (view_of old.cells) → mid ≡ noted old s
    → answer (f x) (view_of mid.cells) ≡ answer (then s f) (view_of old.cells)
answer-on old s f x mid is looks =
    ap (λ (l : Looking). answer (f x) (view_of l.cells)) looks ∙ ap (λ y. answer (f y) (view_of old.cells)) is ∙ sym (answer-then s f (view_of old.cells))

-- where a walk leads that notes each cell which it reads
pub leads : (old new : Looking) (follow : Bool) (read names : List (List ℕ)) (trailing : Bool) → read ≡ names → (end told : Result PathEnd Errno) → end ≡ told
    → end ≡ answer (walk follow read trailing) (view_of old.cells) → new ≡ all_noted noted_at old (looked_at (walk follow read trailing) (view_of old.cells))
    → (told ≡ answer (walk follow names trailing) (view_of old.cells)) × (new ≡ noted old (walk follow names trailing))
leads old new follow read names trailing same end told is led looks = (
  sym is ∙ led ∙ ap (λ ns. answer (walk follow ns trailing) (view_of old.cells)) same,
  looks ∙ all_noted-is old (looked_at (walk follow read trailing) (view_of old.cells)) ∙ ap (λ ns. noted old (walk follow ns trailing)) same,
)

-- to go on with what was found out
pub finds_then : {A : Type 0} (old : Looking) (s : Looks A) (f : A → Looks Outcome) (x : A) (mid new : Looking) (r : Result Intent CallError)
    → x ≡ answer s (view_of old.cells) → mid ≡ noted old s → Computes mid (f x) new r → Computes old (then s f) new r
finds_then old s f x mid new (Ok intent) is looks h =
    (ap (λ (l : Looking). outcome_of l.cells intent) (sym looks) ∙ h.0 ∙ answer-on old s f x mid is looks, h.1 ∙ noted-then old s f x mid is looks)
finds_then old s f x mid new (Err (Fails e)) is looks h = (h.0 ∙ answer-on old s f x mid is looks, h.1 ∙ noted-then old s f x mid is looks)
finds_then old s f x mid new (Err NoMemory) is looks h = tt

-- a call on a path: its text is read, its names are walked
module _ (old : Looking) (text : Result Parts Errno) (go : PathEnd → Looks Outcome) (follow : Bool) where
  -- a fault of the text is answered before anything is looked at
  pub comes_faulty : (d : CallError) → Parses text (Err d) → Computes old (from_parts follow text go) old (Err d)
  comes_faulty (Fails e) is = (ap (λ t. answer (from_parts follow t go) (view_of old.cells)) is, ap (λ t. noted old (from_parts follow t go)) is)
  comes_faulty NoMemory is = tt

  module _ (parts : Parts) (is : Parses text (Ok parts)) (mid : Looking) where
    -- the walk fails, or wants memory
    pub comes_lost : (d : CallError) → Resolves old (walk follow parts.names parts.trailing) mid (Err d) → Computes old (from_parts follow text go) mid (Err d)
    comes_lost (Fails e) h =
        let s = walk follow parts.names parts.trailing in (
          answer-on old s (or_else failed go) (Err e) mid h.0 h.1 ∙ ap (λ t. answer (from_parts follow t go) (view_of old.cells)) is,
          noted-then old s (or_else failed go) (Err e) mid h.0 h.1 ∙ ap (λ t. noted old (from_parts follow t go)) is,
        )
    comes_lost NoMemory h = tt

    -- the call goes on where the walk ends
    pub comes_on : (spot : PathEnd) → Resolves old (walk follow parts.names parts.trailing) mid (Ok spot) → (new : Looking) (r : Result Intent CallError) → Computes mid (go spot) new r → Computes old (from_parts follow text go) new r
    comes_on spot h new r comes =
        subst (λ t. Computes old (from_parts follow t go) new r) is
        (finds_then old (walk follow parts.names parts.trailing) (or_else failed go) (Ok spot) mid new r h.0 h.1 comes)

-- a call on a descriptor that is open for it
pub comes_open : (old : Looking) (fd : ℕ) (fits : OpenFile → Bool) (go : OpenFile → Looks Outcome) (place : Option OpenFile) (o : OpenFile) (mid new : Looking) (r : Result Intent CallError)
    → Observes old (look_at (Fd fd)) mid (Ok place) → place ≡ Some o → fits o ≡ true → Computes mid (go o) new r → Computes old (with_open fd fits go) new r
comes_open old fd fits go place o mid new r found is fit h =
    let there : (p : Option OpenFile) → p ≡ Some o → Computes mid (on_open fits go p) new r = λ p is. subst (λ q. Computes mid (on_open fits go q) new r) (sym is) (subst (λ b. Computes mid (cond b (go o) (Answer (failed EBADF))) new r) (sym fit) h) in
    finds_then old (look_at (Fd fd)) (on_open fits go) place mid new r found.0 found.1 (there place is)

-- a directory that is renamed: the way up is looked at first
module _ (old : Looking) (n i e : ℕ) (go : Looks Outcome) (mid : Looking) (met : Bool) (found : Observes old (climb n i e) mid (Ok met)) where
  over : (b : Bool) → met ≡ b → (new : Looking) (r : Result Intent CallError) → Computes mid (cond b (Answer (failed EINVAL)) go) new r → Computes old (unless_below n i e go) new r
  over b is new r h =
      let on : Bool → Looks Outcome = λ m. cond m (Answer (failed EINVAL)) go in
      finds_then old (climb n i e) on met mid new r found.0 found.1 (subst (λ m. Computes mid (on m) new r) (sym is) h)

  pub comes_met : met ≡ true → Computes old (unless_below n i e go) mid (Err (Fails EINVAL))
  comes_met is = over true is mid (Err (Fails EINVAL)) (refl, refl)

  pub comes_unmet : met ≡ false → (new : Looking) (r : Result Intent CallError) → Computes mid go new r → Computes old (unless_below n i e go) new r
  comes_unmet is new r h = over false is new r h

-- a call goes on with the parts that its text says
pub comes_text : (old : Looking) (go : Result Parts Errno → Looks Outcome) (text : Result Parts Errno) (parts : Parts) → Parses text (Ok parts) → (new : Looking) (r : Result Intent CallError) → Computes old (go (Ok parts)) new r → Computes old (go text) new r
comes_text old go text parts is new r h = subst (λ t. Computes old (go t) new r) is h

-- a call whose arguments have no fault goes on
pub comes_past : (old : Looking) (fault : Option Errno) (go : Looks Outcome) → fault ≡ None → (new : Looking) (r : Result Intent CallError) → Computes old go new r → Computes old (unless fault go) new r
comes_past old fault go clear new r h = subst (λ f. Computes old (unless f go) new r) (sym clear) h

-- where a test for a fault fails, the call goes on
pub comes_clear : (old : Looking) (fault : Bool) (e : Errno) (go : Looks Outcome) → fault ≡ false → (new : Looking) (r : Result Intent CallError) → Computes old go new r → Computes old (cond fault (Answer (failed e)) go) new r
comes_clear old fault e go clear new r h = subst (λ b. Computes old (cond b (Answer (failed e)) go) new r) (sym clear) h
