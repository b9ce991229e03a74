-- Directories and files in their slots.
use Rattle.std.proofs.Common.{◌≡◌, ℕ, Bool, true, false, [], Option, Some, None, eqb-true, is_some, IsSome, refl, sym, ap, ◌∙◌}
use Rattle.std.proofs.lemmas.Bool.{false≢true}
use Rattle.std.specs.Prelude.{slice_index_or}
use Rattle.std.specs.Ordering.{nat_cmp}
use Rattle.std.specs.FinMap as finite
use Rattle.slab.specs.Slab.{Slab, get, Updates, with_value}
use Rattle.slab.proofs.SlabLemmas.{Updates-with_value}
use Rattle.ft_cells.specs.Cells.{DirCells, FileCells}
use Rattle.ft_inodes.specs.declared.inode.Inode.{Inode}
use Rattle.ft_inodes.specs.declared.inode.Inode.TheVariants.{Directory, File}
use Rattle.ft_inodes.specs.Keyed.{dir_at, file_at, dir_in, file_in, is_dir, is_file, Index, key_in, shown_by, Leads, IsAdded}
use Rattle.ft_inodes.specs.Lending.{set_dir, set_file}
use Rattle.ft_inodes.proofs.Keys.{PutsKey, KeepsRest, KeepsAll, puts-same, shown-same, shown-put, shown-out, kept-slot, leads-same, leads-put, leads-out, alone, one_key, nowhere}

pub one-dir : (n m : ℕ) (o : Option Inode) → is_dir n o ≡ true → is_dir m o ≡ true → n ≡ m
one-dir n m None a b = absurd (false≢true a)
one-dir n m (Some (Directory i d)) a b = sym (eqb-true i n a) ∙ eqb-true i m b
one-dir n m (Some (File i f)) a b = absurd (false≢true a)

pub one-file : (n m : ℕ) (o : Option Inode) → is_file n o ≡ true → is_file m o ≡ true → n ≡ m
one-file n m None a b = absurd (false≢true a)
one-file n m (Some (Directory i d)) a b = absurd (false≢true a)
one-file n m (Some (File i f)) a b = sym (eqb-true i n a) ∙ eqb-true i m b

pub not-both : (n m : ℕ) (o : Option Inode) → is_dir n o ≡ true → is_file m o ≡ true → ⊥
not-both n m None a b = false≢true a
not-both n m (Some (Directory i d)) a b = false≢true b
not-both n m (Some (File i f)) a b = false≢true a

pub neither : (n m : ℕ) (o : Option Inode) → is_file n o ≡ true → is_dir m o ≡ true → ⊥
neither n m o a b = not-both m n o b a

-- what stands in a slot of its number
pub dir-there : (n : ℕ) (o : Option Inode) → is_dir n o ≡ true → dir_at o ≡ Some (dir_in o)
dir-there n None own = absurd (false≢true own)
dir-there n (Some (Directory i d)) own = refl
dir-there n (Some (File i f)) own = absurd (false≢true own)

pub file-there : (n : ℕ) (o : Option Inode) → is_file n o ≡ true → file_at o ≡ Some (file_in o)
file-there n None own = absurd (false≢true own)
file-there n (Some (Directory i d)) own = absurd (false≢true own)
file-there n (Some (File i f)) own = refl

pub dir-some : (n : ℕ) (o : Option Inode) → is_dir n o ≡ true → IsSome o
dir-some n None own = absurd (false≢true own)
dir-some n (Some x) own = refl

pub file-some : (n : ℕ) (o : Option Inode) → is_file n o ≡ true → IsSome o
file-some n None own = absurd (false≢true own)
file-some n (Some x) own = refl

-- another directory, or file, under the same number
pub set_dir-is : (n : ℕ) (x : Inode) (to : DirCells) → is_dir n (Some x) ≡ true → set_dir x to ≡ Directory n to
set_dir-is n (Directory i d) to own = ap (λ j. Directory j to) (eqb-true i n own)
set_dir-is n (File i f) to own = absurd (false≢true own)

pub set_file-is : (n : ℕ) (x : Inode) (to : FileCells) → is_file n (Some x) ≡ true → set_file x to ≡ File n to
set_file-is n (Directory i d) to own = absurd (false≢true own)
set_file-is n (File i f) to own = ap (λ j. File j to) (eqb-true i n own)

pub dir-within : (n : ℕ) (x : Inode) → is_dir n (Some x) ≡ true → IsSome (dir_at (Some x))
dir-within n (Directory i d) own = refl
dir-within n (File i f) own = absurd (false≢true own)

pub file-within : (n : ℕ) (x : Inode) → is_file n (Some x) ≡ true → IsSome (file_at (Some x))
file-within n (Directory i d) own = absurd (false≢true own)
file-within n (File i f) own = refl

pub set_dir-own : (n : ℕ) (x : Inode) (to : DirCells) → is_dir n (Some x) ≡ true → is_dir n (Some (set_dir x to)) ≡ true
set_dir-own n (Directory i d) to own = own
set_dir-own n (File i f) to own = own

pub set_file-own : (n : ℕ) (x : Inode) (to : FileCells) → is_file n (Some x) ≡ true → is_file n (Some (set_file x to)) ≡ true
set_file-own n (Directory i d) to own = own
set_file-own n (File i f) to own = own

-- A change of one kind's index, and what it leaves of the other kind.
module _ {X Y : Type 0} (seen : Option Inode → X) (is_own : ℕ → Option Inode → Bool) (seen_other : Option Inode → Y) (is_other : ℕ → Option Inode → Bool)
    (one : (n m : ℕ) (o : Option Inode) → is_own n o ≡ true → is_own m o ≡ true → n ≡ m) (apart : (n m : ℕ) (o : Option Inode) → is_own n o ≡ true → is_other m o ≡ true → ⊥)
    (no_own : (n : ℕ) → is_own n None ≡ false) (no_other : (n : ℕ) → is_other n None ≡ false)
    (s : Slab Inode) (own other : Index) (lead : Leads is_own s own) (lead_other : Leads is_other s other) where
  -- One comes.
  module _ (s' : Slab Inode) (own' : Index) (n : ℕ) (inode : Inode) (added : IsAdded s s' own own' n inode) where
    rest : KeepsRest n own s s'
    rest q key e at = kept-slot is_own s s' own added.key q key lead added.slots.others (λ is. false≢true (sym (no_own q) ∙ ap (is_own q) (sym added.free) ∙ is)) at

    rest_other : KeepsAll other s s'
    rest_other q key at = kept-slot is_other s s' other added.key q key lead_other added.slots.others (λ is. false≢true (sym (no_other q) ∙ ap (is_other q) (sym added.free) ∙ is)) at

    pub added-own : shown_by seen s' own' ≡ finite.insert (shown_by seen s own) n (seen (Some inode))
    added-own = shown-put seen s s' own own' n added.key added.keys rest ∙ ap (λ o. finite.insert (shown_by seen s own) n (seen o)) added.slots.changed

    pub added-other : shown_by seen_other s' other ≡ shown_by seen_other s other
    added-other = shown-same seen_other s s' other other (λ q. refl) rest_other

    pub added-leads : key_in own n ≡ None → is_own n (Some inode) ≡ true → Leads is_own s' own' × Leads is_other s' other
    added-leads absent is = (
      leads-put is_own one s s' own own' n added.key lead added.keys rest added.slots.others (λ key at. nowhere key (sym absent ∙ at)) (ap (is_own n) added.slots.changed ∙ is),
      leads-same is_other s s' other other lead_other (λ q. refl) rest_other
          (λ q key here. added.slots.others key (λ same. apart n q (Some inode) is (ap (is_other q) (sym (ap (get s') same ∙ added.slots.changed)) ∙ here))),
    )

  -- One is written.
  module _ (n k : ℕ) (was to : Inode) (at : key_in own n ≡ Some k) (there : get s k ≡ Some was) where
    abbrev written : Slab Inode
    written = with_value s k to

    writes : Updates s written k (Some to)
    writes = Updates-with_value s k to (ap is_some there)

    left : KeepsRest n own s written
    left q key e q_at = kept-slot is_own s written own k q key lead writes.others (λ is. alone is_own one n q (get s k) e ((lead n k).0 at) is) q_at

    left_other : KeepsAll other s written
    left_other q key q_at = kept-slot is_other s written other k q key lead_other writes.others (λ is. apart n q (get s k) ((lead n k).0 at) is) q_at

    pub written-own : shown_by seen (with_value s k to) own ≡ finite.insert (shown_by seen s own) n (seen (Some to))
    written-own = shown-put seen s written own own n k (puts-same n k own at) left ∙ ap (λ o. finite.insert (shown_by seen s own) n (seen o)) writes.changed

    pub written-other : shown_by seen_other (with_value s k to) other ≡ shown_by seen_other s other
    written-other = shown-same seen_other s written other other (λ q. refl) left_other

    pub written-leads : is_own n (Some to) ≡ true → Leads is_own (with_value s k to) own × Leads is_other (with_value s k to) other
    written-leads is = (
      leads-put is_own one s written own own n k lead (puts-same n k own at) left writes.others (λ key also. one_key own n key k also at) (ap (is_own n) writes.changed ∙ is),
      leads-same is_other s written other other lead_other (λ q. refl) left_other
          (λ q key here. writes.others key (λ same. apart n q (Some to) is (ap (is_other q) (sym (ap (get written) same ∙ writes.changed)) ∙ here))),
    )

  -- One goes.
  module _ (s' : Slab Inode) (own' : Index) (n : ℕ) (slots : (key : ℕ) → (key_in own n ≡ Some key → ⊥) → get s' key ≡ get s key) (keys : PutsKey n None own own') where
    stays : KeepsRest n own s s'
    stays q key e at = slots key (λ is. alone is_own one n q (get s key) e ((lead n key).0 is) ((lead q key).0 at))

    stays_other : KeepsAll other s s'
    stays_other q key at = slots key (λ is. apart n q (get s key) ((lead n key).0 is) ((lead_other q key).0 at))

    pub gone-own : shown_by seen s' own' ≡ finite.remove (shown_by seen s own) n
    gone-own = shown-out seen s s' own own' n keys stays

    pub gone-other : shown_by seen_other s' other ≡ shown_by seen_other s other
    gone-other = shown-same seen_other s s' other other (λ q. refl) stays_other

    pub gone-leads : ((key : ℕ) → key_in own n ≡ Some key → get s' key ≡ None) → Leads is_own s' own' × Leads is_other s' other
    gone-leads emptied = (
      leads-out is_own s s' own own' n lead keys stays slots emptied no_own,
      leads-same is_other s s' other other lead_other (λ q. refl) stays_other
          (λ q key here. slots key (λ at. false≢true (sym (no_other q) ∙ ap (is_other q) (sym (emptied key at)) ∙ here))),
    )

-- no inode and no number
pub leads-none : (is_own : ℕ → Option Inode → Bool) → ((n : ℕ) → is_own n None ≡ false) → (s : Slab Inode) (index : Index) → s.slots ≡ [] → index ≡ finite.empty → Leads is_own s index
leads-none is_own no_own s index empty none n key = (
  λ at. nowhere key (sym (ap (λ m. key_in m n) none ∙ finite.get-empty nat_cmp n) ∙ at),
  λ own. absurd (false≢true (sym (no_own n) ∙ ap (λ slots. is_own n (slice_index_or slots key None)) (sym empty) ∙ own)),
)
