-- A whole comparison.
use Rattle.std.proofs.Common.{◌≡◌, List, [], ◌∷◌, ◌++◌, refl, ap, ◌∙◌, subst}
use Rattle.std.specs.List.{flat_map}
use Rattle.ft_copy.specs.declared.limits.CopyLimits.{CopyLimits}
use Rattle.ft_copy.specs.Asked.{Asked, DoesAll}
use Rattle.ft_copy.specs.Asked as asks
use Rattle.ft_copy.specs.Kept.{kept_attributes}
use Rattle.ft_copy.specs.Runs.{Copies, asked_of}
use Rattle.ft_copy.specs.Told.{Told}
use Rattle.ft_into.specs.declared.wishes.Wishes.{Wishes}
use Rattle.ft_into.specs.Compares.{Compares, ComparesTree}
use Rattle.ft_into.specs.Knows.{Comparison, fresh}

module _ {C D : Type 0} (see : C → Comparison) (wishes_of : C → Wishes) (disk_of : C → D) (tells : D → Told → Type 0) where
  -- one request, which keeps the wishes and the source
  abbrev pub Does : C → Asked → C → Type 0
  Does old asked new = (wishes_of new ≡ wishes_of old) × (disk_of new ≡ disk_of old) × Compares (tells (disk_of old)) (wishes_of old) (see old) asked (see new)

  all : (wishes : Wishes) (disk : D) (asked : List Asked) (old new : C) → wishes_of old ≡ wishes → disk_of old ≡ disk → DoesAll Does old asked new
      → DoesAll (Compares (tells disk) wishes) (see old) asked (see new)
  all wishes disk [] old new w d h = ap see h
  all wishes disk (first ∷ more) old new w d h =
      let one = h.1 in (
        see h.0,
        subst (λ (from : D). Compares (tells from) wishes (see old) first (see h.0)) d
            (subst (λ (by : Wishes). Compares (tells (disk_of old)) by (see old) first (see h.0)) w one.2),
        all wishes disk more h.0 new (one.0 ∙ w) (one.1 ∙ d) h.2,
      )

  -- a copy to a comparison that begins finds the steps to the tree
  pub compared : (wishes : Wishes) (disk : D) (limits : CopyLimits) (tree : Told → Type 0) (old new : C) → see old ≡ fresh → wishes_of old ≡ wishes → disk_of old ≡ disk → Copies limits tree Does old new
      → ComparesTree (tells disk) wishes limits tree (see new).steps
  compared wishes disk limits tree old new begins w d h =
      let asked = asks.Start ∷ flat_map asked_of h.visits ++ flat_map asked_of h.links ++ asks.Finish (kept_attributes limits h.top.attributes) ∷ [] in (
        see new,
        refl,
        record {
          top = h.top;
          begun = h.begun;
          visits = h.visits;
          walked = h.walked;
          links = h.links;
          done = h.done;
          folder = h.folder;
          root = h.root;
          walk = h.walk;
          all = h.all;
          last = h.last;
          all_links = h.all_links;
          did = subst (λ (from : Comparison). DoesAll (Compares (tells disk) wishes) from asked (see new)) begins (all wishes disk asked old new w d h.did);
        },
      )
