-- A walk, visit by visit.
use Rattle.std.proofs.Common.{◌≡◌, ℕ, List, [], ◌∷◌, ◌++◌, length, arith, refl, sym, ap, ◌∙◌, subst, append_assoc}
use Rattle.ft_copy.specs.declared.found.FolderEntry.{FolderEntry}
use Rattle.ft_copy.specs.declared.found.MetLink.{MetLink}
use Rattle.ft_copy.specs.declared.found.CopyPath.{CopyPath}
use Rattle.ft_copy.specs.declared.limits.CopyLimits.{CopyLimits}
use Rattle.ft_copy.specs.Told.{Told}
use Rattle.ft_copy.specs.Walks.{Standing, above, child}
use Rattle.ft_copy.specs.Runs.{Visit, IsLinkVisit, IsVisit, LinksTo, WalksTo}

-- the last name of a directory is the lowest on top
pub above_last : (path : List ℕ) (names : List FolderEntry) (listed : FolderEntry) → above path (names ++ listed ∷ []) ≡ child path listed ∷ above path names
above_last path [] listed = refl
above_last path (n ∷ ns) listed = ap (λ l. l ++ child path n ∷ []) (above_last path ns listed)

-- it is put there
pub put_last : (left : List CopyPath) (path : List ℕ) (names rest : List FolderEntry) (listed : FolderEntry) → names ≡ rest ++ listed ∷ []
    → left ++ above path names ≡ (left ++ child path listed ∷ []) ++ above path rest
put_last left path names rest listed is =
    ap (λ l. left ++ above path l) is ∙ ap (λ l. left ++ l) (above_last path rest listed) ∙ sym (append_assoc left (child path listed ∷ []) (above path rest))

pub none_left : (n : ℕ) (all : List CopyPath) → n ≡ length all → n ≡ 0 → all ≡ []
none_left n [] sized empty = refl
none_left n (p ∷ ps) sized empty = absurd (omega (arith, sized, empty))

module _ (limits : CopyLimits) (tells : Told → Type 0) where
  pub walks_one : (old new : Standing) (rest : List CopyPath) (place : CopyPath) (visit : Visit) → old.left ≡ rest ++ place ∷ []
      → IsVisit limits tells place (record { left = rest; links = old.links; firsts = old.firsts }) visit new → WalksTo limits tells old (visit ∷ []) new
  walks_one old new rest place visit is h = (rest, place, new, is, h, refl)

  pub walks_more : (old middle new : Standing) (some others : List Visit) → WalksTo limits tells old some middle → WalksTo limits tells middle others new → WalksTo limits tells old (some ++ others) new
  walks_more old middle new [] others h k = subst (λ s. WalksTo limits tells s others new) h k
  walks_more old middle new (visit ∷ some) others h k = (h.0, h.1, h.2, h.3, h.4, walks_more h.2 middle new some others h.5 k)

  pub links_one : (old new : Standing) (link : MetLink) (more : List MetLink) (visit : Visit) → old.links ≡ link ∷ more
      → IsLinkVisit limits tells link (record { left = old.left; links = more; firsts = old.firsts }) visit new → LinksTo limits tells old (visit ∷ []) new
  links_one old new link more visit is h = (link, more, new, is, h, refl)

  pub links_more : (old middle new : Standing) (some others : List Visit) → LinksTo limits tells old some middle → LinksTo limits tells middle others new → LinksTo limits tells old (some ++ others) new
  links_more old middle new [] others h k = subst (λ s. LinksTo limits tells s others new) h k
  links_more old middle new (visit ∷ some) others h k = (h.0, h.1, h.2, h.3, h.4, links_more h.2 middle new some others h.5 k)
