-- What is hidden, the plain tree has not.
use Rattle.std.proofs.Common.{◌≡◌, ℕ, Bool, true, false, cond, ◌||◌, List, Some, None, eq-eqb, refl, sym, ap, ◌∙◌}
use Rattle.std.specs.Prelude.{nat_lt}
use Rattle.std.specs.FinMap.{get, empty}
use Rattle.std.proofs.lemmas.Bool.{false≢true}
use Rattle.ft_cells.specs.Entries.{entry_at}
use Rattle.ft_cells.specs.declared.cell.Cell.TheVariants.{Entry, Parent, Links, Bytes, Fd, DirAttributes, FileAttributes}
use Rattle.ft_cells.specs.Cells.{Cells, links_of, has_file, is_open}
use Rattle.ft_cells.specs.Limits.{default_limits}
use Rattle.ft_cells.specs.Plain.{PlainTree, view_in}
use Rattle.ft_tree.specs.Sound.{AreSoundCells}
use Rattle.ft_tree.specs.Tidy.{tidy}
use Rattle.ft_laws.specs.Laws.{Hides}
use Rattle.ft_posix.specs.Posix.{posix_calls, description_names}
use Rattle.ft_laws.proofs.Tests.{by_test}
use Rattle.ft_posix.proofs.Tidied.{get-tidy, kept_dir, get-dirs, file_at, get-files, get-opens, same_plain}
use Rattle.ft_posix.proofs.Opens.{is_open-alike, named-open}
use Rattle.ft_posix.specs.RunLaws.{HidingLaw}

module _ (hidden : ℕ → Bool) (r s : Cells) (rs : AreSoundCells r) (ss : AreSoundCells s) (h : Hides posix_calls hidden r s) where
  -- the entries and directories are the same
  edges : (d : ℕ) (name : List ℕ) → get (tidy s).edges (entry_at d name) ≡ get (tidy r).edges (entry_at d name)
  edges d name = get-tidy s d name ∙ sym (h.others (Some (Entry (entry_at d name))) refl) ∙ sym (get-tidy r d name)

  dirs : (d : ℕ) → get (tidy s).dirs d ≡ get (tidy r).dirs d
  dirs d = get-dirs s ss.root_is d ∙ (λ x. kept_dir (λ e. sym (h.others (Some (Parent e)) refl) x) (λ e. sym (h.others (Some (DirAttributes e)) refl) x) d) ∙ sym (get-dirs r rs.root_is d)

  -- without the files and descriptions, of which the count of links does not depend
  abbrev frame : Cells → PlainTree
  frame c = record { limits = default_limits; edges = (tidy c).edges; dirs = (tidy c).dirs; files = empty; opens = empty }

  links : (i : ℕ) → links_of s i ≡ links_of r i
  links i = ss.links i ∙ ap (λ p. view_in p (Links i)) (same_plain (frame s) (frame r) refl edges dirs (λ j. refl) (λ f. refl)) ∙ sym (rs.links i)

  -- the same files are there
  there : (i : ℕ) → has_file s i ≡ has_file r i
  there i = λ x. nat_lt 0 (links i x) || is_open-alike s.opens r.opens (λ f. sym (h.others (Some (Fd f)) refl)) i x

  -- a hidden file is not open
  not_open : (i : ℕ) → hidden i ≡ true → is_open s.opens i ≡ false
  not_open i k = by_test (is_open s.opens i)
      (λ o. let x = named-open s i o in absurd (false≢true (sym (h.unnamed (Some (Fd x.0)) i k) ∙ ap (λ p. description_names p i) x.2 ∙ eq-eqb x.1.file i x.3)))
      (λ shut. shut)

  -- and those that are there are the same
  files : (i : ℕ) → get (tidy s).files i ≡ get (tidy r).files i
  files i = get-files s ss i ∙ by_test (hidden i)
      (λ k. let gone : has_file s i ≡ false = ap (λ n. nat_lt 0 n || is_open s.opens i) (h.gone (Some (Links i)) k) ∙ not_open i k in
      ap (λ b. cond b (Some (file_at s i)) None) gone ∙ sym (ap (λ b. cond b (Some (file_at r i)) None) (sym (there i) ∙ gone)))
      (λ k. ap (λ b. cond b (Some (file_at s i)) None) (there i)
      ∙ (λ x. cond (has_file r i) (Some (record { attributes = sym (h.others (Some (FileAttributes i)) k) x; contents = sym (h.others (Some (Bytes i)) k) x })) None))
      ∙ sym (get-files r rs i)

pub hiding : HidingLaw
hiding hidden r s rs ss h =
    same_plain (tidy s) (tidy r) (sym (h.others None refl)) (edges hidden r s rs ss h) (dirs hidden r s rs ss h) (files hidden r s rs ss h) (λ f. get-opens s f ∙ sym (h.others (Some (Fd f)) refl) ∙ sym (get-opens r f))
