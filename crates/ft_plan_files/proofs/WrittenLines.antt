-- How a plan is written out, line by line.
use Rattle.std.proofs.Common.{◌≡◌, ℕ, List, [], ◌∷◌, ◌++◌, refl, sym, ap, subst, ◌∙◌, append_assoc, append-nil}
use Rattle.std.proofs.lemmas.List.Concat.{flat_map-append}
use Rattle.std.specs.List.{flat_map, join_with_byte}
use Rattle.ft_transfer.specs.Disk.{FileTold}
use Rattle.ft_words.specs.Spelling.{IsFreeOf}
use Rattle.ft_plan_names.specs.Numbers.{all_lines}
use Rattle.ft_plan_names.proofs.Lining.{lines_cut, lines_free}
use Rattle.ft_plan_files.specs.WrittenOut.{AreWrittenLines, IsNotWrittenOut, IsUnreadable, IsWrittenLine, IsWrittenOut}
use Rattle.ft_plan_files.specs.Writing.{PutsLine}

-- ---- texts, with a line feed after each

abbrev ended : List (List ℕ) → List ℕ
ended texts = flat_map (λ text. text ++ 10 ∷ []) texts

one_ended : (text others last : List ℕ) → text ++ 10 ∷ (others ++ last) ≡ ((text ++ 10 ∷ []) ++ others) ++ last
one_ended text others last = sym (append_assoc (text ++ 10 ∷ []) others last ∙ append_assoc text (10 ∷ []) (others ++ last))

joined_last : (texts : List (List ℕ)) (last : List ℕ) → join_with_byte 10 (texts ++ last ∷ []) ≡ ended texts ++ last
joined_last [] last = refl
joined_last (text ∷ []) last = one_ended text [] last
joined_last (text ∷ next ∷ texts) last = ap (λ made. text ++ 10 ∷ made) (joined_last (next ∷ texts) last) ∙ one_ended text (ended (next ∷ texts)) last

ended_more : (texts : List (List ℕ)) (text : List ℕ) → ended (texts ++ text ∷ []) ≡ ended texts ++ (text ++ 10 ∷ [])
ended_more texts text = flat_map-append (λ t. t ++ 10 ∷ []) texts (text ∷ []) ∙ ap (λ t. ended texts ++ t) (append-nil (text ++ 10 ∷ []))

-- ---- the lines so far

module _ (tells : FileTold → Type 0) where
  more_lines : (lines texts : List (List ℕ)) (line text : List ℕ) → AreWrittenLines tells lines texts → IsWrittenLine tells line text → AreWrittenLines tells (lines ++ line ∷ []) (texts ++ text ∷ [])
  more_lines [] [] line text all one = (one, tt)
  more_lines [] (t ∷ texts) line text all one = absurd all
  more_lines (l ∷ lines) [] line text all one = absurd all
  more_lines (l ∷ lines) (t ∷ texts) line text all one = (all.0, more_lines lines texts line text all.1 one)

  -- the first lines of a text were written out, and this is left
  pub record SoFar (text made rest : List ℕ) : Type 0 where
    pub before : List (List ℕ)
    pub texts : List (List ℕ)
    pub written : AreWrittenLines tells before texts
    pub lines : all_lines text ≡ before ++ all_lines rest
    pub made_is : made ≡ ended texts

  pub begun : (text : List ℕ) → SoFar text [] text
  begun text = record { before = []; texts = []; written = tt; lines = refl; made_is = refl }

  -- a line was put, and a line feed
  pub next : (text made put after rest line more : List ℕ) → SoFar text made rest → IsFreeOf 10 line → rest ≡ line ++ 10 ∷ more → PutsLine tells line made put → after ≡ put ++ 10 ∷ [] → SoFar text after more
  next text made put after rest line more so_far free is puts after_is = record {
    before = so_far.before ++ line ∷ [];
    texts = so_far.texts ++ puts.0 ∷ [];
    written = more_lines so_far.before so_far.texts line puts.0 so_far.written puts.1;
    lines =
        so_far.lines
        ∙ ap (λ r. so_far.before ++ all_lines r) is
        ∙ ap (λ ls. so_far.before ++ ls) (lines_cut line more free)
        ∙ sym (append_assoc so_far.before (line ∷ []) (all_lines more));
    made_is =
        after_is
        ∙ ap (λ p. p ++ 10 ∷ []) (puts.2 ∙ ap (λ m. m ++ puts.0) so_far.made_is)
        ∙ append_assoc (ended so_far.texts) puts.0 (10 ∷ [])
        ∙ sym (ended_more so_far.texts puts.0);
  }

  -- the last line was put
  pub done : (text made put rest : List ℕ) → SoFar text made rest → IsFreeOf 10 rest → PutsLine tells rest made put → IsWrittenOut tells text put
  done text made put rest so_far free puts = (
    so_far.texts ++ puts.0 ∷ [],
    written_all (more_lines so_far.before so_far.texts rest puts.0 so_far.written puts.1),
    puts.2 ∙ ap (λ m. m ++ puts.0) so_far.made_is ∙ sym (joined_last so_far.texts puts.0),
  )
    where
      all_are : all_lines text ≡ so_far.before ++ rest ∷ []
      all_are = so_far.lines ∙ ap (λ ls. so_far.before ++ ls) (lines_free rest free)

      written_all : AreWrittenLines tells (so_far.before ++ rest ∷ []) (so_far.texts ++ puts.0 ∷ []) → AreWrittenLines tells (all_lines text) (so_far.texts ++ puts.0 ∷ [])
      written_all all = subst (λ ls. AreWrittenLines tells ls (so_far.texts ++ puts.0 ∷ [])) (sym all_are) all

  -- the file of a line could not be read
  pub unread : (text made rest line more : List ℕ) → SoFar text made rest → IsFreeOf 10 line → rest ≡ line ++ 10 ∷ more → IsUnreadable tells line → IsNotWrittenOut tells text
  unread text made rest line more so_far free is fails =
      (so_far.before, line, all_lines more, so_far.texts, so_far.lines ∙ ap (λ r. so_far.before ++ all_lines r) is ∙ ap (λ ls. so_far.before ++ ls) (lines_cut line more free), so_far.written, fails)

  -- that of the last line could not
  pub unread_last : (text made rest : List ℕ) → SoFar text made rest → IsFreeOf 10 rest → IsUnreadable tells rest → IsNotWrittenOut tells text
  unread_last text made rest so_far free fails = (so_far.before, rest, [], so_far.texts, so_far.lines ∙ ap (λ ls. so_far.before ++ ls) (lines_free rest free), so_far.written, fails)
