-- How runs are put together, and what was written for them.
use Rattle.std.proofs.Common.{◌≡◌, ℕ, List, [], ◌∷◌, ◌++◌, length, true, false, Option, None, Some, refl, sym, ap, ◌∙◌, subst, append_assoc, append-nil}
use Rattle.std.proofs.lemmas.Bool.{false≢true}
use Rattle.std.specs.Prelude.{◌==◌}
use Rattle.std.specs.Io.KnownBytes.{Appends, Consumes, Keeps}
use Rattle.ft_names.specs.Names.{Moment}
use Rattle.ft_script.specs.Runs.{Answers, IsTextOfRun, Plays, WritesPart}

-- ---- what a writer holds

pub appends_none : (a b : Option (List ℕ)) → Keeps a b → Appends a b []
appends_none None b h = tt
appends_none (Some x) None h = absurd h
appends_none (Some x) (Some y) h = h ∙ sym (append-nil x)

pub appends_more : (a b c : Option (List ℕ)) (xs ys : List ℕ) → Appends a b xs → Appends b c ys → Appends a c (xs ++ ys)
appends_more None b c xs ys h k = tt
appends_more (Some x) None c xs ys h k = absurd h
appends_more (Some x) (Some y) None xs ys h k = absurd k
appends_more (Some x) (Some y) (Some z) xs ys h k = k ∙ ap (λ l. l ++ ys) h ∙ append_assoc x xs ys

-- bytes that were written at once were written one part behind the other
pub appends_apart : (a c : Option (List ℕ)) (xs ys : List ℕ) → Appends a c (xs ++ ys) → (b : Option (List ℕ)) × Appends a b xs × Appends b c ys
appends_apart None c xs ys h = (None, tt, tt)
appends_apart (Some x) None xs ys h = absurd h
appends_apart (Some x) (Some z) xs ys h = (Some (x ++ xs), refl, h ∙ sym (append_assoc x xs ys))

-- a part of a front is a part of the whole
pub part_more : (a b : Option (List ℕ)) (xs ys : List ℕ) → WritesPart a b xs → WritesPart a b (xs ++ ys)
part_more a b xs ys h = (h.0, h.1, h.2 ++ ys, ap (λ l. l ++ ys) h.3 ∙ append_assoc h.0 (h.1 ∷ h.2) ys, h.4)

-- nothing has no part
pub no_part : (a b : Option (List ℕ)) → WritesPart a b [] → ⊥
no_part a b ([], next, back, is, wrote) = cc
no_part a b (x ∷ xs, next, back, is, wrote) = cc

pub consumes_none : (a : Option (List ℕ)) → Consumes a a []
consumes_none None = tt
consumes_none (Some x) = refl

pub consumes_kept : (a b c : Option (List ℕ)) (xs : List ℕ) → Consumes a b xs → Keeps b c → Consumes a c xs
consumes_kept None b c xs h k = tt
consumes_kept (Some x) None c xs h k = absurd h
consumes_kept (Some x) (Some y) None xs h k = absurd k
consumes_kept (Some x) (Some y) (Some z) xs h k = h ∙ ap (λ l. xs ++ l) (sym k)

pub consumes_more : (a b c : Option (List ℕ)) (xs ys : List ℕ) → Consumes a b xs → Consumes b c ys → Consumes a c (xs ++ ys)
consumes_more None b c xs ys h k = tt
consumes_more (Some x) None c xs ys h k = absurd h
consumes_more (Some x) (Some y) None xs ys h k = absurd k
consumes_more (Some x) (Some y) (Some z) xs ys h k = h ∙ ap (λ l. xs ++ l) k ∙ sym (append_assoc xs ys z)

pub keeps_refl : (a : Option (List ℕ)) → Keeps a a
keeps_refl None = tt
keeps_refl (Some x) = refl

pub keeps_trans : (a b c : Option (List ℕ)) → Keeps a b → Keeps b c → Keeps a c
keeps_trans None b c h k = tt
keeps_trans (Some x) None c h k = absurd h
keeps_trans (Some x) (Some y) None h k = absurd k
keeps_trans (Some x) (Some y) (Some z) h k = k ∙ h

-- ---- the text of a run

module _ (answers : Answers) where
  pub run_one : (old new : Moment) (bytes text : List ℕ) → answers true old bytes text new → IsTextOfRun answers old (bytes ∷ []) text new
  run_one old new bytes text h = (new, text, [], h, (refl, refl), sym (append-nil text))

  pub run_more : (old mid new : Moment) (lines others : List (List ℕ)) (text more : List ℕ) → IsTextOfRun answers old lines text mid → IsTextOfRun answers mid others more new → IsTextOfRun answers old (lines ++ others) (text ++ more) new
  run_more old mid new [] others text more h k =
      subst (λ t. IsTextOfRun answers old others (t ++ more) new) (sym h.0) (subst (λ s. IsTextOfRun answers s others more new) h.1 k)
  run_more old mid new (l ∷ lines) others text more h k =
      (h.0, h.1, h.2 ++ more, h.3, run_more h.0 mid new lines others h.2 more h.4 k, ap (λ t. t ++ more) h.5 ∙ append_assoc h.1 h.2 more)

  pub plays_none : (a b : Option (List ℕ)) (old : Moment) → Keeps a b → Plays answers [] a b old old
  plays_none a b old h = record { text = []; run = (refl, refl); wrote = appends_none a b h }

  -- more lines are answered, and the run goes on
  pub plays_more : (lines more : List (List ℕ)) (text : List ℕ) (a b c : Option (List ℕ)) (old mid new : Moment) → Plays answers lines a b old mid → IsTextOfRun answers mid more text new → Appends b c text → Plays answers (lines ++ more) a c old new
  plays_more lines more text a b c old mid new h run wrote = record {
    text = h.text ++ text;
    run = run_more old mid new lines more h.text text h.run run;
    wrote = appends_more a b c h.text text h.wrote wrote;
  }

  -- the same of one line
  pub plays_one : (lines : List (List ℕ)) (bytes text : List ℕ) (a b c : Option (List ℕ)) (old mid new : Moment) → Plays answers lines a b old mid → answers true mid bytes text new → Appends b c text → Plays answers (lines ++ bytes ∷ []) a c old new
  plays_one lines bytes text a b c old mid new h answered wrote = plays_more lines (bytes ∷ []) text a b c old mid new h (run_one mid new bytes text answered) wrote

-- some bytes are left, and the writer takes none of them
pub part_left : (bytes front rest : List ℕ) (a b c : Option (List ℕ)) → bytes ≡ front ++ rest → Appends a b front → Appends b c [] → false ≡ (length rest == 0) → WritesPart a c bytes
part_left bytes front [] a b c h k none some = absurd (false≢true some)
part_left bytes front (x ∷ xs) a b c h k none some = (front, x, xs, h, subst (Appends a c) (append-nil front) (appends_more a b c front [] k none))
