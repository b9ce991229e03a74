-- What a target did, piece by piece.
use Rattle.std.proofs.Common.{◌≡◌, ◌+◌, ◌||◌, ℕ, List, [], ◌∷◌, ◌++◌, map, length, length-append, Option, None, Some, refl, sym, ap, ◌∙◌, subst, append-nil, append_assoc}
use Rattle.std.proofs.lemmas.List.Folds.{list_any-append}
use Rattle.std.specs.List.{concat, list_any, flat_map}
use Rattle.std.specs.Io.KnownBytes.{Consumes}
use Rattle.ft_copy.specs.declared.found.Given.{Given}
use Rattle.ft_copy.specs.Asked.{Asked, Piece, Close, DoesAll, IsUnfinished, is_finish}
use Rattle.ft_copy.specs.Runs.{Visit, OfFolder, OfFile, OfFurther, OfNothing, OfSymlink, asked_of, made}

-- ---- what was asked for

pub unfinished_more : (front back : List Asked) → IsUnfinished front → IsUnfinished back → IsUnfinished (front ++ back)
unfinished_more front back h k = list_any-append is_finish front back ∙ ap (λ b. b || list_any is_finish back) h ∙ k

pub unfinished_pieces : (pieces : List (List ℕ)) → IsUnfinished (map Piece pieces)
unfinished_pieces [] = refl
unfinished_pieces (piece ∷ pieces) = unfinished_pieces pieces

pub unfinished_made : (path : List ℕ) (given : Given) (pieces : List (List ℕ)) → IsUnfinished (made path given pieces)
unfinished_made path given pieces = unfinished_more (map Piece pieces) (Close given.time ∷ []) (unfinished_pieces pieces) refl

pub unfinished_visit : (visit : Visit) → IsUnfinished (asked_of visit)
unfinished_visit (OfFolder path attributes) = refl
unfinished_visit (OfFile path given pieces) = unfinished_made path given pieces
unfinished_visit (OfFurther first path) = refl
unfinished_visit (OfSymlink to path) = refl
unfinished_visit OfNothing = refl

pub unfinished_visits : (visits : List Visit) → IsUnfinished (flat_map asked_of visits)
unfinished_visits [] = refl
unfinished_visits (visit ∷ visits) = unfinished_more (asked_of visit) (flat_map asked_of visits) (unfinished_visit visit) (unfinished_visits visits)

pub pieces_more : (some : List (List ℕ)) (piece : List ℕ) → map Piece (some ++ piece ∷ []) ≡ map Piece some ++ Piece piece ∷ []
pieces_more [] piece = refl
pieces_more (p ∷ ps) piece = ap (λ l. Piece p ∷ l) (pieces_more ps piece)

pub concat_more : (some : List (List ℕ)) (piece : List ℕ) → concat (some ++ piece ∷ []) ≡ concat some ++ piece
concat_more [] piece = append-nil piece
concat_more (p ∷ ps) piece = ap (λ l. p ++ l) (concat_more ps piece) ∙ sym (append_assoc p (concat ps) piece)

pub length_pieces : (some : List (List ℕ)) (piece : List ℕ) → length (concat (some ++ piece ∷ [])) ≡ length (concat some) + length piece
length_pieces some piece = ap length (concat_more some piece) ∙ length-append (concat some) piece

pub visits_more : (some : List Visit) (visit : Visit) → flat_map asked_of (some ++ visit ∷ []) ≡ flat_map asked_of some ++ asked_of visit
visits_more [] visit = append-nil (asked_of visit)
visits_more (v ∷ vs) visit = ap (λ l. asked_of v ++ l) (visits_more vs visit) ∙ sym (append_assoc (asked_of v) (flat_map asked_of vs) (asked_of visit))

-- ---- what a reader gave

pub consumed_more : (a b c : Option (List ℕ)) (xs ys : List ℕ) → Consumes a b xs → Consumes b c ys → Consumes a c (xs ++ ys)
consumed_more None b c xs ys h k = tt
consumed_more (Some x) None c xs ys h k = absurd h
consumed_more (Some x) (Some y) None xs ys h k = absurd k
consumed_more (Some x) (Some y) (Some z) xs ys h k = h ∙ ap (λ l. xs ++ l) k ∙ sym (append_assoc xs ys z)

pub consumed_none : (a : Option (List ℕ)) → Consumes a a []
consumed_none None = tt
consumed_none (Some x) = refl

-- ---- what was done

module _ {T : Type 0} (does : T → Asked → T → Type 0) where
  pub does_more : (old middle new : T) (front back : List Asked) → DoesAll does old front middle → DoesAll does middle back new → DoesAll does old (front ++ back) new
  does_more old middle new [] back h k = subst (λ t. DoesAll does t back new) h k
  does_more old middle new (asked ∷ front) back h k = (h.0, h.1, does_more h.0 middle new front back h.2 k)

  pub does_one : (old new : T) (asked : Asked) → does old asked new → DoesAll does old (asked ∷ []) new
  does_one old new asked h = (new, h, refl)
