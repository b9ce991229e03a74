-- Texts that are cut at a byte, and texts with that byte between each two.
use Rattle.std.proofs.Common.{◌≡◌, ℕ, ◌<◌, Bool, true, false, cond, ◌||◌, List, [], ◌∷◌, ◌++◌, length, refl, sym, ap, ◌∙◌, arith, eq-eqb, append_assoc, append-nil, length-append}
use Rattle.std.proofs.lemmas.List.Folds.{list_any-append}
use Rattle.std.proofs.lemmas.List.Splits.{length-slice_split}
use Rattle.std.specs.Prelude.{◌==◌}
use Rattle.std.specs.List.{flat_map, join_with_byte, list_any, onto_first, slice_split}
use Rattle.ft_words.proofs.Bytes.{neither}
use Rattle.ft_words.specs.Spelling.{IsFreeOf}

-- the parts of a text between these bytes: the words of a line, or the lines of a text
abbrev pub cut : ℕ → List ℕ → List (List ℕ)
cut byte text = slice_split (λ b. b == byte) text

-- none of them has the byte
abbrev pub AllFree : ℕ → List (List ℕ) → Type 0
AllFree byte [] = Unit {0}
AllFree byte (text ∷ texts) = IsFreeOf byte text × AllFree byte texts

-- ---- texts without the byte

either_false : (a b : Bool) → a ≡ false → b ≡ false → (a || b) ≡ false
either_false a b h k = ap (λ c. c || b) h ∙ k

pub append_free : (byte : ℕ) (text others : List ℕ) → IsFreeOf byte text → IsFreeOf byte others → IsFreeOf byte (text ++ others)
append_free byte text others h k = list_any-append (λ b. b == byte) text others ∙ either_false (list_any (λ b. b == byte) text) (list_any (λ b. b == byte) others) h k

pub free_more : (byte : ℕ) (texts : List (List ℕ)) (last : List ℕ) → AllFree byte texts → IsFreeOf byte last → AllFree byte (texts ++ last ∷ [])
free_more byte [] last free last_free = (last_free, tt)
free_more byte (text ∷ texts) last free last_free = (free.0, free_more byte texts last free.1 last_free)

-- texts with another byte between each two
pub joined_free : (byte between : ℕ) (texts : List (List ℕ)) → (between == byte) ≡ false → AllFree byte texts → IsFreeOf byte (join_with_byte between texts)
joined_free byte between [] other free = refl
joined_free byte between (text ∷ []) other free = free.0
joined_free byte between (text ∷ next ∷ texts) other free =
    append_free byte text (between ∷ join_with_byte between (next ∷ texts)) free.0
    (either_false (between == byte) (list_any (λ b. b == byte) (join_with_byte between (next ∷ texts))) other (joined_free byte between (next ∷ texts) other free.1))

onto_free : (byte x : ℕ) (texts : List (List ℕ)) → (x == byte) ≡ false → AllFree byte texts → AllFree byte (onto_first x texts)
onto_free byte x [] other free = (either_false (x == byte) false other refl, tt)
onto_free byte x (text ∷ texts) other free = (either_false (x == byte) (list_any (λ b. b == byte) text) other free.0, free.1)

-- the parts of a text
pub parts_free : (byte : ℕ) (text : List ℕ) → AllFree byte (cut byte text)
parts_free byte [] = (refl, tt)
parts_free byte (x ∷ xs) = either (x == byte) refl (parts_free byte xs)
  where
    either : (b : Bool) → (x == byte) ≡ b → AllFree byte (cut byte xs) → AllFree byte (cond b ([] ∷ cut byte xs) (onto_first x (cut byte xs)))
    either true is free = (refl, free)
    either false is free = onto_free byte x (cut byte xs) is free

-- ---- the parts of texts

pub parts_some : (byte : ℕ) (text : List ℕ) → 0 < length (cut byte text)
parts_some byte text = omega (arith, length-slice_split (λ b. b == byte) text)

pub cut_free : (byte : ℕ) (text : List ℕ) → IsFreeOf byte text → cut byte text ≡ text ∷ []
cut_free byte [] h = refl
cut_free byte (x ∷ xs) h =
    let both = neither (x == byte) _ h in
    ap (λ b. cond b ([] ∷ cut byte xs) (onto_first x (cut byte xs))) both.0 ∙ ap (onto_first x) (cut_free byte xs both.1)

onto_before : (x : ℕ) (parts others : List (List ℕ)) → 0 < length parts → onto_first x (parts ++ others) ≡ onto_first x parts ++ others
onto_before x [] others some = absurd (omega arith)
onto_before x (part ∷ parts) others some = refl

put_on : (c : Bool) (x : ℕ) (parts others : List (List ℕ)) → 0 < length parts → cond c ([] ∷ (parts ++ others)) (onto_first x (parts ++ others)) ≡ cond c ([] ∷ parts) (onto_first x parts) ++ others
put_on true x parts others some = refl
put_on false x parts others some = onto_before x parts others some

-- the byte is between the parts of two texts
pub cut_both : (byte : ℕ) (text rest : List ℕ) → cut byte (text ++ byte ∷ rest) ≡ cut byte text ++ cut byte rest
cut_both byte [] rest = ap (λ b. cond b ([] ∷ cut byte rest) (onto_first byte (cut byte rest))) (eq-eqb byte byte refl)
cut_both byte (x ∷ xs) rest =
    ap (λ parts. cond (x == byte) ([] ∷ parts) (onto_first x parts)) (cut_both byte xs rest)
    ∙ put_on (x == byte) x (cut byte xs) (cut byte rest) (parts_some byte xs)

-- the parts of texts with the byte between each two are those of each text
pub cut_joined : (byte : ℕ) (texts : List (List ℕ)) → 0 < length texts → cut byte (join_with_byte byte texts) ≡ flat_map (cut byte) texts
cut_joined byte [] some = absurd (omega arith)
cut_joined byte (text ∷ []) some = sym (append-nil (cut byte text))
cut_joined byte (text ∷ next ∷ texts) some = cut_both byte text (join_with_byte byte (next ∷ texts)) ∙ ap (λ parts. cut byte text ++ parts) (cut_joined byte (next ∷ texts) (omega arith))

each_free : (byte : ℕ) (texts : List (List ℕ)) → AllFree byte texts → flat_map (cut byte) texts ≡ texts
each_free byte [] free = refl
each_free byte (text ∷ texts) free = ap (λ parts. parts ++ flat_map (cut byte) texts) (cut_free byte text free.0) ∙ ap (λ parts. text ∷ parts) (each_free byte texts free.1)

-- and are these texts, if none has the byte
pub cut_back : (byte : ℕ) (texts : List (List ℕ)) → 0 < length texts → AllFree byte texts → cut byte (join_with_byte byte texts) ≡ texts
cut_back byte texts some free = cut_joined byte texts some ∙ each_free byte texts free

-- ---- texts with something after the last

joined : (byte : ℕ) (text : List ℕ) (texts : List (List ℕ)) → 0 < length texts → join_with_byte byte (text ∷ texts) ≡ text ++ byte ∷ join_with_byte byte texts
joined byte text [] some = absurd (omega arith)
joined byte text (next ∷ texts) some = refl

some_more : (texts : List (List ℕ)) (last : List ℕ) → 0 < length (texts ++ last ∷ [])
some_more texts last = omega (arith, length-append texts (last ∷ []))

joined_end : (byte : ℕ) (texts : List (List ℕ)) (last end : List ℕ) → join_with_byte byte (texts ++ last ∷ []) ++ end ≡ join_with_byte byte (texts ++ (last ++ end) ∷ [])
joined_end byte [] last end = refl
joined_end byte (text ∷ texts) last end =
    ap (λ t. t ++ end) (joined byte text (texts ++ last ∷ []) (some_more texts last))
    ∙ append_assoc text (byte ∷ join_with_byte byte (texts ++ last ∷ [])) end
    ∙ ap (λ t. text ++ byte ∷ t) (joined_end byte texts last end)
    ∙ sym (joined byte text (texts ++ (last ++ end) ∷ []) (some_more texts (last ++ end)))

pub cut_end : (byte : ℕ) (texts : List (List ℕ)) (last end : List ℕ) → AllFree byte texts → IsFreeOf byte last → IsFreeOf byte end → cut byte (join_with_byte byte (texts ++ last ∷ []) ++ end) ≡ texts ++ (last ++ end) ∷ []
cut_end byte texts last end free last_free end_free =
    ap (cut byte) (joined_end byte texts last end)
    ∙ cut_back byte (texts ++ (last ++ end) ∷ []) (some_more texts (last ++ end)) (free_more byte texts (last ++ end) free (append_free byte last end last_free end_free))
