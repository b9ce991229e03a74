-- What a line means if no name is known.
use Rattle.std.proofs.Common.{◌≡◌, ◌≢◌, ◌⊎◌, ℕ, Bool, true, false, List, [], ◌∷◌, if◌then◌else◌, Option, None, Some, inl, inr, refl, sym, ap, ◌∙◌}
use Rattle.std.specs.Prelude.{is_some, option_and_then, option_map}
use Rattle.std.specs.Fmt.{decimal}
use Rattle.std.specs.Option.{option_map_or}
use Rattle.std.specs.Str.Lines.{strip_carriage_return}
use Rattle.ft_words.specs.Calls.{descriptor_calls, look_up}
use Rattle.ft_words.specs.Spelling.{is_silent, words_of}
use Rattle.ft_line.specs.declared.line.ScriptLine.{ScriptLine}
use Rattle.ft_line.specs.declared.line.ScriptLine.TheVariants as line
use Rattle.ft_line.specs.Requests.{asked_by, or_bad, parse_line}
use Rattle.ft_transfer.specs.declared.transfer.Transfer.{Transfer}
use Rattle.ft_transfer.specs.Words.{transfer_of}
use Rattle.ft_names.specs.declared.meaning.LineMeaning.{LineMeaning}
use Rattle.ft_names.specs.declared.meaning.LineMeaning.TheVariants as means
use Rattle.ft_names.specs.Names.{Naming, is_name, no_names}
use Rattle.ft_names.specs.Meanings.{IsBadOtherwise, bad, giving, giving_meaning, is_request_word, may_give, meaning_in, named_meaning, number_first, number_word, numbered, numbered_ask, numbered_call, split_name, transfer_in, transfer_meaning, unless_bad, with_numbers}

-- none, or this
abbrev MaySame : {A : Type 0} → Option A → A → Type 0
MaySame o x = (o ≡ None) ⊎ (o ≡ Some x)

mapped : {A B : Type 0} (f : A → B) (o : Option A) (x : A) → MaySame o x → MaySame (option_map f o) (f x)
mapped f o x (inl none) = inl (ap (option_map f) none)
mapped f o x (inr some) = inr (ap (option_map f) some)

chained : {A B : Type 0} (f : A → Option B) (o : Option A) (x : A) (y : B) → MaySame o x → MaySame (f x) y → MaySame (option_and_then f o) y
chained f o x y (inl none) k = inl (ap (option_and_then f) none)
chained f o x y (inr some) (inl none) = inl (ap (option_and_then f) some ∙ none)
chained f o x y (inr some) (inr is) = inr (ap (option_and_then f) some ∙ is)

-- ---- words are as they are, or one of them is a name

tested_word : (b : Bool) (word : List ℕ) → MaySame (if b then option_map decimal None else Some word) word
tested_word true word = inl refl
tested_word false word = inr refl

same_word : (word : List ℕ) → MaySame (number_word no_names word) word
same_word word = tested_word (is_name word) word

same_first : (words : List (List ℕ)) → MaySame (number_first no_names words) words
same_first [] = inr refl
same_first (word ∷ words) = mapped (λ number. number ∷ words) (number_word no_names word) word (same_word word)

tested_call : (b : Bool) (words : List (List ℕ)) → MaySame (if b then number_first no_names words else Some words) words
tested_call true words = same_first words
tested_call false words = inr refl

same_call : (words : List (List ℕ)) → MaySame (numbered_call no_names words) words
same_call [] = inr refl
same_call (verb ∷ words) = mapped (λ others. verb ∷ others) _ words (tested_call (is_some (look_up descriptor_calls verb)) words)

same_ask : (word : List ℕ) (words : List (List ℕ)) → MaySame (numbered_ask no_names word words) (word ∷ words)
same_ask word words =
    chained (λ txn. option_map (λ others. txn ∷ others) (numbered_call no_names words)) (number_word no_names word) word (word ∷ words) (same_word word)
    (mapped (λ others. word ∷ others) (numbered_call no_names words) words (same_call words))

tested_words : (b : Bool) (word : List ℕ) (words : List (List ℕ)) → MaySame (if b then option_map (λ others. word ∷ others) (number_first no_names words) else numbered_ask no_names word words) (word ∷ words)
tested_words true word words = mapped (λ others. word ∷ others) (number_first no_names words) words (same_first words)
tested_words false word words = same_ask word words

same_words : (words : List (List ℕ)) → MaySame (numbered no_names words) words
same_words [] = inl refl
same_words (word ∷ words) = tested_words (is_request_word word) word words

-- ---- what is bad stays bad

stays_bad : (o : Option (List (List ℕ))) (words : List (List ℕ)) → MaySame o words → or_bad (asked_by words) ≡ line.Bad → option_map_or (λ all. or_bad (asked_by all)) o line.Bad ≡ line.Bad
stays_bad o words (inl none) bad_words = ap (λ p. option_map_or (λ all. or_bad (asked_by all)) p line.Bad) none
stays_bad o words (inr some) bad_words = ap (λ p. option_map_or (λ all. or_bad (asked_by all)) p line.Bad) some ∙ bad_words

no_transfer : (o : Option (List (List ℕ))) (words : List (List ℕ)) → MaySame o words → transfer_of words ≡ None → option_and_then transfer_of o ≡ None
no_transfer o words (inl none) not = ap (option_and_then transfer_of) none
no_transfer o words (inr some) not = ap (option_and_then transfer_of) some ∙ not

named_bad : (words : List (List ℕ)) → split_name words ≡ None → transfer_of words ≡ None → or_bad (asked_by words) ≡ line.Bad → named_meaning no_names words ≡ bad
named_bad words none not bad_words =
    ap (λ (m : ScriptLine). unless_bad m (giving_meaning no_names words)) (stays_bad (numbered no_names words) words (same_words words) bad_words)
    ∙ ap (λ parts. option_map_or (λ p. giving p.1 (with_numbers no_names p.0)) parts (transfer_meaning no_names words)) none
    ∙ ap (λ (o : Option Transfer). option_map_or (λ transfer. (means.Transfer transfer, None)) o bad) (no_transfer (numbered no_names words) words (same_words words) not)

kept : (m : ScriptLine) (other : LineMeaning × Option (List ℕ)) → (m ≡ line.Bad → other ≡ bad) → unless_bad m other ≡ (means.Line m, None)
kept line.Silent other h = refl
kept line.Bad other h = h refl
kept (line.Request request) other h = refl
kept (line.Query report) other h = refl

tested_line : (b : Bool) (words : List (List ℕ)) (other : LineMeaning × Option (List ℕ)) → (or_bad (asked_by words) ≡ line.Bad → other ≡ bad)
    → unless_bad (option_map_or (λ ws. or_bad (asked_by ws)) (if b then None else Some words) line.Silent) other ≡ (means.Line (option_map_or (λ ws. or_bad (asked_by ws)) (if b then None else Some words) line.Silent), None)
tested_line true words other h = refl
tested_line false words other h = kept (or_bad (asked_by words)) other h

-- a line that gives no name and is no transfer means what it means without names
pub as_before : (bytes : List ℕ) → split_name (words_of (strip_carriage_return bytes)) ≡ None → transfer_of (words_of (strip_carriage_return bytes)) ≡ None → meaning_in no_names bytes ≡ (means.Line (parse_line bytes), None)
as_before bytes none not =
    let words = words_of (strip_carriage_return bytes) in
    tested_line (is_silent (strip_carriage_return bytes)) words (named_meaning no_names words) (named_bad words none not)

-- a line that is valid without names keeps its meaning
pub stays_valid : (names : Naming) (bytes : List ℕ) → parse_line bytes ≢ line.Bad → meaning_in names bytes ≡ (means.Line (parse_line bytes), None)
stays_valid names bytes valid = kept (parse_line bytes) (named_meaning names (words_of (strip_carriage_return bytes))) (λ is. absurd (valid is))

-- ---- a transfer is bad otherwise

bad_first : (m : ScriptLine) (other : LineMeaning × Option (List ℕ)) (transfer : Transfer) (given : Option (List ℕ)) → unless_bad m other ≡ (means.Transfer transfer, given) → (m ≡ line.Bad) × (other ≡ (means.Transfer transfer, given))
bad_first line.Silent other transfer given h = let no = ap (λ p. p.0) h in cc
bad_first line.Bad other transfer given h = (refl, h)
bad_first (line.Request request) other transfer given h = let no = ap (λ p. p.0) h in cc
bad_first (line.Query report) other transfer given h = let no = ap (λ p. p.0) h in cc

not_given : (b : Bool) (m : ScriptLine) (name : List ℕ) (transfer : Transfer) (given : Option (List ℕ)) → (if b then (means.Line m, Some name) else bad) ≡ (means.Transfer transfer, given) → ⊥
not_given true m name transfer given h = let no = ap (λ p. p.0) h in cc
not_given false m name transfer given h = let no = ap (λ p. p.0) h in cc

not_split : (names : Naming) (o : Option (List (List ℕ) × List ℕ)) (other : LineMeaning × Option (List ℕ)) (transfer : Transfer) (given : Option (List ℕ))
    → option_map_or (λ parts. giving parts.1 (with_numbers names parts.0)) o other ≡ (means.Transfer transfer, given) → (o ≡ None) × (other ≡ (means.Transfer transfer, given))
not_split names None other transfer given h = (refl, h)
not_split names (Some parts) other transfer given h = absurd (not_given (may_give (with_numbers names parts.0)) (with_numbers names parts.0) parts.1 transfer given h)

no_name : (o : Option Transfer) (transfer : Transfer) (given : Option (List ℕ)) → option_map_or (λ t. (means.Transfer t, None)) o bad ≡ (means.Transfer transfer, given) → given ≡ None
no_name None transfer given h = sym (ap (λ p. p.1) h)
no_name (Some t) transfer given h = sym (ap (λ p. p.1) h)

pub bad_otherwise : (names : Naming) (bytes : List ℕ) (transfer : Transfer) (given : Option (List ℕ)) → meaning_in names bytes ≡ (means.Transfer transfer, given) → IsBadOtherwise names bytes × (given ≡ None)
bad_otherwise names bytes transfer given h =
    let words = words_of (strip_carriage_return bytes) in
    let first = bad_first (parse_line bytes) (named_meaning names words) transfer given h in
    let second = bad_first (with_numbers names words) (giving_meaning names words) transfer given first.1 in
    let third = not_split names (split_name words) (transfer_meaning names words) transfer given second.1 in
    ((first.0, second.0, third.0), no_name (transfer_in names words) transfer given third.1)
