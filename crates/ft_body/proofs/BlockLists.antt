-- Lists of blocks by their numbers: found, replaced, added and taken away.
use Rattle.std.proofs.Common.{refl, suc, zero, ◌≡◌, ◌≢◌, ℕ, ◌+◌, ◌<◌, ◌≤◌, ◌⊎◌, List, [], ◌∷◌, length, take, get_or, cond, arith, ap, sym, ◌∙◌, ⊎_elim, eq-eqb}
use Rattle.std.specs.Prelude.{nat_eq}
use Rattle.std.specs.List.{insert, remove}
use Rattle.std.proofs.Math.ListN.{set}
use Rattle.std.proofs.lemmas.List.{get_or_read, get_or-set_same, length-set}
use Rattle.std.proofs.lemmas.Bool.{ne_eqb, cases_order, cases_eq, cases_lt}
use Rattle.ft_body.specs.declared.blocks.Placed.{Placed}
use Rattle.ft_body.specs.Blocks.{no_block, placed_at, block_in, IsBlock, AreBlocks, IsPlace, IsReplaced}

-- the numbers rise from the least on
pub at_least : (l : ℕ) (bs : List Placed) (i : ℕ) → AreBlocks l bs → i < length bs → l + i ≤ (placed_at bs i).at
at_least l [] i are h = absurd (omega arith)
at_least l (b ∷ bs) zero are h = omega (arith, are.0)
at_least l (b ∷ bs) (suc i) are h = omega (arith, are.0, at_least (b.at + 1) bs i are.2 (omega arith))

pub rising : (l : ℕ) (bs : List Placed) (i j : ℕ) → AreBlocks l bs → i < j → j < length bs → (placed_at bs i).at < (placed_at bs j).at
rising l [] i j are h g = absurd (omega arith)
rising l (b ∷ bs) i zero are h g = absurd (omega arith)
rising l (b ∷ bs) zero (suc j) are h g = omega (arith, at_least (b.at + 1) bs j are.2 (omega arith))
rising l (b ∷ bs) (suc i) (suc j) are h g = rising (b.at + 1) bs i j are.2 (omega arith) (omega arith)

-- the first block, and those behind it
pub first_in : (b : Placed) (bs : List Placed) (n : ℕ) → b.at ≡ n → block_in (b ∷ bs) n ≡ b.block
first_in b bs n e = ap (λ t. cond t b.block (block_in bs n)) (eq-eqb b.at n e)

pub behind_in : (b : Placed) (bs : List Placed) (n : ℕ) → b.at ≢ n → block_in (b ∷ bs) n ≡ block_in bs n
behind_in b bs n d = ap (λ t. cond t b.block (block_in bs n)) (ne_eqb b.at n d)

-- none has a number that is not among them
pub none_in : (bs : List Placed) (n : ℕ) → ((k : ℕ) → k < length bs → (placed_at bs k).at ≢ n) → block_in bs n ≡ []
none_in [] n free = refl
none_in (b ∷ bs) n free = behind_in b bs n (free 0 (omega arith)) ∙ none_in bs n (λ k h. free (suc k) (omega arith))

pub none_below : (l : ℕ) (bs : List Placed) (n : ℕ) → AreBlocks l bs → n < l → block_in bs n ≡ []
none_below l bs n are h = none_in bs n (λ k g e. omega (arith, at_least l bs k are g, e))

-- a block is found by its number
pub found_in : (l : ℕ) (bs : List Placed) (i n : ℕ) → AreBlocks l bs → i < length bs → (placed_at bs i).at ≡ n → block_in bs n ≡ (placed_at bs i).block
found_in l [] i n are h e = absurd (omega arith)
found_in l (b ∷ bs) zero n are h e = first_in b bs n e
found_in l (b ∷ bs) (suc i) n are h e =
    behind_in b bs n (λ same. omega (arith, at_least (b.at + 1) bs i are.2 (omega arith), e, same)) ∙ found_in (b.at + 1) bs i n are.2 (omega arith) e

pub each_block : (l : ℕ) (bs : List Placed) (i : ℕ) → AreBlocks l bs → i < length bs → IsBlock (placed_at bs i).block
each_block l [] i are h = absurd (omega arith)
each_block l (b ∷ bs) zero are h = are.1
each_block l (b ∷ bs) (suc i) are h = each_block (b.at + 1) bs i are.2 (omega arith)

-- a block that becomes another
pub set_are : (l : ℕ) (bs : List Placed) (i : ℕ) (b : Placed) → AreBlocks l bs → i < length bs → b.at ≡ (placed_at bs i).at → IsBlock b.block → AreBlocks l (set bs i b)
set_are l [] i b are h e is = absurd (omega arith)
set_are l (c ∷ bs) zero b are h e is = (omega (arith, are.0), is, rw e are.2)
set_are l (c ∷ bs) (suc i) b are h e is = (are.0, are.1, set_are (c.at + 1) bs i b are.2 (omega arith) e is)

set_others : (bs : List Placed) (i : ℕ) (b : Placed) (n : ℕ) → i < length bs → b.at ≡ (placed_at bs i).at → n ≢ b.at → block_in (set bs i b) n ≡ block_in bs n
set_others [] i b n h e d = absurd (omega arith)
set_others (c ∷ bs) zero b n h e d = behind_in b bs n (λ same. d (sym same)) ∙ sym (behind_in c bs n (λ same. d (sym (e ∙ same))))
set_others (c ∷ bs) (suc i) b n h e d = ap (cond (nat_eq c.at n) c.block) (set_others bs i b n (omega arith) e d)

pub set_replaces : (l : ℕ) (bs : List Placed) (i : ℕ) (b : Placed) → AreBlocks l bs → i < length bs → b.at ≡ (placed_at bs i).at → IsBlock b.block
    → IsReplaced bs (set bs i b) b.at b.block
set_replaces l bs i b are h e is =
    let new : placed_at (set bs i b) i ≡ b = get_or-set_same bs i b no_block h in
    let long : length (set bs i b) ≡ length bs = length-set bs i b in record {
      there = found_in l (set bs i b) i b.at (set_are l bs i b are h e is) (omega arith) (ap (λ p. p.at) new) ∙ ap (λ p. p.block) new;
      others = λ n d. set_others bs i b n h e d;
    }

-- a block that is added
pub insert_are : (l : ℕ) (bs : List Placed) (i : ℕ) (b : Placed) → AreBlocks l bs → IsPlace bs b.at i → ((k : ℕ) → k < length bs → (placed_at bs k).at ≢ b.at) → l ≤ b.at → IsBlock b.block
    → AreBlocks l (insert bs i b)
insert_are l [] zero b are place absent low is = (low, is, tt)
insert_are l [] (suc i) b are place absent low is = absurd (omega (arith, place.within))
insert_are l (c ∷ bs) zero b are place absent low is = (low, is, (omega (arith, place.behind 0 (omega arith) (omega arith), absent 0 (omega arith)), are.1, are.2))
insert_are l (c ∷ bs) (suc i) b are place absent low is = (
  are.0,
  are.1,
  insert_are (c.at + 1) bs i b are.2
      record { within = omega (arith, place.within); before = λ k h. place.before (suc k) (omega arith); behind = λ k h g. place.behind (suc k) (omega arith) (omega arith) }
      (λ k h. absent (suc k) (omega arith)) (omega (arith, place.before 0 (omega arith))) is,
)

insert_others : (bs : List Placed) (i : ℕ) (b : Placed) (n : ℕ) → i ≤ length bs → n ≢ b.at → block_in (insert bs i b) n ≡ block_in bs n
insert_others bs zero b n h d = behind_in b bs n (λ same. d (sym same))
insert_others [] (suc i) b n h d = absurd (omega arith)
insert_others (c ∷ bs) (suc i) b n h d = ap (cond (nat_eq c.at n) c.block) (insert_others bs i b n (omega arith) d)

insert_there : (bs : List Placed) (i : ℕ) (b : Placed) → i ≤ length bs → ((k : ℕ) → k < length bs → (placed_at bs k).at ≢ b.at) → block_in (insert bs i b) b.at ≡ b.block
insert_there bs zero b h absent = first_in b bs b.at refl
insert_there [] (suc i) b h absent = absurd (omega arith)
insert_there (c ∷ bs) (suc i) b h absent =
    behind_in c (insert bs i b) b.at (absent 0 (omega arith)) ∙ insert_there bs i b (omega arith) (λ k g. absent (suc k) (omega arith))

pub insert_replaces : (bs : List Placed) (i : ℕ) (b : Placed) → i ≤ length bs → ((k : ℕ) → k < length bs → (placed_at bs k).at ≢ b.at) → IsReplaced bs (insert bs i b) b.at b.block
insert_replaces bs i b h absent = record { there = insert_there bs i b h absent; others = λ n d. insert_others bs i b n h d }

-- a block that is taken away
are_weaker : (l m : ℕ) (bs : List Placed) → l ≤ m → AreBlocks m bs → AreBlocks l bs
are_weaker l m [] h are = tt
are_weaker l m (b ∷ bs) h are = (omega (arith, are.0), are.1, are.2)

pub remove_are : (l : ℕ) (bs : List Placed) (i : ℕ) → AreBlocks l bs → i < length bs → AreBlocks l (remove bs i)
remove_are l [] i are h = absurd (omega arith)
remove_are l (c ∷ bs) zero are h = are_weaker l (c.at + 1) bs (omega (arith, are.0)) are.2
remove_are l (c ∷ bs) (suc i) are h = (are.0, are.1, remove_are (c.at + 1) bs i are.2 (omega arith))

remove_others : (bs : List Placed) (i n : ℕ) → i < length bs → n ≢ (placed_at bs i).at → block_in (remove bs i) n ≡ block_in bs n
remove_others [] i n h d = absurd (omega arith)
remove_others (c ∷ bs) zero n h d = sym (behind_in c bs n (λ same. d (sym same)))
remove_others (c ∷ bs) (suc i) n h d = ap (cond (nat_eq c.at n) c.block) (remove_others bs i n (omega arith) d)

remove_there : (l : ℕ) (bs : List Placed) (i n : ℕ) → AreBlocks l bs → i < length bs → n ≡ (placed_at bs i).at → block_in (remove bs i) n ≡ []
remove_there l [] i n are h e = absurd (omega arith)
remove_there l (c ∷ bs) zero n are h e = none_below (c.at + 1) bs n are.2 (omega arith)
remove_there l (c ∷ bs) (suc i) n are h e =
    behind_in c (remove bs i) n (λ same. omega (arith, at_least (c.at + 1) bs i are.2 (omega arith), e, same)) ∙ remove_there (c.at + 1) bs i n are.2 (omega arith) e

pub remove_replaces : (l : ℕ) (bs : List Placed) (i : ℕ) → AreBlocks l bs → i < length bs → IsReplaced bs (remove bs i) (placed_at bs i).at []
remove_replaces l bs i are h = record { there = remove_there l bs i (placed_at bs i).at are h refl; others = λ n d. remove_others bs i n h d }

-- the blocks before an index
pub take_are : (l : ℕ) (bs : List Placed) (i : ℕ) → AreBlocks l bs → AreBlocks l (take i bs)
take_are l bs zero are = tt
take_are l [] (suc i) are = tt
take_are l (c ∷ bs) (suc i) are = (are.0, are.1, take_are (c.at + 1) bs i are.2)

pub take_others : (bs : List Placed) (i n : ℕ) → ((k : ℕ) → i ≤ k → k < length bs → (placed_at bs k).at ≢ n) → block_in (take i bs) n ≡ block_in bs n
take_others bs zero n free = sym (none_in bs n (λ k h. free k (omega arith) h))
take_others [] (suc i) n free = refl
take_others (c ∷ bs) (suc i) n free = ap (cond (nat_eq c.at n) c.block) (take_others bs i n (λ k h g. free (suc k) (omega arith) (omega arith)))

pub take_none : (bs : List Placed) (i n : ℕ) → ((k : ℕ) → k < i → k < length bs → (placed_at bs k).at ≢ n) → block_in (take i bs) n ≡ []
take_none bs zero n free = refl
take_none [] (suc i) n free = refl
take_none (c ∷ bs) (suc i) n free = behind_in c (take i bs) n (free 0 (omega arith) (omega arith)) ∙ take_none bs i n (λ k h g. free (suc k) (omega arith) (omega arith))

-- blocks are told by their bytes
behind_same : (b c : Placed) (bs cs : List Placed) (n : ℕ) → b.at ≡ c.at → AreBlocks (b.at + 1) bs → AreBlocks (c.at + 1) cs → block_in (b ∷ bs) n ≡ block_in (c ∷ cs) n
    → b.at + 1 ≤ n → block_in bs n ≡ block_in cs n
behind_same b c bs cs n e bare care same h = sym (behind_in b bs n (λ s. omega (arith, s))) ∙ same ∙ behind_in c cs n (λ s. omega (arith, s, e))

not_below : (l : ℕ) (b c : Placed) (bs cs : List Placed) → AreBlocks l (b ∷ bs) → AreBlocks l (c ∷ cs) → ((n : ℕ) → l ≤ n → block_in (b ∷ bs) n ≡ block_in (c ∷ cs) n) → b.at < c.at → ⊥
not_below l b c bs cs bare care same h =
    let none : block_in (c ∷ cs) b.at ≡ [] = none_below c.at (c ∷ cs) b.at (omega arith, care.1, care.2) h in
    let free : b.block ≡ [] = sym (first_in b bs b.at refl) ∙ same b.at bare.0 ∙ none in
    omega (arith, ap length free, bare.1.some)

pub same_blocks : (l : ℕ) (bs cs : List Placed) → AreBlocks l bs → AreBlocks l cs → ((n : ℕ) → l ≤ n → block_in bs n ≡ block_in cs n) → bs ≡ cs
same_blocks l [] [] bare care same = refl
same_blocks l [] (c ∷ cs) bare care same =
    let free : c.block ≡ [] = sym (first_in c cs c.at refl) ∙ sym (same c.at care.0) in absurd (omega (arith, ap length free, care.1.some))
same_blocks l (b ∷ bs) [] bare care same =
    let free : b.block ≡ [] = sym (first_in b bs b.at refl) ∙ same b.at bare.0 in absurd (omega (arith, ap length free, bare.1.some))
same_blocks l (b ∷ bs) (c ∷ cs) bare care same =
    let at : b.at ≡ c.at = ⊎_elim (λ (e : b.at ≡ c.at). e)
    (λ (d : (b.at < c.at) ⊎ (c.at < b.at)). absurd (⊎_elim (λ (h : b.at < c.at). not_below l b c bs cs bare care same h)
    (λ (h : c.at < b.at). not_below l c b cs bs care bare (λ n g. sym (same n g)) h) d))
    (cases_order b.at c.at) in
    let block : b.block ≡ c.block = sym (first_in b bs b.at refl) ∙ same b.at bare.0 ∙ first_in c cs b.at (sym at) in
    let rest : bs ≡ cs = same_blocks (b.at + 1) bs cs bare.2 (rw at care.2) (λ n h. behind_same b c bs cs n at bare.2 care.2 (same n (omega (arith, bare.0))) h) in
    let head : b ≡ c = λ i. record { at = at i; block = block i } in
    λ i. head i ∷ rest i

-- where a block stands by its number
pub place_found : (bs : List Placed) (at i : ℕ) → AreBlocks 0 bs → i < length bs → (placed_at bs i).at ≡ at → IsPlace bs at i
place_found bs at i are h e = record {
  within = omega arith;
  before = λ k g. omega (arith, rising 0 bs k i are g h, e);
  behind = λ k g f. ⊎_elim (λ (same : k ≡ i). omega (arith, ap (λ j. (placed_at bs j).at) same, e)) (λ (later : k ≢ i). omega (arith, rising 0 bs i k are (omega arith) f, e)) (cases_eq k i);
}

-- a step of the search for it
pub before_more : (bs : List Placed) (at m : ℕ) → AreBlocks 0 bs → m < length bs → (placed_at bs m).at < at → (k : ℕ) → k < m + 1 → (placed_at bs k).at < at
before_more bs at m are h less k g =
    ⊎_elim (λ (same : k ≡ m). omega (arith, ap (λ j. (placed_at bs j).at) same, less)) (λ (early : k ≢ m). omega (arith, rising 0 bs k m are (omega arith) h, less)) (cases_eq k m)

pub behind_more : (bs : List Placed) (at m : ℕ) → AreBlocks 0 bs → at ≤ (placed_at bs m).at → (k : ℕ) → m ≤ k → k < length bs → at ≤ (placed_at bs k).at
behind_more bs at m are most k g h =
    ⊎_elim (λ (same : k ≡ m). omega (arith, ap (λ j. (placed_at bs j).at) same, most)) (λ (late : k ≢ m). omega (arith, rising 0 bs m k are (omega arith) h, most)) (cases_eq k m)

-- it is not there where it does not stand in its place
pub place_free : (bs : List Placed) (at i : ℕ) → AreBlocks 0 bs → IsPlace bs at i → (i < length bs → (placed_at bs i).at ≢ at) → (k : ℕ) → k < length bs → (placed_at bs k).at ≢ at
place_free bs at i are place other k h e = ⊎_elim
    (λ (early : k < i). omega (arith, place.before k early, e))
    (λ (late : i ≤ k). ⊎_elim (λ (same : k ≡ i). other (omega arith) (ap (λ j. (placed_at bs j).at) (sym same) ∙ e))
    (λ (more : k ≢ i). other (omega arith) (let low : at ≤ (placed_at bs i).at = place.behind i (omega arith) (omega arith) in omega (arith, rising 0 bs i k are (omega arith) h, e))) (cases_eq k i))
    (cases_lt k i)

-- the same of the list that a change leaves
pub set_at : (bs new : List Placed) (i : ℕ) (b : Placed) → i < length bs → new ≡ set bs i b → placed_at new i ≡ b
set_at bs new i b h to = ap (λ zs. placed_at zs i) to ∙ get_or-set_same bs i b no_block h

pub set_to : (bs new : List Placed) (i : ℕ) (b : Placed) → AreBlocks 0 bs → i < length bs → b.at ≡ (placed_at bs i).at → IsBlock b.block → new ≡ set bs i b
    → AreBlocks 0 new × IsReplaced bs new b.at b.block
set_to bs new i b are h e is to =
    let replaced = set_replaces 0 bs i b are h e is in (
      rw to (set_are 0 bs i b are h e is),
      record { there = ap (λ zs. block_in zs b.at) to ∙ replaced.there; others = λ n d. ap (λ zs. block_in zs n) to ∙ replaced.others n d },
    )

pub insert_to : (bs new : List Placed) (i : ℕ) (b : Placed) → AreBlocks 0 bs → IsPlace bs b.at i → ((k : ℕ) → k < length bs → (placed_at bs k).at ≢ b.at) → IsBlock b.block → new ≡ insert bs i b
    → AreBlocks 0 new × IsReplaced bs new b.at b.block
insert_to bs new i b are place absent is to =
    let replaced = insert_replaces bs i b place.within absent in (
      rw to (insert_are 0 bs i b are place absent (omega arith) is),
      record { there = ap (λ zs. block_in zs b.at) to ∙ replaced.there; others = λ n d. ap (λ zs. block_in zs n) to ∙ replaced.others n d },
    )

pub remove_to : (bs new : List Placed) (i : ℕ) → AreBlocks 0 bs → i < length bs → new ≡ remove bs i → AreBlocks 0 new × IsReplaced bs new (placed_at bs i).at []
remove_to bs new i are h to =
    let replaced = remove_replaces 0 bs i are h in (
      rw to (remove_are 0 bs i are h),
      record { there = ap (λ zs. block_in zs (placed_at bs i).at) to ∙ replaced.there; others = λ n d. ap (λ zs. block_in zs n) to ∙ replaced.others n d },
    )

-- a block as it is read by its index
pub found_at : (bs : List Placed) (i : ℕ) (b : Placed) → i < length bs → b ≡ get_or bs i b → b ≡ placed_at bs i
found_at bs i b h is = get_or_read bs i b h is no_block
