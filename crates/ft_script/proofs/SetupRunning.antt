-- Lines that are played one after another.
use Rattle.std.proofs.Common.{◌≡◌, ◌≤◌, ℕ, suc, Bool, true, false, if◌then◌else◌, List, [], ◌∷◌, ◌++◌, length, None, MatchOption, refl, subst, arith}
use Rattle.std.specs.Prelude.{◌==◌}
use Rattle.std.specs.List.{onto_first}
use Rattle.ft_words.specs.Spelling.{lines_of}
use Rattle.ft_core.specs.declared.request.Answer.TheVariants.{Cleared, Refused}
use Rattle.ft_core.specs.declared.fault.Fault.TheVariants.{Memory as MemoryFault, Live as LiveFault}
use Rattle.ft_core.specs.declared.request.Request.TheVariants.{Checkpoint}
use Rattle.ft_core.specs.States.{State, after_checkpoint, has_live}
use Rattle.ft_core.specs.Steps.{IsStep, MayWantMemory, exact_rule, fault_if}
use Rattle.ft_transfer.specs.Disk.{FileTold}
use Rattle.ft_names.specs.Names.{Moment}
use Rattle.ft_script.specs.Setup.{LineGoesWell, PlaysWell}

pub plays_more : (tells : FileTold → Type 0) (old middle new : Moment) (some : List (List ℕ)) (line : List ℕ) → PlaysWell tells old some middle → LineGoesWell tells middle line new → PlaysWell tells old (some ++ line ∷ []) new
plays_more tells old middle new [] line h k = (new, subst (λ (m : Moment). LineGoesWell tells m line new) h k, refl)
plays_more tells old middle new (first ∷ some) line h k = (h.0, h.1, plays_more tells h.0 middle new some line h.2 k)

-- a checkpoint that is answered finds no transaction live, and is a new beginning
pub cleared : (old new : State) → IsStep exact_rule old Checkpoint Cleared new → (has_live old ≡ false) × (new ≡ after_checkpoint old)
cleared old new h = either (has_live old) h
  where
    either : (live : Bool) → MatchOption (fault_if live LiveFault None) (new ≡ after_checkpoint old) (λ fault. (Cleared ≡ Refused fault) × (new ≡ old)) → (live ≡ false) × (new ≡ after_checkpoint old)
    either true k = let no = k.0 in cc
    either false k = (refl, k)

-- as Live, where a transaction is live
pub found_live : (old new : State) → IsStep exact_rule old Checkpoint (Refused LiveFault) new → has_live old ≡ true
found_live old new h = either (has_live old) h
  where
    either : (live : Bool) → MatchOption (fault_if live LiveFault None) ((LiveFault ≡ MemoryFault) × MayWantMemory Checkpoint × (new ≡ old)) (λ other. (Refused LiveFault ≡ Refused other) × (new ≡ old)) → live ≡ true
    either true k = refl
    either false k = let no = k.0 in cc

-- ---- how many lines there are

joined : (byte : ℕ) (lines : List (List ℕ)) → length (onto_first byte lines) ≤ suc (length lines)
joined byte [] = omega arith
joined byte (line ∷ lines) = omega arith

-- one byte more makes one line more at most
one_more : (ends : Bool) (byte : ℕ) (lines : List (List ℕ)) (n : ℕ) → length lines ≤ n → length (if ends then [] ∷ lines else onto_first byte lines) ≤ suc n
one_more true byte lines n h = omega (arith, h)
one_more false byte lines n h = let first = joined byte lines in omega (arith, h, first)

-- not more lines than bytes
pub lines_fit : (text : List ℕ) → length (lines_of text) ≤ length text
lines_fit [] = omega arith
lines_fit (byte ∷ text) = one_more (byte == 10) byte (lines_of text) (length text) (lines_fit text)
