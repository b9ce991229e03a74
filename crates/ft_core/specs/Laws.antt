-- Facts of the calls and of their locks.
use Rattle.ft_laws.specs.Laws.{Lawful}
use Rattle.ft_posix.specs.CellLaws.{SettingLaw}
use Rattle.ft_posix.specs.Edits.{PlacesLaw}
use Rattle.ft_posix.specs.Laws.{TidyingLaw, SoundnessLaw}
use Rattle.ft_posix.specs.Leaving.{LeavingLaw, UselessLaw, MakingLaw}
use Rattle.ft_posix.specs.RunLaws.{PlainAccessesLaw, HidingLaw, RunLaw, PlacedLaw, WritesLaw, NamelessLaw}
use Rattle.ft_posix.specs.Posix.{posix_calls}
use Rattle.ft_lock_rules.specs.Knowing.{KnownLaw}
use Rattle.ft_lock_rules.specs.Law.{FirstLaw, OwnerLaw, BeginLaw, GrantLaw, UndoLaw, CommitLaw, AbortLaw, ReleaseLaw, BlockLaw, ForeignLaw, AloneLaw, HolderLaw, CoverLaw, LockedLaw}

-- what is known of the calls, in one place; each is proved in ft_posix
pub record CallLaws : Type 0 where
  pub lawful : Lawful posix_calls
  pub soundness : SoundnessLaw
  pub tidying : TidyingLaw
  pub plain_accesses : PlainAccessesLaw
  pub hiding : HidingLaw
  pub runs : RunLaw
  pub placed : PlacedLaw
  pub setting : SettingLaw
  pub places : PlacesLaw
  pub writes : WritesLaw
  pub nameless : NamelessLaw
  pub leaving : LeavingLaw
  pub useless : UselessLaw
  pub making : MakingLaw

-- what is known of the locks, in one place; each is proved in ft_lock_rules
pub record LockLaws : Type 0 where
  pub first : FirstLaw
  pub begin : BeginLaw
  pub grant : GrantLaw
  pub undo : UndoLaw
  pub commit : CommitLaw
  pub abort : AbortLaw
  pub release : ReleaseLaw
  pub block : BlockLaw
  pub foreign : ForeignLaw
  pub alone : AloneLaw
  pub holders : HolderLaw
  pub cover : CoverLaw
  pub locked : LockedLaw
  pub live : OwnerLaw
  pub known : KnownLaw
