-- What is known of the calls and of their locks, in one place.
use Rattle.ft_laws.specs.Laws.{Lawful}
use Rattle.ft_posix.proofs.Applying.{call-made}
use Rattle.ft_posix.proofs.Climbing.{steps-alike, stored-enough}
use Rattle.ft_posix.proofs.ComesUpon.{call-upon}
use Rattle.ft_posix.proofs.Executed.{tidying}
use Rattle.ft_posix.proofs.HiddenFiles.{hiding}
use Rattle.ft_posix.proofs.Kept.{soundness, freshness}
use Rattle.ft_posix.proofs.Lawful.{lawful, writes-noted}
use Rattle.ft_posix.proofs.Leaving.{leaving, useless}
use Rattle.ft_posix.proofs.Making.{making}
use Rattle.ft_posix.proofs.Nameless.{nameless}
use Rattle.ft_posix.proofs.PlainLooks.{plain_accesses}
use Rattle.ft_posix.proofs.Setting.{setting}
use Rattle.ft_posix.proofs.SoundPlaces.{placed}
use Rattle.ft_posix.proofs.WholeRuns.{runs}
use Rattle.ft_posix.specs.Posix.{posix_calls}
use Rattle.ft_lock_rules.proofs.Above.{holder_law}
use Rattle.ft_lock_rules.proofs.Following.{abort_law, alone_law, begin_law, block_law, commit_law, cover_law, first_law, foreign_law, grant_law, owner_law, release_law, undo_law}
use Rattle.ft_lock_rules.proofs.Knowing.{known_law}
use Rattle.ft_lock_rules.proofs.Tables.{cell_locked}
use Rattle.ft_core.specs.Laws.{CallLaws, LockLaws}

pub lawful_calls : Lawful posix_calls
lawful_calls = lawful steps-alike stored-enough call-upon soundness freshness

pub call_laws : CallLaws
call_laws = record {
  lawful = lawful_calls;
  soundness = soundness;
  tidying = tidying;
  plain_accesses = plain_accesses;
  hiding = hiding;
  runs = runs;
  placed = placed;
  setting = setting;
  places = call-made;
  writes = writes-noted;
  nameless = nameless;
  leaving = leaving;
  useless = useless lawful_calls soundness;
  making = making steps-alike stored-enough soundness;
}

pub lock_laws : LockLaws
lock_laws = record {
  first = first_law;
  begin = begin_law lawful_calls;
  grant = grant_law lawful_calls;
  undo = undo_law lawful_calls;
  commit = commit_law lawful_calls;
  abort = abort_law lawful_calls;
  release = release_law;
  block = block_law lawful_calls;
  foreign = foreign_law lawful_calls;
  alone = alone_law lawful_calls;
  holders = holder_law lawful_calls;
  cover = cover_law;
  locked = cell_locked;
  live = owner_law lawful_calls;
  known = known_law;
}
