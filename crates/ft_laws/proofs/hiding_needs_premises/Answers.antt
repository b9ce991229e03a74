use Rattle.ft_laws.proofs.Without.{own_stays_hidden, others_made_hidden, hides_named, sound_named, tidy_named, run_alike_seen, undo_seen}
use Rattle.ft_laws.proofs.hiding_needs_premises.Goals as goal

pub returns : goal.returns
returns c = record { own_file = own_stays_hidden; others = others_made_hidden; named = hides_named; sound = sound_named; tidying = tidy_named; seen = run_alike_seen; undo = undo_seen }
