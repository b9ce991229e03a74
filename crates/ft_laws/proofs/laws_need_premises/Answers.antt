use Rattle.ft_laws.proofs.Without.{frame_by_writes, ready_twice, inverse_forgets, inverse_asks_for_before, comes_upon_named, lets_go_touching, names_alone_exchange, writers_alone_exchange, readers_alone_exchange, full_removed_sound}
use Rattle.ft_laws.proofs.laws_need_premises.Goals as goal

pub returns : goal.returns
returns c = record {
  frame = frame_by_writes;
  sound = full_removed_sound;
  freshness = ready_twice;
  inverse = inverse_forgets;
  asked = inverse_asks_for_before;
  own_file = comes_upon_named;
  moved_name = lets_go_touching;
  names = names_alone_exchange;
  writes = readers_alone_exchange;
  reads = writers_alone_exchange;
}
