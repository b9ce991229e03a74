use Rattle.ft_laws.proofs.Without.{exchange_any, exchange_readers, delete_any, delete_forgets, undo_any, go_first_any, sort_any}
use Rattle.ft_laws.proofs.runs_need_premises.Goals as goal

pub returns : goal.returns
returns c = record {
  exchange = exchange_any;
  readers = exchange_readers;
  deletion = delete_any;
  writes = delete_forgets;
  inverse = undo_any;
  first = go_first_any;
  rank = sort_any;
}
