-- What a lock counts against an asker.
use Rattle.ft_forest.specs.Transactions.{Transactions}
use Rattle.ft_lock_rules.specs.Blocking.{Counted, against}
use Rattle.ft_locks.specs.declared.blocking.Asker.{Asker}

-- what counts of an owner's marks against the asker (Moss 1981, 3.5: its own and its ancestors' do not)
abbrev pub against_asker : Asker → Transactions → Counted
against_asker asker forest = against asker.rule forest asker.txn
