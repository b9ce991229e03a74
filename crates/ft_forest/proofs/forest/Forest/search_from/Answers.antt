use Rattle.std.proofs.Common.{◌≢◌, ◌==◌, sym}
use Rattle.std.proofs.lemmas.Bool.{eqb-false}
use Rattle.ft_history.proofs.Words.{not_true}
use Rattle.ft_forest.proofs.Aborting.{from-last}
use Rattle.ft_forest.proofs.forest.Forest.search_from.Goals as goal

pub returns-in-Some-clause-below : goal.returns-in-Some-clause-below
returns-in-Some-clause-below c =
    let other : c.args.last ≢ c.args.txn = eqb-false c.args.last c.args.txn (not_true (c.args.last == c.args.txn) (sym c.if-ne.ensures)) in
    from-last c.args.self.now c.parent.ensures.forest c.args.txn c.args.last c.in-Some.parent c.requires other (sym c.in-Some.ensures.parent)
