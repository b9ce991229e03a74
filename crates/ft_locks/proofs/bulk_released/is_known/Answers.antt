use Rattle.std.proofs.Common.{false, refl, ap, sym, ◌∙◌, is_some}
use Rattle.std.proofs.lemmas.Bool.{false≢true}
use Rattle.ft_lock_rules.specs.LockModes.{is_marked_of}
use Rattle.ft_lock_rules.specs.Seen.{table_of}
use Rattle.ft_lock_rules.proofs.Places.{marks-found, marks-missing}
use Rattle.ft_lock_rules.proofs.Tables.{locked_found}
use Rattle.ft_locks.proofs.GivenUp.{known-found, known-locked}
use Rattle.ft_locks.proofs.bulk_released.is_known.Goals as goal

pub returns-then-is_locked : goal.returns-then-is_locked
returns-then-is_locked c =
    let is = marks-found c.args.holdings.now.cells c.args.cell.now c.in-Some.holders.now c.in-Some.ensures in
    known-locked (table_of c.args.holdings.now.cells c.args.holdings.now.lists) c.args.cell.now c.is_locked.result
    (locked_found (table_of c.args.holdings.now.cells c.args.holdings.now.lists) c.args.holdings.now.cells c.args.holdings.now.lists refl c.args.cell.now c.is_locked.result
    (λ e. let found = c.is_locked.ensures.some e in (found.0, ap is_marked_of (sym (is found.0)) ∙ found.1))
    (λ e u. ap is_marked_of (sym (is u)) ∙ c.is_locked.ensures.none e u))
    c.if-is_locked.true

pub returns-else-is_locked : goal.returns-else-is_locked
returns-else-is_locked c =
    let is = marks-found c.args.holdings.now.cells c.args.cell.now c.in-Some.holders.now c.in-Some.ensures in
    known-found c.args.holdings.now.cells c.args.holdings.now.lists c.args.cell.now false c.is_some.result
    (sym c.if-is_locked.false ∙ locked_found (table_of c.args.holdings.now.cells c.args.holdings.now.lists) c.args.holdings.now.cells c.args.holdings.now.lists refl c.args.cell.now c.is_locked.result
    (λ e. let found = c.is_locked.ensures.some e in (found.0, ap is_marked_of (sym (is found.0)) ∙ found.1))
    (λ e u. ap is_marked_of (sym (is u)) ∙ c.is_locked.ensures.none e u))
    (c.is_some.ensures ∙ ap is_some (c.get.ensures ∙ is 0))

pub returns-in-None : goal.returns-in-None
returns-in-None c = known-found c.args.holdings.now.cells c.args.holdings.now.lists c.args.cell.now false false
    (locked_found (table_of c.args.holdings.now.cells c.args.holdings.now.lists) c.args.holdings.now.cells c.args.holdings.now.lists refl c.args.cell.now false
    (λ e. absurd (false≢true e))
    (λ _ u. ap is_marked_of (marks-missing c.args.holdings.now.cells c.args.cell.now c.in-None.ensures u)))
    (ap is_some (sym (marks-missing c.args.holdings.now.cells c.args.cell.now c.in-None.ensures 0)))
