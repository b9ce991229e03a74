use Rattle.std.proofs.Common.{◌≡◌, ◌+◌, ◌∙◌, Some, sym, ap, arith}
use Rattle.std.proofs.lemmas.Bool.{le-leb, lt-leb}
use Rattle.std.proofs.lemmas.Result.{err_from_is_err_and}
use Rattle.ft_forest.specs.Transactions.{Transactions, state_in, depth_in}
use Rattle.ft_forest.specs.Records.{number_at, transactions_of}
use Rattle.ft_forest.proofs.Seeing.{depth-seen}
use Rattle.ft_forest.proofs.Changing.{live-links}
use Rattle.ft_forest.proofs.Refusing.{too_deep, not_deep}
use Rattle.ft_forest.specs.Refusals.{sub_refusal}
use Rattle.ft_forest.proofs.forest.Forest.room_below.Goals as goal
use Rattle.ft_forest.proofs.forest.Forest.room_below.Goals.{After-depth_of-depth}

-- the depth that is kept is the parent's
depth-is : (c : After-depth_of-depth) → c.depth_of-depth.result ≡ depth_in c.args.self.now c.args.txn
depth-is c =
    let limits = c.self.inside.limits in
    let base = c.self.inside.base in
    let r = c.self.inside.records in
    let is = c.in_ok-parent.ensures.place ∙ ap (λ m. number_at m.base c.in_ok-parent.parent) (sym c.self.view_is) in
    let live = live-links limits base r c.self.invariant c.in_ok-parent.parent c.args.txn is (ap (λ m. state_in m c.args.txn) c.self.view_is ∙ c.in_ok-parent.ensures.live) in
    c.depth_of-depth.ensures ∙ depth-seen limits base r c.self.invariant c.in_ok-parent.parent live ∙ ap (depth_in (transactions_of limits base r)) (sym is) ∙ ap (λ m. depth_in m c.args.txn) c.self.view_is

pub returns-then-is_deepest-clause-refused : goal.returns-then-is_deepest-clause-refused
returns-then-is_deepest-clause-refused c =
    let depth = depth-is (goal.at.returns-then-is_deepest-clause-refused c).After-depth_of-depth in
    let allowed = ap (λ (m : Transactions). m.limits.depth) c.self.view_is in
    too_deep c.args.self.now c.args.txn c.in_ok-parent.ensures.live (le-leb c.args.self.now.limits.depth (depth_in c.args.self.now c.args.txn) (omega arith))

pub returns-in_err-check_begin-clause-refused : goal.returns-in_err-check_begin-clause-refused
returns-in_err-check_begin-clause-refused c =
    let depth = depth-is (goal.at.returns-in_err-check_begin-clause-refused c).After-depth_of-depth in
    let allowed = ap (λ (m : Transactions). m.limits.depth) c.self.view_is in
    let deep = lt-leb c.args.self.now.limits.depth (depth_in c.args.self.now c.args.txn) (omega arith) in
    let due : sub_refusal c.args.self.now c.args.txn ≡ Some c.in_err-check_begin.field-0.0 = not_deep c.args.self.now c.args.txn c.in_ok-parent.ensures.live deep ∙ c.in_err-check_begin.ensures in
    let p = err_from_is_err_and c.from_residual-in_err-check_begin.result c.from_residual-in_err-check_begin.ensures.1 in
    rw (p.1, p.2) due

pub returns-clause-refused : goal.returns-clause-refused
returns-clause-refused c =
    let depth = depth-is (goal.at.returns-clause-refused c).After-depth_of-depth in
    let allowed = ap (λ (m : Transactions). m.limits.depth) c.self.view_is in
    let deep = lt-leb c.args.self.now.limits.depth (depth_in c.args.self.now c.args.txn) (omega arith) in
    not_deep c.args.self.now c.args.txn c.in_ok-parent.ensures.live deep ∙ c.in_ok-check_begin.ensures

pub returns-clause-deeper : goal.returns-clause-deeper
returns-clause-deeper c =
    let depth = depth-is (goal.at.returns-clause-deeper c).After-depth_of-depth in
    ap (λ d. d + 1) (depth ∙ ap (depth_in c.args.self.now) c.in_ok-parent.ensures.place)
