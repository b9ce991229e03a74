use Rattle.std.proofs.Common.{◌≡◌, true, ap, ◌∙◌}
use Rattle.ft_undo.specs.Logs.{is_open}
use Rattle.ft_undo.proofs.Logging.{lists-set, open-set, open-same}
use Rattle.ft_undo.proofs.logs.Logs.push.Goals as goal
use Rattle.ft_undo.proofs.logs.Logs.push.Goals.{in-Ok, in-Err}

pub returns-clause-lists : goal.returns-clause-lists
returns-clause-lists c = elim c.match-push_front.branch [
  | in-Ok w ↦ rw w.result-is (rw (← c.self.view_is) (lists-set c.self.inside.chains c.push_front.new.self c.args.txn _ w.in-Ok.ensures.ok))
  | in-Err w ↦ rw w.result-is tt
]

pub returns-clause-opened : goal.returns-clause-opened
returns-clause-opened c =
    let there : is_open c.self.inside.chains c.args.txn ≡ true = ap (λ m. is_open m c.args.txn) c.self.view_is ∙ c.requires in
    rw (← c.self.view_is) (elim c.match-push_front.branch [
      | in-Ok w ↦ open-set c.self.inside.chains c.push_front.new.self c.args.txn _ w.in-Ok.ensures.ok there
      | in-Err w ↦ open-same c.self.inside.chains c.push_front.new.self w.in-Err.ensures.err
    ])
