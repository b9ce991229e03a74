use Rattle.ft_posix.proofs.Setting.{setting}
use Rattle.ft_posix.proofs.Restoring.{restoring}
use Rattle.ft_posix.proofs.Applying.{editing}
use Rattle.ft_undo.proofs.Applied.{made, left, inverse, may_revert, can_take_back, taken_back}
use Rattle.ft_undo.proofs.undo.apply.Goals as goal

pub returns-clause-made : goal.returns-clause-made
returns-clause-made c =
    let old = c.args.tree.now in
    let edits = c.args.intent.edits in
    made editing setting old edits c.requires.apart c.fill.new.tree c.fill.new.self c.in_ok-fill.ensures.0 c.in_ok-fill.ensures.1

pub returns-clause-left : goal.returns-clause-left
returns-clause-left c =
    let old = c.args.tree.now in
    let edits = c.args.intent.edits in
    left editing setting old edits c.requires.apart c.fill.new.tree c.fill.new.self c.in_ok-fill.ensures.0 c.in_ok-fill.ensures.1 c.requires.places

pub returns-clause-inverse : goal.returns-clause-inverse
returns-clause-inverse c =
    let old = c.args.tree.now in
    let edits = c.args.intent.edits in
    inverse editing setting old edits c.requires.apart c.fill.new.tree c.fill.new.self c.in_ok-fill.ensures.0 c.in_ok-fill.ensures.1

pub returns-clause-may_revert : goal.returns-clause-may_revert
returns-clause-may_revert c =
    let old = c.args.tree.now in
    let edits = c.args.intent.edits in
    may_revert editing setting old edits c.requires.apart c.fill.new.tree c.fill.new.self c.in_ok-fill.ensures.0 c.in_ok-fill.ensures.1

pub returns-clause-can_take_back : goal.returns-clause-can_take_back
returns-clause-can_take_back c =
    let old = c.args.tree.now in
    let edits = c.args.intent.edits in
    can_take_back editing setting old edits c.requires.apart c.fill.new.tree c.fill.new.self c.in_ok-fill.ensures.0 c.in_ok-fill.ensures.1 restoring c.requires.places

pub returns-clause-taken_back : goal.returns-clause-taken_back
returns-clause-taken_back c =
    let old = c.args.tree.now in
    let edits = c.args.intent.edits in
    taken_back editing setting old edits c.requires.apart c.fill.new.tree c.fill.new.self c.in_ok-fill.ensures.0 c.in_ok-fill.ensures.1 restoring c.requires.places
