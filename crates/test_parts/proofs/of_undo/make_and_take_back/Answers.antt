use Rattle.test_parts.proofs.of_undo.make_and_take_back.Goals as goal

-- right after the call its cells are as it left them
pub revert-requires : goal.revert-requires
revert-requires c = c.in_ok-_reply.ensures.may_revert c.perform.new.tree c.in_ok-_reply.ensures.left
