use Rattle.std.proofs.Common.{subst, sym, ap, ◌∙◌, ◌++◌, ◌∷◌, []}
use Rattle.ft_lock_rules.specs.CellLocks.{AreApart, IsIndexIf}
use Rattle.ft_lock_rules.proofs.HolderLists.{seen, get-list, absent_in, apart-push, seen-push}
use Rattle.ft_lock_rules.proofs.crowd.Crowd.add.Goals as goal

pub index_behind-requires-clause-absent : goal.index_behind-requires-clause-absent
index_behind-requires-clause-absent c = absent_in c.args.self.now c.self.inside.list.items c.as_slice.result.now c.self.view_is (c.as_slice.ensures ∙ c.in_ok-reserve.ensures.items) c.args.owner c.requires

pub invariant_of-self-2 : goal.invariant_of-self-2
invariant_of-self-2 c = (
  subst AreApart (sym (c.push_reserved.ensures.items ∙ ap (λ l. l ++ record { owner = c.args.owner; marks = c.args.marks } ∷ []) c.in_ok-reserve.ensures.items))
      (apart-push c.self.inside.list.items (record { owner = c.args.owner; marks = c.args.marks }) c.self.invariant.0 (sym (get-list _ _ c.self.view_is c.args.owner) ∙ c.requires)),
  subst (IsIndexIf c.index_behind.new.index) (ap (λ l. l ++ record { owner = c.args.owner; marks = c.args.marks } ∷ []) c.as_slice.ensures ∙ sym c.push_reserved.ensures.items)
      c.in_ok-index_behind.ensures.ok,
)

pub returns-clause-ok : goal.returns-clause-ok
returns-clause-ok c =
    ap seen (c.push_reserved.ensures.items ∙ ap (λ l. l ++ record { owner = c.args.owner; marks = c.args.marks } ∷ []) c.in_ok-reserve.ensures.items)
    ∙ seen-push c.args.self.now c.self.inside.list.items c.self.view_is (record { owner = c.args.owner; marks = c.args.marks }) (sym (get-list _ _ c.self.view_is c.args.owner) ∙ c.requires)
