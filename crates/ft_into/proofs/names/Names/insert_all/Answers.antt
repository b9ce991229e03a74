use Rattle.std.proofs.Common.{ℕ, List, ◌∷◌, ◌++◌, sym, ap, ◌∙◌}
use Rattle.std.specs.BTreeMap.{insert_entry}
use Rattle.ft_into.specs.Knows.{path_order, with_names}
use Rattle.ft_into.specs.Views.{names_of}
use Rattle.ft_into.proofs.Listed.{names_last}
use Rattle.ft_into.proofs.names.Names.insert_all.Goals as goal

pub loop-listed-preserved-in_ok-insert : goal.loop-listed-preserved-in_ok-insert
loop-listed-preserved-in_ok-insert c =
    let path = c.args.path.now in
    let names = names_of c.loop-listed.self in
    let rest = c.pop.new.self.items in
    let listed = c.in-Some.listed in
    let added = c.in_ok-insert.ensures ∙ ap (λ (child : List ℕ). insert_entry path_order names child listed.node) (c.in_ok-child.ensures ∙ ap (λ (name : List ℕ). path ++ 47 ∷ name) c.as_bytes.ensures.value) in
    c.loop-listed.invariant ∙ ap (λ l. with_names path l names) c.in-Some.ensures.items ∙ names_last path rest listed names ∙ ap (with_names path rest) (sym added)

pub loop-listed-preserved : goal.loop-listed-preserved
loop-listed-preserved c =
    let path = c.args.path.now in
    let names = names_of c.loop-listed.self in
    let rest = c.pop.new.self.items in
    let listed = c.in-Some.listed in
    let added = c.in_ok-insert.ensures ∙ ap (λ (child : List ℕ). insert_entry path_order names child listed.node) (c.in_ok-child.ensures ∙ ap (λ (name : List ℕ). path ++ 47 ∷ name) c.as_bytes.ensures.value) in
    c.loop-listed.invariant ∙ ap (λ l. with_names path l names) c.in-Some.ensures.items ∙ names_last path rest listed names ∙ ap (with_names path rest) (sym added)
