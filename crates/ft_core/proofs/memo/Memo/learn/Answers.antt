use Rattle.std.proofs.Common.{◌≡◌, ◌++◌, ◌∷◌, ◌+◌, [], take, Some, refl, sym, ap, subst, ◌∙◌}
use Rattle.std.proofs.lemmas.List.{take_all, take_more}
use Rattle.ft_path.specs.declared.path.Parts.{Parts}
use Rattle.ft_path.specs.FilePath.{components}
use Rattle.ft_path.specs.Judged.{EndsInSlash}
use Rattle.ft_cells.specs.Cells.{Cells, entry_of}
use Rattle.ft_cells.specs.Entries.{entry_at}
use Rattle.ft_cells.specs.declared.cell.Cell.TheVariants.{Entry}
use Rattle.ft_cells.specs.declared.node.Node.TheVariants.{Dir as DirNode}
use Rattle.ft_posix.specs.declared.call.Mode.TheVariants.{Read as ReadMode}
use Rattle.ft_posix.specs.Besides.{reads_of}
use Rattle.ft_tree.specs.Views.{view_of}
use Rattle.ft_tree.specs.Fronts.{LeadAlong, entries_along, end_along}
use Rattle.ft_tree.proofs.Learning.{leads_on, ends_on}
use Rattle.ft_core.proofs.Learning.{reads_on}
use Rattle.ft_core.proofs.memo.Memo.learn.Goals as goal

pub loop-name-init : goal.loop-name-init
loop-name-init c =
    let text : c.extend_from_slice.new.self.items ≡ c.as_bytes.result.now = c.in_ok-extend_from_slice.ensures.items ∙ ap (λ xs. xs ++ c.as_bytes.result.now) c.clear.ensures.items in
    record {
      slashed = subst EndsInSlash (sym text) (c.as_bytes.ensures.slash c.requires);
      names = ap components text ∙ c.as_bytes.ensures.names ∙ sym (ap (λ (p : Parts). p.names) c.in_ok-parts.ensures) ∙ sym c.as_slice-name-items.ensures;
      same = c.new-cursor.ensures;
      way = subst (LeadAlong (view_of c.args.tree.now) 1 []) (sym c.clear-2.ensures.items) tt;
      end = ap (end_along 1) (sym c.clear-2.ensures.items);
      reads = c.new-reads.ensures.items;
      txn = refl;
    }

pub loop-name-preserved : goal.loop-name-preserved
loop-name-preserved c =
    let was = c.loop-name.invariant in
    let tree = c.args.tree.now in
    let names = c.as_slice-name-items.result.now in
    let at = c.loop-name.name-index in
    let name = c.name-item.result in
    let next = c.in-Some-Dir.next in
    let dirs = c.loop-name.self.front.dirs.items in
    let pushed = c.push-in-loop-name.new.self.items in
    let far : take (at + 1) names ≡ take at names ++ name ∷ [] = take_more names at name c.loop-name-test.true ∙ ap (λ n. take at names ++ n ∷ []) (sym c.name-item.is) in
    let longer : pushed ≡ dirs ++ next ∷ [] = c.in_ok-push-2.ensures.items in
    let shows : entry_of tree (end_along 1 dirs) name ≡ Some (DirNode next) =
    ap (λ (cells : Cells). entry_of cells (end_along 1 dirs) name) (sym was.same) ∙ ap (λ d. entry_of c.loop-name.cursor d name) (sym was.end) ∙ sym c.in-Some-Dir.ensures.node ∙ ap Some c.in-Some-Dir.field-0-is in
    record {
      slashed = was.slashed;
      names = was.names;
      same = c.entry.ensures.same ∙ was.same;
      way = subst (λ ns. LeadAlong (view_of tree) 1 ns pushed) (sym far) (subst (LeadAlong (view_of tree) 1 (take at names ++ name ∷ [])) (sym longer)
          (leads_on (view_of tree) 1 (take at names) dirs name next was.way (sym c.if-is_dot.ensures) (sym c.if-is_dot_dot.ensures) shows));
      end = sym (ends_on 1 dirs next) ∙ ap (end_along 1) (sym longer);
      reads =
          c.in_ok-push.ensures.items
          ∙ (λ i. was.reads i ++ record { cell = Entry (entry_at (was.end i) (c.in_ok-name.ensures.name i)); mode = ReadMode } ∷ [])
          ∙ sym (reads_on (view_of tree) 1 (take at names) dirs name next was.way)
          ∙ (λ i. reads_of (entries_along 1 (sym far i) (sym longer i)));
      txn = was.txn;
    }

pub returns-clause-learnt : goal.returns-clause-learnt
returns-clause-learnt c =
    let was = c.loop-name.invariant in
    let v = view_of c.args.tree.now in
    let names = c.as_slice-name-items.result.now in
    let dirs = c.loop-name.self.front.dirs.items in
    let all : take c.loop-name.name-index names ≡ components c.loop-name.self.front.text.items = take_all c.loop-name.name-index names c.loop-name-test.false ∙ sym was.names in
    record {
      leads = record { slashed = was.slashed; way = subst (λ ns. LeadAlong v 1 ns dirs) all was.way };
      reads_are = was.reads ∙ ap (λ ns. reads_of (entries_along 1 ns dirs)) all;
    }
