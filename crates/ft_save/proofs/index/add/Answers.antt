use Rattle.std.proofs.Common.{◌∷◌, refl, sym, ap, ◌∙◌, subst}
use Rattle.std.proofs.lemmas.Result.{on_ok_weaker}
use Rattle.std.specs.FinMap as finite
use Rattle.ft_save.specs.declared.row.Row.{Row}
use Rattle.ft_save.specs.Trees.{Indexes}
use Rattle.ft_save.proofs.Indexing.{adds_attributes, adds_edge, adds_file, adds_folder, adds_time}
use Rattle.ft_save.proofs.index.add.Goals as goal

pub returns-in-Folder : goal.returns-in-Folder
returns-in-Folder c rows h =
    on_ok_weaker c.add_own.result
    (λ counts. subst (λ (row : Row). Indexes c.add_own.new.index (row ∷ rows)) (sym c.in-Folder.is) (adds_folder c.args.index.now rows h c.in-Folder.node c.add_own.new.index counts))
    c.add_own.ensures

pub returns-in_ok-insert-in-Edge : goal.returns-in_ok-insert-in-Edge
returns-in_ok-insert-in-Edge c rows h =
    let named = c.in_ok-insert-in-Edge.ensures.ok ∙ ap (λ more. finite.insert c.args.index.now.named c.in-Edge.node more) c.contains-more.ensures in
    on_ok_weaker c.add_edge.result
    (λ puts. subst (λ (row : Row). Indexes c.add_edge.new.index (row ∷ rows)) (sym c.in-Edge.is)
    (adds_edge c.args.index.now rows h c.in-Edge.folder c.in-Edge.node c.in-Edge.name _ c.add_edge.new.index named refl refl refl refl refl puts))
    c.add_edge.ensures

pub returns-in_ok-insert-in-File : goal.returns-in_ok-insert-in-File
returns-in_ok-insert-in-File c rows h =
    on_ok_weaker c.add_own-in-File.result
    (λ counts. subst (λ (row : Row). Indexes c.add_own-in-File.new.index (row ∷ rows)) (sym c.in-File.is)
    (adds_file c.args.index.now rows h c.in-File.node c.in-File.form c.in-File.bytes _ c.add_own-in-File.new.index c.in_ok-insert-in-File.ensures.ok refl refl refl refl refl counts))
    c.add_own-in-File.ensures

pub returns-in_ok-insert-in-Attributes : goal.returns-in_ok-insert-in-Attributes
returns-in_ok-insert-in-Attributes c rows h =
    let new = record c.args.index.now { attributes = c.insert-in-Attributes.new.self } in
    subst (λ (row : Row). Indexes new (row ∷ rows)) (sym c.in-Attributes.is)
    (adds_attributes c.args.index.now rows h c.in-Attributes.node c.in-Attributes.attributes new c.in_ok-insert-in-Attributes.ensures.ok refl refl refl refl refl)

pub returns-in_ok-insert-in-Time : goal.returns-in_ok-insert-in-Time
returns-in_ok-insert-in-Time c rows h =
    let new = record c.args.index.now { times = c.insert-in-Time.new.self } in
    subst (λ (row : Row). Indexes new (row ∷ rows)) (sym c.in-Time.is)
    (adds_time c.args.index.now rows h c.in-Time.node c.in-Time.time new c.in_ok-insert-in-Time.ensures.ok refl refl refl refl refl)
