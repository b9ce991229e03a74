use Rattle.std.proofs.Common.{ℕ, refl}
use Rattle.std.proofs.lemmas.Result.{on_ok_weaker}
use Rattle.ft_copy.proofs.Stopping.{if_err}
use Rattle.ft_load.specs.declared.script.Script.{Script}
use Rattle.ft_load.proofs.Scripting.{loads, stops_load}
use Rattle.ft_load.proofs.loading.load.Goals as goal

pub returns-clause-ok : goal.returns-clause-ok
returns-clause-ok g c =
    let held = λ (s : Script g.row.W.Denot). g.W.Write.contents s.writer in
    let begun : Script g.row.W.Denot = record { alloc = c.args.alloc; form = c.args.form; writer = c.args.writer; next = 2; fd = 0 } in
    on_ok_weaker c.copy-copied.result (loads held (λ s. s.next) (λ s. s.fd) (λ s. s.form) c.args.set_id (g.S.Source.tells c.args.source.now) begun c.copy-copied.new.target refl refl) c.copy-copied.ensures.ok

pub returns-clause-stopped : goal.returns-clause-stopped
returns-clause-stopped g c =
    let held = λ (s : Script g.row.W.Denot). g.W.Write.contents s.writer in
    let begun : Script g.row.W.Denot = record { alloc = c.args.alloc; form = c.args.form; writer = c.args.writer; next = 2; fd = 0 } in
    if_err c.copy-copied.result (λ stopped. stops_load held (λ s. s.next) (λ s. s.fd) (λ s. s.form) c.args.set_id (g.S.Source.tells c.args.source.now) stopped begun c.copy-copied.new.target refl refl) c.copy-copied.ensures.stopped
