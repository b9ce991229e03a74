use Rattle.std.proofs.Common.{◌≡◌, ◌∙◌, Some, ap, sym, codes, rules}
use Rattle.std.specs.Prelude.{string_bytes}
use Rattle.clap.specs.Words.{found_of}
use Rattle.clap.proofs.WalkLemmas.{first_value-rows}
use Rattle.ft_command.proofs.choice.asked_dir.Goals as goal

pub returns : goal.returns
returns c =
    let found = found_of c.args.found.now in
    let copied : string_bytes c.in_ok-dir-2.dir ≡ c.in_ok-dir.dir.now = search rules in
    sym (first_value-rows found (codes "dir")) ∙ sym c.in_ok-dir.ensures ∙ ap Some (sym copied)
