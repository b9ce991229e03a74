use Rattle.std.proofs.Common.{rules, ◌≡◌, Some, codes, sym, subst}
use Rattle.clap.specs.Words.{found_of, rows_of, subcommand_rows_of}
use Rattle.ft_command.specs.CommandLine.{Met, ReadChoice}
use Rattle.ft_command.proofs.choice.choice_of.Goals as goal

pub returns-in-Some-subcommand_matches-2 : goal.returns-in-Some-subcommand_matches-2
returns-in-Some-subcommand_matches-2 c =
    let rows : subcommand_rows_of c.args.matches.now ≡ Some (codes "load", rows_of (found_of c.in-Some-subcommand_matches-2.found.now)) = search rules in
    subst (λ (met : Met). ReadChoice met c.load_choice.result) (sym rows) c.load_choice.ensures

pub returns-in-Some-subcommand_matches-3 : goal.returns-in-Some-subcommand_matches-3
returns-in-Some-subcommand_matches-3 c =
    let rows : subcommand_rows_of c.args.matches.now ≡ Some (codes "save", rows_of (found_of c.in-Some-subcommand_matches-3.found.now)) = search rules in
    subst (λ (met : Met). ReadChoice met c.save_choice.result) (sym rows) c.save_choice.ensures
