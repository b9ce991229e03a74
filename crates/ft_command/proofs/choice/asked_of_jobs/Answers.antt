use Rattle.std.proofs.Common.{◌≡◌, ◌∙◌, ◌≤◌, Some, ap, sym, codes, rules, arith}
use Rattle.std.specs.Prelude.{string_bytes}
use Rattle.std.specs.Str.Parse.{ParsesUnsigned, ExplainsUnsignedError, HasUnsignedDigitsIfOk}
use Rattle.clap.specs.Words.{found_of}
use Rattle.clap.proofs.WalkLemmas.{first_value-rows}
use Rattle.ft_command.proofs.Choosing.{flag_read, number_read}
use Rattle.ft_command.proofs.choice.asked_of_jobs.Goals as goal

pub returns : goal.returns
returns c =
    let found = found_of c.args.found.now in
    let copied : string_bytes c.in_ok-file-2.file ≡ c.in_ok-file.file.now = search rules in
    let turns = number_read (codes "turns") _ (λ bs r. ParsesUnsigned 64 10 bs r × ExplainsUnsignedError 10 bs r × HasUnsignedDigitsIfOk bs r) found c.get_one.result c.in_ok-turns.turns
    (λ u x g. g.0) c.get_one.ensures.none c.get_one.ensures.value (search rules) in
    let threads = number_read (codes "threads") _ (λ bs r. ParsesUnsigned 64 10 bs r × ExplainsUnsignedError 10 bs r × HasUnsignedDigitsIfOk bs r) found c.get_one-2.result c.in_ok-threads.threads
    (λ u x g. g.0) c.get_one-2.ensures.none c.get_one-2.ensures.value (search rules) in
    let least : 1 ≤ c.in_ok-turns.turns = let differs = c.if-turns-eq0.false in omega arith in
    let quiet = flag_read found (codes "quiet") c.get_flag.result c.get_flag.ensures.none c.get_flag.ensures.value c.get_flag.ensures.other in
    (sym (first_value-rows found (codes "file")) ∙ sym c.in_ok-file.ensures ∙ ap Some (sym copied), turns, least, threads, c.in_ok-retries.ensures, quiet)
