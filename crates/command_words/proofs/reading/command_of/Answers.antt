use Rattle.std.proofs.Common.{rules, ◌≡◌, ◌∙◌, ap, false, is_some, map, string_bytes}
use Rattle.clap.specs.Words.{app_of, subcommand_rows_of}
use Rattle.command_words.proofs.Commands.{refused, taken}
use Rattle.command_words.proofs.Takes.{command_there}
use Rattle.command_words.proofs.reading.command_of.Goals as goal

pub returns-in-Ok-clause-command : goal.returns-in-Ok-clause-command
returns-in-Ok-clause-command c =
    c.command_in.ensures.command
    ∙ taken (app_of c.in_ok-command_line.field-0) (map string_bytes c.args.words.now) (subcommand_rows_of c.in-Ok.matches) c.in_ok-command_line.ensures c.in-Ok.ensures.kinds (λ s. (c.in-Ok.ensures.matches s).1)

pub returns-in-Err-2-clause-command : goal.returns-in-Err-2-clause-command
returns-in-Err-2-clause-command c =
    let other : c.is_memory.result ≡ false = search rules in
    refused (app_of c.in_ok-command_line.field-0) (map string_bytes c.args.words.now) c.in-Err.error c.in_ok-command_line.ensures c.in-Err.ensures.kinds (c.is_memory.ensures other)

pub returns-in-Ok-clause-taken : goal.returns-in-Ok-clause-taken
returns-in-Ok-clause-taken c = ap is_some (returns-in-Ok-clause-command c) ∙ command_there (map string_bytes c.args.words.now)

pub returns-in-Err-2-clause-taken : goal.returns-in-Err-2-clause-taken
returns-in-Err-2-clause-taken c = ap is_some (returns-in-Err-2-clause-command c) ∙ command_there (map string_bytes c.args.words.now)
