use Rattle.std.proofs.Common.{rules}
use Rattle.session_writer.proofs.Decoding.{all_readable, migrated}
use Rattle.session_writer.proofs.Written.{some_bytes}
use Rattle.session_writer.proofs.migrating.migrated.Goals as goal

pub first_line-requires : goal.first_line-requires
first_line-requires c = some_bytes c.args.input.now c.args.session c.requires

pub push_lines-requires : goal.push_lines-requires
push_lines-requires c = all_readable c.args.input.now c.first_line.result.0.now c.first_line.result.1.now c.args.session c.first_line.ensures.cut c.requires

pub returns : goal.returns
returns c =
    migrated c.args.input.now c.first_line.result.0.now c.first_line.result.1.now c.args.session c.first_line.ensures.cut c.requires c.in_ok-push_lines.ensures.written (search rules) c.push_lines.new.out.items (search rules)
