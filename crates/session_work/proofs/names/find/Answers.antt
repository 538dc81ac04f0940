use Rattle.std.proofs.Common.{ap, ◌∙◌}
use Rattle.session_work.specs.Names.{by_bytes, under}
use Rattle.session_work.proofs.Named.{found_under}
use Rattle.session_work.proofs.names.find.Goals as goal

pub returns : goal.returns
returns g c =
    c.get.ensures.value ∙ found_under c.as_str.result.now c.args.names.now.entries
    ∙ ap (λ n. under n (by_bytes c.args.names.now.entries)) c.as_str.ensures
