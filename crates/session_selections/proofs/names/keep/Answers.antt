use Rattle.std.proofs.Common.{Some, ap, ◌∙◌}
use Rattle.session_selections.specs.Names.{by_bytes, with_name}
use Rattle.session_selections.proofs.Named.{put_under}
use Rattle.session_selections.proofs.names.keep.Goals as goal

pub returns-clause-ok : goal.returns-clause-ok
returns-clause-ok c =
    ap by_bytes c.in_ok-insert.ensures.entries ∙ put_under c.in_ok-from_str.field-0 c.args.op c.args.selects.now.entries
    ∙ ap (λ n. with_name n (Some c.args.op) (by_bytes c.args.selects.now.entries)) (c.in_ok-from_str.ensures.ok ∙ c.as_str.ensures)
