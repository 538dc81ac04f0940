use Rattle.std.proofs.Common.{Some, ap, ◌∙◌}
use Rattle.session_work.specs.Names.{by_bytes, with_name}
use Rattle.session_work.proofs.Named.{put_under}
use Rattle.session_work.proofs.names.keep.Goals as goal

pub returns : goal.returns
returns g c =
    ap by_bytes c.in_ok-insert.ensures.entries ∙ put_under c.in_ok-from_str.field-0 c.args.value c.args.names.now.entries
    ∙ ap (λ n. with_name n (Some c.args.value) (by_bytes c.args.names.now.entries)) (c.in_ok-from_str.ensures.ok ∙ c.as_str.ensures)
