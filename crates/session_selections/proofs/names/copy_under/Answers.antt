use Rattle.std.proofs.Common.{Some, ap, ◌∙◌}
use Rattle.session_selections.specs.Names.{by_bytes, under}
use Rattle.session_selections.proofs.Named.{found_under}
use Rattle.session_selections.proofs.names.copy_under.Goals as goal

pub returns-in_ok-copy-in-Some : goal.returns-in_ok-copy-in-Some
returns-in_ok-copy-in-Some c =
    ap Some c.in_ok-copy-in-Some.ensures ∙ c.in-Some.ensures.value ∙ found_under c.as_str.result.now c.args.selects.now.entries
    ∙ ap (λ n. under n (by_bytes c.args.selects.now.entries)) c.as_str.ensures

pub returns-in-None : goal.returns-in-None
returns-in-None c =
    c.in-None.ensures.value ∙ found_under c.as_str.result.now c.args.selects.now.entries
    ∙ ap (λ n. under n (by_bytes c.args.selects.now.entries)) c.as_str.ensures
