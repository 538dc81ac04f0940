use Rattle.std.proofs.Common.{Bool, ◌&&◌, sym, ap, ◌∙◌}
use Rattle.lamport_clock.specs.Versions.{sees}
use Rattle.op_answers.proofs.found.is_seen_edit.Goals as goal
use Rattle.op_model.proofs.answers.Founds.{seen_edit}

pub returns : goal.returns
returns c =
    let h = c.args.applied.now in
    let v = c.args.version.now in
    let t = c.args.edit in
    c.both.ensures ∙ ap (λ (b : Bool). b && c.has_edit-is_edit.result) c.sees-is_seen.ensures ∙ ap (λ (b : Bool). sees v t && b) c.has_edit-is_edit.ensures ∙ sym (seen_edit h v t)
