use Rattle.std.proofs.Common.{◌∙◌, sym, subst}
use Rattle.text_buffer.specs.Document.{IsContent}
use Rattle.text_buffer.proofs.Standing.{may_tell}
use Rattle.text_buffer.proofs.snapshot.Snapshot.since.Goals as goal
use Rattle.op_model.proofs.answers.Local.{is_closed}

pub returns-clause-edits : goal.returns-clause-edits
returns-clause-edits c =
    let h = c.args.self.now in
    let k : IsContent c.content-content.result.now h = subst (IsContent c.content-content.result.now) c.self.view_is c.content-content.ensures in
    c.in_ok-edits.ensures h (may_tell c.content-content.result.now h c.args.version.now k c.known.ensures.lawful (is_closed h c.args.version.now (sym c.since_fault.ensures ∙ c.in_default.is)))
