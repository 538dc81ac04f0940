use Rattle.std.proofs.Common.{◌∙◌, sym}
use Rattle.text_buffer.proofs.snapshot.Snapshot.text_at.Goals as goal
use Rattle.op_model.proofs.answers.Local.{is_closed}

pub text_back-requires : goal.text_back-requires
text_back-requires c = is_closed c.args.self.now c.args.version.now (sym c.since_fault.ensures ∙ c.in_default.is)
