use Rattle.std.proofs.Common.{sym, subst}
use Rattle.op_model.specs.declared.operation.Operation.{Operation}
use Rattle.std.specs.Prelude.{List}
use Rattle.text_buffer.specs.Document.{IsFront}
use Rattle.text_buffer.proofs.Reached.{reached_front}
use Rattle.text_buffer.proofs.snapshot.snapshots_append.Goals as goal

pub returns : goal.returns
returns c = λ b n r e f.
    subst (λ (h : List Operation). IsFront h c.args.later.now) (sym e) (subst (IsFront b.history) (sym f) (reached_front b n r.0 r.1))
