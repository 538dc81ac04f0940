use Rattle.std.proofs.Common.{◌≡◌, false, subst}
use Rattle.std.specs.List.{list_any}
use Rattle.op_model.specs.Rules.{KeepsRule, is_return}
use Rattle.op_model.specs.Shown.{full}
use Rattle.op_model.specs.declared.endings.Endings.{Endings}
use Rattle.op_model.proofs.MainLaws.{no_return_is_held}
use Rattle.text_buffer.specs.Buffer.{BufferState}
use Rattle.text_buffer.proofs.buffer.Buffer.endings.Goals as goal

pub returns-clause-returns : goal.returns-clause-returns
returns-clause-returns c e =
    subst (λ (b : BufferState). list_any is_return (full b.history) ≡ false) c.self.view_is
    (no_return_is_held c.self.inside.document c.self.invariant.history.lawful (subst (λ (x : Endings). KeepsRule x c.self.inside.document) e c.self.invariant.rule))
