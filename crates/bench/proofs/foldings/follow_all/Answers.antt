use Rattle.std.proofs.Common.{rules, sym, subst}
use Rattle.op_model.specs.Histories.{History}
use Rattle.text_buffer.specs.Document.{IsFront}
use Rattle.text_buffer.proofs.Fronts.{front_itself, front_trans}
use Rattle.bench.proofs.foldings.follow_all.Goals as goal

pub go_on-requires : goal.go_on-requires
go_on-requires c = front_trans c.loop.map.history c.loop.buffer.history c.edit.new.buffer.history c.loop.invariant (search rules)

pub loop-preserved : goal.loop-preserved
loop-preserved c = subst (λ (h : History). IsFront h c.edit.new.buffer.history) (sym (search rules)) (front_itself c.edit.new.buffer.history)
