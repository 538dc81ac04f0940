use Rattle.std.proofs.Common.{rules, sym, subst}
use Rattle.op_model.specs.Histories.{History}
use Rattle.text_buffer.specs.Document.{IsFront}
use Rattle.text_buffer.proofs.Fronts.{front_itself}
use Rattle.bench.proofs.foldings.syncs.Goals as goal

pub go_on-requires : goal.go_on-requires
go_on-requires c = subst (λ (h : History). IsFront h c.edit_all.new.buffer.history) (sym c.requires) (search rules)

pub follow_all-requires : goal.follow_all-requires
follow_all-requires c = subst (λ (h : History). IsFront h c.edit_all.new.buffer.history) (sym (search rules)) (front_itself c.edit_all.new.buffer.history)
