use Rattle.std.proofs.Common.{◌≡◌, ◌⊎◌, IfOk, None, Some, sym, subst}
use Rattle.std.specs.Prelude.{IfErr}
use Rattle.op_model.specs.Rules.{text_under}
use Rattle.op_model.specs.declared.endings.Endings.{Endings}
use Rattle.text_buffer.specs.Buffer.{base_fault, base_under}
use Rattle.text_buffer.specs.declared.faults.NewFault.TheVariants as new
use Rattle.session_work.proofs.replicas.base_under.Goals as goal

pub returns-in-AsIs-clause-new : goal.returns-in-AsIs-clause-new
returns-in-AsIs-clause-new c = subst (λ (e : Endings). IfOk c.new.result (λ b. b ≡ base_under e c.args.text.now)) (sym c.in-AsIs.is) c.new.ensures.new

pub returns-in-Lf-clause-new : goal.returns-in-Lf-clause-new
returns-in-Lf-clause-new c = subst (λ (e : Endings). IfOk c.new_lf.result (λ b. b ≡ base_under e c.args.text.now)) (sym c.in-Lf.is) c.new_lf.ensures.new

pub returns-in-AsIs-clause-fault : goal.returns-in-AsIs-clause-fault
returns-in-AsIs-clause-fault c =
    subst (λ (e : Endings). IfErr c.new.result (λ x. (base_fault (text_under e c.args.text.now) ≡ Some x) ⊎ ((base_fault (text_under e c.args.text.now) ≡ None) × (x ≡ new.OutOfMemory))))
    (sym c.in-AsIs.is) c.new.ensures.fault

pub returns-in-Lf-clause-fault : goal.returns-in-Lf-clause-fault
returns-in-Lf-clause-fault c =
    subst (λ (e : Endings). IfErr c.new_lf.result (λ x. (base_fault (text_under e c.args.text.now) ≡ Some x) ⊎ ((base_fault (text_under e c.args.text.now) ≡ None) × (x ≡ new.OutOfMemory))))
    (sym c.in-Lf.is) c.new_lf.ensures.fault
