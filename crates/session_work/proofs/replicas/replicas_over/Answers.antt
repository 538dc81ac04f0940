use Rattle.std.proofs.Common.{◌≡◌, ◌≤◌, ◌^◌, ℕ, List, IfOk, None, inl, inr, length, map, refl, subst, ap, arith}
use Rattle.std.proofs.lemmas.Bool.{le-ltb}
use Rattle.op_model.specs.Rules.{text_under}
use Rattle.op_model.specs.declared.endings.Endings.{Endings}
use Rattle.text_buffer.specs.Buffer.{BaseText, base_fault}
use Rattle.text_buffer.proofs.LineEndings.{no_longer}
use Rattle.session_work.specs.Work.{first_buffer, session_limit}
use Rattle.session_work.proofs.replicas.replicas_over.Goals as goal

fits : (e : Endings) (t : List ℕ) → length t ≤ session_limit → base_fault (text_under e t) ≡ None
fits e t h = let k = no_longer e t in rw (le-ltb (2 ^ 40) (length (text_under e t)) (omega (arith, k, h))) refl

pub open_replicas-requires-clause-base : goal.open_replicas-requires-clause-base
open_replicas-requires-clause-base c =
    let k = no_longer c.args.endings c.args.base.now in
    omega (arith, k, c.requires.base, ap (λ (b : BaseText). length b.text) c.in-Ok.ensures.new)

pub returns-in-Ok : goal.returns-in-Ok
returns-in-Ok c = subst (λ (b : BaseText). IfOk c.open_replicas.result (λ v. v.items ≡ map (first_buffer b) c.args.ids.now)) c.in-Ok.ensures.new c.open_replicas.ensures

pub unreachable-requires : goal.unreachable-requires
unreachable-requires c =
    let none = fits c.args.endings c.args.base.now c.requires.base in
    elim c.in-Err-Full.ensures.fault [ inl e ↦ cc | inr e ↦ cc ]
