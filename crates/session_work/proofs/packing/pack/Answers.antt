use Rattle.std.proofs.Common.{◌≡◌, ℕ, List, IfOk, Ok, ap, length, map, subst}
use Rattle.std.specs.Prelude.{IfErr}
use Rattle.op_model.specs.declared.operation.Operation.{Operation}
use Rattle.record_lines.specs.Packing.{PackCause, records_of}
use Rattle.session_work.specs.Packing.{made_operations, with_lines}
use Rattle.session_work.specs.Working.{more_state_of}
use Rattle.session_work.proofs.Excerpting.{opening_room}
use Rattle.session_work.proofs.Packs.{are-made}
use Rattle.session_work.proofs.packing.pack.Goals as goal

pub returns-clause-ok : goal.returns-clause-ok
returns-clause-ok c =
    let last = more_state_of c.work_lines.new.progress in
    let numbers = c.work_lines.new.numbered.items in
    let ops : List (ℕ × Operation) = map (λ p. (p.0, p.1.now)) c.as_slice-3.result.now in
    let kept : ops ≡ with_lines 0 numbers last.plain.operations = cc (c.as_slice-3.ensures.value, c.in_ok-made.ensures, c.as_slice-2.ensures.value) in
    let made : ops ≡ made_operations c.args.session =
    are-made c.args.session (length c.as_slice.result.now) c.into_queue-lines.result (more_state_of c.in_ok-progress.progress) last _ numbers ops (ap (λ (ids : List ℕ). length ids) c.as_slice.ensures) c.into_queue-lines.ensures c.in_ok-progress.ensures.state c.new-numbered.ensures.items
    c.in_ok-work_lines.ensures.numbered c.in_ok-work_lines.ensures.state kept in
    subst (λ (os : List (ℕ × Operation)). IfOk c.pack.result (λ v. records_of os ≡ Ok v.items)) made c.pack.ensures.ok

pub returns-clause-fault : goal.returns-clause-fault
returns-clause-fault c =
    let last = more_state_of c.work_lines.new.progress in
    let numbers = c.work_lines.new.numbered.items in
    let ops : List (ℕ × Operation) = map (λ p. (p.0, p.1.now)) c.as_slice-3.result.now in
    let kept : ops ≡ with_lines 0 numbers last.plain.operations = cc (c.as_slice-3.ensures.value, c.in_ok-made.ensures, c.as_slice-2.ensures.value) in
    let made : ops ≡ made_operations c.args.session =
    are-made c.args.session (length c.as_slice.result.now) c.into_queue-lines.result (more_state_of c.in_ok-progress.progress) last _ numbers ops (ap (λ (ids : List ℕ). length ids) c.as_slice.ensures) c.into_queue-lines.ensures c.in_ok-progress.ensures.state c.new-numbered.ensures.items
    c.in_ok-work_lines.ensures.numbered c.in_ok-work_lines.ensures.state kept in
    subst (λ (os : List (ℕ × Operation)). IfErr c.pack.result (λ e. PackCause e os)) made c.pack.ensures.fault

pub work_lines-requires : goal.work_lines-requires
work_lines-requires c = opening_room c.args.session c.requires c.into_queue-lines.result c.into_queue-lines.ensures (more_state_of c.in_ok-progress.progress) c.in_ok-progress.ensures.state
