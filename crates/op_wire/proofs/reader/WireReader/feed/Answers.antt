use Rattle.std.proofs.Common.{◌≡◌, ◌∙◌, ◌+◌, ◌-◌, ◌++◌, Err, inl, inr, refl, sym, ap, length, arith}
use Rattle.op_wire.specs.Stream.{Fed, fault_at}
use Rattle.op_wire.proofs.Streams.{finds_fault}
use Rattle.op_wire.proofs.reader.WireReader.feed.Goals as goal

pub overflow_sub-end : goal.overflow_sub-end
overflow_sub-end c =
    let arm = c.in-Err-Bad in
    let h = arm.ensures.bad arm.word arm.left arm.size (ap Err arm.field-0-is) in
    omega (arith, h.within, h.part)

pub overflow_sub-self : goal.overflow_sub-self
overflow_sub-self c =
    let arm = c.in-Err-Bad in
    let h = arm.ensures.bad arm.word arm.left arm.size (ap Err arm.field-0-is) in
    omega (arith, h.part)

pub returns-in-Err-Bad-clause-fault : goal.returns-in-Err-Bad-clause-fault
returns-in-Err-Bad-clause-fault c =
    let arm = c.in-Err-Bad in
    let old = c.args.self.now in
    let bytes = c.as_slice-bytes.result.now in
    let h = arm.ensures.bad arm.word arm.left arm.size (ap Err arm.field-0-is) in
    let none = ap (λ (f : Fed). f.fault) (sym c.self.view_is) ∙ c.in_default.is in
    let all = c.as_slice-bytes.ensures ∙ c.waits.ensures.same ∙ c.in_ok-append.ensures.ok ∙ ap (λ (f : Fed). f.rest ++ c.args.piece.now) c.self.view_is in
    let start : c.self.inside.start ≡ old.start = ap (λ (f : Fed). f.start) c.self.view_is in
    let fault : c.fault_of-fault.result ≡ fault_at arm.word (c.self.inside.start + length bytes - arm.left) = rw (← arm.word-is, ← arm.left-is) c.fault_of-fault.ensures in
    inr (inl (finds_fault old _ c.args.piece.now bytes c.args.into.now.items c.records_of.new.into.items arm.word arm.left arm.size _ c.fault_of-fault.result none all h
    fault (omega (arith, start)) (omega (arith, start)) c.new.ensures refl))
