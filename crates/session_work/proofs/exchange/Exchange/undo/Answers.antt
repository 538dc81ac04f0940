use Rattle.std.proofs.Common.{◌≡◌, ℕ, ◌+◌, List, [], ◌∷◌, ◌++◌, length, map, Option, subst, sym, ◌∙◌}
use Rattle.std.specs.Option.{option_and_then}
use Rattle.std.specs.Result.{result_ok}
use Rattle.lamport_clock.specs.declared.stamp.Lamport.{Lamport}
use Rattle.text_buffer.specs.Buffer.{BufferState}
use Rattle.session_work.specs.Exchange.{AreThere, operation_in, undo_outcome_of}
use Rattle.session_work.specs.Work.{buffer_of, stamps_under}
use Rattle.session_work.proofs.Kept.{more_operations, more_there, still_there, grown}
use Rattle.session_work.proofs.Growth.{all_themselves}
use Rattle.session_work.proofs.exchange.Exchange.undo.Goals as goal

pub invariant_of-self : goal.invariant_of-self
invariant_of-self c = still_there c.self.inside.replicas c.undo.new.self c.undo.ensures.grows c.self.inside.named.items c.self.invariant

pub invariant_of-self-in_err-push : goal.invariant_of-self-in_err-push
invariant_of-self-in_err-push c =
    subst (AreThere c.undo.new.self) (sym c.in_err-push.ensures.items) (still_there c.self.inside.replicas c.undo.new.self c.undo.ensures.grows c.self.inside.named.items c.self.invariant)

pub invariant_of-self-2 : goal.invariant_of-self-2
invariant_of-self-2 c =
    more_there c.args.id (λ (n : ℕ) (b : BufferState). undo_outcome_of n c.first_unnamed-unnamed.result c.as_slice.result.now b) c.args.self.now c.self.inside.replicas c.undo.new.self c.self.inside.named.items c.push.new.self.items
    c.next_number-number.result c.applied_len-index.result c.in_ok-made.made c.named_made.result
    c.self.view_is c.next_number-number.ensures c.applied_len-index.ensures c.undo.ensures.grows c.self.invariant c.in_ok-made.ensures.after c.in_ok-made.ensures.made c.named_made.ensures c.in_ok-push.ensures.items

pub returns-clause-operations : goal.returns-clause-operations
returns-clause-operations c =
    let s = c.args.self.now in
    let added : Option ℕ → List Lamport → Type 0 = λ u ts. map (operation_in c.undo.new.self) c.push.new.self.items ≡ s.operations ++ option_and_then (λ (b : BufferState). result_ok (undo_outcome_of (length s.operations + 1) u ts b)) (buffer_of c.args.id s.buffers) ∷ [] in
    subst (λ (u : Option ℕ). added u (stamps_under c.args.self.now.operations c.args.numbers.now)) c.first_unnamed-unnamed.ensures
    (subst (added c.first_unnamed-unnamed.result) (c.as_slice.ensures.value ∙ c.in_ok-edits.ensures)
    (more_operations c.args.id (λ (n : ℕ) (b : BufferState). undo_outcome_of n c.first_unnamed-unnamed.result c.as_slice.result.now b) c.args.self.now c.self.inside.replicas c.undo.new.self c.self.inside.named.items c.push.new.self.items
    c.next_number-number.result c.applied_len-index.result c.in_ok-made.made c.named_made.result
    c.self.view_is c.next_number-number.ensures c.applied_len-index.ensures c.undo.ensures.grows c.self.invariant c.in_ok-made.ensures.after c.in_ok-made.ensures.made c.named_made.ensures c.in_ok-push.ensures.items))

pub returns-in_err-edits-clause-grows : goal.returns-in_err-edits-clause-grows
returns-in_err-edits-clause-grows c = all_themselves c.args.self.now.buffers

pub returns-in_err-made-clause-grows : goal.returns-in_err-made-clause-grows
returns-in_err-made-clause-grows c = grown c.args.self.now c.self.inside.replicas c.undo.new.self c.self.inside.named.items c.self.view_is c.undo.ensures.grows

pub returns-in_err-push-clause-grows : goal.returns-in_err-push-clause-grows
returns-in_err-push-clause-grows c = grown c.args.self.now c.self.inside.replicas c.undo.new.self c.self.inside.named.items c.self.view_is c.undo.ensures.grows

pub returns-clause-grows : goal.returns-clause-grows
returns-clause-grows c = grown c.args.self.now c.self.inside.replicas c.undo.new.self c.self.inside.named.items c.self.view_is c.undo.ensures.grows
