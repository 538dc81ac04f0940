use Rattle.std.proofs.Common.{List, ◌++◌, ◌∙◌, length, take, drop, ap, sym, subst, arith}
use Rattle.std.specs.Str.{IsUtf8}
use Rattle.op_model.specs.declared.operation.Piece.{Piece}
use Rattle.op_model.specs.Edits.{replace_ranges}
use Rattle.op_model.specs.Domains.{AreUtf8}
use Rattle.rope_edits.proofs.Ropes.{at_turn}
use Rattle.rope_edits.proofs.ranges.replace_ranges.Goals as goal

pub replace-requires-clause-start : goal.replace-requires-clause-start
replace-requires-clause-start c =
    (at_turn c.args.rope.now c.args.changes.now c.loop-i.i c.index-changes-i.result c.loop-i.new c.requires.fit c.known.ensures.text c.requires.room (omega arith) (omega arith) c.index-changes-i.is c.loop-i.invariant.text c.loop-i.invariant.utf8).next.start

pub replace-requires-clause-end : goal.replace-requires-clause-end
replace-requires-clause-end c =
    (at_turn c.args.rope.now c.args.changes.now c.loop-i.i c.index-changes-i.result c.loop-i.new c.requires.fit c.known.ensures.text c.requires.room (omega arith) (omega arith) c.index-changes-i.is c.loop-i.invariant.text c.loop-i.invariant.utf8).next.end

pub replace-requires-clause-order : goal.replace-requires-clause-order
replace-requires-clause-order c =
    (at_turn c.args.rope.now c.args.changes.now c.loop-i.i c.index-changes-i.result c.loop-i.new c.requires.fit c.known.ensures.text c.requires.room (omega arith) (omega arith) c.index-changes-i.is c.loop-i.invariant.text c.loop-i.invariant.utf8).next.order

pub replace-requires-clause-few : goal.replace-requires-clause-few
replace-requires-clause-few c =
    let t = (at_turn c.args.rope.now c.args.changes.now c.loop-i.i c.index-changes-i.result c.loop-i.new c.requires.fit c.known.ensures.text c.requires.room (omega arith) (omega arith) c.index-changes-i.is c.loop-i.invariant.text c.loop-i.invariant.utf8).next in
    omega (arith, t.room, ap length c.as_str.ensures)

pub loop-i-preserved : goal.loop-i-preserved
loop-i-preserved c =
    let t = at_turn c.args.rope.now c.args.changes.now c.loop-i.i c.index-changes-i.result c.loop-i.new c.requires.fit c.known.ensures.text c.requires.room (omega arith) (omega arith) c.index-changes-i.is c.loop-i.invariant.text c.loop-i.invariant.utf8 in
    record {
      text =
          c.in_ok-replace.ensures.ok
          ∙ ap (λ z. (take c.index-changes-i.result.start c.loop-i.new ++ z) ++ drop c.index-changes-i.result.end c.loop-i.new) c.as_str.ensures
          ∙ sym t.next.text
          ∙ sym (ap (λ (ps : List Piece). replace_ranges ps c.args.rope.now) t.split);
      utf8 = subst (λ (ps : List Piece). AreUtf8 ps) (sym t.split) (subst IsUtf8 c.as_str.ensures c.as_str.utf8, c.loop-i.invariant.utf8);
    }
