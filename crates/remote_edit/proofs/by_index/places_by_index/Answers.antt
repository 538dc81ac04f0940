use Rattle.std.proofs.Common.{arith}
use Rattle.std.proofs.lemmas.List.Sums.{sum_by_more}
use Rattle.lamport_clock.specs.declared.stamp.Lamport.{Lamport}
use Rattle.remote_edit.specs.Finds.{HaveConcerned}
use Rattle.remote_edit.proofs.Finds.{each_more, concerned_kept}
use Rattle.remote_edit.specs.Looks.{edit_looks}
use Rattle.remote_edit.proofs.by_index.places_by_index.Goals as goal

pub loop-edit-preserved : goal.loop-edit-preserved
loop-edit-preserved g c =
    let fs = c.args.tree.now.items in
    let d : Lamport = record { value = 0; replica = 0 } in
    record {
      found = λ found. each_more (λ (t : Lamport). HaveConcerned fs t c.loop-edit.places.items) (λ (t : Lamport). HaveConcerned fs t c.find_edit.new.places.items)
          (λ t h. concerned_kept fs t c.loop-edit.places.items c.find_edit.new.places.items c.in_ok-find_edit.ensures.kept h) c.args.edits.now c.loop-edit.edit-index d c.loop-edit-test.true (c.loop-edit.invariant.found found) (c.in_ok-find_edit.ensures.found found);
      few = (let i = c.loop-edit.invariant.few in let k = c.in_ok-find_edit.ensures.few in omega (arith, i, k));
      cost = λ found. (let i = c.loop-edit.invariant.cost found in
          let k = c.find_edit.ensures.cost found in
          let m = sum_by_more (edit_looks fs c.args.index.now.deletions) c.args.edits.now c.loop-edit.edit-index d c.loop-edit-test.true in
          omega (arith, i, k, m));
    }
