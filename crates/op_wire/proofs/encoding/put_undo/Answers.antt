use Rattle.std.proofs.Common.{◌++◌, ◌∷◌, List, ℕ, ap, ◌∙◌}
use Rattle.lamport_clock.specs.Versions.{Entries}
use Rattle.op_model.specs.declared.operation.UndoCount.{UndoCount}
use Rattle.op_wire.specs.Spelling.{stamp, version, counts}
use Rattle.op_wire.proofs.Joins.{four}
use Rattle.op_wire.proofs.encoding.put_undo.Goals as goal

pub returns : goal.returns
returns c =
    let e = c.args.undo.now in
    let v = c.as_slice.result.now in
    let cs = c.as_slice-2.result.now in
    let o = c.args.out.now.items in
    c.in_ok-put_counts.ensures ∙ ap (λ (x : List ℕ). x ++ counts cs) (c.in_ok-put_version.ensures ∙ ap (λ (x : List ℕ). x ++ version v) (c.in_ok-put_stamp.ensures ∙ ap (λ (x : List ℕ). x ++ stamp e.stamp) c.in_ok-push.ensures.items)) ∙ four o (stamp e.stamp) (version v) (counts cs) 2
    ∙ ap (λ (x : Entries). o ++ (2 ∷ (stamp e.stamp ++ (version x ++ counts cs)))) c.as_slice.ensures.entries
    ∙ ap (λ (x : List UndoCount). o ++ (2 ∷ (stamp e.stamp ++ (version e.version ++ counts x)))) c.as_slice-2.ensures
