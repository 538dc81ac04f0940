use Rattle.std.proofs.Common.{◌++◌, ◌∷◌, List, ℕ, ap, ◌∙◌}
use Rattle.lamport_clock.specs.Versions.{Entries}
use Rattle.op_model.specs.declared.operation.Piece.{Piece}
use Rattle.op_wire.specs.Spelling.{stamp, version, pieces}
use Rattle.op_wire.proofs.Joins.{four}
use Rattle.op_wire.proofs.encoding.put_edit.Goals as goal

pub returns : goal.returns
returns c =
    let e = c.args.edit.now in
    let v = c.as_slice.result.now in
    let ps = c.as_slice-2.result.now in
    let o = c.args.out.now.items in
    c.in_ok-put_pieces.ensures ∙ ap (λ (x : List ℕ). x ++ pieces ps) (c.in_ok-put_version.ensures ∙ ap (λ (x : List ℕ). x ++ version v) (c.in_ok-put_stamp.ensures ∙ ap (λ (x : List ℕ). x ++ stamp e.stamp) c.in_ok-push.ensures.items)) ∙ four o (stamp e.stamp) (version v) (pieces ps) 1
    ∙ ap (λ (x : Entries). o ++ (1 ∷ (stamp e.stamp ++ (version x ++ pieces ps)))) c.as_slice.ensures.entries
    ∙ ap (λ (x : List Piece). o ++ (1 ∷ (stamp e.stamp ++ (version e.version ++ pieces x)))) c.as_slice-2.ensures
