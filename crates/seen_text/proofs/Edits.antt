-- A character begins with a cell where one begins with it among the bytes of its edit.
use Rattle.std.proofs.Common.{◌≡◌, ℕ, List, length, map, get_or, ap, ◌∙◌, arith}
use Rattle.op_model.proofs.Elements.{member_at}
use Rattle.op_model.specs.Cells.{seq, cells}
use Rattle.op_model.specs.Shown.{full, new_bytes}
use Rattle.op_model.proofs.answers.Good.{lawful_ready}
use Rattle.op_model.proofs.order.CellsOnce.{all_cells}
use Rattle.op_model.proofs.texts.WholeTexts.{byte_of, same_byte}
use Rattle.op_model.proofs.texts.WholeRuns.{byte_new}
use Rattle.seen_text.specs.Laws.{CellsBeginAsInTheirEdits}
use Rattle.op_model.proofs.anchors.KnownAnchors.{got_map}
use Rattle.op_model.proofs.texts.Hidden.{full_cells}

pub cells_begin : CellsBeginAsInTheirEdits
cells_begin h i c l e =
    let d = (lawful_ready h l).0.distinct in
    let k = got_map (byte_of h) (cells (seq h)) i c e in
    let q = full_cells h in
    let n : length (full h) ≡ length (map (byte_of h) (cells (seq h))) = ap length q in
    let m = k.0 in
    same_byte (full h) (new_bytes h c.stamp) i c.k (omega (arith, n, m)) ((all_cells h d c).0 (member_at (cells (seq h)) i c e))
    (ap (λ (z : List ℕ). get_or z i 0) q ∙ k.1 ∙ byte_new h d c.stamp c.k)
