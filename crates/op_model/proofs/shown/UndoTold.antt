-- An undo sets every visibility again.
use Rattle.std.proofs.Common.{◌≡◌, ℕ, suc, List, [], ◌∷◌, ◌++◌, map, refl, ◌∙◌, ap, false}
use Rattle.op_model.specs.declared.operation.Operation.{Operation}
use Rattle.op_model.specs.Histories.{History, newest_first, by_stamp}
use Rattle.op_model.specs.declared.operation.Piece.{Piece}
use Rattle.op_model.specs.Operations.{stamp_of, version_of, pieces_of, is_edit}
use Rattle.lamport_clock.specs.Versions.{sees}
use Rattle.op_model.specs.Cells.{Cell, same_cell, PathCell, seq, seq_where, both, everything, cells}
use Rattle.op_model.specs.Laid.{lay}
use Rattle.op_model.specs.Shown.{in_ranges, visible_by}
use Rattle.op_model.specs.declared.operation.Operation.TheVariants.{Edit, Undo}
use Rattle.op_model.specs.Answers.{answer}
use Rattle.op_model.specs.Answers.Answer.{Good}
use Rattle.op_model.specs.Facts.{Fact, fact, cell_facts}
use Rattle.op_model.proofs.order.SameSets.{Desc, newest_desc}
use Rattle.op_model.proofs.histories.OneMore.{Fits, newest_append}
use Rattle.op_model.proofs.shown.Deleters.{hits, shown_more}
use Rattle.op_model.proofs.shown.Deletions.{late_deletions}
use Rattle.op_model.proofs.answers.Good.{Ready, good_more, checked_of, fits_of}
use Rattle.op_model.proofs.Elements.{neither}

abbrev pub fact_anew : History → Fact → Fact
fact_anew e q = record { cell = q.cell; visible = visible_by e q.cell.stamp q.deletions; deletions = q.deletions }

no_ranges : (s : List PathCell) (i : ℕ) (c : Cell) → in_ranges s i [] c ≡ false
no_ranges [] i c = refl
no_ranges (p ∷ s) i c = rw (no_ranges s (suc i) c) (neither (same_cell p.cell c) false)

pub no_pieces : (op : Operation) → is_edit op ≡ false → pieces_of op ≡ []
no_pieces (Edit x) e = cc
no_pieces (Undo x) e = refl

pub hits_none : (op : Operation) (h : History) (c : Cell) → pieces_of op ≡ [] → hits everything op h c ≡ false
hits_none op h c e = rw (e, no_ranges (seq_where (both everything (version_of op)) h) 0 c) refl

-- the facts after an undo
pub undo_told : (h : History) (op : Operation) → Ready h → answer h [] op ≡ Good → is_edit op ≡ false
    → cell_facts (h ++ op ∷ []) ≡ map (fact_anew (by_stamp op (newest_first h))) (cell_facts h)
undo_told h op r g i =
    let k = checked_of h op g in
    let f : Fits h op = fits_of h op r.0 k.0 k.1 in
    ap (λ (s : List PathCell). map (fact (h ++ op ∷ [])) (cells s)) ((good_more h op r g).1 ∙ none_laid (pieces_of op) (no_pieces op i))
    ∙ each_now f (newest_desc h r.0.distinct) (seq h)
  where
    none_laid : (ps : List Piece) → ps ≡ [] → lay (sees (version_of op)) (stamp_of op) 0 ps (seq h) ≡ seq h
    none_laid ps e = rw e refl

    now : Fits h op → Desc (newest_first h) → (c : Cell) → fact (h ++ op ∷ []) c ≡ fact_anew (by_stamp op (newest_first h)) (fact h c)
    now f d c = rw (
      shown_more h op c f,
      newest_append h op,
      late_deletions everything op (newest_first h) c f.apart d refl,
      hits_none op (newest_first h) c (no_pieces op i),
    ) refl

    each_now : Fits h op → Desc (newest_first h) → (s : List PathCell) → map (fact (h ++ op ∷ [])) (cells s) ≡ map (fact_anew (by_stamp op (newest_first h))) (map (fact h) (cells s))
    each_now f d [] = refl
    each_now f d (p ∷ s) = rw (now f d p.cell) (ap (λ (z : List Fact). fact_anew (by_stamp op (newest_first h)) (fact h p.cell) ∷ z) (each_now f d s))
