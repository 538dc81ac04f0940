-- A walk over whole runs makes whole runs.
use Rattle.op_model.proofs.Elements.{each_map, each_append}
use Rattle.std.proofs.Common.{◌≡◌, ◌<◌, ◌+◌, List, [], ◌∷◌, ◌++◌, sym, subst, true}
use Rattle.std.specs.List.{AllByRecursion}
use Rattle.std.specs.Prelude.{IsUtf8}
use Rattle.lamport_clock.specs.Versions.{sees}
use Rattle.op_model.specs.declared.operation.Operation.{Operation}
use Rattle.op_model.specs.declared.operation.Piece.{Piece}
use Rattle.op_model.specs.Operations.{stamp_of, version_of, pieces_of, is_edit}
use Rattle.op_model.specs.Histories.{History, Distinct, newest_first, kept_history, seen_history}
use Rattle.op_model.specs.Domains.{IsProper}
use Rattle.op_model.specs.Shown.{IsCell, new_bytes}
use Rattle.op_model.specs.Facts.{Fact, Marking, cell_facts, edit_marking}
use Rattle.op_model.specs.Walked.{Run, IsWhole, facts_of, walk}
use Rattle.op_model.specs.Answers.{answer}
use Rattle.op_model.specs.Answers.Answer.{Good}
use Rattle.op_model.specs.Lawful.{Lawful}
use Rattle.op_model.proofs.answers.Good.{Ready, lawful_ready, good_more}
use Rattle.op_model.proofs.answers.Counted.{lawful_counted}
use Rattle.op_model.proofs.shown.Walking.{walk_some}
use Rattle.op_model.proofs.shown.OnePass.{walk_told, count_seen, marking_same}
use Rattle.op_model.proofs.texts.Utf8Runs.{Utf8}
use Rattle.op_model.proofs.texts.WholeTexts.{byte_of, walk_whole, boundary_of, of_boundary}
use Rattle.op_model.proofs.texts.WholeRuns.{Texts, Cut, told_cells, cut_runs, utf8_runs}

pub texts_of : (h : History) → AllByRecursion IsProper h → Texts h
texts_of h e = each_map IsProper (λ (o : Operation). AllByRecursion (λ (p : Piece). IsUtf8 p.text) (pieces_of o)) (λ o p. p.1) h e

pub walk_cut : (h : History) (op : Operation) (rs : List Run) → Lawful h → AllByRecursion IsProper h → IsProper op → answer h [] op ≡ Good → is_edit op ≡ true
    → AllByRecursion (λ (r : Run). 0 < r.len) rs → facts_of rs ≡ cell_facts h → AllByRecursion (IsWhole h) rs
    → AllByRecursion (IsWhole (h ++ op ∷ [])) (walk (edit_marking (stamp_of op) (seen_history h (version_of op)) (version_of op)) (sees (version_of op)) (stamp_of op) 0 0 (pieces_of op) rs)
walk_cut h op rs l e f g i s t w =
    let r : Ready h = lawful_ready h l in
    let n : History = h ++ op ∷ [] in
    let m : Marking = edit_marking (stamp_of op) (kept_history (sees (version_of op)) (newest_first h)) (version_of op) in
    let d : Distinct n = (good_more h op r g).0.0.distinct in
    let u : Texts n = texts_of n (each_append IsProper h (op ∷ []) e (f, tt)) in
    let to : List Run = walk m (sees (version_of op)) (stamp_of op) 0 0 (pieces_of op) rs in
    let c = each_map (IsWhole h) (λ (x : Run). Cut h r.0.distinct x.stamp x.offset x.len)
    (λ x k. (boundary_of (new_bytes h x.stamp) x.offset k.0, boundary_of (new_bytes h x.stamp) (x.offset + x.len) k.1)) rs w in
    let v : Utf8 (byte_of n) to = walk_whole h op rs r g f.1 t (utf8_runs h r.0.distinct (texts_of h e) rs c) in
    let q : facts_of to ≡ cell_facts n = walk_told h op rs r (lawful_counted h l) g i s t in
    let k = cut_runs n d u to (walk_some m (sees (version_of op)) (stamp_of op) 0 0 (pieces_of op) rs s)
    (subst (λ (x : List Fact). AllByRecursion (λ (y : Fact). IsCell n y.cell) x) (sym q) (told_cells n d)) v in
    subst (λ (x : Marking). AllByRecursion (IsWhole n) (walk x (sees (version_of op)) (stamp_of op) 0 0 (pieces_of op) rs))
    (marking_same (stamp_of op) (kept_history (sees (version_of op)) (newest_first h)) (seen_history h (version_of op)) (version_of op) (count_seen h (version_of op)))
    (each_map (λ (x : Run). Cut n d x.stamp x.offset x.len) (IsWhole n) (λ x b. (of_boundary (new_bytes n x.stamp) x.offset b.0, of_boundary (new_bytes n x.stamp) (x.offset + x.len) b.1)) to k)
