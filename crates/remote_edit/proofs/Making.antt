-- An edit that a replica makes may be placed, and at what cost.
use Rattle.std.proofs.Common.{◌≡◌, ℕ, ◌+◌, ◌*◌, ◌≤◌, ◌^◌, List, [], length, map, refl, sym, ap, subst, ◌∙◌, arith}
use Rattle.std.proofs.Math.Nat.{le-mul_of_pos_right}
use Rattle.std.proofs.lemmas.List.{length-map}
use Rattle.lamport_clock.specs.declared.stamp.Lamport.{Lamport}
use Rattle.lamport_clock.specs.Versions.{Entries, sees}
use Rattle.op_model.specs.declared.operation.Operation.{Operation}
use Rattle.op_model.specs.declared.operation.Operation.TheVariants.{Edit}
use Rattle.op_model.specs.declared.operation.Piece.{Piece}
use Rattle.op_model.specs.Operations.{version_of, pieces_of, text_total}
use Rattle.op_model.specs.Histories.{History, newest_first}
use Rattle.op_model.specs.Cells.{seq_where}
use Rattle.op_model.specs.Lawful.{Lawful}
use Rattle.op_model.specs.Walked.{Ordered}
use Rattle.op_model.specs.Answers.{answer}
use Rattle.op_model.specs.Answers.Answer.{Good}
use Rattle.op_model.specs.Made.{local_edit, full_piece}
use Rattle.op_model.proofs.answers.Counted.{good_ordered}
use Rattle.op_model.proofs.MainLaws.{edits_are_good}
use Rattle.op_model.proofs.answers.MadeGood.{total_full}
use Rattle.op_model.proofs.answers.Local.{local_edit_is}
use Rattle.op_model.proofs.shown.Alike.{kept_len_seen}
use Rattle.op_model.proofs.texts.Pieces.{ordered_up}
use Rattle.undo_map.specs.declared.entry.UndoEntry.{UndoEntry}
use Rattle.fragments.specs.declared.fragment.Fragment.{Fragment}
use Rattle.fragments.specs.DeletedRuns.{IndexState}
use Rattle.fragments.specs.Stand.{Tell, runs}
use Rattle.fragments.specs.Laws.{cells_len}
use Rattle.remote_edit.specs.Offsets.{piece_in}
use Rattle.remote_edit.specs.Costs.{touch_count, touch_count_behind}
use Rattle.remote_edit.specs.Starts.{AllSeen}
use Rattle.remote_edit.specs.Placing.{MayPlace, MayMake}
use Rattle.remote_edit.proofs.Standing.{fit_start, all_seen}
use Rattle.remote_edit.proofs.FullIn.{pieces_are}
use Rattle.remote_edit.proofs.Passing.{seen_within}

-- the pieces of a good edit are in order
in_order : (h : History) (op : Operation) (fs : List Fragment) → Lawful h → answer h [] op ≡ Good → Tell fs h → cells_len fs ≤ 2 ^ 40 → Ordered 0 (2 ^ 40) (pieces_of op)
in_order h op fs l g t b =
    let n = kept_len_seen h op (runs fs) l g t in
    let w = seen_within (version_of op) fs in
    ordered_up 0 (length (seq_where (sees (version_of op)) (newest_first h))) (2 ^ 40) (pieces_of op) (omega (arith, n, w, b)) (good_ordered h op g)

module _ (fs : List Fragment) (w : IndexState) (u : List UndoEntry) (t : Lamport) (v : Entries) (ps : List Piece) (m : MayMake fs w u t v ps) where
  pub may_place : (qs : List Piece) → qs ≡ map (full_piece m.history) ps → MayPlace fs w u (Edit (record { stamp = t; version = v; pieces = qs }))
  may_place qs e =
      let o : Edit (record { stamp = t; version = v; pieces = qs }) ≡ local_edit m.history t.replica ps = local_edit_is m.history t ps qs v m.value m.sees e in
      let g = (edits_are_good m.limits m.history t.replica ps m.lawful m.proper m.replica m.faultless).0 in
      let k : text_total qs ≡ text_total ps = ap text_total e ∙ total_full m.history ps in
      let r = m.room in
      record {
        history = m.history;
        stands = m.stands;
        lawful = m.lawful;
        good = subst (λ (x : Operation). answer m.history [] x ≡ Good) (sym o) g;
        room = omega (arith, k, r);
      }

  pub room_in : cells_len fs ≤ 2 ^ 40
  room_in = (fit_start fs w u (Edit (record { stamp = t; version = v; pieces = map (full_piece m.history) ps })) (may_place (map (full_piece m.history) ps) refl)).0.1

  -- the replica has seen all fragments
  pub seen_in : AllSeen v fs
  seen_in = subst (λ (x : Entries). AllSeen x fs) (sym m.sees) (all_seen m.history fs m.lawful m.stands.cells m.stands.filled)

  pub ordered_in : (qs : List Piece) → qs ≡ map (full_piece m.history) ps → Ordered 0 (2 ^ 40) qs
  ordered_in qs e = let p = may_place qs e in in_order p.history (Edit (record { stamp = t; version = v; pieces = qs })) fs p.lawful p.good p.stands.cells room_in

  -- the steps of the pieces, by the changes
  pub steps_in : (qs : List Piece) → qs ≡ map (full_piece m.history) ps → (old new h : ℕ) → new ≤ old + 256 * (length qs + touch_count_behind 0 qs fs) → new ≤ old + 256 * (length ps + touch_count fs ps + 1) * (h + 1)
  steps_in qs e old new h l =
      let i : qs ≡ map (piece_in fs) ps = e ∙ sym (pieces_are m.history fs m.stands.cells ps) in
      let a : length qs ≡ length ps = ap length i ∙ length-map ps (piece_in fs) in
      let b : touch_count_behind 0 qs fs ≡ touch_count fs ps = ap (λ (q : List Piece). touch_count_behind 0 q fs) i in
      let k : 256 * (length ps + touch_count fs ps + 1) ≤ 256 * (length ps + touch_count fs ps + 1) * (h + 1) = le-mul_of_pos_right (256 * (length ps + touch_count fs ps + 1)) (omega arith) in
      omega (arith, l, a, b, k)
