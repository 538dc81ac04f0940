-- Fragments that begin and end between characters, through an operation.
use Rattle.op_model.proofs.Elements.{each_filter as each_kept}
use Rattle.std.proofs.Common.{◌≡◌, ℕ, zero, suc, ◌+◌, Bool, true, false, cond, append-nil, List, [], ◌∷◌, ◌++◌, length, map, get_or, refl, sym, ap, ◌∙◌, arith, subst, inl, inr, append_assoc, length-append}
use Rattle.std.proofs.lemmas.Bool.{cases_Bool}
use Rattle.std.proofs.lemmas.Str.{IsCharBoundary-start}
use Rattle.std.specs.List.{AllByRecursion, filter}
use Rattle.std.specs.Str.{IsUtf8}
use Rattle.std.specs.Prelude.{IsCharBoundary}
use Rattle.std.proofs.lemmas.List.{nil_from_length}
use Rattle.lamport_clock.specs.declared.stamp.Lamport.{Lamport}
use Rattle.lamport_clock.specs.Stamps.{later}
use Rattle.lamport_clock.specs.Versions.{sees}
use Rattle.lamport_clock.proofs.Later.{same_stamp_refl}
use Rattle.lamport_clock.proofs.Sees.{passed_unseen}
use Rattle.op_model.specs.declared.operation.Operation.{Operation}
use Rattle.op_model.specs.declared.operation.Piece.{Piece}
use Rattle.op_model.specs.Operations.{stamp_of, version_of, pieces_of}
use Rattle.op_model.specs.Edits.{is_boundary}
use Rattle.op_model.specs.Histories.{base, History, Distinct, newest_first, seen_history}
use Rattle.op_model.specs.Cells.{Cell, PathCell, seq, seq_where, cells}
use Rattle.op_model.specs.Shown.{texts, new_bytes, full, full_where}
use Rattle.op_model.specs.Answers.{answer}
use Rattle.op_model.specs.Answers.Answer.{Good}
use Rattle.op_model.specs.Lawful.{Lawful}
use Rattle.op_model.specs.Facts.{Fact, alike, Marking}
use Rattle.op_model.proofs.order.Restricted.{restrict}
use Rattle.op_model.proofs.histories.OneMore.{Fits}
use Rattle.op_model.proofs.shown.Bytes.{full_seen}
use Rattle.op_model.proofs.answers.Passed.{passed, ranged}
use Rattle.op_model.proofs.answers.Counted.{good_ordered}
use Rattle.op_model.proofs.answers.Good.{lawful_ready, good_more}
use Rattle.op_model.proofs.texts.Utf8Runs.{bytes, kept_bytes, Utf8, NewUtf8, walk_utf8, facts_kept}
use Rattle.op_model.proofs.texts.WholeTexts.{byte_of, byte_is, in_last, kept_told, new_text, of_boundary, bounds_of}
use Rattle.undo_map.specs.declared.entry.UndoEntry.{UndoEntry}
use Rattle.fragments.specs.declared.fragment.Fragment.{Fragment}
use Rattle.fragments.specs.DeletedRuns.{IndexState}
use Rattle.fragments.specs.Stand.{runs, Stand}
use Rattle.remote_edit.specs.Marks.{marking}
use Rattle.remote_edit.specs.Walk.{changes}
use Rattle.remote_edit.specs.Carried.{cell_bytes, IsText}
use Rattle.remote_edit.specs.CarriedLaws.{BaseIsWhole}
use Rattle.remote_edit.proofs.Changing.{changing, no_text, ordered_changing}
use Rattle.remote_edit.proofs.Texts.{old_bytes}
use Rattle.remote_edit.proofs.EditTexts.{placed_fragments, placed_runs, fits}

-- ---- bytes of runs and of fragments

-- the bytes of alike cells are those of their edit
pub alike_bytes : (f : Cell → ℕ) (t : Lamport) (k n : ℕ) (v : Bool) (d : List Lamport) → bytes f (alike t k n v d) ≡ cell_bytes f t k n
alike_bytes f t k zero v d = refl
alike_bytes f t k (suc n) v d = ap (λ (z : List ℕ). f (record { stamp = t; k = k }) ∷ z) (alike_bytes f t (suc k) n v d)

pub texts_are : (f : Cell → ℕ) (fs : List Fragment) → Utf8 f (runs fs) → AllByRecursion (IsText f) fs
texts_are f [] u = tt
texts_are f (x ∷ fs) u = (subst IsUtf8 (alike_bytes f x.stamp x.offset x.len x.visible x.deletions) u.0, texts_are f fs u.1)

pub texts_of_runs : (f : Cell → ℕ) (fs : List Fragment) → AllByRecursion (IsText f) fs → Utf8 f (runs fs)
texts_of_runs f [] u = tt
texts_of_runs f (x ∷ fs) u = (subst IsUtf8 (sym (alike_bytes f x.stamp x.offset x.len x.visible x.deletions)) u.0, texts_of_runs f fs u.1)

pub base_whole : BaseIsWhole
base_whole id t u =
    let s : Lamport = record { value = 1; replica = 0 } in
    let n : new_bytes (base t ∷ []) s ≡ t = ap (λ (b : Bool). cond b (t ++ []) []) (same_stamp_refl s) ∙ append-nil t in
    let e : 0 + length t ≡ length t = omega arith in
    let last : IsCharBoundary t (0 + length t) = (omega (arith, e), λ l g. absurd (omega (arith, e, l))) in
    ((ap (λ (x : List ℕ). is_boundary x 0) n ∙ of_boundary t 0 (IsCharBoundary-start t u), ap (λ (x : List ℕ). is_boundary x (0 + length t)) n ∙ of_boundary t (0 + length t) last), tt)

-- ---- an edit

new_changing : (f : Cell → ℕ) (m : Marking) (keep : Lamport → Bool) (t : Lamport) (nu : (u : Lamport) → later u t ≡ true → keep u ≡ false) (whole : List ℕ)
    → ((k : ℕ) → f (record { stamp = t; k = k }) ≡ get_or whole k 0)
    → (pre : List ℕ) (ps : List Piece) (k : ℕ) → whole ≡ pre ++ texts ps → k ≡ length pre → AllByRecursion (λ (p : Piece). IsUtf8 p.text) ps → NewUtf8 f m keep t nu k (changing ps)
new_changing f m keep t nu whole g pre [] k e l u = tt
new_changing f m keep t nu whole g pre (p ∷ ps) k e l u = elim (cases_Bool (changes p)) [
  | inl c ↦ (let n : length (pre ++ p.text) ≡ length pre + length p.text = length-append pre p.text in
      rw c ((
        subst IsUtf8 (sym (new_text f t whole g pre p.text (texts ps) k e l)) u.0,
        new_changing f m keep t nu whole g (pre ++ p.text) ps (k + length p.text) (e ∙ sym (append_assoc pre p.text (texts ps))) (omega (arith, l, n)) u.1,
      )))
  | inr c ↦ rw c (new_changing f m keep t nu whole g pre ps k (e ∙ ap (λ (x : List ℕ). pre ++ (x ++ texts ps)) (nil_from_length p.text (no_text p c))) l u.1)
]

module _ (h : History) (op : Operation) (u : List UndoEntry) (fs : List Fragment) (i : IndexState) (s : Stand fs i u h) (l : Lawful h) (g : answer h [] op ≡ Good) where
  abbrev next : History
  next = h ++ op ∷ []

  abbrev keep : Lamport → Bool
  keep = sees (version_of op)

  d : Distinct h
  d = (lawful_ready h l).0.distinct

  d2 : Distinct next
  d2 = (good_more h op (lawful_ready h l) g).0.0.distinct

  -- the bytes that the edit's version sees
  kept_full : kept_bytes (byte_of next) keep (runs fs) ≡ full (seen_history h (version_of op))
  unfolding seq full_where
  kept_full =
      sym (facts_kept (byte_of next) keep (runs fs)) ∙ old_bytes h op d d2 (λ q. keep q.cell.stamp) fs s.cells
      ∙ ap (λ (x : List Fact). bytes (byte_of h) (filter (λ (q : Fact). keep q.cell.stamp) x)) s.cells ∙ kept_told h keep (seq h)
      ∙ ap (λ (x : List PathCell). map (byte_of h) (cells x)) (restrict keep (newest_first h) (fits h op u fs i s l g).closed) ∙ sym (full_seen h (version_of op))

  pub placed_utf8 : AllByRecursion (λ (p : Piece). IsUtf8 p.text) (pieces_of op) → Utf8 (byte_of next) (runs fs) → Utf8 (byte_of next) (runs (placed_fragments h op u fs i s l g))
  placed_utf8 e w =
      let t : Lamport = stamp_of op in
      let m : Marking = marking u t (version_of op) in
      let f : Fits h op = fits h op u fs i s l g in
      let ps : List Piece = pieces_of op in
      let bs : List ℕ = full (seen_history h (version_of op)) in
      let nu : (x : Lamport) → later x t ≡ true → keep x ≡ false = λ x. passed_unseen (version_of op) t x f.above in
      let n : ℕ = length (seq_where keep (newest_first h)) in
      let b = each_kept (λ (p : Piece). IsCharBoundary bs p.start × IsCharBoundary bs p.end) changes ps (bounds_of bs ps (ranged bs ps (passed h [] op g).ranges).1) in
      subst (Utf8 (byte_of next)) (sym (placed_runs h op u fs i s l g))
      (walk_utf8 (byte_of next) m keep t nu bs n 0 0 (changing ps) (runs fs) kept_full (ordered_changing 0 n ps (good_ordered h op g)) b
      (new_changing (byte_of next) m keep t nu (texts ps) (λ k. byte_is next d2 op (in_last h op) k) [] ps 0 refl refl e) w)
