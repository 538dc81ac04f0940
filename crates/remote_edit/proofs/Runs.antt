-- The walk over fragments is the walk over runs of cells.
use Rattle.std.proofs.Common.{◌≡◌, ℕ, zero, suc, ◌+◌, ◌-◌, ◌≤◌, Bool, Option, List, [], ◌∷◌, ◌++◌, length, refl, sym, ap, ◌∙◌, true, false, Some, None, inl, inr, leb, append_assoc, take, drop, take-append-drop}
use Rattle.std.specs.List.{AllByRecursion}
use Rattle.std.proofs.lemmas.Bool.{cases_Bool}
use Rattle.std.proofs.lemmas.List.{append-nil, map-append, drop_all}
use Rattle.lamport_clock.specs.declared.stamp.Lamport.{Lamport}
use Rattle.lamport_clock.specs.Stamps.{later}
use Rattle.lamport_clock.specs.Versions.{Entries, sees}
use Rattle.lamport_clock.proofs.Sees.{passed_unseen}
use Rattle.locators.specs.Locator.{between_digits}
use Rattle.undo_map.specs.declared.entry.UndoEntry.{UndoEntry}
use Rattle.undo_map.specs.Undos.{undo_entries}
use Rattle.op_model.specs.declared.operation.Piece.{Piece}
use Rattle.op_model.specs.declared.operation.Operation.{Operation}
use Rattle.op_model.specs.Operations.{stamp_of, version_of, pieces_of, is_edit}
use Rattle.op_model.specs.Histories.{History}
use Rattle.op_model.specs.Answers.{answer}
use Rattle.op_model.specs.Answers.Answer.{Good}
use Rattle.op_model.specs.Lawful.{Lawful}
use Rattle.op_model.specs.Facts.{Marking}
use Rattle.op_model.specs.Walked.{Run, facts_of, Walked}
use Rattle.op_model.specs.Walked as W
use Rattle.op_model.proofs.MainLaws.{one_walk}
use Rattle.op_model.proofs.histories.OneMore.{Fits}
use Rattle.op_model.proofs.answers.Good.{lawful_ready, checked_of, fits_of}
use Rattle.fragments.specs.declared.fragment.Fragment.{Fragment}
use Rattle.fragments.specs.Stand.{run_of, runs, IsFilled, Tell}
use Rattle.fragments.proofs.Cells.{filled_runs}
use Rattle.remote_edit.specs.Marks.{was_shown, marking, touch}
use Rattle.remote_edit.specs.Walk.{last_id, front, new_fragment, next_id, Zip, advance, skip_later, put_new, one_piece, changes, walk}
use Rattle.remote_edit.proofs.Marks.{marking_told}
use Rattle.remote_edit.proofs.Changing.{changing, walk_changing}

-- a place among fragments is a place among their runs
record As (z : Zip) (pre : List Fragment) (w : Walked) : Type 0 where
  before : runs z.pre ≡ runs pre ++ w.out
  behind : runs z.rest ≡ w.rest

one_more : (pre : List Fragment) (f : Fragment) (out : List Run) → runs (pre ++ f ∷ []) ++ out ≡ runs pre ++ run_of f ∷ out
one_more pre f out = ap (λ (z : List Run). z ++ out) (map-append run_of pre (f ∷ [])) ∙ append_assoc (runs pre) (run_of f ∷ []) out

module _ (m : Option (List UndoEntry)) (t : Lamport) (v : Entries) (mk : Marking) (b : Bool) (like : (f : Fragment) → run_of (touch m t v f) ≡ W.mark_run mk b (run_of f)) where
  adv_as : (n : ℕ) (pre rest : List Fragment) → As (advance m t v n pre rest) pre (W.advance mk (sees v) b n (runs rest))
  adv_as zero pre [] = record { before = sym (append-nil (runs pre)); behind = refl }
  adv_as (suc n) pre [] = record { before = sym (append-nil (runs pre)); behind = refl }
  adv_as zero pre (f ∷ fs) = record { before = sym (append-nil (runs pre)); behind = refl }
  adv_as (suc n) pre (f ∷ fs) = elim (cases_Bool (sees v f.stamp)) [
    | inr s ↦ (let ih = adv_as (suc n) (pre ++ f ∷ []) fs in rw s (record { before = ih.before ∙ one_more pre f (W.advance mk (sees v) b (suc n) (runs fs)).out; behind = ih.behind }))
    | inl s ↦ elim (cases_Bool (leb f.len (suc n))) [
      | inl l ↦ (let ih = adv_as (suc n - f.len) (pre ++ touch m t v f ∷ []) fs in
          let o : List Run = (W.advance mk (sees v) b (suc n - f.len) (runs fs)).out in
          rw (s, l) (record { before = ih.before ∙ one_more pre (touch m t v f) o ∙ ap (λ (r : Run). runs pre ++ r ∷ o) (like f); behind = ih.behind }))
      | inr l ↦ (let a : Fragment = front f (suc n) (between_digits (last_id pre) f.id) in
          rw (s, l) (record { before = map-append run_of pre (touch m t v a ∷ []) ∙ ap (λ (r : Run). runs pre ++ r ∷ []) (like a); behind = refl }))
    ]
  ]

skip_as : (t : Lamport) (v : Entries) → ((u : Lamport) → later u t ≡ true → sees v u ≡ false) → (pre rest : List Fragment) → As (skip_later t v pre rest) pre (W.skip_later t (runs rest))
skip_as t v new pre [] = record { before = sym (append-nil (runs pre)); behind = refl }
skip_as t v new pre (f ∷ fs) = elim (cases_Bool (later f.stamp t)) [
  | inl s ↦ (let u = new f.stamp s in let ih = skip_as t v new (pre ++ f ∷ []) fs in rw (s, u) (record { before = ih.before ∙ one_more pre f (W.skip_later t (runs fs)).out; behind = ih.behind }))
  | inr s ↦ rw s (record { before = sym (append-nil (runs pre)); behind = refl })
]

put_as : (t : Lamport) (k n : ℕ) (pre rest : List Fragment) → (runs (put_new t k n pre rest).pre ≡ runs pre ++ W.new_runs t k n) × (runs (put_new t k n pre rest).rest ≡ runs rest)
put_as t k zero pre rest = (sym (append-nil (runs pre)), refl)
put_as t k (suc n) pre rest = (map-append run_of pre (new_fragment t k (suc n) (between_digits (last_id pre) (next_id rest)) ∷ []), refl)

touch_none : (mk : Marking) (t : Lamport) (v : Entries) (f : Fragment) → run_of (touch None t v f) ≡ W.mark_run mk false (run_of f)
touch_none mk t v f = refl

touch_some : (w : List UndoEntry) (t : Lamport) (v : Entries) (f : Fragment) → run_of (touch (Some w) t v f) ≡ W.mark_run (marking w t v) true (run_of f)
touch_some w t v f = elim (cases_Bool (was_shown w v f.stamp f.deletions)) [ inl e ↦ rw e refl | inr e ↦ rw e refl ]

four_on : (p a b c d : List Run) → (((p ++ a) ++ b) ++ c) ++ d ≡ p ++ (a ++ (b ++ (c ++ d)))
four_on p a b c d = append_assoc ((p ++ a) ++ b) c d ∙ append_assoc (p ++ a) b (c ++ d) ∙ append_assoc p a (b ++ (c ++ d))

module _ (w : List UndoEntry) (t : Lamport) (v : Entries) (new : (u : Lamport) → later u t ≡ true → sees v u ≡ false) where
  piece_as : (at k : ℕ) (p : Piece) (pre rest : List Fragment) → As (one_piece w t v (p.start - at) k p pre rest) pre (W.one_piece (marking w t v) (sees v) t at k p (runs rest))
  piece_as at k p pre rest =
      let mk : Marking = marking w t v in
      let a : Zip = advance None t v (p.start - at) pre rest in
      let b : Zip = skip_later t v a.pre a.rest in
      let c : Zip = put_new t k (length p.text) b.pre b.rest in
      let wa : Walked = W.advance mk (sees v) false (p.start - at) (runs rest) in
      let wb : Walked = W.skip_later t wa.rest in
      let wd : Walked = W.advance mk (sees v) true (p.end - p.start) wb.rest in
      let ea = adv_as None t v mk false (touch_none mk t v) (p.start - at) pre rest in
      let eb = skip_as t v new a.pre a.rest in
      let ec = put_as t k (length p.text) b.pre b.rest in
      let ed = adv_as (Some w) t v mk true (touch_some w t v) (p.end - p.start) c.pre c.rest in
      let rb : runs b.rest ≡ wb.rest = eb.behind ∙ ap (λ (z : List Run). (W.skip_later t z).rest) ea.behind in
      let rc : runs c.rest ≡ wb.rest = ec.1 ∙ rb in
      let ob : runs b.pre ≡ (runs pre ++ wa.out) ++ wb.out = eb.before ∙ ap (λ (z : List Run). z ++ (W.skip_later t (runs a.rest)).out) ea.before ∙ ap (λ (z : List Run). (runs pre ++ wa.out) ++ (W.skip_later t z).out) ea.behind in
      let oc : runs c.pre ≡ ((runs pre ++ wa.out) ++ wb.out) ++ W.new_runs t k (length p.text) = ec.0 ∙ ap (λ (z : List Run). z ++ W.new_runs t k (length p.text)) ob in
      record {
        before = ed.before ∙ ap (λ (z : List Run). z ++ (W.advance mk (sees v) true (p.end - p.start) (runs c.rest)).out) oc
            ∙ ap (λ (z : List Run). (((runs pre ++ wa.out) ++ wb.out) ++ W.new_runs t k (length p.text)) ++ (W.advance mk (sees v) true (p.end - p.start) z).out) rc
            ∙ four_on (runs pre) wa.out wb.out (W.new_runs t k (length p.text)) wd.out;
        behind = ed.behind ∙ ap (λ (z : List Run). (W.advance mk (sees v) true (p.end - p.start) z).rest) rc;
      }

  pub walk_as : (at k : ℕ) (ps : List Piece) (pre rest : List Fragment) → runs (walk w t v at k ps pre rest) ≡ runs pre ++ W.walk (marking w t v) (sees v) t at k (changing ps) (runs rest)
  walk_as at k [] pre rest = map-append run_of pre rest
  walk_as at k (p ∷ ps) pre rest = elim (cases_Bool (changes p)) [
    | inr s ↦ rw s (walk_as at k ps pre rest)
    | inl s ↦ (let z : Zip = one_piece w t v (p.start - at) k p pre rest in
        let o : Walked = W.one_piece (marking w t v) (sees v) t at k p (runs rest) in
        let e = piece_as at k p pre rest in
        let f : List Run → List Run = W.walk (marking w t v) (sees v) t p.end (k + length p.text) (changing ps) in
        rw s (walk_as p.end (k + length p.text) ps z.pre z.rest
        ∙ ap (λ (x : List Run). x ++ f (runs z.rest)) e.before ∙ ap (λ (x : List Run). (runs pre ++ o.out) ++ f x) e.behind ∙ append_assoc (runs pre) o.out (f o.rest)))
  ]

-- fragments with the cells of a history have, after the walk of an edit, those of the history with it
pub walk_tells : (h : History) (op : Operation) (fs : List Fragment) → Lawful h → answer h [] op ≡ Good → is_edit op ≡ true → AllByRecursion IsFilled fs → Tell fs h
    → Tell (walk (undo_entries h) (stamp_of op) (version_of op) 0 0 (pieces_of op) [] fs) (h ++ op ∷ [])
walk_tells h op fs l g e f s =
    let w : List UndoEntry = undo_entries h in
    let t : Lamport = stamp_of op in
    let v : Entries = version_of op in
    let k = checked_of h op g in
    let fit : Fits h op = fits_of h op (lawful_ready h l).0 k.0 k.1 in
    let some = filled_runs fs f in
    ap facts_of (walk_as w t v (λ u. passed_unseen v t u fit.above) 0 0 (pieces_of op) [] fs)
    ∙ walk_changing h op (marking w t v) (runs fs) l g some s
    ∙ ap (λ (m : Marking). facts_of (W.walk m (sees v) t 0 0 (pieces_of op) (runs fs))) (sym (marking_told t h v))
    ∙ one_walk h op (runs fs) l g e some s

-- the walk is at its end
pub ended : (w : List UndoEntry) (t : Lamport) (v : Entries) (at k i j : ℕ) (ps qs : List Piece) (xs whole : List Fragment) → qs ≡ ps → length qs ≤ j
    → walk w t v at k (drop j qs) (take i xs) (drop i xs) ≡ whole → xs ≡ whole
ended w t v at k i j ps qs xs whole q l e =
    let none : drop j qs ≡ [] = drop_all j qs l in
    sym (take-append-drop i xs) ∙ ap (λ (z : List Piece). walk w t v at k z (take i xs) (drop i xs)) (sym none) ∙ e
