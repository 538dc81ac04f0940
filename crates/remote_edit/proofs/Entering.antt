-- The index in the steps of a gather.
use Rattle.std.proofs.Common.{◌≡◌, ℕ, ◌+◌, ◌<◌, ◌≤◌, ◌^◌, Option, Bool, cond, true, false, List, [], ◌∷◌, ◌++◌, length, take, refl, sym, ap, ◌∙◌, arith, subst, Some, None, append_assoc, length-append}
use Rattle.std.specs.List.{AllByRecursion}
use Rattle.lamport_clock.specs.declared.stamp.Lamport.{Lamport}
use Rattle.lamport_clock.specs.Versions.{Entries}
use Rattle.op_model.specs.Facts.{with_deletion}
use Rattle.op_model.proofs.Elements.{each_append, each_left, each_right}
use Rattle.undo_map.specs.declared.entry.UndoEntry.{UndoEntry}
use Rattle.fragments.specs.declared.fragment.Fragment.{Fragment}
use Rattle.fragments.specs.declared.index_entry.IndexEntry.{IndexEntry}
use Rattle.fragments.specs.Index.{with_entry}
use Rattle.fragments.specs.DeletedRuns.{IndexState, with_insertion}
use Rattle.fragments.specs.Stand.{IsFilled, entry_of}
use Rattle.fragments.specs.Laws.{cells_len}
use Rattle.fragments.proofs.Counts.{cells_len-append}
use Rattle.fragments.proofs.Cells.{few}
use Rattle.fragments.proofs.Indexes.{few_entries}
use Rattle.remote_edit.specs.Marks.{was_shown, touch, touch_index}
use Rattle.remote_edit.specs.Walk.{Fit, front, back, new_fragment}
use Rattle.remote_edit.specs.Steps.{head, tail}
use Rattle.remote_edit.specs.Indexes.{AreEntered, IsIndexed}
use Rattle.remote_edit.proofs.Places.{touch_len}
use Rattle.remote_edit.proofs.Gathers.{headed, fit_swap}
use Rattle.remote_edit.proofs.Deleting.{touch_entries, touch_numbered, runs_touched, runs_split, runs_new}
use Rattle.remote_edit.proofs.Indexing.{indexed_same, indexed_front, indexed_split, indexed_new}

few_in : (t : Lamport) (k : ℕ) (fs : List Fragment) (w : List IndexEntry) → AreEntered t k fs w → Fit fs → length w ≤ 2 ^ 40
few_in t k fs w x h = let a = few_entries fs w x.ascending x.entries in let b = few fs h.0 in let c = h.1 in omega arith

entry_kept : (m : Option (List UndoEntry)) (t : Lamport) (v : Entries) (f : Fragment) → entry_of (touch m t v f) ≡ entry_of f
entry_kept None t v f = refl
entry_kept (Some w) t v f = elim (was_shown w v f.stamp f.deletions) as (λ (b : Bool). entry_of (cond b (record { id = f.id; stamp = f.stamp; offset = f.offset; len = f.len; visible = false; deletions = with_deletion t f.deletions; max_undos = f.max_undos }) f) ≡ entry_of f) [ true ↦ refl | false ↦ refl ]

-- one that is touched
touched : (m : Option (List UndoEntry)) (t : Lamport) (v : Entries) (k : ℕ) (pre r : List Fragment) (f g : Fragment) (w : IndexState) → g ≡ touch m t v f
    → IsIndexed t k (pre ++ f ∷ r) w → IsIndexed t k (pre ++ g ∷ r) (touch_index m t v f w)
touched m t v k pre r f g w x p = record {
  entered =
      subst (AreEntered t k (pre ++ g ∷ r)) (sym (touch_entries m t v f w))
      (indexed_same t k pre r f g w.entries (ap entry_of x ∙ entry_kept m t v f) (ap (λ (z : Fragment). z.len) x ∙ (touch_len m t v f).0) p.entered);
  numbered = touch_numbered m t v f w p.numbered;
  deletions = rw x (runs_touched m t v pre r f w p.numbered p.deletions);
}

-- over one, touched
pub enter_none : (m : Option (List UndoEntry)) (t : Lamport) (v : Entries) (k k2 : ℕ) (pre rest pre2 rest2 : List Fragment) (f g : Fragment) (w w2 : IndexState) → Some f ≡ head rest → g ≡ touch m t v f → pre2 ≡ pre ++ g ∷ [] → rest2 ≡ tail rest
    → k2 ≡ k → w2 ≡ touch_index m t v f w → IsIndexed t k (pre ++ rest) w → IsIndexed t k2 (pre2 ++ rest2) w2
enter_none m t v k k2 pre rest pre2 rest2 f g w w2 e x a b ek ew h =
    let p : IsIndexed t k (pre ++ f ∷ tail rest) w = subst (λ (z : List Fragment). IsIndexed t k (pre ++ z) w) (headed rest f e) h in
    let q : IsIndexed t k (pre ++ g ∷ tail rest) (touch_index m t v f w) = touched m t v k pre (tail rest) f g w x p in
    rw (a, b, ek, ew) (subst (λ (z : List Fragment). IsIndexed t k z (touch_index m t v f w)) (sym (append_assoc pre (g ∷ []) (tail rest))) q)

-- a split
module _ (t : Lamport) (k : ℕ) (pre rest : List Fragment) (f a b : Fragment) (n : ℕ) (id : List ℕ) (w : IndexState) (e : Some f ≡ head rest) (ea : a ≡ front f n id) (eb : b ≡ back f n) (h : 0 < n) (l : n < f.len) (fi : Fit (pre ++ rest)) (x : IsIndexed t k (pre ++ rest) w) where
  fi_of : Fit (pre ++ f ∷ tail rest)
  fi_of = subst (λ (z : List Fragment). Fit (pre ++ z)) (headed rest f e) fi

  x_of : IsIndexed t k (pre ++ f ∷ tail rest) w
  x_of = subst (λ (z : List Fragment). IsIndexed t k (pre ++ z) w) (headed rest f e) x

  length_same : (p r : List Fragment) (y z : Fragment) → length (p ++ y ∷ r) ≡ length (p ++ z ∷ r)
  length_same p r y z = length-append p (y ∷ r) ∙ sym (length-append p (z ∷ r))

  pub front_room : length (with_entry (entry_of a) w.entries) ≤ 2 ^ 40
  front_room =
      let y = indexed_front t k pre (tail rest) f n id w.entries fi_of.0 h l x_of.entered in
      let c = few_entries (pre ++ front f n id ∷ tail rest) (with_entry (entry_of (front f n id)) w.entries) y.ascending y.entries in
      let d = few (pre ++ f ∷ tail rest) fi_of.0 in
      let g = length_same pre (tail rest) f (front f n id) in
      let m = fi_of.1 in
      let i : length (with_entry (entry_of a) w.entries) ≡ length (with_entry (entry_of (front f n id)) w.entries) = ap (λ (z : Fragment). length (with_entry (entry_of z) w.entries)) ea in
      omega arith

  both_filled : AllByRecursion IsFilled (front f n id ∷ back f n ∷ [])
  both_filled = let o = each_right IsFilled pre (f ∷ tail rest) fi_of.0 in let o1 = o.0.1 in ((h, omega arith), (((omega arith), (omega arith)), tt))

  split_entered : AreEntered t k (pre ++ front f n id ∷ back f n ∷ tail rest) (with_entry (entry_of b) (with_entry (entry_of a) w.entries))
  split_entered = rw (ea, eb) (indexed_split t k pre (tail rest) f n id w.entries fi_of.0 h l x_of.entered)

  abbrev both : IndexState
  both = with_insertion (entry_of b) (with_insertion (entry_of a) w)

  split_indexed : IsIndexed t k (pre ++ front f n id ∷ back f n ∷ tail rest) both
  split_indexed = record { entered = split_entered; numbered = x_of.numbered; deletions = runs_split pre (tail rest) f n id w.deletions l x_of.deletions }

  pub back_room : length (with_entry (entry_of b) (with_entry (entry_of a) w.entries)) ≤ 2 ^ 40
  back_room = few_in t k (pre ++ front f n id ∷ back f n ∷ tail rest) (with_entry (entry_of b) (with_entry (entry_of a) w.entries)) split_entered
      (fit_swap pre (tail rest) (front f n id ∷ back f n ∷ []) f fi_of both_filled (omega arith)).0

  pub enter_split : (m : Option (List UndoEntry)) (v : Entries) (g : Fragment) (k2 : ℕ) (w2 : IndexState) (pre2 rest2 : List Fragment) → g ≡ touch m t v a → pre2 ≡ pre ++ g ∷ [] → rest2 ≡ b ∷ tail rest → k2 ≡ k → w2 ≡ touch_index m t v a both → IsIndexed t k2 (pre2 ++ rest2) w2
  enter_split m v g k2 w2 pre2 rest2 eg ep er ek ew =
      let q : IsIndexed t k (pre ++ g ∷ back f n ∷ tail rest) (touch_index m t v (front f n id) both) =
      touched m t v k pre (back f n ∷ tail rest) (front f n id) g both (eg ∙ ap (touch m t v) ea) split_indexed in
      let r : rest2 ≡ back f n ∷ tail rest = er ∙ ap (λ (z : Fragment). z ∷ tail rest) eb in
      let i : w2 ≡ touch_index m t v (front f n id) both = ew ∙ ap (λ (z : Fragment). touch_index m t v z both) ea in
      rw (ep, r, ek, i) (subst (λ (z : List Fragment). IsIndexed t k z (touch_index m t v (front f n id) both)) (sym (append_assoc pre (g ∷ []) (back f n ∷ tail rest))) q)

-- new cells
module _ (t : Lamport) (k n : ℕ) (pre rest : List Fragment) (f : Fragment) (id : List ℕ) (w : IndexState) (e : f ≡ new_fragment t k n id) (h : 0 < n) (o : k + n < 2 ^ 64) (fi : Fit (pre ++ rest)) (r : cells_len (pre ++ rest) + n ≤ 2 ^ 40) (x : IsIndexed t k (pre ++ rest) w) where
  new_entered : AreEntered t (k + n) (pre ++ f ∷ rest) (with_entry (entry_of f) w.entries)
  new_entered = rw e (indexed_new t k n pre rest id w.entries fi.0 h o x.entered)

  new_indexed : IsIndexed t (k + n) (pre ++ f ∷ rest) (with_insertion (entry_of f) w)
  new_indexed = record { entered = new_entered; numbered = x.numbered; deletions = rw e (runs_new pre rest t k n id w.deletions x.deletions) }

  pub new_room : length (with_entry (entry_of f) w.entries) ≤ 2 ^ 40
  new_room =
      let g = each_append IsFilled pre (new_fragment t k n id ∷ rest) (each_left IsFilled pre rest fi.0) ((h, o), each_right IsFilled pre rest fi.0) in
      let b1 = cells_len-append pre rest in
      let b2 = cells_len-append pre (new_fragment t k n id ∷ rest) in
      few_in t (k + n) (pre ++ f ∷ rest) (with_entry (entry_of f) w.entries) new_entered (rw e (g, omega arith))

  pub enter_new : (k2 : ℕ) (w2 : IndexState) (pre2 : List Fragment) → pre2 ≡ pre ++ f ∷ [] → k2 ≡ k + n → w2 ≡ with_insertion (entry_of f) w → IsIndexed t k2 (pre2 ++ rest) w2
  enter_new k2 w2 pre2 ep ek ew = rw (ep, ek, ew) (subst (λ (z : List Fragment). IsIndexed t (k + n) z (with_insertion (entry_of f) w)) (sym (append_assoc pre (f ∷ []) rest)) new_indexed)

-- the next one kept
pub all_kept : (pre rest pre2 rest2 : List Fragment) → pre2 ≡ pre ++ take 1 rest → rest2 ≡ tail rest → pre2 ++ rest2 ≡ pre ++ rest
all_kept pre [] pre2 rest2 a b = rw (a, b) (append_assoc pre [] [])
all_kept pre (f ∷ r) pre2 rest2 a b = rw (a, b) (append_assoc pre (f ∷ []) r)

pub same_indexed : (t : Lamport) (k k2 : ℕ) (fs gs : List Fragment) (w w2 : IndexState) → k2 ≡ k → gs ≡ fs → w2 ≡ w → IsIndexed t k fs w → IsIndexed t k2 gs w2
same_indexed t k k2 fs gs w w2 a b c h = rw (a, b, c) h
