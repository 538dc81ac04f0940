-- The moves of an edit where fragments that have it come in the place of a range of others.
use Rattle.std.proofs.Common.{◌≡◌, ℕ, zero, suc, ◌+◌, ◌-◌, ◌<◌, ◌≤◌, Bool, true, false, cond, Some, List, [], ◌∷◌, ◌++◌, length, take, drop, get_or, refl, sym, ap, ◌∙◌, arith, subst, append_assoc, append-nil, drop-cons, take-append-drop}
use Rattle.std.specs.List.{AllByRecursion, slice_get}
use Rattle.lamport_clock.specs.declared.stamp.Lamport.{Lamport}
use Rattle.lamport_clock.specs.Stamps.{same_stamp}
use Rattle.op_model.proofs.Elements.{each_left, each_right}
use Rattle.undo_map.specs.declared.entry.UndoEntry.{UndoEntry}
use Rattle.fragments.specs.declared.fragment.Fragment.{Fragment}
use Rattle.fragments.specs.declared.fragment.FragmentSummary.{FragmentSummary}
use Rattle.fragments.specs.Summaries.{no_fragments, summaries, summary_of}
use Rattle.fragments.specs.Stand.{run_of, runs}
use Rattle.fragments.specs.Laws.{shown_len}
use Rattle.fragments.proofs.Cells.{shown_append_len}
use Rattle.sum_tree.specs.Laws.{fold}
use Rattle.sum_tree.specs.Spliced.{splice_list}
use Rattle.remote_edit.specs.declared.moves.Move.{Move}
use Rattle.remote_edit.specs.declared.passed.Passed.{Passed}
use Rattle.remote_edit.specs.Moves.{with_move}
use Rattle.remote_edit.specs.Marks.{is_shown}
use Rattle.remote_edit.specs.Carried.{hidden_len, CarryOn}
use Rattle.remote_edit.specs.Places.{IsAfter}
use Rattle.remote_edit.specs.BeforeEdit.{without_deletion, before_edit, edit_move, runs_by, InOrder, Brings, IsUntouched, each_move}
use Rattle.remote_edit.proofs.MovesAmong.{kept_moves}
use Rattle.remote_edit.proofs.Gathers.{head_drop, headed, tail_drop}
use Rattle.remote_edit.proofs.PassedPlaces.{hidden_append_len, whole_sum}
use Rattle.remote_edit.proofs.Carrying.{go_on, stay, on_stretch}
use Rattle.remote_edit.proofs.EditMoves.{Stepped, step, same_undeleted}

-- ---- the cells that are left

-- after the next fragment
pub left_one : (x : Fragment) (fs : List Fragment) → (shown_len (x ∷ fs) ≡ cond x.visible x.len 0 + shown_len fs) × (hidden_len (x ∷ fs) ≡ cond x.visible 0 x.len + hidden_len fs)
left_one x fs = go x.visible
  where
    go : (b : Bool) → (cond b (x.len + shown_len fs) (shown_len fs) ≡ cond b x.len 0 + shown_len fs) × (cond b (hidden_len fs) (x.len + hidden_len fs) ≡ cond b 0 x.len + hidden_len fs)
    go true = (refl, omega arith)
    go false = (omega arith, refl)

-- after the first i
pub left_all : (fs : List Fragment) (i : ℕ) → (shown_len fs ≡ shown_len (take i fs) + shown_len (drop i fs)) × (hidden_len fs ≡ hidden_len (take i fs) + hidden_len (drop i fs))
left_all fs i =
    let e : fs ≡ take i fs ++ drop i fs = sym (take-append-drop i fs) in
    (ap shown_len e ∙ shown_append_len (take i fs) (drop i fs), ap hidden_len e ∙ hidden_append_len (take i fs) (drop i fs))

-- nothing is left after the end
pub none_left : {A : Type 0} (fs : List A) (i : ℕ) → length fs ≤ i → drop i fs ≡ []
none_left [] zero h = refl
none_left [] (suc i) h = refl
none_left (x ∷ fs) zero h = absurd (omega (arith, h))
none_left (x ∷ fs) (suc i) h = none_left fs i (omega (arith, h))

-- the cells after the next fragment
pub left_next : (fs : List Fragment) (i : ℕ) (x : Fragment) (p : Passed) → slice_get fs i ≡ Some x → IsAfter p (drop i fs)
    → (p.visible ≡ cond x.visible x.len 0 + shown_len (drop (i + 1) fs)) × (p.hidden ≡ cond x.visible 0 x.len + hidden_len (drop (i + 1) fs))
left_next fs i x p g a =
    let d : drop i fs ≡ x ∷ drop (i + 1) fs = headed (drop i fs) x (sym (head_drop fs i ∙ g)) ∙ ap (λ (z : List Fragment). x ∷ z) (tail_drop fs i) in
    let o = left_one x (drop (i + 1) fs) in
    (a.0 ∙ ap shown_len d ∙ o.0, a.1 ∙ ap hidden_len d ∙ o.1)

-- those after the first i
pub left_start : (s : FragmentSummary) (fs : List Fragment) (p : Passed) (i : ℕ) → s ≡ fold no_fragments summaries summary_of fs → IsAfter p (take i fs)
    → (p.visible ≤ s.visible) × (p.hidden ≤ s.hidden) × IsAfter (record { visible = s.visible - p.visible; hidden = s.hidden - p.hidden }) (drop i fs)
left_start s fs p i e a =
    let w = whole_sum fs in
    let l = left_all fs i in
    let v = ap (λ (z : FragmentSummary). z.visible) e in
    let h = ap (λ (z : FragmentSummary). z.hidden) e in
    let b = a.0 in
    let d = a.1 in
    (omega (arith, w.0, l.0, v, b), omega (arith, w.1, l.1, h, d), (omega (arith, w.0, l.0, v, b), omega (arith, w.1, l.1, h, d)))

-- ---- moves that are told one by one

pub each_next : (w : List UndoEntry) (t : Lamport) (ms ms2 z : List Move) (fs : List Fragment) (i : ℕ) (x : Fragment) (m : Move) → i < length fs → x ≡ get_or fs i x → m ≡ edit_move w t x → ms2 ≡ with_move ms m
    → each_move w t ms (drop i fs) ≡ z → each_move w t ms2 (drop (i + 1) fs) ≡ z
each_next w t ms ms2 z fs i x m l g e f h =
    let n : suc i ≡ i + 1 = omega arith in
    let q : drop i fs ≡ x ∷ drop (i + 1) fs = drop-cons fs i x l ∙ ap (λ (y : Fragment). y ∷ drop (suc i) fs) (sym g) ∙ ap (λ (j : ℕ). x ∷ drop j fs) n in
    ap (λ (y : List Move). each_move w t y (drop (i + 1) fs)) (f ∙ ap (with_move ms) e) ∙ ap (each_move w t ms) (sym q) ∙ h

pub each_end : (w : List UndoEntry) (t : Lamport) (ms z : List Move) (fs : List Fragment) (i : ℕ) → length fs ≤ i → each_move w t ms (drop i fs) ≡ z → ms ≡ z
each_end w t ms z fs i l h = ap (each_move w t ms) (sym (none_left fs i l)) ∙ h

-- ---- fragments that have not seen the edit are what they were

module _ (w : List UndoEntry) (t : Lamport) where
  untouched_same : (xs ys : List Fragment) → AllByRecursion (IsUntouched w t) xs → before_edit w t (xs ++ ys) ≡ xs ++ before_edit w t ys
  untouched_same [] ys u = refl
  untouched_same (x ∷ xs) ys u =
      rw (u.0.other) (ap (λ (z : Fragment). z ∷ before_edit w t (xs ++ ys)) (same_undeleted w t x u.0.shown u.0.free) ∙ ap (λ (z : List Fragment). x ∷ z) (untouched_same xs ys u.1))

  untouched_brings : (xs ys : List Fragment) (k m : ℕ) → AllByRecursion (IsUntouched w t) xs → Brings t k m (xs ++ ys) → Brings t k m ys
  untouched_brings [] ys k m u b = b
  untouched_brings (x ∷ xs) ys k m u b = untouched_brings xs ys k m u.1 (go (same_stamp t x.stamp) u.0.other b)
    where
      go : (c : Bool) → c ≡ false → InOrder k m (cond c (run_of x ∷ runs_by t (runs (xs ++ ys))) (runs_by t (runs (xs ++ ys)))) → InOrder k m (runs_by t (runs (xs ++ ys)))
      go true e i = absurd (let z : true ≡ false = e in cc)
      go false e i = i

  -- fragments whose moves are told one by one
  told : (m : ℕ) (fs done made rest : List Fragment) (ms : List Move) (k : ℕ) → Brings t k m (made ++ rest)
      → CarryOn t [] [] (before_edit w t fs) 0 ms done (before_edit w t (made ++ rest)) k → Stepped w t m fs (each_move w t ms made) (done ++ made) rest
  told m fs done [] rest ms k b c = record { k = k; brings = b; carry = subst (λ (z : List Fragment). CarryOn t [] [] (before_edit w t fs) 0 ms z (before_edit w t rest) k) (sym (append-nil done)) c }
  told m fs done (x ∷ made) rest ms k b c =
      let one = step w t m fs done (made ++ rest) x ms k b c in
      subst (λ (z : List Fragment). Stepped w t m fs (each_move w t (with_move ms (edit_move w t x)) made) z rest) (append_assoc done (x ∷ []) made)
      (told m fs (done ++ x ∷ []) made rest (with_move ms (edit_move w t x)) one.k one.brings one.carry)

  -- the moves that keep the cells of xs, are told of those of made, and keep those of ys, carry the bytes along
  around_carried : (m : ℕ) (xs made ys : List Fragment) (ms : List Move) → AllByRecursion (IsUntouched w t) xs → AllByRecursion (IsUntouched w t) ys → Brings t 0 m (xs ++ (made ++ ys))
      → ms ≡ kept_moves (each_move w t (kept_moves [] (shown_len xs) (hidden_len xs)) made) (shown_len ys) (hidden_len ys)
      → CarryOn t [] [] (before_edit w t (xs ++ (made ++ ys))) 0 ms (xs ++ (made ++ ys)) [] m
  around_carried m xs made ys ms ux uy b e =
      let fs : List Fragment = xs ++ (made ++ ys) in
      let old : List Fragment = before_edit w t fs in
      let first : List Move = kept_moves [] (shown_len xs) (hidden_len xs) in
      let start : CarryOn t [] [] old 0 [] [] (xs ++ before_edit w t (made ++ ys)) 0 = subst (λ (z : List Fragment). CarryOn t [] [] old 0 [] [] z 0) (untouched_same xs (made ++ ys) ux) stay in
      let over : CarryOn t [] [] old 0 first xs (before_edit w t (made ++ ys)) 0 = go_on (omega arith) start (on_stretch xs (before_edit w t (made ++ ys))) in
      let mid = told m fs xs made ys first 0 (untouched_brings xs (made ++ ys) 0 m ux b) over in
      let ms2 : List Move = each_move w t first made in
      let rest : ys ++ [] ≡ ys = append-nil ys in
      let same : before_edit w t ys ≡ ys ++ [] = ap (before_edit w t) (sym rest) ∙ untouched_same ys [] uy in
      let last : CarryOn t [] [] old 0 ms2 (xs ++ made) (ys ++ []) mid.k = subst (λ (z : List Fragment). CarryOn t [] [] old 0 ms2 (xs ++ made) z mid.k) same mid.carry in
      let k : mid.k ≡ m = untouched_brings ys [] mid.k m uy (subst (Brings t mid.k m) (sym rest) mid.brings) in
      let end : CarryOn t [] [] old 0 (kept_moves ms2 (shown_len ys) (hidden_len ys)) ((xs ++ made) ++ ys) [] mid.k = go_on (omega arith) last (on_stretch ys []) in
      subst (λ (z : List Move). CarryOn t [] [] old 0 z fs [] m) (sym e)
      (subst (λ (n : ℕ). CarryOn t [] [] old 0 (kept_moves ms2 (shown_len ys) (hidden_len ys)) fs [] n) k
      (subst (λ (z : List Fragment). CarryOn t [] [] old 0 (kept_moves ms2 (shown_len ys) (hidden_len ys)) z [] mid.k) (append_assoc xs made ys) end))

  -- the same of a range of a tree's fragments
  pub range_carried : (m : ℕ) (xs made : List Fragment) (i j : ℕ) (before after : Passed) (first second third : List Move) → AllByRecursion (IsUntouched w t) xs → Brings t 0 m (splice_list i j made xs)
      → IsAfter before (take i xs) → IsAfter after (drop j xs) → first ≡ kept_moves [] before.visible before.hidden → second ≡ each_move w t first made → third ≡ kept_moves second after.visible after.hidden
      → CarryOn t [] [] (before_edit w t (splice_list i j made xs)) 0 third (splice_list i j made xs) [] m
  range_carried m xs made i j before after first second third u b f g e1 e2 e3 =
      let all : splice_list i j made xs ≡ take i xs ++ (made ++ drop j xs) = append_assoc (take i xs) made (drop j xs) in
      let one : first ≡ kept_moves [] (shown_len (take i xs)) (hidden_len (take i xs)) = e1 ∙ ap (λ (n : ℕ). kept_moves [] n before.hidden) f.0 ∙ ap (kept_moves [] (shown_len (take i xs))) f.1 in
      let two : third ≡ kept_moves (each_move w t (kept_moves [] (shown_len (take i xs)) (hidden_len (take i xs))) made) (shown_len (drop j xs)) (hidden_len (drop j xs)) =
      e3 ∙ ap (λ (n : ℕ). kept_moves second n after.hidden) g.0 ∙ ap (kept_moves second (shown_len (drop j xs))) g.1
      ∙ ap (λ (z : List Move). kept_moves z (shown_len (drop j xs)) (hidden_len (drop j xs))) (e2 ∙ ap (λ (z : List Move). each_move w t z made) one) in
      let before_all : AllByRecursion (IsUntouched w t) (take i xs ++ drop i xs) = subst (AllByRecursion (IsUntouched w t)) (sym (take-append-drop i xs)) u in
      let after_all : AllByRecursion (IsUntouched w t) (take j xs ++ drop j xs) = subst (AllByRecursion (IsUntouched w t)) (sym (take-append-drop j xs)) u in
      subst (λ (z : List Fragment). CarryOn t [] [] (before_edit w t z) 0 third z [] m) (sym all)
      (around_carried m (take i xs) made (drop j xs) third (each_left (IsUntouched w t) (take i xs) (drop i xs) before_all) (each_right (IsUntouched w t) (take j xs) (drop j xs) after_all)
      (subst (Brings t 0 m) all b) two)
