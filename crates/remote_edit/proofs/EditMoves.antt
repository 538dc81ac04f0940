-- The moves of an edit in the two texts, on the way over the fragments that have it.
use Rattle.std.proofs.Common.{◌≡◌, ℕ, ◌+◌, Bool, true, false, cond, List, [], ◌∷◌, ◌++◌, inl, inr, refl, sym, ap, ◌∙◌, arith, subst, append_assoc, append-nil}
use Rattle.std.specs.List.{AllByRecursion, list_any}
use Rattle.std.proofs.lemmas.Bool.{cases_Bool, or_parts}
use Rattle.lamport_clock.specs.declared.stamp.Lamport.{Lamport}
use Rattle.lamport_clock.specs.Stamps.{same_stamp}
use Rattle.lamport_clock.specs.Versions.{join_versions}
use Rattle.lamport_clock.proofs.Later.{same_stamp_eq}
use Rattle.undo_map.specs.declared.entry.UndoEntry.{UndoEntry}
use Rattle.fragments.specs.declared.fragment.Fragment.{Fragment}
use Rattle.fragments.specs.Summaries.{summary_of}
use Rattle.fragments.specs.Stand.{run_of, runs}
use Rattle.fragments.specs.Laws.{shown_len}
use Rattle.fragments.specs.SummaryLaws.{stamps_seen}
use Rattle.remote_edit.specs.declared.moves.Move.{Move}
use Rattle.remote_edit.specs.declared.moves.Move.TheVariants.{Insert}
use Rattle.remote_edit.specs.Moves.{with_move}
use Rattle.remote_edit.specs.Marks.{is_shown}
use Rattle.remote_edit.specs.Carried.{move_for, hidden_len, CarryOn}
use Rattle.remote_edit.specs.Among.{moves_on, moves_among}
use Rattle.remote_edit.specs.BeforeEdit.{without, without_deletion, before_edit, edit_move, IsByCounts, runs_by, InOrder, Brings}
use Rattle.remote_edit.proofs.MovesAmong.{kept_moves, one_more}
use Rattle.remote_edit.proofs.BeforeEdit.{none_without}
use Rattle.remote_edit.proofs.Carrying.{go_on, stay, on_one, on_stretch, on_insert}
use Rattle.remote_edit.proofs.Finding.{Unkept}
use Rattle.remote_edit.specs.Concern.{sees_edit}

module _ (w : List UndoEntry) (t : Lamport) where
  -- the sum of a fragment does not see the edit
  abbrev Unseen : Fragment → Type 0
  Unseen f = Unkept (sees_edit t) summary_of f

  unseen_parts : (f : Fragment) → Unseen f → (same_stamp t f.stamp ≡ false) × (list_any (same_stamp t) f.deletions ≡ false)
  unseen_parts f u = or_parts (same_stamp t f.stamp) (list_any (same_stamp t) f.deletions) (elim (cases_Bool (list_any (same_stamp t) (f.stamp ∷ f.deletions))) [
    | inl e ↦ (let k = stamps_seen (f.stamp ∷ f.deletions) (join_versions [] f.max_undos) t e in cc)
    | inr e ↦ e
  ])

  pub same_undeleted : (f : Fragment) → IsByCounts w f → list_any (same_stamp t) f.deletions ≡ false → without_deletion w t f ≡ f
  same_undeleted f s n =
      let one : List Lamport → Fragment = λ d. record { id = f.id; stamp = f.stamp; offset = f.offset; len = f.len; visible = is_shown w f.stamp d; deletions = d; max_undos = f.max_undos } in
      let two : Bool → Fragment = λ b. record { id = f.id; stamp = f.stamp; offset = f.offset; len = f.len; visible = b; deletions = f.deletions; max_undos = f.max_undos } in
      ap one (none_without t f.deletions n) ∙ ap two (sym s)

  -- fragments that have not seen the edit are what they were
  unseen_same : (xs ys : List Fragment) → AllByRecursion Unseen xs → AllByRecursion (IsByCounts w) xs → before_edit w t (xs ++ ys) ≡ xs ++ before_edit w t ys
  unseen_same [] ys u s = refl
  unseen_same (x ∷ xs) ys u s =
      let p = unseen_parts x u.0 in
      rw (p.0) (ap (λ (z : Fragment). z ∷ before_edit w t (xs ++ ys)) (same_undeleted x s.0 p.1) ∙ ap (λ (z : List Fragment). x ∷ z) (unseen_same xs ys u.1 s.1))

  unseen_brings : (xs ys : List Fragment) (k m : ℕ) → AllByRecursion Unseen xs → Brings t k m (xs ++ ys) → Brings t k m ys
  unseen_brings [] ys k m u b = b
  unseen_brings (x ∷ xs) ys k m u b = unseen_brings xs ys k m u.1 (go (same_stamp t x.stamp) (unseen_parts x u.0).0 b)
    where
      go : (c : Bool) → c ≡ false → InOrder k m (cond c (run_of x ∷ runs_by t (runs (xs ++ ys))) (runs_by t (runs (xs ++ ys)))) → InOrder k m (runs_by t (runs (xs ++ ys)))
      go true e i = absurd (let z : true ≡ false = e in cc)
      go false e i = i

  -- one fragment more
  pub record Stepped (m : ℕ) (fs : List Fragment) (ms : List Move) (pre ahead : List Fragment) : Type 0 where
    pub k : ℕ
    pub brings : Brings t k m ahead
    pub carry : CarryOn t [] [] (before_edit w t fs) 0 ms pre (before_edit w t ahead) k

  pub step : (m : ℕ) (fs : List Fragment) (before ahead : List Fragment) (x : Fragment) (ms : List Move) (k : ℕ) → Brings t k m (x ∷ ahead)
      → CarryOn t [] [] (before_edit w t fs) 0 ms before (before_edit w t (x ∷ ahead)) k → Stepped m fs (with_move ms (edit_move w t x)) (before ++ x ∷ []) ahead
  step m fs before ahead x ms k i c = go (same_stamp t x.stamp) refl i c
    where
      old : List Fragment
      old = before_edit w t ahead

      go : (b : Bool) → same_stamp t x.stamp ≡ b → InOrder k m (cond b (run_of x ∷ runs_by t (runs ahead)) (runs_by t (runs ahead)))
          → CarryOn t [] [] (before_edit w t fs) 0 ms before (cond b old (without_deletion w t x ∷ old)) k
          → Stepped m fs (with_move ms (cond b (Insert x.len) (move_for (is_shown w x.stamp (without t x.deletions)) x.visible x.len))) (before ++ x ∷ []) ahead
      go true e i c = record {
        k = k + x.len;
        brings = i.2;
        carry = go_on (omega arith) c (on_insert old k x (sym (same_stamp_eq t x.stamp e)) i.1 i.0);
      }
      go false e i c = record { k = k; brings = i; carry = go_on (omega arith) c (on_one (without_deletion w t x) x old (refl, refl, refl)) }

  -- the moves of the walk carry the bytes along, and insert the cells k..m
  carried_on : (m : ℕ) (fs done xs rest : List Fragment) (ms : List Move) (k : ℕ) → AllByRecursion (IsByCounts w) rest → Brings t k m rest
      → CarryOn t [] [] (before_edit w t fs) 0 ms done (xs ++ before_edit w t rest) k
      → CarryOn t [] [] (before_edit w t fs) 0 (moves_on (sees_edit t) (edit_move w t) ms (shown_len xs) (hidden_len xs) rest) (done ++ (xs ++ rest)) [] m
  carried_on m fs done xs [] ms k s i c =
      let put : List Move = kept_moves ms (shown_len xs) (hidden_len xs) in
      let on : CarryOn t [] [] (before_edit w t fs) 0 put (done ++ xs) [] k = go_on (omega arith) c (on_stretch xs []) in
      let all : CarryOn t [] [] (before_edit w t fs) 0 put (done ++ (xs ++ [])) [] k = subst (λ (z : List Fragment). CarryOn t [] [] (before_edit w t fs) 0 put (done ++ z) [] k) (sym (append-nil xs)) on in
      subst (λ (n : ℕ). CarryOn t [] [] (before_edit w t fs) 0 put (done ++ (xs ++ [])) [] n) i all
  carried_on m fs done xs (x ∷ rest) ms k s i c = elim (cases_Bool (sees_edit t (summary_of x))) [
    | inl e ↦ (let kept : List Move = kept_moves ms (shown_len xs) (hidden_len xs) in
        let one = step m fs (done ++ xs) rest x kept k i (go_on (omega arith) c (on_stretch xs (before_edit w t (x ∷ rest)))) in
        let before : List Fragment = (done ++ xs) ++ x ∷ [] in
        let all : before ++ rest ≡ done ++ (xs ++ x ∷ rest) = append_assoc (done ++ xs) (x ∷ []) rest ∙ append_assoc done xs (x ∷ rest) in
        rw e (subst (λ (z : List Fragment). CarryOn t [] [] (before_edit w t fs) 0 (moves_on (sees_edit t) (edit_move w t) (with_move kept (edit_move w t x)) 0 0 rest) z [] m) all
        (carried_on m fs before [] rest (with_move kept (edit_move w t x)) one.k s.1 one.brings one.carry)))
    | inr e ↦ (let more : List Fragment = xs ++ x ∷ [] in
        let old : xs ++ before_edit w t (x ∷ rest) ≡ more ++ before_edit w t rest = ap (λ (z : List Fragment). xs ++ z) (unseen_same (x ∷ []) rest (e, tt) (s.0, tt)) ∙ sym (append_assoc xs (x ∷ []) (before_edit w t rest)) in
        let on : CarryOn t [] [] (before_edit w t fs) 0 ms done (more ++ before_edit w t rest) k = subst (λ (z : List Fragment). CarryOn t [] [] (before_edit w t fs) 0 ms done z k) old c in
        rw e (subst (λ (z : List Move). CarryOn t [] [] (before_edit w t fs) 0 z (done ++ (xs ++ x ∷ rest)) [] m) (one_more (sees_edit t) (edit_move w t) ms xs x rest)
        (subst (λ (z : List Fragment). CarryOn t [] [] (before_edit w t fs) 0 (moves_on (sees_edit t) (edit_move w t) ms (shown_len more) (hidden_len more) rest) (done ++ z) [] m) (append_assoc xs (x ∷ []) rest)
        (carried_on m fs done more rest ms k s.1 (unseen_brings (x ∷ []) rest k m (e, tt) i) on))))
  ]

  pub edit_carried : (m : ℕ) (fs : List Fragment) (ms : List Move) → AllByRecursion (IsByCounts w) fs → Brings t 0 m fs → ms ≡ moves_among (sees_edit t) (edit_move w t) fs → CarryOn t [] [] (before_edit w t fs) 0 ms fs [] m
  edit_carried m fs ms s i e = subst (λ (z : List Move). CarryOn t [] [] (before_edit w t fs) 0 z fs [] m) (sym e) (carried_on m fs [] [] fs [] 0 s i stay)
