-- An edit leaves what is seen of undos as it is.
use Rattle.std.proofs.Common.{◌≡◌, ℕ, zero, suc, ◌+◌, ◌-◌, Bool, Option, List, [], ◌∷◌, ◌++◌, length, cond, true, false, Some, None, inl, inr, leb, not, ◌&&◌}
use Rattle.std.specs.List.{AllByRecursion}
use Rattle.std.proofs.lemmas.Bool.{cases_Bool}
use Rattle.lamport_clock.specs.declared.stamp.Lamport.{Lamport}
use Rattle.lamport_clock.specs.Stamps.{later}
use Rattle.lamport_clock.specs.Versions.{Entries, sees}
use Rattle.locators.specs.Locator.{between_digits}
use Rattle.op_model.specs.declared.operation.Piece.{Piece}
use Rattle.op_model.specs.declared.operation.Operation.{Operation}
use Rattle.op_model.specs.Operations.{stamp_of, version_of, pieces_of, is_edit}
use Rattle.op_model.specs.Histories.{History}
use Rattle.op_model.specs.Answers.{answer}
use Rattle.op_model.specs.Answers.Answer.{Good}
use Rattle.op_model.specs.Lawful.{Lawful}
use Rattle.op_model.specs.Facts.{with_deletion}
use Rattle.op_model.proofs.Elements.{each_append}
use Rattle.op_model.proofs.answers.Uncounted.{deletion_of, uncounted}
use Rattle.undo_map.specs.declared.entry.UndoEntry.{UndoEntry}
use Rattle.fragments.specs.declared.fragment.Fragment.{Fragment}
use Rattle.fragments.specs.Stand.{SeesUndos}
use Rattle.fragments.proofs.Counts.{sees_more}
use Rattle.remote_edit.specs.Marks.{was_shown, touch}
use Rattle.remote_edit.specs.Walk.{last_id, next_id, front, back, new_fragment, Zip, advance, skip_later, put_new, changes, walk}

-- what holds of fragments, also of split, touched and new ones, holds of those after a walk
module _ (P : Fragment → Type 0) (t : Lamport) (v : Entries)
    (of_front : (f : Fragment) (n : ℕ) (id : List ℕ) → P f → P (front f n id)) (of_back : (f : Fragment) (n : ℕ) → P f → P (back f n))
    (of_touch : (m : Option (List UndoEntry)) (f : Fragment) → P f → P (touch m t v f)) (of_new : (k n : ℕ) (id : List ℕ) → P (new_fragment t k n id)) where
  abbrev Both : Zip → Type 0
  Both z = AllByRecursion P z.pre × AllByRecursion P z.rest

  with_one : (pre : List Fragment) (f : Fragment) → AllByRecursion P pre → P f → AllByRecursion P (pre ++ f ∷ [])
  with_one pre f h p = each_append P pre (f ∷ []) h (p, tt)

  each_advance : (m : Option (List UndoEntry)) (n : ℕ) (pre rest : List Fragment) → AllByRecursion P pre → AllByRecursion P rest → Both (advance m t v n pre rest)
  each_advance m zero pre [] h k = (h, k)
  each_advance m (suc n) pre [] h k = (h, k)
  each_advance m zero pre (f ∷ fs) h k = (h, k)
  each_advance m (suc n) pre (f ∷ fs) h k = elim (cases_Bool (sees v f.stamp)) [
    | inr s ↦ rw s (each_advance m (suc n) (pre ++ f ∷ []) fs (with_one pre f h k.0) k.1)
    | inl s ↦ elim (cases_Bool (leb f.len (suc n))) [
      | inl l ↦ rw (s, l) (each_advance m (suc n - f.len) (pre ++ touch m t v f ∷ []) fs (with_one pre (touch m t v f) h (of_touch m f k.0)) k.1)
      | inr l ↦ (let a : Fragment = front f (suc n) (between_digits (last_id pre) f.id) in
          rw (s, l) ((with_one pre (touch m t v a) h (of_touch m a (of_front f (suc n) (between_digits (last_id pre) f.id) k.0)), (of_back f (suc n) k.0, k.1))))
    ]
  ]

  each_skip : (pre rest : List Fragment) → AllByRecursion P pre → AllByRecursion P rest → Both (skip_later t v pre rest)
  each_skip pre [] h k = (h, k)
  each_skip pre (f ∷ fs) h k = elim (cases_Bool (later f.stamp t && not (sees v f.stamp))) [
    | inl s ↦ rw s (each_skip (pre ++ f ∷ []) fs (with_one pre f h k.0) k.1)
    | inr s ↦ rw s ((h, k))
  ]

  each_put : (k n : ℕ) (pre rest : List Fragment) → AllByRecursion P pre → AllByRecursion P rest → Both (put_new t k n pre rest)
  each_put k zero pre rest h l = (h, l)
  each_put k (suc n) pre rest h l =
      let id : List ℕ = between_digits (last_id pre) (next_id rest) in
      (with_one pre (new_fragment t k (suc n) id) h (of_new k (suc n) id), l)

  pub each_walk : (w : List UndoEntry) (at k : ℕ) (ps : List Piece) (pre rest : List Fragment) → AllByRecursion P pre → AllByRecursion P rest → AllByRecursion P (walk w t v at k ps pre rest)
  each_walk w at k [] pre rest h l = each_append P pre rest h l
  each_walk w at k (p ∷ ps) pre rest h l = elim (cases_Bool (changes p)) [
    | inr e ↦ rw e (each_walk w at k ps pre rest h l)
    | inl e ↦ (let a : Zip = advance None t v (p.start - at) pre rest in
        let b : Zip = skip_later t v a.pre a.rest in
        let c : Zip = put_new t k (length p.text) b.pre b.rest in
        let d : Zip = advance (Some w) t v (p.end - p.start) c.pre c.rest in
        let ha = each_advance None (p.start - at) pre rest h l in
        let hb = each_skip a.pre a.rest ha.0 ha.1 in
        let hc = each_put k (length p.text) b.pre b.rest hb.0 hb.1 in
        let hd = each_advance (Some w) (p.end - p.start) c.pre c.rest hc.0 hc.1 in
        rw e (each_walk w p.end (k + length p.text) ps d.pre d.rest hd.0 hd.1))
  ]

sees_touch : (h : History) (op : Operation) → Lawful h → answer h [] op ≡ Good → (m : Option (List UndoEntry)) (v : Entries) (f : Fragment) → SeesUndos h f → SeesUndos h (touch m (stamp_of op) v f)
sees_touch h op l g None v f s = s
sees_touch h op l g (Some w) v f s = go (was_shown w v f.stamp f.deletions)
  where
    t : Lamport
    t = stamp_of op

    more : SeesUndos h (record { id = f.id; stamp = f.stamp; offset = f.offset; len = f.len; visible = false; deletions = with_deletion (stamp_of op) f.deletions; max_undos = f.max_undos })
    more o i c m (inl e) = s o i c m (inl e)
    more o i c m (inr n) = elim (deletion_of (stamp_of op) c.edit f.deletions n) [ inl e ↦ absurd (uncounted h op l g o i c m e) | inr k ↦ s o i c m (inr k) ]

    go : (b : Bool) → SeesUndos h (cond b (record { id = f.id; stamp = f.stamp; offset = f.offset; len = f.len; visible = false; deletions = with_deletion (stamp_of op) f.deletions; max_undos = f.max_undos }) f)
    go true = more
    go false = s

pub walk_undos : (h : History) (op : Operation) (w : List UndoEntry) (fs : List Fragment) → Lawful h → answer h [] op ≡ Good → is_edit op ≡ true → AllByRecursion (SeesUndos h) fs
    → AllByRecursion (SeesUndos (h ++ op ∷ [])) (walk w (stamp_of op) (version_of op) 0 0 (pieces_of op) [] fs)
walk_undos h op w fs l g e s =
    sees_more h op e (walk w (stamp_of op) (version_of op) 0 0 (pieces_of op) [] fs)
    (each_walk (SeesUndos h) (stamp_of op) (version_of op) (λ f n id p. p) (λ f n p. p) (λ m f p. sees_touch h op l g m (version_of op) f p)
    (λ k n id o i c m z. elim z [ inl q ↦ absurd (uncounted h op l g o i c m q) | inr q ↦ absurd q ]) w 0 0 (pieces_of op) [] fs tt s)
