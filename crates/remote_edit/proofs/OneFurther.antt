-- A gather that passes one fragment: as it is, its first cells, or all of it.
use Rattle.std.proofs.Common.{◌≡◌, ℕ, ◌+◌, ◌-◌, ◌<◌, ◌≤◌, ◌^◌, List, [], ◌∷◌, ◌++◌, length, take, refl, ap, ◌∙◌, Option, Some, None, true, false}
use Rattle.lamport_clock.specs.Versions.{sees}
use Rattle.locators.specs.Locator.{between_digits}
use Rattle.op_model.specs.declared.operation.EditOp.{EditOp}
use Rattle.undo_map.specs.declared.entry.UndoEntry.{UndoEntry}
use Rattle.fragments.specs.declared.fragment.Fragment.{Fragment}
use Rattle.fragments.specs.Index.{with_entry}
use Rattle.fragments.specs.DeletedRuns.{with_insertion}
use Rattle.fragments.specs.Stand.{entry_of}
use Rattle.remote_edit.specs.declared.gather.Gather.{Gather}
use Rattle.remote_edit.specs.Marks.{touch, touch_index}
use Rattle.remote_edit.specs.Walk.{seen_bytes, Fit, last_id, front, back}
use Rattle.remote_edit.specs.Steps.{head, tail, IsOnWay}
use Rattle.remote_edit.specs.Gathers.{so_far, ahead}
use Rattle.remote_edit.specs.Indexes.{IsIndexed}
use Rattle.remote_edit.proofs.Gathers.{on_unseen, on_whole, on_split, grown, headed}
use Rattle.remote_edit.proofs.Entering.{enter_none, front_room, back_room, enter_split}

-- from s to n, if the fragment f comes next
module _ (e : EditOp) (xs : List Fragment) (s : Gather) (f : Fragment) (next : Some f ≡ head (ahead xs s)) (n : Gather) where
  abbrev Indexed : Gather → Type 0
  Indexed g = IsIndexed e.stamp g.number (so_far xs g ++ ahead xs g) g.index

  -- as it is
  module _ (more : so_far xs n ≡ so_far xs s ++ take 1 (ahead xs s)) (rest : ahead xs n ≡ tail (ahead xs s)) where
    one_more : so_far xs n ≡ so_far xs s ++ f ∷ []
    one_more = more ∙ ap (λ (z : List Fragment). so_far xs s ++ take 1 z) (headed (ahead xs s) f next)

    pub kept_passed : (m : Option (List UndoEntry)) (left : ℕ) → 0 < left → sees e.version f.stamp ≡ false → Fit (so_far xs s ++ ahead xs s) → n.place ≡ seen_bytes e.version (so_far xs s)
        → IsOnWay m e.stamp e.version left (so_far xs s) (ahead xs s) left (so_far xs n) (ahead xs n) n.place
    kept_passed m left some unseen fit place = on_unseen m e.stamp e.version (so_far xs s) (ahead xs s) (so_far xs n) (ahead xs n) f left n.place next some unseen fit place one_more rest

    pub kept_indexed : n.number ≡ s.number → n.index ≡ s.index → Indexed s → Indexed n
    kept_indexed number index x = enter_none None e.stamp e.version s.number n.number (so_far xs s) (ahead xs s) (so_far xs n) (ahead xs n) f f s.index n.index next refl one_more rest number index x

  module _ (m : Option (List UndoEntry)) (left : ℕ) (some : 0 < left) (fit : Fit (so_far xs s ++ ahead xs s)) where
    -- all of it, as g
    module _ (g : Fragment) (is : g ≡ touch m e.stamp e.version f) (from : n.from ≡ s.from) (made : n.made.items ≡ s.made.items ++ g ∷ []) (rest : ahead xs n ≡ tail (ahead xs s)) where
      pub whole_passed : f.len ≤ left → sees e.version f.stamp ≡ true → s.place ≡ seen_bytes e.version (so_far xs s) → n.place ≡ s.place
          → IsOnWay m e.stamp e.version left (so_far xs s) (ahead xs s) (left - f.len) (so_far xs n) (ahead xs n) (n.place + f.len)
      whole_passed all seen place same =
          on_whole m e.stamp e.version (so_far xs s) (ahead xs s) (so_far xs n) (ahead xs n) f g left s.place (n.place + f.len) next is some all seen fit place
          (grown xs s.made.items n.made.items s.from n.from g from made) rest (ap (λ (q : ℕ). q + f.len) same)

      pub whole_indexed : n.number ≡ s.number → n.index ≡ touch_index m e.stamp e.version f s.index → Indexed s → Indexed n
      whole_indexed number index x =
          enter_none m e.stamp e.version s.number n.number (so_far xs s) (ahead xs s) (so_far xs n) (ahead xs n) f g s.index n.index next is (grown xs s.made.items n.made.items s.from n.from g from made) rest number index x

    -- its first cells, a; those after them are b
    module _ (a b : Fragment) (lower : a ≡ front f left (between_digits (last_id (so_far xs s)) f.id)) (upper : b ≡ back f left) (less : left < f.len) where
      pub lower_room : Indexed s → length (with_entry (entry_of a) s.index.entries) ≤ 2 ^ 40
      lower_room x = front_room e.stamp s.number (so_far xs s) (ahead xs s) f a b left (between_digits (last_id (so_far xs s)) f.id) s.index next lower upper some less fit x

      pub upper_room : Indexed s → length (with_entry (entry_of b) (with_entry (entry_of a) s.index.entries)) ≤ 2 ^ 40
      upper_room x = back_room e.stamp s.number (so_far xs s) (ahead xs s) f a b left (between_digits (last_id (so_far xs s)) f.id) s.index next lower upper some less fit x

      module _ (from : n.from ≡ s.from) (made : n.made.items ≡ s.made.items ++ touch m e.stamp e.version a ∷ []) (rest : ahead xs n ≡ b ∷ tail (ahead xs s)) where
        pub split_passed : sees e.version f.stamp ≡ true → s.place ≡ seen_bytes e.version (so_far xs s) → n.place ≡ s.place
            → IsOnWay m e.stamp e.version left (so_far xs s) (ahead xs s) 0 (so_far xs n) (ahead xs n) (n.place + left)
        split_passed seen place same =
            on_split m e.stamp e.version (so_far xs s) (ahead xs s) (so_far xs n) (ahead xs n) f (touch m e.stamp e.version a) b left s.place (n.place + left)
            next (ap (touch m e.stamp e.version) lower) upper some less seen fit place
            (grown xs s.made.items n.made.items s.from n.from (touch m e.stamp e.version a) from made) rest (ap (λ (q : ℕ). q + left) same)

        pub split_indexed : n.number ≡ s.number → n.index ≡ touch_index m e.stamp e.version a (with_insertion (entry_of b) (with_insertion (entry_of a) s.index)) → Indexed s → Indexed n
        split_indexed number index x =
            enter_split e.stamp s.number (so_far xs s) (ahead xs s) f a b left (between_digits (last_id (so_far xs s)) f.id) s.index next lower upper some less fit x
            m e.version (touch m e.stamp e.version a) n.number n.index (so_far xs n) (ahead xs n) refl (grown xs s.made.items n.made.items s.from n.from (touch m e.stamp e.version a) from made) rest number index
