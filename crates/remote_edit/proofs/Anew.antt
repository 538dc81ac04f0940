-- Fragments after an undo of edits.
use Rattle.std.proofs.Common.{◌≡◌, ℕ, Bool, true, false, cond, ◌||◌, ◌==◌, List, [], ◌∷◌, Some, slice_get, ap, inl, inr, sym, ◌∙◌, refl}
use Rattle.std.proofs.lemmas.Bool.{cases_Bool, eq-eqb}
use Rattle.std.specs.List.{AllByRecursion, list_any}
use Rattle.lamport_clock.specs.declared.stamp.Lamport.{Lamport}
use Rattle.op_model.proofs.Elements.{any_member}
use Rattle.undo_map.specs.declared.entry.UndoEntry.{UndoEntry}
use Rattle.fragments.specs.declared.fragment.Fragment.{Fragment}
use Rattle.remote_edit.specs.Anew.{concerns, recount, anew, all_anew, changed_at}
use Rattle.remote_edit.specs.Finds.{is_place, HaveConcerned}
use Rattle.remote_edit.proofs.ChangedAt.{changed_all}

-- a fragment that one of the edits concerns is counted, another stays
pub concerned : (w : List UndoEntry) (by : Lamport) (ts : List Lamport) (f : Fragment) → list_any (concerns f) ts ≡ true → anew w by ts f ≡ recount w by f
concerned w by ts f h = ap (λ (b : Bool). cond b (recount w by f) f) h

pub unconcerned : (w : List UndoEntry) (by : Lamport) (ts : List Lamport) (f : Fragment) → list_any (concerns f) ts ≡ false → anew w by ts f ≡ f
unconcerned w by ts f h = ap (λ (b : Bool). cond b (recount w by f) f) h

pub same_len : (w : List UndoEntry) (by : Lamport) (ts : List Lamport) (f : Fragment) → (anew w by ts f).len ≡ f.len
same_len w by ts f = elim (cases_Bool (list_any (concerns f) ts)) [
  | inl h ↦ ap (λ (g : Fragment). g.len) (concerned w by ts f h)
  | inr h ↦ ap (λ (g : Fragment). g.len) (unconcerned w by ts f h)
]

-- the fragments at the places of those that the edits concern are all that the undo changes
module _ (w : List UndoEntry) (by : Lamport) (fs : List Fragment) (ps : List ℕ) where
  placed : (ts : List Lamport) (i : ℕ) (f : Fragment) → AllByRecursion (λ (t : Lamport). HaveConcerned fs t ps) ts → slice_get fs i ≡ Some f → list_any (concerns f) ts ≡ true → is_place ps i ≡ true
  placed [] i f h e c = cc
  placed (t ∷ ts) i f h e c = elim (cases_Bool (concerns f t)) [
    | inl k ↦ any_member (λ (p : ℕ). p == i) ps i (h.0 i f e k) (eq-eqb i i refl)
    | inr k ↦ placed ts i f h.1 e (ap (λ (b : Bool). b || list_any (concerns f) ts) (sym k) ∙ c)
  ]

  pub changed_anew : (ts : List Lamport) → AllByRecursion (λ (t : Lamport). HaveConcerned fs t ps) ts → changed_at (anew w by ts) (is_place ps) fs ≡ all_anew w by ts fs
  changed_anew ts h = changed_all (anew w by ts) (is_place ps) fs (λ i f e. elim (cases_Bool (list_any (concerns f) ts)) [ inl c ↦ inl (placed ts i f h e c) | inr c ↦ inr (unconcerned w by ts f c) ])
