-- The fragments of a history with one more operation, and those of a base.
use Rattle.std.proofs.Common.{◌≡◌, ℕ, suc, Bool, cond, List, [], ◌∷◌, ◌++◌, length, map, refl, sym, ap, ◌∙◌, arith, append_assoc}
use Rattle.std.proofs.lemmas.Bool.{lt-ltb}
use Rattle.std.proofs.lemmas.List.{append-nil}
use Rattle.lamport_clock.specs.declared.stamp.Lamport.{Lamport}
use Rattle.locators.specs.Locator.{between_digits, least_digits, greatest_digits}
use Rattle.op_model.specs.declared.operation.EditOp.{EditOp}
use Rattle.op_model.specs.declared.operation.Operation.{Operation}
use Rattle.op_model.specs.declared.operation.Operation.TheVariants.{Edit, Undo}
use Rattle.op_model.specs.declared.operation.UndoCount.{UndoCount}
use Rattle.op_model.specs.declared.operation.UndoOp.{UndoOp}
use Rattle.op_model.specs.Histories.{History, base}
use Rattle.undo_map.specs.declared.entry.UndoEntry.{UndoEntry}
use Rattle.undo_map.specs.Undos.{undo_entries}
use Rattle.fragments.specs.declared.fragment.Fragment.{Fragment}
use Rattle.fragments.specs.Laws.{whole_base}
use Rattle.remote_edit.specs.Anew.{all_anew}
use Rattle.remote_edit.specs.Fragments.{fragments_of, with_edit, with_operation, with_operations}

with_one_more : (h : History) (fs : List Fragment) (ops : List Operation) (op : Operation)
    → with_operations h fs (ops ++ op ∷ []) ≡ with_operation (h ++ ops) (with_operations h fs ops) op
with_one_more h fs [] op = ap (λ (z : History). with_operation z fs op) (sym (append-nil h))
with_one_more h fs (o ∷ ops) op =
    with_one_more (h ++ o ∷ []) (with_operation h fs o) ops op
    ∙ ap (λ (z : History). with_operation z (with_operations (h ++ o ∷ []) (with_operation h fs o) ops) op) (append_assoc h (o ∷ []) ops)

-- what an edit makes of them
pub fragments_with_edit : (h : History) (e : EditOp) (w : List UndoEntry) (fs gs : List Fragment) → w ≡ undo_entries h → fs ≡ fragments_of h → gs ≡ with_edit w fs e → gs ≡ fragments_of (h ++ Edit e ∷ [])
fragments_with_edit h e w fs gs counts old new =
    new ∙ ap (λ (x : List UndoEntry). with_edit x fs e) counts ∙ ap (λ (x : List Fragment). with_edit (undo_entries h) x e) old ∙ sym (with_one_more [] [] h (Edit e))

-- what an undo makes of them
pub fragments_with_undo : (h : History) (u : UndoOp) (w : List UndoEntry) (ts : List Lamport) (fs gs : List Fragment) → w ≡ undo_entries (h ++ Undo u ∷ []) → ts ≡ map (λ (c : UndoCount). c.edit) u.counts → fs ≡ fragments_of h
    → gs ≡ all_anew w u.stamp ts fs → gs ≡ fragments_of (h ++ Undo u ∷ [])
fragments_with_undo h u w ts fs gs counts edits old new =
    new ∙ ap (λ (x : List UndoEntry). all_anew x u.stamp ts fs) counts ∙ ap (λ (x : List Lamport). all_anew (undo_entries (h ++ Undo u ∷ [])) u.stamp x fs) edits
    ∙ ap (λ (x : List Fragment). with_operation h x (Undo u)) old ∙ sym (with_one_more [] [] h (Undo u))

-- a base without a text has none, and one with a text has one
pub fragments_of_base : (t : List ℕ) → length t ≡ 0 → fragments_of (base t ∷ []) ≡ []
fragments_of_base [] e = refl
fragments_of_base (b ∷ t) e = absurd (omega (arith, e))

pub fragment_of_base : (t : List ℕ) → (length t ≡ 0 → ⊥) → fragments_of (base t ∷ []) ≡ whole_base (between_digits least_digits greatest_digits) t ∷ []
fragment_of_base [] some = absurd (some refl)
fragment_of_base (b ∷ t) some =
    ap (λ (c : Bool). cond c (whole_base (between_digits least_digits greatest_digits) (b ∷ t) ∷ []) []) (lt-ltb 0 (suc (length t)) (omega arith))
