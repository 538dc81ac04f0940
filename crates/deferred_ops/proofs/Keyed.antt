-- A map from stamps to operations, as the list of its operations.
use Rattle.std.proofs.Common.{◌≡◌, Bool, true, false, cond, not, ◌&&◌, List, [], ◌∷◌, refl, sym, ap, ◌∙◌, Option, Some, None, subst}
use Rattle.std.specs.Ordering.{match_ordering, is_gt, is_lt, is_eq}
use Rattle.std.specs.List.{find, filter, slice_get, AllByRecursion}
use Rattle.std.specs.List.Sorted.{IsStrictlySortedBy}
use Rattle.std.specs.declared.cmp.Ordering.TheVariants.{Less, Equal, Greater}
use Rattle.std.specs.declared.ops.Bound.TheVariants.{Excluded, Unbounded}
use Rattle.std.specs.BTreeMap.{insert_entry, is_at}
use Rattle.std.specs.BTreeMap.Range.{entries_between}
use Rattle.std.specs.Map.{keys_of, values_of, lookup, remove_entry}
use Rattle.lamport_clock.specs.declared.stamp.Lamport.{Lamport}
use Rattle.lamport_clock.specs.Stamps.{later, same_stamp, stamp_cmp}
use Rattle.lamport_clock.specs.Versions.{Entries}
use Rattle.lamport_clock.proofs.Order.{is_gt-later, is_lt-later, is_eq-same, same_sym}
use Rattle.op_model.specs.declared.operation.Operation.{Operation}
use Rattle.op_model.specs.Sorted.{insert_by, Ascending}
use Rattle.op_model.specs.Operations.{stamp_of}
use Rattle.op_model.specs.Histories.{operation_at}
use Rattle.op_model.specs.Steps.{older, without}
use Rattle.op_model.proofs.Elements.{find_filter}
use Rattle.deferred_ops.specs.Deferred.{AreKeyed, is_past, misses_nothing, least_past, least_ready, start_past}

abbrev pub Keyed : Type 0
Keyed = List (Lamport × Operation)

-- ---- an operation is looked up

at_stamp : (t : Lamport) (e : Lamport × Operation) → e.0 ≡ stamp_of e.1 → is_at (stamp_cmp t) e.0 ≡ same_stamp (stamp_of e.1) t
at_stamp t e k = is_eq-same t e.0 ∙ same_sym t e.0 ∙ ap (λ s. same_stamp s t) k

pub looked_up : (es : Keyed) (t : Lamport) → AreKeyed es → lookup (is_at (stamp_cmp t)) es ≡ operation_at (values_of es) t
looked_up [] t k = refl
looked_up (e ∷ es) t k = rw (at_stamp t e k.0, looked_up es t k.1) refl

-- ---- an operation is added

put_in : (es : Keyed) (t : Lamport) (op : Operation) → t ≡ stamp_of op → AreKeyed es → operation_at (values_of es) t ≡ None
    → (values_of (insert_entry stamp_cmp es t op) ≡ insert_by older op (values_of es)) × AreKeyed (insert_entry stamp_cmp es t op)
put_in [] t op q k n = (refl, (q, tt))
put_in (e ∷ es) t op q k n =
    let here : same_stamp (stamp_of e.1) t ≡ is_eq (stamp_cmp t e.0) = sym (at_stamp t e k.0) in
    let past : older e.1 op ≡ is_gt (stamp_cmp t e.0) = ap (λ s. later s (stamp_of e.1)) (sym q) ∙ ap (later t) (sym k.0) ∙ sym (is_gt-later t e.0) in
    elim (stamp_cmp t e.0) as (λ o. is_eq (stamp_cmp t e.0) ≡ is_eq o → is_gt (stamp_cmp t e.0) ≡ is_gt o → (values_of (match_ordering o ((t, op) ∷ e ∷ es) ((e.0, op) ∷ es) (e ∷ insert_entry stamp_cmp es t op)) ≡ insert_by older op (values_of (e ∷ es))) × AreKeyed (match_ordering o ((t, op) ∷ e ∷ es) ((e.0, op) ∷ es) (e ∷ insert_entry stamp_cmp es t op))) [
      | Less ↦ λ a b. (rw (past ∙ b) refl, (q, k))
      | Equal ↦ λ a b. let x = rw (here ∙ a) at n in cc
      | Greater ↦ λ a b. let x = rw (here ∙ a) at n in let ih = put_in es t op q k.1 x in (rw (past ∙ b, ih.0) refl, (k.0, ih.1))
    ] refl refl

pub added : (es fs : Keyed) (w : List Operation) (t : Lamport) (op : Operation) → values_of es ≡ w → t ≡ stamp_of op → AreKeyed es → operation_at w (stamp_of op) ≡ None → fs ≡ insert_entry stamp_cmp es t op
    → (values_of fs ≡ insert_by older op w) × AreKeyed fs
added es fs w t op v q k n e =
    let into = put_in es t op q k (ap (λ z. operation_at z t) v ∙ ap (operation_at w) q ∙ n) in
    (ap values_of e ∙ into.0 ∙ ap (insert_by older op) v, subst AreKeyed (sym e) into.1)

-- ---- an operation is taken out

none_left : (es : Keyed) (t : Lamport) → AreKeyed es → lookup (is_at (stamp_cmp t)) es ≡ None → without t (values_of es) ≡ values_of es
none_left [] t k n = refl
none_left (e ∷ es) t k n =
    elim (same_stamp (stamp_of e.1) t) as (λ b. same_stamp (stamp_of e.1) t ≡ b → cond (not b) (e.1 ∷ without t (values_of es)) (without t (values_of es)) ≡ e.1 ∷ values_of es) [
      | true ↦ λ q. let x = rw (at_stamp t e k.0 ∙ q) at n in cc
      | false ↦ λ q. let x = rw (at_stamp t e k.0 ∙ q) at n in ap (λ z. e.1 ∷ z) (none_left es t k.1 x)
    ] refl

taken_out : (es : Keyed) (t : Lamport) → AreKeyed es → lookup (is_at (stamp_cmp t)) (remove_entry (is_at (stamp_cmp t)) es) ≡ None
    → (values_of (remove_entry (is_at (stamp_cmp t)) es) ≡ without t (values_of es)) × AreKeyed (remove_entry (is_at (stamp_cmp t)) es)
taken_out [] t k n = (refl, tt)
taken_out (e ∷ es) t k n =
    let here = at_stamp t e k.0 in
    elim (same_stamp (stamp_of e.1) t) as (λ b. same_stamp (stamp_of e.1) t ≡ b → (values_of (cond (is_at (stamp_cmp t) e.0) es (e ∷ remove_entry (is_at (stamp_cmp t)) es)) ≡ cond (not b) (e.1 ∷ without t (values_of es)) (without t (values_of es))) × AreKeyed (cond (is_at (stamp_cmp t) e.0) es (e ∷ remove_entry (is_at (stamp_cmp t)) es))) [
      | true ↦ λ q. let x = rw (here ∙ q) at n in rw (here ∙ q) (sym (none_left es t k.1 x), k.1)
      | false ↦ λ q. let x = rw (here ∙ q) at rw (here ∙ q) at n in let ih = taken_out es t k.1 x in rw (here ∙ q) (ap (λ z. e.1 ∷ z) ih.0, (k.0, ih.1))
    ] refl

pub removed : (es fs : Keyed) (w : List Operation) (t : Lamport) → values_of es ≡ w → AreKeyed es → fs ≡ remove_entry (is_at (stamp_cmp t)) es → lookup (is_at (stamp_cmp t)) fs ≡ None
    → (values_of fs ≡ without t w) × AreKeyed fs
removed es fs w t v k e n =
    let out = taken_out es t k (ap (lookup (is_at (stamp_cmp t))) (sym e) ∙ n) in
    (ap values_of e ∙ out.0 ∙ ap (without t) v, subst AreKeyed (sym e) out.1)

-- ---- the operations past a stamp

pub passed : (after : Option Lamport) (es : Keyed) → AreKeyed es → values_of (entries_between stamp_cmp (start_past after) Unbounded es) ≡ filter (is_past after) (values_of es)
passed None [] k = refl
passed None (e ∷ es) k = ap (λ z. e.1 ∷ z) (passed None es k.1)
passed (Some t) [] k = refl
passed (Some t) (e ∷ es) k = one (is_lt (stamp_cmp t e.0)) (entries_between stamp_cmp (Excluded t) Unbounded es) (filter (is_past (Some t)) (values_of es)) (passed (Some t) es k.1)
    ∙ ap (λ b. cond b (e.1 ∷ filter (is_past (Some t)) (values_of es)) (filter (is_past (Some t)) (values_of es))) (is_lt-later t e.0 ∙ ap (λ s. later s t) k.0)
  where
    one : (b : Bool) (fs : Keyed) (g : List Operation) → values_of fs ≡ g → values_of (cond (b && true) (e ∷ fs) fs) ≡ cond b (e.1 ∷ g) g
    one true fs g q = ap (λ z. e.1 ∷ z) q
    one false fs g q = q

-- what is ready is the first that misses nothing past the stamp
pub first_ready : (after : Option Lamport) (have : Entries) (es : Keyed) → AreKeyed es → least_ready after have (values_of es) ≡ find (misses_nothing have) (values_of (entries_between stamp_cmp (start_past after) Unbounded es))
first_ready after have es k = find_filter (is_past after) (misses_nothing have) (values_of es) ∙ ap (find (misses_nothing have)) (sym (passed after es k))

-- the least operation past a stamp is the first of those
pub first_past : (after : Option Lamport) (es : Keyed) → AreKeyed es → least_past after (values_of es) ≡ slice_get (values_of (entries_between stamp_cmp (start_past after) Unbounded es)) 0
first_past after es k = first (is_past after) (values_of es) ∙ ap (λ w. slice_get w 0) (sym (passed after es k))
  where
    first : (p : Operation → Bool) (w : List Operation) → find p w ≡ slice_get (filter p w) 0
    first p [] = refl
    first p (o ∷ w) = one (p o) (first p w)
      where
        one : (b : Bool) → find p w ≡ slice_get (filter p w) 0 → cond b (Some o) (find p w) ≡ slice_get (cond b (o ∷ filter p w) (filter p w)) 0
        one true rest = refl
        one false rest = rest

-- ---- stamps ascend

pub ascending : (es : Keyed) → AreKeyed es → IsStrictlySortedBy stamp_cmp (keys_of es) → Ascending older (values_of es)
unfolding IsStrictlySortedBy
ascending [] k s = tt
ascending (e ∷ es) k s = (before es k.1 s.0, ascending es k.1 s.1)
  where
    before : (fs : Keyed) → AreKeyed fs → AllByRecursion (λ t. stamp_cmp e.0 t ≡ Less) (keys_of fs) → AllByRecursion (λ y. older e.1 y ≡ true) (values_of fs)
    before [] k a = tt
    before (f ∷ fs) j a = (ap (later (stamp_of f.1)) (sym k.0) ∙ ap (λ x. later x e.0) (sym j.0) ∙ sym (is_lt-later e.0 f.0) ∙ ap is_lt a.0, before fs j.1 a.1)
