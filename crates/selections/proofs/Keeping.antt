-- What sets keep: the clock is past every stamp, and an answer says how the operation stands beside the one that is kept.
use Rattle.std.proofs.Common.{◌≡◌, ℕ, ◌<◌, ◌≤◌, List, [], ◌∷◌, length, refl, sym, ap, subst, arith, true, false, Some, None, Option, ◌||◌, eqb, ltb, inl, inr, Result, Ok, Err, IfSome}
use Rattle.std.specs.List.{AllByRecursion}
use Rattle.std.proofs.lemmas.Bool.{cases_Bool, ltb-false, or_parts}
use Rattle.std.proofs.lemmas.Bool.Decides.{nat_tests}
use Rattle.lamport_clock.specs.Clocks.{clock_after, last_value}
use Rattle.lamport_clock.specs.declared.stamp.Lamport.{Lamport}
use Rattle.lamport_clock.specs.Stamps.{later}
use Rattle.lamport_clock.proofs.Later.{later_of}
use Rattle.op_model.specs.Choice.{when}
use Rattle.op_model.specs.Operations.{last_replica}
use Rattle.op_model.proofs.Elements.{each_map}
use Rattle.op_model.proofs.answers.Passed.{all_none, when_none}
use Rattle.selections.specs.declared.selection.SelectionOp.{SelectionOp}
use Rattle.selections.specs.declared.faults.SelTook.{SelTook}
use Rattle.selections.specs.declared.faults.SelTook.TheVariants.{Repeat, Old, Set}
use Rattle.selections.specs.declared.faults.SelFault.{SelFault}
use Rattle.selections.specs.declared.faults.SelFault.TheVariants.{BadStamp, TooMany, Conflict}
use Rattle.selections.specs.Same.{same_operation}
use Rattle.selections.specs.Sets.{IsMade, IsSelectionState, SelectionState, find_of, is_of, keep, kept_for, most_ranges, new_state, put}
use Rattle.selections.specs.Setting.{own_stamp}
use Rattle.selections.specs.Taking.{answer, answer_beside, bad_stamp, shape_fault, unless_fault}
use Rattle.selections.proofs.Kept.{AscendFrom-put, each-put}

-- ---- what is found in a list

pub each_found : (P : SelectionOp → Type 0) (a : ℕ) (ks : List SelectionOp) (k : SelectionOp) → AllByRecursion P ks → find_of a ks ≡ Some k → P k
each_found P a [] k e f = cc
each_found P a (x ∷ ks) k e f = elim (cases_Bool (is_of a x)) [
  | inl t ↦ (let g : Some x ≡ Some k = rw t at f in let q : x ≡ k = cc in subst P q e.0)
  | inr t ↦ each_found P a ks k e.1 (rw t at f)
]

-- ---- one more operation

pub state-keep : (op : SelectionOp) (s : SelectionState) → IsMade op → IsSelectionState s → IsSelectionState (keep op s)
state-keep op s m i =
    let v = m.greatest_value in
    let c = i.greatest_clock in
    let b = i.least_clock in
    record {
      least_replica = i.least_replica;
      greatest_replica = i.greatest_replica;
      least_clock = omega arith;
      greatest_clock = omega arith;
      ascending = AscendFrom-put 1 op s.kept m.least_author i.ascending;
      made = each-put IsMade op s.kept m i.made;
      past = each-put (λ (k : SelectionOp). k.stamp.value < clock_after s.clock op.stamp.value) op s.kept (omega arith)
          (each_map (λ (k : SelectionOp). k.stamp.value < s.clock) (λ (k : SelectionOp). k.stamp.value < clock_after s.clock op.stamp.value) (λ k h. omega arith) s.kept i.past);
    }

abbrev pub sets_of : ℕ → ℕ → List SelectionOp → SelectionState
sets_of r c ks = record { replica = r; clock = c; kept = ks }

-- the fields of sets that have kept op
pub kept_fields : (op : SelectionOp) (s : SelectionState) (c : ℕ) (ks : List SelectionOp) → c ≡ clock_after s.clock op.stamp.value → ks ≡ put op s.kept → sets_of s.replica c ks ≡ keep op s
kept_fields op s c ks e f = λ i. record { replica = s.replica; clock = e i; kept = f i }

pub state-kept : (op : SelectionOp) (s : SelectionState) (c : ℕ) (ks : List SelectionOp) → IsMade op → IsSelectionState s → c ≡ clock_after s.clock op.stamp.value → ks ≡ put op s.kept → IsSelectionState (sets_of s.replica c ks)
state-kept op s c ks m i e f = subst IsSelectionState (sym (kept_fields op s c ks e f)) (state-keep op s m i)

-- new sets
pub state-new : (r : ℕ) → 1 ≤ r → r ≤ last_replica → IsSelectionState (new_state r)
state-new r l g = record {
  least_replica = l;
  greatest_replica = g;
  least_clock = omega arith;
  greatest_clock = omega arith;
  ascending = tt;
  made = tt;
  past = tt;
}

-- the set's own operation
pub own_made : (op : SelectionOp) (s : SelectionState) → IsSelectionState s → op.stamp ≡ own_stamp s → s.clock < last_value → length op.ranges ≤ most_ranges → IsMade op
own_made op s i e l few =
    let v : op.stamp.value ≡ s.clock = ap (λ (t : Lamport). t.value) e in
    let r : op.stamp.replica ≡ s.replica = ap (λ (t : Lamport). t.replica) e in
    let a = i.least_replica in
    let b = i.greatest_replica in
    let c = i.least_clock in
    record { least_author = omega arith; greatest_author = omega arith; least_value = omega arith; greatest_value = omega arith; few = few }

-- an own operation passes the one that is kept
pub own_later : (op : SelectionOp) (s : SelectionState) (a : ℕ) → IsSelectionState s → op.stamp ≡ own_stamp s → IfSome (kept_for a s) (λ k. later op.stamp k.stamp ≡ true)
own_later op s a i e = go (kept_for a s) refl
  where
    go : (o : Option SelectionOp) → kept_for a s ≡ o → IfSome o (λ k. later op.stamp k.stamp ≡ true)
    go None f = tt
    go (Some k) f =
        let below : k.stamp.value < s.clock = each_found (λ (k : SelectionOp). k.stamp.value < s.clock) a s.kept k i.past f in
        let v : op.stamp.value ≡ s.clock = ap (λ (t : Lamport). t.value) e in
        later_of op.stamp k.stamp (omega arith)

-- ---- what an answer says

-- an operation whose shape has no fault is one that a replica makes
good_stamp : (t : Lamport) → bad_stamp t ≡ false → t.value ≤ last_value → (1 ≤ t.replica) × (t.replica ≤ last_replica) × (1 ≤ t.value) × (t.value < last_value)
good_stamp t e l =
    let p = or_parts (eqb t.value 0 || eqb t.value last_value || eqb t.replica 0) (ltb last_replica t.replica) e in
    let q = or_parts (eqb t.value 0 || eqb t.value last_value) (eqb t.replica 0) p.0 in
    let r = or_parts (eqb t.value 0) (eqb t.value last_value) q.0 in
    let some_author = q.1 in
    let some_value = r.0 in
    let not_last = r.1 in
    (grind (arith, nat_tests), ltb-false _ _ p.1, grind (arith, nat_tests), grind (arith, nat_tests))

pub shape_made : (op : SelectionOp) → shape_fault op ≡ None → op.stamp.value ≤ last_value → IsMade op
shape_made op e l =
    let a = all_none (when (bad_stamp op.stamp) BadStamp ∷ when (ltb most_ranges (length op.ranges)) (TooMany (length op.ranges)) ∷ []) e in
    let g = good_stamp op.stamp (when_none (bad_stamp op.stamp) BadStamp a.0) l in
    record {
      least_author = g.0;
      greatest_author = g.1;
      least_value = g.2;
      greatest_value = g.3;
      few = ltb-false _ _ (when_none (ltb most_ranges (length op.ranges)) (TooMany (length op.ranges)) a.1.0);
    }

pub no_fault : (o : Option SelFault) (r : Result SelTook SelFault) (t : SelTook) → unless_fault o r ≡ Ok t → (o ≡ None) × (r ≡ Ok t)
no_fault None r t e = (refl, e)
no_fault (Some f) r t e = cc

pub answer_made : (s : SelectionState) (op : SelectionOp) (t : SelTook) → op.stamp.value ≤ last_value → answer s op ≡ Ok t → IsMade op
answer_made s op t l e = shape_made op (no_fault (shape_fault op) (answer_beside (kept_for op.stamp.replica s) op) t e).0 l

-- an answer that is no fault, and a fault
abbrev took : SelTook → Result SelTook SelFault
took t = Ok t

abbrev refused : SelFault → Result SelTook SelFault
refused f = Err f

-- how an operation stands beside the one that is kept
abbrev pub Beside : SelTook → Option SelectionOp → SelectionOp → Type 0
Beside Set o op = IfSome o (λ k. later op.stamp k.stamp ≡ true)
Beside Repeat o op = (k : SelectionOp) × (o ≡ Some k) × (later op.stamp k.stamp ≡ false)
Beside (Old t) o op = (k : SelectionOp) × (o ≡ Some k) × (later op.stamp k.stamp ≡ false)

pub answer_beside_is : (o : Option SelectionOp) (op : SelectionOp) (t : SelTook) → answer_beside o op ≡ Ok t → Beside t o op
answer_beside_is None op t e = let q : Set ≡ t = cc in subst (λ (x : SelTook). Beside x None op) q tt
answer_beside_is (Some k) op t e = elim (cases_Bool (later op.stamp k.stamp)) [
  | inl l ↦ (
      let f : took Set ≡ took t = rw l at e in
      let q : Set ≡ t = cc in
      subst (λ (x : SelTook). Beside x (Some k) op) q l)
  | inr l ↦ elim (cases_Bool (later k.stamp op.stamp)) [
    | inl m ↦ (
        let f : took (Old k.stamp) ≡ took t = rw (l, m) at e in
        let q : Old k.stamp ≡ t = cc in
        subst (λ (x : SelTook). Beside x (Some k) op) q (k, refl, l))
    | inr m ↦ elim (cases_Bool (same_operation k op)) [
      | inl n ↦ (
          let f : took Repeat ≡ took t = rw (l, m, n) at e in
          let q : Repeat ≡ t = cc in
          subst (λ (x : SelTook). Beside x (Some k) op) q (k, refl, l))
      | inr n ↦ (let f : refused (Conflict op.stamp) ≡ took t = rw (l, m, n) at e in cc)
    ]
  ]
]

pub answer_is : (s : SelectionState) (op : SelectionOp) (t : SelTook) → answer s op ≡ Ok t → Beside t (kept_for op.stamp.replica s) op
answer_is s op t e = answer_beside_is (kept_for op.stamp.replica s) op t (no_fault (shape_fault op) (answer_beside (kept_for op.stamp.replica s) op) t e).1
