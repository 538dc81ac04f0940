-- Causes that are listed of what waits.
use Rattle.std.proofs.Common.{◌≡◌, ◌⊎◌, inl, inr, ◌<◌, ◌≤◌, ◌==◌, ℕ, Bool, true, false, cond, not, List, [], ◌∷◌, refl, sym, ap, ◌∙◌, Option, Some, None, arith, subst, true≢false, eqb-true, eq-eqb, ne_eqb, lt-ltb, le-ltb, slice_get}
use Rattle.std.specs.List.{AllByRecursion}
use Rattle.std.specs.Prelude.{nat_le, IfSome, unwrap_or}
use Rattle.std.proofs.lemmas.Bool.{cases_Bool, cases_lt, le-leb, leb-true, and_right}
use Rattle.std.specs.Ordering.{is_eq, is_gt, nat_cmp, ordering_then}
use Rattle.std.specs.declared.cmp.Ordering.{Ordering}
use Rattle.std.specs.declared.cmp.Ordering.TheVariants.{Less, Equal, Greater}
use Rattle.std.specs.declared.ops.Bound.TheVariants.{Included, Unbounded}
use Rattle.std.specs.BTreeMap.{is_at}
use Rattle.std.specs.BTreeSet.{IsKeyInRange, IsKeyRangeOf}
use Rattle.std.specs.BTreeMap.Range.{IsLeBy}
use Rattle.lamport_clock.specs.declared.stamp.Lamport.{Lamport}
use Rattle.lamport_clock.specs.Stamps.{later, same_stamp, stamp_cmp}
use Rattle.lamport_clock.specs.Versions.{Entries, entry}
use Rattle.lamport_clock.proofs.Order.{is_eq-same, same_sym}
use Rattle.lamport_clock.proofs.Raises.{by_order}
use Rattle.lamport_clock.proofs.Later.{later_differs, same_stamp_eq, same_stamp_refl}
use Rattle.op_model.specs.declared.operation.Operation.{Operation}
use Rattle.op_model.specs.Sorted.{Ascending, Member, insert_by}
use Rattle.op_model.specs.Operations.{stamp_of, version_of}
use Rattle.op_model.specs.Histories.{operation_at}
use Rattle.op_model.specs.Steps.{older, without}
use Rattle.op_model.proofs.settling.Causes.{misses}
use Rattle.deferred_ops.specs.Deferred.{AreListed, Cause, Causes, IsListed, KeepsOthers, NoneSeen, cause_order, has_cause, is_past, least_ready, misses_nothing}

-- ---- numbers that come first in an order

not_before : (m n : ℕ) (o : Ordering) → m ≤ n → is_gt o ≡ false → is_gt (ordering_then (nat_cmp m n) o) ≡ false
not_before m n o le h =
    by_order _ m n
    (λ l. rw (lt-ltb m n l) refl)
    (λ q. rw (le-ltb m n (omega arith), eq-eqb m n q) h)
    (λ g. absurd (omega arith))

first_at_most : (m n : ℕ) (o : Ordering) → is_gt (ordering_then (nat_cmp m n) o) ≡ false → m ≤ n
first_at_most m n o h =
    by_order _ m n
    (λ l. omega arith)
    (λ q. omega arith)
    (λ g. let bad = rw (le-ltb m n (omega arith), ne_eqb m n (λ q. absurd (omega arith))) at h in absurd (true≢false bad))

then_second : (m n : ℕ) (o : Ordering) → m ≡ n → is_gt (ordering_then (nat_cmp m n) o) ≡ false → is_gt o ≡ false
then_second m n o q h = rw (le-ltb m n (omega arith), eq-eqb m n q) at h

regrouped : (a b c : Ordering) → ordering_then (ordering_then a b) c ≡ ordering_then a (ordering_then b c)
regrouped Less b c = refl
regrouped Equal b c = refl
regrouped Greater b c = refl

-- ---- the first cause of a replica

abbrev pub least : Lamport
least = record { value = 0; replica = 0 }

in_reach : (r x : ℕ) (t : Lamport) → is_gt (cause_order (r, 0, least) (r, x, t)) ≡ false
in_reach r x t =
    ap is_gt (regrouped (nat_cmp r r) (nat_cmp 0 x) (stamp_cmp least t))
    ∙ not_before r r _ (omega arith) (not_before 0 x _ (omega arith) (not_before 0 t.value _ (omega arith) (last (nat_cmp 0 t.replica) (not_before 0 t.replica Equal (omega arith) refl))))
  where
    last : (o : Ordering) → is_gt (ordering_then o Equal) ≡ false → is_gt o ≡ false
    last Less h = refl
    last Equal h = refl
    last Greater h = h

by_parts : (a b : Cause) → is_gt (cause_order a b) ≡ false → (a.0 ≤ b.0) × (a.0 ≡ b.0 → a.1 ≤ b.1)
by_parts a b h =
    let parts = sym (ap is_gt (regrouped (nat_cmp a.0 b.0) (nat_cmp a.1 b.1) (stamp_cmp a.2 b.2))) ∙ h in
    (first_at_most a.0 b.0 _ parts, λ q. first_at_most a.1 b.1 _ (then_second a.0 b.0 _ q parts))

abbrev InReach : Causes → ℕ → List Cause → Type 0
InReach s r ks = IsKeyRangeOf cause_order (Included (r, 0, least)) Unbounded s ks

pub none_there : (s : Causes) (r v : ℕ) (ks : List Cause) → InReach s r ks → ks ≡ [] → NoneSeen s (r, v)
none_there s r v ks range none = λ x t le. range.5 none (r, x, t) (in_reach r x t, tt)

pub none_seen : (s : Causes) (r v : ℕ) (ks : List Cause) (k : Cause) → InReach s r ks → slice_get ks 0 ≡ Some k → ((k.0 ≡ r) × (v < k.1)) ⊎ (k.0 ≡ r → ⊥) → NoneSeen s (r, v)
none_seen s r v ks k range first past = λ x t le. elim (cases_Bool (has_cause s (r, x, t))) [
  | inl has ↦
      let start = by_parts (r, 0, least) k (subst (λ o. IfSome o (λ c. IsKeyInRange cause_order (Included (r, 0, least)) Unbounded s c)) first range.1).0.0 in
      let reach = by_parts k (r, x, t) (subst (λ o. IfSome o (λ c. IsLeBy cause_order c (r, x, t))) first (range.2 (r, x, t) (in_reach r x t, tt) has)) in
      let same : k.0 ≡ r = omega (arith, start.0, reach.0) in
      elim past [
        | inl beyond ↦ absurd (omega (arith, reach.1 same, le, beyond.1))
        | inr other ↦ absurd (other same)
      ]
  | inr none ↦ none
]

-- ---- each operation misses a listed cause

abbrev pub AllNone : Causes → Entries → Type 0
AllNone s v = AllByRecursion (NoneSeen s) v

unseen : (s : Causes) (have : Entries) (r x : ℕ) (t : Lamport) → AllNone s have → has_cause s (r, x, t) ≡ true → 0 < x → entry have r < x
unseen s [] r x t none has some = some
unseen s (e ∷ have) r x t none has some = go (e.0 == r) refl (unseen s have r x t none.1 has some)
  where
    go : (b : Bool) → (e.0 == r) ≡ b → entry have r < x → cond b e.1 (entry have r) < x
    go false q later = later
    go true q later = elim (cases_Bool (nat_le x e.1)) [
      | inl le ↦
          let absent = none.0 x t (leb-true x e.1 le) in
          absurd (true≢false (sym (ap (λ j. has_cause s (j, x, t)) (eqb-true e.0 r q) ∙ has) ∙ absent))
      | inr past ↦ elim (cases_lt e.1 x) [
        | inl lt ↦ lt
        | inr ge ↦ absurd (true≢false (sym (le-leb x e.1 ge) ∙ past))
      ]
    ]

pub none_ready : (s : Causes) (have : Entries) (w : List Operation) → AllNone s have → AreListed s w → (after : Option Lamport) → least_ready after have w ≡ None
none_ready s have [] none listed after = refl
none_ready s have (op ∷ w) none listed after =
    let cause = listed.0 in
    let missed = misses have (version_of op) (cause.0, cause.1) cause.4 (unseen s have cause.0 cause.1 (stamp_of op) none cause.2 cause.3) in
    ap (λ b. cond b (Some op) (least_ready after have w)) (and_right (is_past after op) (misses_nothing have op) missed) ∙ none_ready s have w none listed.1 after

-- ---- what waits changes

pub added_listed : (s : Causes) (op : Operation) (w : List Operation) → IsListed s op → AreListed s w → AreListed s (insert_by older op w)
added_listed s op [] here listed = (here, tt)
added_listed s op (o ∷ w) here listed = go (older o op) (added_listed s op w here listed.1)
  where
    go : (b : Bool) → AreListed s (insert_by older op w) → AreListed s (cond b (o ∷ insert_by older op w) (op ∷ o ∷ w))
    go true rest = (listed.0, rest)
    go false rest = (here, listed)

-- ---- a cause that is listed stays one where another is

pub stays_true : (b h : Bool) → h ≡ true → cond b true h ≡ true
stays_true true h e = refl
stays_true false h e = e

-- a cause is listed in place of another
then_eq : (o p : Ordering) → is_eq (ordering_then o p) ≡ true → is_eq p ≡ true
then_eq Less p e = absurd (true≢false (sym e))
then_eq Equal p e = e
then_eq Greater p e = absurd (true≢false (sym e))

pub other_stamp : (a b : Cause) → same_stamp a.2 b.2 ≡ false → is_at (cause_order a) b ≡ false
other_stamp a b apart = elim (cases_Bool (is_at (cause_order a) b)) [
  | inl e ↦ absurd (true≢false (sym (then_eq (ordering_then (nat_cmp a.0 b.0) (nat_cmp a.1 b.1)) (stamp_cmp a.2 b.2) e) ∙ is_eq-same a.2 b.2 ∙ apart))
  | inr e ↦ e
]

pub same_here : (a : Cause) → is_at (cause_order a) a ≡ true
same_here a =
    rw (le-ltb a.0 a.0 (omega arith), eq-eqb a.0 a.0 refl, le-ltb a.1 a.1 (omega arith), eq-eqb a.1 a.1 refl) (is_eq-same a.2 a.2 ∙ same_stamp_refl a.2)

-- the causes of all operations of other stamps stay
module _ (s anew : Causes) (t : Lamport) (stays : KeepsOthers t s anew) where
  listed_on : (op : Operation) → same_stamp (stamp_of op) t ≡ false → IsListed s op → IsListed anew op
  listed_on op apart listed = (listed.0, listed.1, stays (listed.0, listed.1, stamp_of op) apart listed.2, listed.3, listed.4)

  -- no operation of that stamp waits
  pub dropped_listed : (w : List Operation) → operation_at w t ≡ None → AreListed s w → AreListed anew w
  dropped_listed [] none listed = tt
  dropped_listed (o ∷ w) none listed = go (same_stamp (stamp_of o) t) refl none (λ rest. dropped_listed w rest listed.1)
    where
      go : (b : Bool) → same_stamp (stamp_of o) t ≡ b → cond b (Some o) (operation_at w t) ≡ None → (operation_at w t ≡ None → AreListed anew w) → AreListed anew (o ∷ w)
      go true q e later = absurd (cc e)
      go false q e later = (listed_on o q listed.0, later e)

  -- the operation of that stamp waits no longer
  pub removed_listed : (w : List Operation) → AreListed s w → AreListed anew (without t w)
  removed_listed [] listed = tt
  removed_listed (o ∷ w) listed = go (same_stamp (stamp_of o) t) refl (removed_listed w listed.1)
    where
      go : (b : Bool) → same_stamp (stamp_of o) t ≡ b → AreListed anew (without t w) → AreListed anew (cond (not b) (o ∷ without t w) (without t w))
      go true q rest = rest
      go false q rest = (listed_on o q listed.0, rest)

  -- the operations after one of that stamp have others
  behind_listed : (o : Operation) (w : List Operation) → same_stamp (stamp_of o) t ≡ true → AllByRecursion (λ y. older o y ≡ true) w → AreListed s w → AreListed anew w
  behind_listed o [] here before listed = tt
  behind_listed o (y ∷ w) here before listed =
      let apart : same_stamp (stamp_of y) t ≡ false =
      same_sym (stamp_of y) t ∙ ap (λ t. same_stamp t (stamp_of y)) (sym (same_stamp_eq (stamp_of o) t here)) ∙ (later_differs (stamp_of o) (stamp_of y) before.0).0 in
      (listed_on y apart listed.0, behind_listed o w here before.1 listed.1)

  -- the operation of that stamp has another cause
  relisted_by : (op : Operation) (w : List Operation) → Ascending older w → operation_at w t ≡ Some op → IsListed anew op → AreListed s w → AreListed anew w
  relisted_by op [] up found is listed = tt
  relisted_by op (o ∷ w) up found is listed = go (same_stamp (stamp_of o) t) refl found (λ e. relisted_by op w up.1 e is listed.1)
    where
      go : (b : Bool) → same_stamp (stamp_of o) t ≡ b → cond b (Some o) (operation_at w t) ≡ Some op → (operation_at w t ≡ Some op → AreListed anew w) → AreListed anew (o ∷ w)
      go true q e later = (subst (IsListed anew) (sym (ap (λ x. unwrap_or x o) e)) is, behind_listed o w q up.0 listed.1)
      go false q e later = (listed_on o q listed.0, later e)

-- what an operation is listed by that has such a cause
pub inserted_listed : (s anew : Causes) (missed : Cause) (op : Operation) (b : Cause → Bool)
    → ((q : Cause) → has_cause anew q ≡ cond (is_at (cause_order missed) q) true (b q))
    → missed.2 ≡ stamp_of op → (0 < missed.1) × Member (missed.0, missed.1) (version_of op) → IsListed anew op
inserted_listed s anew missed op b changes is cause =
    (missed.0, missed.1, ap (has_cause anew) key ∙ changes missed ∙ ap (λ x. cond x true (b missed)) (same_here missed), cause.0, cause.1)
  where
    key : ◌≡◌ {A = Cause} (missed.0, missed.1, stamp_of op) missed
    key = λ i. (missed.0, missed.1, (sym is) i)

pub relisted : (s anew : Causes) (seen missed : Cause)
    → ((q : Cause) → has_cause anew q ≡ cond (is_at (cause_order missed) q) true (cond (is_at (cause_order seen) q) false (has_cause s q)))
    → (op : Operation) (w : List Operation) → Ascending older w → operation_at w seen.2 ≡ Some op → missed.2 ≡ stamp_of op → 0 < missed.1 → Member (missed.0, missed.1) (version_of op) → AreListed s w → AreListed anew w
relisted s anew seen missed changes op w up found is some among listed =
    relisted_by s anew seen.2 (λ q away has. let apart = other_stamp seen q (same_sym seen.2 q.2 ∙ away) in changes q ∙ ap (λ b. cond (is_at (cause_order missed) q) true (cond b false (has_cause s q))) apart ∙ stays_true (is_at (cause_order missed) q) (has_cause s q) has) op w up found
    (inserted_listed s anew missed op (λ q. cond (is_at (cause_order seen) q) false (has_cause s q)) changes is (some, among)) listed

pub more_listed : (s anew : Causes) → ((q : Cause) → has_cause s q ≡ true → has_cause anew q ≡ true) → (w : List Operation) → AreListed s w → AreListed anew w
more_listed s anew keeps [] listed = tt
more_listed s anew keeps (o ∷ w) listed = ((listed.0.0, listed.0.1, keeps (listed.0.0, listed.0.1, stamp_of o) listed.0.2, listed.0.3, listed.0.4), more_listed s anew keeps w listed.1)
