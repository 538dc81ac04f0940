-- Calls of a new set: for each author it keeps the newest of what it made and took; the same operations leave the same.
use Rattle.std.proofs.Common.{◌≡◌, ℕ, suc, ◌≢◌, List, [], ◌∷◌, ◌++◌, refl, sym, ap, ◌∙◌, subst, arith, true, false, Some, None, Option, ◌⊎◌, inl, inr, eqb, IfSome}
use Rattle.std.specs.Option.{option_to_list}
use Rattle.std.proofs.lemmas.Bool.{cases_Bool, cases_lt, eqb-true, eq-eqb}
use Rattle.std.proofs.lemmas.Bool.Decides.{nat_tests}
use Rattle.lamport_clock.specs.Stamps.{later, same_stamp}
use Rattle.lamport_clock.specs.declared.stamp.Lamport.{Lamport}
use Rattle.lamport_clock.proofs.Later.{later_irrefl, later_total, same_stamp_eq}
use Rattle.op_model.specs.Sorted.{Member}
use Rattle.selections.specs.declared.selection.SelectionOp.{SelectionOp}
use Rattle.selections.specs.declared.faults.SelTook.{SelTook}
use Rattle.selections.specs.declared.faults.SelTook.TheVariants.{Repeat, Old, Set}
use Rattle.selections.specs.Laws.{AreCalls, Call, IsNewest, NewestAreKept, OneAuthorChanges, OneOfEachStamp, SameOperations, SameOperationsSameKept, operations}
use Rattle.selections.specs.Laws.Call.{Made, Took, Refused}
use Rattle.selections.specs.Sets.{AscendFrom, IsMade, IsSelectionState, SelectionState, find_of, is_of, keep, kept_for, new_state}
use Rattle.selections.specs.Taking.{after_answer}
use Rattle.selections.proofs.Kept.{find-put, find-put_other, none_below}
use Rattle.selections.proofs.Keeping.{Beside, answer_is, answer_made, own_later, own_made, state-keep, state-new}

-- ---- stamps

not_later : (s t u : Lamport) → later s t ≡ false → later t u ≡ false → later s u ≡ false
unfolding later
not_later s t u p q = grind (arith, nat_tests)

earlier : (s t : Lamport) → later s t ≡ true → later t s ≡ false
unfolding later
earlier s t p = grind (arith, nat_tests)

-- ---- the newest of a list

-- each of the author's operations in ys has one in xs that is no earlier
abbrev Covers : ℕ → List SelectionOp → List SelectionOp → Type 0
Covers a xs ys = (op : SelectionOp) → Member op ys → op.stamp.replica ≡ a → (x : SelectionOp) × Member x xs × (x.stamp.replica ≡ a) × (later op.stamp x.stamp ≡ false)

newest-cover : (a : ℕ) (xs ys : List SelectionOp) (o : Option SelectionOp) → ((op : SelectionOp) → Member op xs → Member op ys) → Covers a xs ys → IsNewest a xs o → IsNewest a ys o
newest-cover a xs ys None f g n = λ op m e. let c = g op m e in n c.0 c.1 c.2
newest-cover a xs ys (Some k) f g n = (f k n.0, n.1, λ op m e. let c = g op m e in not_later op.stamp c.0.stamp k.stamp c.3 (n.2 c.0 c.1 c.2))

-- what becomes of the author's operation, o, where op is made or taken: it is another author's, or a later one, or no later one
abbrev Turn : ℕ → Option SelectionOp → Option SelectionOp → SelectionOp → Type 0
Turn a o p op = ((op.stamp.replica ≢ a) × (p ≡ o))
    ⊎ (((op.stamp.replica ≡ a) × (p ≡ Some op) × IfSome o (λ k. later op.stamp k.stamp ≡ true))
    ⊎ ((k : SelectionOp) × (o ≡ Some k) × (p ≡ Some k) × (k.stamp.replica ≡ a) × (later op.stamp k.stamp ≡ false)))

itself : (a : ℕ) (xs : List SelectionOp) (op : SelectionOp) → Member op xs → op.stamp.replica ≡ a → (x : SelectionOp) × Member x xs × (x.stamp.replica ≡ a) × (later op.stamp x.stamp ≡ false)
itself a xs op m e = (op, m, e, later_irrefl op.stamp)

newest-turn : (a : ℕ) (o p : Option SelectionOp) (op : SelectionOp) (rest : List SelectionOp) (z : Option SelectionOp) → Turn a o p op → IsNewest a (option_to_list p ++ rest) z → IsNewest a (option_to_list o ++ op ∷ rest) z
newest-turn a None p op rest z (inl t) n =
    newest-cover a rest (op ∷ rest) z (λ x m. inr m)
    (λ x m e. elim m [ inl q ↦ absurd (t.0 (ap (λ (y : SelectionOp). y.stamp.replica) (sym q) ∙ e)) | inr r ↦ itself a rest x r e ])
    (subst (λ (y : Option SelectionOp). IsNewest a (option_to_list y ++ rest) z) t.1 n)
newest-turn a (Some k) p op rest z (inl t) n =
    newest-cover a (k ∷ rest) (k ∷ op ∷ rest) z (λ x m. elim m [ inl q ↦ inl q | inr r ↦ inr (inr r) ])
    (λ x m e. elim m [
      | inl q ↦ itself a (k ∷ rest) x (inl q) e
      | inr r ↦ elim r [ inl q ↦ absurd (t.0 (ap (λ (y : SelectionOp). y.stamp.replica) (sym q) ∙ e)) | inr i ↦ itself a (k ∷ rest) x (inr i) e ]
    ])
    (subst (λ (y : Option SelectionOp). IsNewest a (option_to_list y ++ rest) z) t.1 n)
newest-turn a None p op rest z (inr (inl t)) n = subst (λ (y : Option SelectionOp). IsNewest a (option_to_list y ++ rest) z) t.1 n
newest-turn a (Some k) p op rest z (inr (inl t)) n =
    newest-cover a (op ∷ rest) (k ∷ op ∷ rest) z (λ x m. inr m)
    (λ x m e. elim m [
      | inl q ↦ (op, inl refl, t.0, subst (λ (y : SelectionOp). later y.stamp op.stamp ≡ false) (sym q) (earlier op.stamp k.stamp t.2))
      | inr r ↦ itself a (op ∷ rest) x r e
    ])
    (subst (λ (y : Option SelectionOp). IsNewest a (option_to_list y ++ rest) z) t.1 n)
newest-turn a o p op rest z (inr (inr t)) n =
    subst (λ (y : Option SelectionOp). IsNewest a (option_to_list y ++ op ∷ rest) z) (sym t.1)
    (newest-cover a (t.0 ∷ rest) (t.0 ∷ op ∷ rest) z (λ x m. elim m [ inl q ↦ inl q | inr r ↦ inr (inr r) ])
    (λ x m e. elim m [
      | inl q ↦ itself a (t.0 ∷ rest) x (inl q) e
      | inr r ↦ elim r [
        | inl q ↦ (t.0, inl refl, t.3, subst (λ (y : SelectionOp). later y.stamp t.0.stamp ≡ false) (sym q) t.4)
        | inr i ↦ itself a (t.0 ∷ rest) x (inr i) e
      ]
    ])
    (subst (λ (y : Option SelectionOp). IsNewest a (option_to_list y ++ rest) z) t.2 n))

-- ---- calls

-- an operation that is kept
turn-keep : (a : ℕ) (op : SelectionOp) (s : SelectionState) → IfSome (kept_for op.stamp.replica s) (λ k. later op.stamp k.stamp ≡ true) → Turn a (kept_for a s) (kept_for a (keep op s)) op
turn-keep a op s l = elim (cases_Bool (eqb op.stamp.replica a)) [
  | inl e ↦ (
      let q : op.stamp.replica ≡ a = eqb-true _ _ e in
      inr (inl (q, subst (λ (b : ℕ). find_of b (keep op s).kept ≡ Some op) q (find-put op s.kept), subst (λ (b : ℕ). IfSome (kept_for b s) (λ k. later op.stamp k.stamp ≡ true)) q l)))
  | inr e ↦ (
      let n : op.stamp.replica ≢ a = λ q. let t : eqb op.stamp.replica a ≡ true = eq-eqb _ _ q in let z : ⊥ = cc in z in
      inl (n, find-put_other a op s.kept (λ q. n (sym q))))
]

-- what is found is the author's
found_of : (a : ℕ) (ks : List SelectionOp) (k : SelectionOp) → find_of a ks ≡ Some k → k.stamp.replica ≡ a
found_of a [] k f = cc
found_of a (x ∷ ks) k f = elim (cases_Bool (is_of a x)) [
  | inl t ↦ (
      let g : Some x ≡ Some k = rw t at f in
      let q : x ≡ k = cc in
      ap (λ (y : SelectionOp). y.stamp.replica) (sym q) ∙ eqb-true _ _ t)
  | inr t ↦ found_of a ks k (rw t at f)
]

-- an operation that is not kept
turn-stay : (a : ℕ) (op : SelectionOp) (s : SelectionState) → ((k : SelectionOp) × (kept_for op.stamp.replica s ≡ Some k) × (later op.stamp k.stamp ≡ false)) → Turn a (kept_for a s) (kept_for a s) op
turn-stay a op s l = elim (cases_Bool (eqb op.stamp.replica a)) [
  | inl e ↦ (
      let q : op.stamp.replica ≡ a = eqb-true _ _ e in
      let f : kept_for a s ≡ Some l.0 = subst (λ (b : ℕ). kept_for b s ≡ Some l.0) q l.1 in
      inr (inr (l.0, f, f, found_of a s.kept l.0 f, l.2)))
  | inr e ↦ inl (λ q. let t : eqb op.stamp.replica a ≡ true = eq-eqb _ _ q in let z : ⊥ = cc in z, refl)
]

-- the operation of a call, if there is one, has its turn; the sets stay sets
turn-took : (a : ℕ) (op : SelectionOp) (t : SelTook) (s : SelectionState) → Beside t (kept_for op.stamp.replica s) op → Turn a (kept_for a s) (kept_for a (after_answer t op s)) op
turn-took a op Repeat s b = turn-stay a op s b
turn-took a op (Old t) s b = turn-stay a op s b
turn-took a op Set s b = turn-keep a op s b

state-took : (op : SelectionOp) (t : SelTook) (s : SelectionState) → IsMade op → IsSelectionState s → IsSelectionState (after_answer t op s)
state-took op Repeat s m i = i
state-took op (Old t) s m i = i
state-took op Set s m i = state-keep op s m i

newest-calls : (cs : List Call) (s n : SelectionState) → IsSelectionState s → AreCalls cs s n → (a : ℕ) → IsNewest a (option_to_list (kept_for a s) ++ operations cs) (kept_for a n)
newest-calls [] s n i c a = subst (λ (m : SelectionState). IsNewest a (option_to_list (kept_for a s) ++ []) (kept_for a m)) (sym c) (alone (kept_for a s) refl)
  where
    alone : (o : Option SelectionOp) → kept_for a s ≡ o → IsNewest a (option_to_list o ++ []) o
    alone None f = λ op m e. m
    alone (Some k) f = (inl refl, found_of a s.kept k f, λ op m e. elim m [ inl q ↦ subst (λ (y : SelectionOp). later y.stamp k.stamp ≡ false) (sym q) (later_irrefl k.stamp) | inr r ↦ absurd r ])
newest-calls (Made op ∷ cs) s n i c a =
    let t = c.1 in
    let k = subst IsSelectionState (sym t.3) (state-keep op s (own_made op s i t.0 t.1 t.2) i) in
    newest-turn a (kept_for a s) (kept_for a (keep op s)) op (operations cs) (kept_for a n) (turn-keep a op s (own_later op s op.stamp.replica i t.0))
    (subst (λ (m : SelectionState). IsNewest a (option_to_list (kept_for a m) ++ operations cs) (kept_for a n)) t.3 (newest-calls cs c.0 n k c.2 a))
newest-calls (Took op w ∷ cs) s n i c a =
    let t = c.1 in
    let k = subst IsSelectionState (sym t.2) (state-took op w s (answer_made s op w t.0 t.1) i) in
    newest-turn a (kept_for a s) (kept_for a (after_answer w op s)) op (operations cs) (kept_for a n) (turn-took a op w s (answer_is s op w t.1))
    (subst (λ (m : SelectionState). IsNewest a (option_to_list (kept_for a m) ++ operations cs) (kept_for a n)) t.2 (newest-calls cs c.0 n k c.2 a))
newest-calls (Refused ∷ cs) s n i c a =
    subst (λ (m : SelectionState). IsNewest a (option_to_list (kept_for a m) ++ operations cs) (kept_for a n)) c.1 (newest-calls cs c.0 n (subst IsSelectionState (sym c.1) i) c.2 a)

pub newest_are_kept : NewestAreKept
newest_are_kept r i cs s c a = newest-calls cs (new_state r) s (state-new r i.0 i.1) c a

-- ---- the same operations

same_newest : (a : ℕ) (xs ys : List SelectionOp) → SameOperations xs ys → OneOfEachStamp xs → (x y : Option SelectionOp) → IsNewest a xs x → IsNewest a ys y → x ≡ y
same_newest a xs ys f u None None n m = refl
same_newest a xs ys f u None (Some y) n m = absurd (n y ((f y).1 m.0) m.1)
same_newest a xs ys f u (Some x) None n m = absurd (m x ((f x).0 n.0) n.1)
same_newest a xs ys f u (Some x) (Some y) n m =
    let p : later y.stamp x.stamp ≡ false = n.2 y ((f y).1 m.0) m.1 in
    let q : later x.stamp y.stamp ≡ false = m.2 x ((f x).0 n.0) n.1 in
    let e : x.stamp ≡ y.stamp = elim (cases_Bool (same_stamp x.stamp y.stamp)) [
      | inl s ↦ same_stamp_eq x.stamp y.stamp s
      | inr s ↦ (let l : later y.stamp x.stamp ≡ true = later_total x.stamp y.stamp q s in let z : ⊥ = cc in absurd z)
    ] in
    ap (λ (z : SelectionOp). Some z) (u x y n.0 ((f y).1 m.0) e)

-- lists in ascending order of authors in which the same are found are one
same_found : (n : ℕ) (ks js : List SelectionOp) → AscendFrom n ks → AscendFrom n js → ((a : ℕ) → find_of a ks ≡ find_of a js) → ks ≡ js
same_found n [] [] i j f = refl
same_found n [] (y ∷ js) i j f = let t : is_of y.stamp.replica y ≡ true = eq-eqb y.stamp.replica y.stamp.replica refl in
    let e : None ≡ Some y = rw t at (f y.stamp.replica) in cc
same_found n (x ∷ ks) [] i j f = let t : is_of x.stamp.replica x ≡ true = eq-eqb x.stamp.replica x.stamp.replica refl in
    let e : Some x ≡ None = rw t at (f x.stamp.replica) in cc
same_found n (x ∷ ks) (y ∷ js) i j f = elim (cases_Bool (is_of x.stamp.replica y)) [
  | inl t ↦ (
      let own : is_of x.stamp.replica x ≡ true = eq-eqb x.stamp.replica x.stamp.replica refl in
      let e : Some x ≡ Some y = rw (own, t) at (f x.stamp.replica) in
      let q : x ≡ y = cc in
      let r : y.stamp.replica ≡ x.stamp.replica = eqb-true _ _ t in
      let k : AscendFrom (suc x.stamp.replica) js = subst (λ (m : ℕ). AscendFrom (suc m) js) r j.1 in
      ap (λ (z : SelectionOp). z ∷ ks) q ∙ ap (λ (l : List SelectionOp). y ∷ l) (same_found (suc x.stamp.replica) ks js i.1 k (rest r k)))
  | inr t ↦ absurd (elim (cases_lt y.stamp.replica x.stamp.replica) [
    | inl l ↦ (
        let own : is_of y.stamp.replica y ≡ true = eq-eqb y.stamp.replica y.stamp.replica refl in
        let g : find_of y.stamp.replica (x ∷ ks) ≡ None = none_below x.stamp.replica y.stamp.replica (x ∷ ks) (omega arith, i.1) l in
        let e : find_of y.stamp.replica (x ∷ ks) ≡ Some y = f y.stamp.replica ∙ (rw own refl) in
        let z : ⊥ = cc in z)
    | inr l ↦ (
        let own : is_of x.stamp.replica x ≡ true = eq-eqb x.stamp.replica x.stamp.replica refl in
        let ne : y.stamp.replica ≢ x.stamp.replica = λ q. let b : is_of x.stamp.replica y ≡ true = eq-eqb _ _ q in let z : ⊥ = cc in z in
        let g : find_of x.stamp.replica (y ∷ js) ≡ None = none_below y.stamp.replica x.stamp.replica (y ∷ js) (omega arith, j.1) (omega (arith, ne)) in
        let e : find_of x.stamp.replica (y ∷ js) ≡ Some x = sym (f x.stamp.replica) ∙ (rw own refl) in
        let z : ⊥ = cc in z)
  ])
]
  where
    rest : y.stamp.replica ≡ x.stamp.replica → AscendFrom (suc x.stamp.replica) js → (a : ℕ) → find_of a ks ≡ find_of a js
    rest r k a = elim (cases_Bool (is_of a x)) [
      | inl t ↦ (
          let q : x.stamp.replica ≡ a = eqb-true _ _ t in
          none_below (suc x.stamp.replica) a ks i.1 (omega arith) ∙ sym (none_below (suc x.stamp.replica) a js k (omega arith)))
      | inr t ↦ (
          let u : is_of a y ≡ false = ap (λ (m : ℕ). eqb m a) r ∙ t in
          rw (t, u) at (f a))
    ]

calls_state : (cs : List Call) (s n : SelectionState) → IsSelectionState s → AreCalls cs s n → IsSelectionState n
calls_state [] s n i c = subst IsSelectionState (sym c) i
calls_state (Made op ∷ cs) s n i c = let t = c.1 in calls_state cs c.0 n (subst IsSelectionState (sym t.3) (state-keep op s (own_made op s i t.0 t.1 t.2) i)) c.2
calls_state (Took op w ∷ cs) s n i c = let t = c.1 in calls_state cs c.0 n (subst IsSelectionState (sym t.2) (state-took op w s (answer_made s op w t.0 t.1) i)) c.2
calls_state (Refused ∷ cs) s n i c = calls_state cs c.0 n (subst IsSelectionState (sym c.1) i) c.2

pub same_operations_same_kept : SameOperationsSameKept
same_operations_same_kept r q i j cs ds s n c d f u =
    let v = calls_state cs (new_state r) s (state-new r i.0 i.1) c in
    let w = calls_state ds (new_state q) n (state-new q j.0 j.1) d in
    same_found 1 s.kept n.kept v.ascending w.ascending (λ a. same_newest a (operations cs) (operations ds) f u (kept_for a s) (kept_for a n) (newest_are_kept r i cs s c a) (newest_are_kept q j ds n d a))

pub one_author_changes : OneAuthorChanges
one_author_changes op s = (find-put op s.kept, λ a n. find-put_other a op s.kept n)
