-- An honest set that the limits hold is applied whole.
use Rattle.std.proofs.Common.{◌≡◌, ℕ, ◌+◌, ◌≤◌, ◌⊎◌, Bool, List, [], ◌∷◌, ◌++◌, reverse, refl, sym, ◌∙◌, ap, subst, inl, inr, true, false, cond, eqb, arith, None}
use Rattle.std.specs.List.{AllByRecursion}
use Rattle.std.proofs.lemmas.Bool.{le-ltb}
use Rattle.std.proofs.lemmas.Grind.{reverse_onto}
use Rattle.op_model.specs.declared.operation.Operation.{Operation}
use Rattle.op_model.specs.Rules.{Rules, rule_fault, KeepsRule}
use Rattle.op_model.specs.Sorted.{Member}
use Rattle.op_model.specs.Operations.{stamp_of, bytes_of, entries_of}
use Rattle.op_model.specs.Histories.{History, In, SameSet, Distinct, base, bytes_held, entries_held, newest_first, oldest_first}
use Rattle.op_model.specs.Domains.{IsProper, IsReplica}
use Rattle.op_model.specs.Lawful.{Lawful, Honest}
use Rattle.op_model.specs.Settled.{full_fault}
use Rattle.op_model.specs.Steps.{Step, run, settle_step, IsProperStep, NoneForgotten}
use Rattle.op_model.specs.Opened.{state_of}
use Rattle.op_model.specs.Brought.{operations_of_calls, NoFull}
use Rattle.op_model.proofs.order.SameSets.{each_in, newest_same}
use Rattle.op_model.proofs.histories.Lawful.{in_append}
use Rattle.op_model.proofs.answers.Good.{lawful_ready, stamp_parts}
use Rattle.op_model.proofs.histories.MoreLawful.{lawful_more}
use Rattle.op_model.proofs.histories.VersionLaws.{shaped_good}
use Rattle.op_model.proofs.histories.Append.{bytes_held-append, entries_held-append}
use Rattle.op_model.proofs.texts.WholeTexts.{in_last}
use Rattle.op_model.proofs.settling.HonestRuns.{Roomy, Fits, room_enough, applied_whole}
use Rattle.op_model.proofs.Elements.{member_left}

-- ---- the list by stamps has the same operations

turned : (h : History) (o : Operation) → (In (reverse h) o → In h o) × (In h o → In (reverse h) o)
turned [] o = ((λ i. i), (λ i. i))
turned (p ∷ h) o = let k = turned h o in let e : reverse (p ∷ h) ≡ reverse h ++ p ∷ [] = reverse_onto h p [] in (
  (λ i. elim (in_append (reverse h) p o (subst (λ (z : History). In z o) e i)) [ inl a ↦ inr (k.0 a) | inr q ↦ inl q ]),
  (λ i. subst (λ (z : History). In z o) (sym e) (elim i [ inl q ↦ subst (In (reverse h ++ p ∷ [])) (sym q) (in_last (reverse h) p) | inr a ↦ member_left o (reverse h) (p ∷ []) (k.1 a) ])),
)

pub oldest_same : (ops : History) → SameSet (oldest_first ops) ops
oldest_same ops o = let k = turned (newest_first ops) o in let n = newest_same ops o in ((λ i. n.0 (k.0 i)), (λ i. k.1 (n.1 i)))

-- ---- a part holds no more than the whole

module _ (size : Operation → ℕ) where
  abbrev pub total : History → ℕ
  total [] = 0
  total (op ∷ h) = size op + total h

  -- g without one of its operations, which all others stay in
  without : (g : History) (op : Operation) → In g op → (r : History) × (total g ≡ size op + total r) × ((o : Operation) → In g o → (o ≡ op) ⊎ In r o)
  without [] op i = absurd i
  without (p ∷ g) op i = elim i [
    | inl e ↦ (g, rw e refl, λ o j. elim j [ inl q ↦ inl (q ∙ sym e) | inr n ↦ inr n ])
    | inr n ↦ (let k = without g op n in (p ∷ k.0, (let t = k.1 in omega arith), λ o j. elim j [ inl q ↦ inr (inl q) | inr m ↦ elim (k.2 o m) [ inl q ↦ inl q | inr s ↦ inr (inr s) ] ]))
  ]

  part_total : (h g : History) → Distinct h → ((o : Operation) → In h o → In g o) → total h ≤ total g
  part_total [] g d f = omega arith
  part_total (op ∷ h) g d f =
      let k = without g op (f op (inl refl)) in
      let t = k.1 in
      let s = part_total h k.0 d.1 (λ o i. elim (k.2 o (f o (inr i))) [
        | inl e ↦ absurd (each_in (λ (p : Operation). stamp_of p ≡ stamp_of op → ⊥) h o d.0 i (ap stamp_of e))
        | inr j ↦ j
      ]) in omega arith

-- the entries that an operation adds to those held
abbrev pub added_entries : Operation → ℕ
added_entries op = cond (eqb (stamp_of op).replica 0) 0 (entries_of op)

bytes_total : (h : History) → bytes_held h ≡ total bytes_of h
bytes_total [] = refl
bytes_total (op ∷ h) = ap (λ n. bytes_of op + n) (bytes_total h)

entries_total : (h : History) → entries_held h ≡ total added_entries h
entries_total [] = refl
entries_total (op ∷ h) = go (eqb (stamp_of op).replica 0) (entries_total h)
  where
    go : (b : Bool) → entries_held h ≡ total added_entries h → cond b (entries_held h) (entries_of op + entries_held h) ≡ cond b 0 (entries_of op) + total added_entries h
    go true e = omega (arith, e)
    go false e = ap (λ n. entries_of op + n) e

-- ---- the limits hold a set where they hold it whole

pub holds_more : (l : Rules) (h : History) (op : Operation) → bytes_held h + bytes_of op ≤ l.limits.bytes → entries_held h + entries_of op ≤ l.limits.entries → full_fault l h op ≡ None
holds_more l h op b e = rw (le-ltb l.limits.bytes (bytes_held h + bytes_of op) b, le-ltb l.limits.entries (entries_held h + entries_of op) e) refl

pub roomy : (l : Rules) (ops g : History) (lg : Lawful g) (kg : (o : Operation) → In g o → rule_fault l.endings o ≡ None) → ((o : Operation) → In g o → In ops o) → bytes_held ops ≤ l.limits.bytes → entries_held ops ≤ l.limits.entries → Roomy l g lg kg
roomy l ops g lg kg f b e h op p i a = holds_more l h op
    (let s = part_total bytes_of n ops d inside in let m = bytes_held-append h op in let x = bytes_total n in let y = bytes_total ops in omega arith)
    (let s = part_total added_entries n ops d inside in let m = entries_held-append h op in let x = entries_total n in let y = entries_total ops in let z = own in omega arith)
  where
    n : History
    n = h ++ op ∷ []

    d : Distinct n
    d = (lawful_ready n (lawful_more h op p.0 a)).0.distinct

    inside : (o : Operation) → In n o → In ops o
    inside o j = f o (elim (in_append h op o j) [ inl k ↦ p.1 o k | inr q ↦ subst (In g) (sym q) i ])

    own : added_entries op ≡ entries_of op
    own = rw ((stamp_parts op (shaped_good h op a)).2) refl

-- a buffer that was opened with the list g
module _ (l : Rules) (r : ℕ) (g : List Operation) (cs : List Step) (ops : List Operation) (ir : IsReplica r) (lg : Lawful g) (pg : AllByRecursion IsProper g) (p : AllByRecursion IsProperStep cs) (nf0 : NoneForgotten cs) (ho : Honest ops) (ko : KeepsRule l.endings ops)
    (part : (o : Operation) → In g o → In ops o) (inside : (o : Operation) → Member o (operations_of_calls l r cs (state_of g)) → In ops o)
    (all : (o : Operation) → In ops o → In g o ⊎ Member o (operations_of_calls l r cs (state_of g))) where
  abbrev sorted : History
  sorted = oldest_first ops

  clean : (o : Operation) → In sorted o → rule_fault l.endings o ≡ None
  clean o i = each_in (λ (x : Operation). rule_fault l.endings x ≡ None) ops o ko ((oldest_same ops o).0 i)

  of_sorted : (o : Operation) → Member o (operations_of_calls l r cs (state_of g)) → In sorted o
  of_sorted o m = (oldest_same ops o).1 (inside o m)

  first_in : (h : History) → Lawful h → (t : List ℕ) × In h (base t)
  first_in [] i = absurd i
  first_in (op ∷ h) i = (i.0.0, inl (sym i.0.1))

  starts : Fits l sorted ho clean (state_of g)
  starts = ((lg, λ o i. (oldest_same ops o).1 (part o i)), tt)

  pub honest_applied : NoFull l r cs (state_of g) → SameSet (settle_step l (run l r cs (state_of g))).history ops
  honest_applied nf =
      let same = oldest_same ops in
      let b = first_in g lg in
      let whole = applied_whole l r b.0 cs (state_of g) sorted ir p nf0 ho clean (lg, pg, tt) starts b.1 of_sorted nf
      (λ o i. elim (all o ((same o).0 i)) [ inl e ↦ inl (inl e) | inr m ↦ inr m ]) in
      λ o. ((λ i. (same o).0 ((whole o).0 i)), (λ i. (whole o).1 ((same o).1 i)))

  pub honest_whole : bytes_held ops ≤ l.limits.bytes → entries_held ops ≤ l.limits.entries → SameSet (settle_step l (run l r cs (state_of g))).history ops
  honest_whole bytes entries =
      let b = first_in g lg in
      honest_applied (room_enough l r b.0 cs (state_of g) sorted ir p nf0 ho clean (lg, pg, tt) starts b.1 of_sorted (roomy l ops sorted ho clean (λ o i. (oldest_same ops o).0 i) bytes entries) refl)
