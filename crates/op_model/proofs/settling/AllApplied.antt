-- Where each operation of a lawful set is applied or waits, and what waits misses a cause, all are applied.
use Rattle.std.proofs.Common.{◌≡◌, ℕ, ◌≤◌, ◌⊎◌, List, [], ◌∷◌, ◌++◌, refl, sym, ap, subst, inl, inr, true, false, ltb, leb, arith}
use Rattle.std.specs.List.{AllByRecursion}
use Rattle.std.proofs.lemmas.Bool.{ltb-false, le-leb, cases_lt}
use Rattle.lamport_clock.specs.declared.stamp.Lamport.{Lamport}
use Rattle.lamport_clock.specs.Versions.{Entries, entry, within}
use Rattle.op_model.specs.declared.operation.Operation.{Operation}
use Rattle.op_model.specs.Operations.{stamp_of, version_of}
use Rattle.op_model.specs.Histories.{History, In, version}
use Rattle.op_model.specs.Answers.{answer}
use Rattle.op_model.specs.Answers.Answer.{Good}
use Rattle.op_model.specs.Lawful.{Lawful, LawfulFrom}
use Rattle.op_model.proofs.order.SameSets.{each_in}
use Rattle.op_model.proofs.histories.Lawful.{greatest, entry_version, greatest_in, in_append}
use Rattle.op_model.proofs.answers.Passed.{passed, find_none}
use Rattle.op_model.proofs.histories.VersionLaws.{has_greatest}

-- a part has no greater value
pub greatest_part : (p h : History) (r : ℕ) → ((o : Operation) → In p o → In h o) → greatest p r ≤ greatest h r
greatest_part p h r f = elim (cases_lt 0 (greatest p r)) [
  | inl q ↦ (let w = has_greatest p r q in
      let v : (stamp_of w.0).value ≡ greatest p r = ap (λ (t : Lamport). t.value) w.2 in
      let s : (stamp_of w.0).replica ≡ r = ap (λ (t : Lamport). t.replica) w.2 in
      let g : (stamp_of w.0).value ≤ greatest h r = subst (λ (n : ℕ). (stamp_of w.0).value ≤ greatest h n) s (greatest_in h w.0 (f w.0 w.1)) in omega arith)
  | inr q ↦ omega arith
]

-- what a good operation has seen is in each history that has all before it
pub good_within : (p h : History) (op : Operation) → answer p [] op ≡ Good → ((o : Operation) → In p o → In h o) → within (version_of op) (version h) ≡ true
good_within p h op g f = go (version_of op) (find_none (λ e. ltb (entry (version p) e.0) e.1) (version_of op) (passed p [] op g).caused)
  where
    go : (v : Entries) → AllByRecursion (λ (e : ℕ × ℕ). ltb (entry (version p) e.0) e.1 ≡ false) v → within v (version h) ≡ true
    go [] n = refl
    go (e ∷ v) n =
        let a = ltb-false (entry (version p) e.0) e.1 n.0 in
        let b = entry_version p e.0 in
        let c = entry_version h e.0 in
        let d = greatest_part p h e.0 f in
        let t : leb e.1 (entry (version h) e.0) ≡ true = le-leb e.1 (entry (version h) e.0) (omega arith) in
        rw t (go v n.1)

-- no operation of w has all its causes in h
abbrev pub AllMiss : History → List Operation → Type 0
AllMiss h w = AllByRecursion (λ (op : Operation). within (version_of op) (version h) ≡ false) w

misses_not : (h : History) (w : List Operation) (op : Operation) → AllMiss h w → within (version_of op) (version h) ≡ true → In w op → ⊥
misses_not h w op m t i = let f = each_in (λ (o : Operation). within (version_of o) (version h) ≡ false) w op m i in cc

applied_from : (p ops h : History) (w : List Operation) → LawfulFrom p ops → ((o : Operation) → In p o → In h o) → ((o : Operation) → In ops o → In h o ⊎ In w o) → AllMiss h w → (o : Operation) → In ops o → In h o
applied_from p [] h w l f g m o i = absurd i
applied_from p (op ∷ ops) h w l f g m o i =
    let here : In h op = elim (g op (inl refl)) [ inl a ↦ a | inr b ↦ absurd (misses_not h w op m (good_within p h op l.0 f) b) ] in
    elim i [
      | inl e ↦ subst (In h) (sym e) here
      | inr n ↦ applied_from (p ++ op ∷ []) ops h w l.1 (λ q j. elim (in_append p op q j) [ inl a ↦ f q a | inr b ↦ subst (In h) (sym b) here ]) (λ q j. g q (inr j)) m o n
    ]

pub all_applied : (g h : History) (w : List Operation) → Lawful g → ((o : Operation) → In g o → In h o ⊎ In w o) → AllMiss h w → (o : Operation) → In g o → In h o
all_applied [] h w l f m = absurd l
all_applied (b ∷ ops) h w l f m =
    let t : within (version_of b) (version h) ≡ true = subst (λ (x : Operation). within (version_of x) (version h) ≡ true) (sym l.0.1) refl in
    let here : In h b = elim (f b (inl refl)) [ inl a ↦ a | inr c ↦ absurd (misses_not h w b m t c) ] in
    λ o i. elim i [
      | inl e ↦ subst (In h) (sym e) here
      | inr n ↦ applied_from (b ∷ []) ops h w l.1 (λ q j. elim j [ inl e ↦ subst (In h) (sym e) here | inr n ↦ absurd n ]) (λ q j. f q (inr j)) m o n
    ]
