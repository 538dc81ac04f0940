-- Which counts edits are given, with one operation more and by undos of others.
use Rattle.std.proofs.Common.{◌≡◌, ℕ, max, List, [], ◌∷◌, ◌++◌, refl, arith, inl, inr, ◌⊎◌, true, false, ap, ◌∙◌, ◌%◌, eqb}
use Rattle.std.proofs.lemmas.Bool.{cases_Bool}
use Rattle.std.specs.List.{filter}
use Rattle.lamport_clock.specs.declared.stamp.Lamport.{Lamport}
use Rattle.lamport_clock.proofs.Later.{other_stamp}
use Rattle.lamport_clock.specs.Versions.{Entries, sees}
use Rattle.op_model.specs.declared.operation.Operation.{Operation}
use Rattle.op_model.specs.declared.operation.UndoCount.{UndoCount}
use Rattle.op_model.specs.Sorted.{Member}
use Rattle.op_model.specs.Operations.{counts_of, stamp_of}
use Rattle.op_model.specs.Histories.{History, In, seen_history}
use Rattle.op_model.specs.Shown.{greatest_given, count, is_undone, are_undone}

-- counts of other edits give t none
pub given_none : (cs : List UndoCount) (t : Lamport) → ((c : UndoCount) → Member c cs → c.edit ≡ t → ⊥) → greatest_given cs t ≡ 0
given_none [] t f = refl
given_none (c ∷ cs) t f = rw (other_stamp c.edit t (f c (inl refl))) (given_none cs t (λ d m. f d (inr m)))

pub count_more : (h : History) (op : Operation) (t : Lamport) → count (h ++ op ∷ []) t ≡ max (count h t) (greatest_given (counts_of op) t)
count_more [] op t = omega arith
count_more (o ∷ h) op t = let ih = count_more h op t in omega arith

-- ---- what was counted at a version

-- a version that sees all undos that count an edit counts it as all do
pub count_seen : (h : History) (v : Entries) (t : Lamport) → ((op : Operation) → In h op → (c : UndoCount) → Member c (counts_of op) → c.edit ≡ t → sees v (stamp_of op) ≡ true) → count (seen_history h v) t ≡ count h t
count_seen [] v t f = refl
count_seen (op ∷ h) v t f = go (cases_Bool (sees v (stamp_of op))) (count_seen h v t (λ o i c m e. f o (inr i) c m e))
  where
    go : (sees v (stamp_of op) ≡ true) ⊎ (sees v (stamp_of op) ≡ false) → count (seen_history h v) t ≡ count h t → count (seen_history (op ∷ h) v) t ≡ count (op ∷ h) t
    go (inl e) ih = rw e (ap (max (greatest_given (counts_of op) t)) ih)
    go (inr e) ih =
        let z : greatest_given (counts_of op) t ≡ 0 = given_none (counts_of op) t (λ c m q. let s = f op (inl refl) c m q in cc) in
        rw e (let g : count h t ≡ max (greatest_given (counts_of op) t) (count h t) = omega (arith, z) in ih ∙ g)

pub undone_seen : (h : History) (v : Entries) (t : Lamport) → count (seen_history h v) t ≡ count h t → is_undone (seen_history h v) t ≡ is_undone h t
undone_seen h v t e = ap (λ (n : ℕ). eqb (n % 2) 1) e

pub are_undone_seen : (h : History) (v : Entries) (d : List Lamport) → ((t : Lamport) → Member t d → (sees v t ≡ true) × (count (seen_history h v) t ≡ count h t)) → are_undone (seen_history h v) (filter (sees v) d) ≡ are_undone h d
are_undone_seen h v [] f = refl
are_undone_seen h v (t ∷ d) f = rw ((f t (inl refl)).0, undone_seen h v t (f t (inl refl)).1, are_undone_seen h v d (λ s m. f s (inr m))) refl

-- ---- counts with an undo more

pub undone_same : (h : History) (op : Operation) (t : Lamport) → ((c : UndoCount) → Member c (counts_of op) → c.edit ≡ t → ⊥) → is_undone (h ++ op ∷ []) t ≡ is_undone h t
undone_same h op t f =
    let z = given_none (counts_of op) t f in
    let e : count (h ++ op ∷ []) t ≡ count h t = count_more h op t ∙ ap (max (count h t)) z ∙ omega arith in
    ap (λ (n : ℕ). eqb (n % 2) 1) e

pub all_same : (h : History) (op : Operation) (d : List Lamport) → ((c : UndoCount) (t : Lamport) → Member c (counts_of op) → Member t d → c.edit ≡ t → ⊥) → are_undone (h ++ op ∷ []) d ≡ are_undone h d
all_same h op [] f = refl
all_same h op (t ∷ d) f = rw (undone_same h op t (λ c m. f c t m (inl refl)), all_same h op d (λ c s m n. f c s m (inr n))) refl
