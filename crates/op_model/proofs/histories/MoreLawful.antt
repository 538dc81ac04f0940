-- A good operation keeps a history lawful; the front of a lawful history is lawful.
use Rattle.std.proofs.Common.{◌≡◌, ℕ, List, [], ◌∷◌, ◌++◌, sym, subst, inl, inr, append_assoc}
use Rattle.std.proofs.lemmas.List.{append-nil}
use Rattle.op_model.specs.declared.operation.Operation.{Operation}
use Rattle.op_model.specs.Histories.{History, In, base}
use Rattle.op_model.specs.Answers.{answer}
use Rattle.op_model.specs.Answers.Answer.{Good}
use Rattle.op_model.specs.Lawful.{Lawful, LawfulFrom}
use Rattle.op_model.proofs.histories.Lawful.{in_append}

lawful_from : (h : History) (ops : List Operation) (op : Operation) → LawfulFrom h ops → answer (h ++ ops) [] op ≡ Good → LawfulFrom h (ops ++ op ∷ [])
lawful_from h [] op l e = (subst (λ (x : History). answer x [] op ≡ Good) (append-nil h) e, tt)
lawful_from h (o ∷ ops) op l e = (l.0, lawful_from (h ++ o ∷ []) ops op l.1 (subst (λ (x : History). answer x [] op ≡ Good) (sym (append_assoc h (o ∷ []) ops)) e))

pub lawful_more : (h : History) (op : Operation) → Lawful h → answer h [] op ≡ Good → Lawful (h ++ op ∷ [])
lawful_more [] op l e = absurd l
lawful_more (o ∷ ops) op l e = (l.0, lawful_from (o ∷ []) ops op l.1 e)

pub lawful_parts : (p h g : List Operation) → LawfulFrom p (h ++ g) → LawfulFrom p h × LawfulFrom (p ++ h) g
lawful_parts p [] g l = (tt, subst (λ (x : History). LawfulFrom x g) (sym (append-nil p)) l)
lawful_parts p (op ∷ h) g l = let k = lawful_parts (p ++ op ∷ []) h g l.1 in
    ((l.0, k.0), subst (λ (x : History). LawfulFrom x g) (append_assoc p (op ∷ []) h) k.1)

-- what holds of the base alone and of a good operation, and stays, holds of each operation of a lawful history
module _ (P : History → Operation → Type 0) (first : (t : List ℕ) → P (base t ∷ []) (base t))
    (new : (h : History) (op : Operation) → answer h [] op ≡ Good → P (h ++ op ∷ []) op) (more : (h : History) (op o : Operation) → P h o → P (h ++ op ∷ []) o) where
  each_from : (h : History) (ops : List Operation) → ((o : Operation) → In h o → P h o) → LawfulFrom h ops → (o : Operation) → In (h ++ ops) o → P (h ++ ops) o
  each_from h [] f l = subst (λ (x : History). (o : Operation) → In x o → P x o) (sym (append-nil h)) f
  each_from h (op ∷ ops) f l = subst (λ (x : History). (o : Operation) → In x o → P x o) (append_assoc h (op ∷ []) ops) (each_from (h ++ op ∷ []) ops one l.1)
    where
      one : (o : Operation) → In (h ++ op ∷ []) o → P (h ++ op ∷ []) o
      one o i = elim (in_append h op o i) [ inl j ↦ more h op o (f o j) | inr e ↦ subst (P (h ++ op ∷ [])) (sym e) (new h op l.0) ]

  pub each_of_lawful : (h : History) → Lawful h → (o : Operation) → In h o → P h o
  each_of_lawful [] l = absurd l
  each_of_lawful (b ∷ ops) l = each_from (b ∷ []) ops one l.1
    where
      one : (o : Operation) → In (b ∷ []) o → P (b ∷ []) o
      one o i = elim i [ inl e ↦ subst (P (b ∷ [])) (sym e) (subst (λ (x : Operation). P (x ∷ []) x) (sym l.0.1) (first l.0.0)) | inr n ↦ absurd n ]
