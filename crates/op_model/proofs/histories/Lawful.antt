-- A lawful history has what the sequence needs.
use Rattle.std.proofs.Common.{◌≡◌, ℕ, ◌<◌, ◌≤◌, ◌⊎◌, max, Bool, [], ◌∷◌, ◌++◌, refl, sym, ◌∙◌, ap, subst, inl, inr, true, false, cond, eqb, arith}
use Rattle.std.specs.List.{AllByRecursion}
use Rattle.std.proofs.lemmas.Bool.{cases_Bool, leb-true, le-leb, cases_lt, eq-eqb}
use Rattle.lamport_clock.specs.declared.stamp.Lamport.{Lamport}
use Rattle.op_model.specs.declared.operation.Operation.{Operation}
use Rattle.op_model.specs.Histories.{History, version, In, Distinct}
use Rattle.lamport_clock.specs.Versions.{Entries, sees, entry}
use Rattle.op_model.specs.Operations.{stamp_of, version_of}
use Rattle.op_model.proofs.order.SameSets.{each_in}
use Rattle.lamport_clock.proofs.Joined.{entry_raise}
use Rattle.lamport_clock.proofs.Later.{stamp_path}

-- the greatest value of r in h
abbrev pub greatest : History → ℕ → ℕ
greatest [] r = 0
greatest (o ∷ h) r = cond (eqb (stamp_of o).replica r) (max (greatest h r) (stamp_of o).value) (greatest h r)

pub entry_version : (h : History) (r : ℕ) → entry (version h) r ≡ greatest h r
entry_version [] r = refl
entry_version (o ∷ h) r = entry_raise (version h) (stamp_of o) r
    ∙ ap (λ (x : ℕ). cond (eqb (stamp_of o).replica r) (max x (stamp_of o).value) x) (entry_version h r)

max_left : (b : Bool) (x y : ℕ) → x ≤ cond b (max x y) x
max_left true x y = omega arith
max_left false x y = omega arith

pub greatest_in : (h : History) (o : Operation) → In h o → (stamp_of o).value ≤ greatest h (stamp_of o).replica
greatest_in [] o i = absurd i
greatest_in (p ∷ h) o i = elim i [
  | inl e ↦ subst (λ (x : Operation). (stamp_of x).value ≤ greatest (p ∷ h) (stamp_of x).replica) (sym e) (here (eq-eqb (stamp_of p).replica (stamp_of p).replica refl))
  | inr j ↦ (let g = greatest_in h o j in let m = max_left (eqb (stamp_of p).replica (stamp_of o).replica) (greatest h (stamp_of o).replica) (stamp_of p).value in omega arith)
]
  where
    here : eqb (stamp_of p).replica (stamp_of p).replica ≡ true → (stamp_of p).value ≤ greatest (p ∷ h) (stamp_of p).replica
    here e = rw e (omega arith)

pub greatest_more : (h : History) (op : Operation) (r : ℕ) → greatest h r ≤ greatest (h ++ op ∷ []) r
greatest_more [] op r = max_left (eqb (stamp_of op).replica r) 0 (stamp_of op).value
greatest_more (p ∷ h) op r = elim (cases_Bool (eqb (stamp_of p).replica r))
    [ inl e ↦ (let g = greatest_more h op r in rw e (omega arith)) | inr e ↦ rw e (greatest_more h op r) ]

-- an answer that is Good passes each case
abbrev pub Checked : History → Operation → Type 0
Checked h op = let v = version_of op in let t = stamp_of op in
    record {
      new : AllByRecursion (λ (o : Operation). stamp_of o ≡ t → ⊥) h;
      above : (r : ℕ) → entry v r < t.value;
      chained : greatest h t.replica ≤ entry v t.replica;
      caused : (r : ℕ) → entry v r ≤ greatest h r;
      closed : (r : ℕ) → 0 < entry v r → (m : Operation) × In h m × (stamp_of m ≡ record { value = entry v r; replica = r }) × ((q : ℕ) → entry (version_of m) q ≤ entry v q);
    }

pub record LawInv (h : History) : Type 0 where
  pub distinct : Distinct h
  pub above : (o : Operation) → In h o → (r : ℕ) → entry (version_of o) r < (stamp_of o).value
  pub caused : (o : Operation) → In h o → (r : ℕ) → entry (version_of o) r ≤ greatest h r
  pub chained : (o m : Operation) → In h o → In h m → (stamp_of o).replica ≡ (stamp_of m).replica → (stamp_of o).value < (stamp_of m).value
      → (stamp_of o).value ≤ entry (version_of m) (stamp_of o).replica
  pub closed : (o m : Operation) → In h o → In h m → sees (version_of m) (stamp_of o) ≡ true → (r : ℕ) → entry (version_of o) r ≤ entry (version_of m) r

pub distinct_same : (h : History) (o m : Operation) → Distinct h → In h o → In h m → stamp_of o ≡ stamp_of m → o ≡ m
distinct_same [] o m d i j e = absurd i
distinct_same (p ∷ h) o m d i j e = elim i [
  | inl a ↦ elim j [
    | inl b ↦ a ∙ sym b
    | inr b ↦ absurd (each_in (λ (x : Operation). stamp_of x ≡ stamp_of p → ⊥) h m d.0 b (sym e ∙ ap stamp_of a))
  ]
  | inr a ↦ elim j [
    | inl b ↦ absurd (each_in (λ (x : Operation). stamp_of x ≡ stamp_of p → ⊥) h o d.0 a (e ∙ ap stamp_of b))
    | inr b ↦ distinct_same h o m d.1 a b e
  ]
]

-- what a checked operation sees, it sees with all that it saw
pub closed_op : (h : History) (op : Operation) → LawInv h → Checked h op → (o : Operation) → In h o → sees (version_of op) (stamp_of o) ≡ true
    → (r : ℕ) → entry (version_of o) r ≤ entry (version_of op) r
closed_op h op inv c o i s r =
    let x : ℕ = entry (version_of op) (stamp_of o).replica in
    let le : (stamp_of o).value ≤ x = leb-true (stamp_of o).value x s in
    let pos : entry (version_of o) 0 < (stamp_of o).value = inv.above o i 0 in
    let w = c.closed (stamp_of o).replica (omega arith) in
    let m : Operation = w.0 in
    let mv : (stamp_of m).value ≡ x = ap (λ (t : Lamport). t.value) w.2 in
    let mr : (stamp_of m).replica ≡ (stamp_of o).replica = ap (λ (t : Lamport). t.replica) w.2 in
    let up : entry (version_of m) r ≤ entry (version_of op) r = w.3 r in
    elim (cases_lt (stamp_of o).value x) [
      | inl l ↦ (let k : (stamp_of o).value ≤ entry (version_of m) (stamp_of o).replica = inv.chained o m i w.1 (sym mr) (omega arith) in
          let z : sees (version_of m) (stamp_of o) ≡ true = le-leb (stamp_of o).value (entry (version_of m) (stamp_of o).replica) k in
          let y = inv.closed o m i w.1 z r in omega arith)
      | inr l ↦ (let e : o ≡ m = distinct_same h o m inv.distinct i w.1 (stamp_path (stamp_of o) (stamp_of m) (omega arith) (sym mr)) in
          subst (λ (z : Operation). entry (version_of z) r ≤ entry (version_of op) r) (sym e) up)
    ]

pub in_append : (h : History) (op o : Operation) → In (h ++ op ∷ []) o → In h o ⊎ (o ≡ op)
in_append [] op o i = elim i [ inl e ↦ inr e | inr j ↦ absurd j ]
in_append (p ∷ h) op o i = elim i [ inl e ↦ inl (inl e) | inr j ↦ elim (in_append h op o j) [ inl k ↦ inl (inr k) | inr k ↦ inr k ] ]

pub each_of_in : (P : Operation → Type 0) (h : History) → ((o : Operation) → In h o → P o) → AllByRecursion P h
each_of_in P [] f = tt
each_of_in P (p ∷ h) f = (f p (inl refl), each_of_in P h (λ o i. f o (inr i)))

distinct_append : (h : History) (op : Operation) → Distinct h → AllByRecursion (λ (o : Operation). stamp_of o ≡ stamp_of op → ⊥) h → Distinct (h ++ op ∷ [])
distinct_append [] op d n = (tt, tt)
distinct_append (p ∷ h) op d n = (
  each_of_in (λ (x : Operation). stamp_of x ≡ stamp_of p → ⊥) (h ++ op ∷ []) (λ o i. elim (in_append h op o i) [
    | inl j ↦ each_in (λ (x : Operation). stamp_of x ≡ stamp_of p → ⊥) h o d.0 j
    | inr j ↦ λ e. n.0 (sym e ∙ ap stamp_of j)
  ]),
  distinct_append h op d.1 n.1,
)

pub law_step : (h : History) (op : Operation) → LawInv h → Checked h op → LawInv (h ++ op ∷ [])
law_step h op inv c = record { distinct = distinct_append h op inv.distinct c.new; above = above'; caused = caused'; chained = chained'; closed = closed' }
  where
    above' : (o : Operation) → In (h ++ op ∷ []) o → (r : ℕ) → entry (version_of o) r < (stamp_of o).value
    above' o i r = elim (in_append h op o i) [
      | inl j ↦ inv.above o j r
      | inr e ↦ subst (λ (x : Operation). entry (version_of x) r < (stamp_of x).value) (sym e) (c.above r)
    ]

    caused' : (o : Operation) → In (h ++ op ∷ []) o → (r : ℕ) → entry (version_of o) r ≤ greatest (h ++ op ∷ []) r
    caused' o i r = let g = greatest_more h op r in elim (in_append h op o i) [
      | inl j ↦ (let k = inv.caused o j r in omega arith)
      | inr e ↦ (let k = c.caused r in subst (λ (x : Operation). entry (version_of x) r ≤ greatest (h ++ op ∷ []) r) (sym e) (omega arith))
    ]

    -- an operation of h with op's replica is below op
    below : (m : Operation) → In h m → (stamp_of m).replica ≡ (stamp_of op).replica → (stamp_of m).value ≤ entry (version_of op) (stamp_of op).replica
    below m j e = let g : (stamp_of m).value ≤ greatest h (stamp_of op).replica = subst (λ (x : ℕ). (stamp_of m).value ≤ greatest h x) e (greatest_in h m j) in
        let k = c.chained in omega arith

    chained' : (o m : Operation) → In (h ++ op ∷ []) o → In (h ++ op ∷ []) m → (stamp_of o).replica ≡ (stamp_of m).replica → (stamp_of o).value < (stamp_of m).value
        → (stamp_of o).value ≤ entry (version_of m) (stamp_of o).replica
    chained' o m i j e l = elim (in_append h op o i) [
      | inl a ↦ elim (in_append h op m j) [
        | inl b ↦ inv.chained o m a b e l
        | inr b ↦ (let r : (stamp_of o).replica ≡ (stamp_of op).replica = e ∙ ap (λ (x : Operation). (stamp_of x).replica) b in
            subst (λ (x : Operation). (stamp_of o).value ≤ entry (version_of x) (stamp_of o).replica) (sym b)
            (subst (λ (x : ℕ). (stamp_of o).value ≤ entry (version_of op) x) (sym r) (below o a r)))
      ]
      | inr a ↦ elim (in_append h op m j) [
        | inl b ↦ (let r : (stamp_of m).replica ≡ (stamp_of op).replica = sym e ∙ ap (λ (x : Operation). (stamp_of x).replica) a in
            let g = below m b r in let k = c.above (stamp_of op).replica in
            let w : (stamp_of o).value ≡ (stamp_of op).value = ap (λ (x : Operation). (stamp_of x).value) a in absurd (omega arith))
        | inr b ↦ (let w : (stamp_of o).value ≡ (stamp_of m).value = ap (λ (x : Operation). (stamp_of x).value) (a ∙ sym b) in absurd (omega arith))
      ]
    ]

    closed' : (o m : Operation) → In (h ++ op ∷ []) o → In (h ++ op ∷ []) m → sees (version_of m) (stamp_of o) ≡ true → (r : ℕ) → entry (version_of o) r ≤ entry (version_of m) r
    closed' o m i j s r = elim (in_append h op m j) [
      | inl b ↦ elim (in_append h op o i) [
        | inl a ↦ inv.closed o m a b s r
        | inr a ↦ (let s' : sees (version_of m) (stamp_of op) ≡ true = subst (λ (x : Operation). sees (version_of m) (stamp_of x) ≡ true) a s in
            let l = leb-true (stamp_of op).value (entry (version_of m) (stamp_of op).replica) s' in
            let g = inv.caused m b (stamp_of op).replica in let k = c.chained in let n = c.above (stamp_of op).replica in absurd (omega arith))
      ]
      | inr b ↦ (let s' : sees (version_of op) (stamp_of o) ≡ true = subst (λ (x : Operation). sees (version_of x) (stamp_of o) ≡ true) b s in
          subst (λ (x : Operation). entry (version_of o) r ≤ entry (version_of x) r) (sym b)
          (elim (in_append h op o i) [
            | inl a ↦ closed_op h op inv c o a s' r
            | inr a ↦ (let l = leb-true (stamp_of o).value (entry (version_of op) (stamp_of o).replica) s' in
                let n = c.above (stamp_of o).replica in
                let w : (stamp_of o).value ≡ (stamp_of op).value = ap (λ (x : Operation). (stamp_of x).value) a in absurd (omega arith))
          ]))
    ]

pub law_base : (op : Operation) → 0 < (stamp_of op).value → version_of op ≡ [] → LawInv (op ∷ [])
law_base op p v = record { distinct = (tt, tt); above = above'; caused = caused'; chained = chained'; closed = closed' }
  where
    none : (o : Operation) → o ≡ op → (r : ℕ) → entry (version_of o) r ≡ 0
    none o e r = ap (λ (x : Operation). entry (version_of x) r) e ∙ ap (λ (x : Entries). entry x r) v

    only_op : (o : Operation) → In (op ∷ []) o → o ≡ op
    only_op o i = elim i [ inl e ↦ e | inr j ↦ absurd j ]

    above' : (o : Operation) → In (op ∷ []) o → (r : ℕ) → entry (version_of o) r < (stamp_of o).value
    above' o i r = let n = none o (only_op o i) r in
        let w : (stamp_of o).value ≡ (stamp_of op).value = ap (λ (x : Operation). (stamp_of x).value) (only_op o i) in omega arith

    caused' : (o : Operation) → In (op ∷ []) o → (r : ℕ) → entry (version_of o) r ≤ greatest (op ∷ []) r
    caused' o i r = let n = none o (only_op o i) r in omega arith

    chained' : (o m : Operation) → In (op ∷ []) o → In (op ∷ []) m → (stamp_of o).replica ≡ (stamp_of m).replica → (stamp_of o).value < (stamp_of m).value
        → (stamp_of o).value ≤ entry (version_of m) (stamp_of o).replica
    chained' o m i j e l = let w : (stamp_of o).value ≡ (stamp_of m).value = ap (λ (x : Operation). (stamp_of x).value) (only_op o i ∙ sym (only_op m j)) in absurd (omega arith)

    closed' : (o m : Operation) → In (op ∷ []) o → In (op ∷ []) m → sees (version_of m) (stamp_of o) ≡ true → (r : ℕ) → entry (version_of o) r ≤ entry (version_of m) r
    closed' o m i j s r = let n = none o (only_op o i) r in omega arith
