-- What a version names of a history, and that it sees with each operation of a lawful history what that one has seen.
use Rattle.op_model.proofs.Elements.{each_map, and_not, member_left, any_member}
use Rattle.std.proofs.Common.{◌≡◌, ℕ, zero, suc, ◌<◌, ◌≤◌, Bool, [], ◌∷◌, ◌++◌, refl, sym, ap, subst, inl, inr, true, false, not, ◌&&◌, ltb, arith, None}
use Rattle.std.specs.List.{AllByRecursion, find}
use Rattle.std.proofs.lemmas.Bool.{cases_Bool, and_parts, leb-true, le-leb, cases_lt}
use Rattle.lamport_clock.specs.declared.stamp.Lamport.{Lamport}
use Rattle.lamport_clock.specs.Stamps.{same_stamp}
use Rattle.lamport_clock.specs.Versions.{Entries, entry, sees, within}
use Rattle.lamport_clock.proofs.Joined.{within_trans}
use Rattle.lamport_clock.proofs.Later.{same_stamp_eq, stamp_path as stamp_is}
use Rattle.lamport_clock.proofs.EntryLists.{each_entry}
use Rattle.op_model.specs.declared.operation.Operation.{Operation}
use Rattle.op_model.specs.Operations.{stamp_of, version_of}
use Rattle.op_model.specs.Histories.{History, In}
use Rattle.op_model.specs.Answers.{is_entry_closed, open_replica}
use Rattle.op_model.specs.Lawful.{Lawful}
use Rattle.op_model.proofs.histories.Lawful.{LawInv, distinct_same}
use Rattle.op_model.proofs.answers.Passed.{passed, map_none, none_map, find_none, none_find}
use Rattle.op_model.proofs.answers.Good.{named, lawful_ready}
use Rattle.op_model.proofs.histories.MoreLawful.{each_of_lawful}
use Rattle.op_model.proofs.answers.SameAnswers.{any_from}

-- each entry of v is an operation of h whose version lies within v
abbrev pub Opens : History → Entries → Type 0
Opens h v = AllByRecursion (λ (e : ℕ × ℕ). (ltb 0 e.1 && not (is_entry_closed h v e)) ≡ false) v

pub opens_of : (h : History) (v : Entries) → open_replica h v ≡ None → Opens h v
opens_of h v o = find_none (λ e. ltb 0 e.1 && not (is_entry_closed h v e)) v (map_none (λ e. e.0) (find (λ e. ltb 0 e.1 && not (is_entry_closed h v e)) v) o)

pub of_opens : (h : History) (v : Entries) → Opens h v → open_replica h v ≡ None
of_opens h v o = none_map (λ e. e.0) (find (λ e. ltb 0 e.1 && not (is_entry_closed h v e)) v) (none_find (λ e. ltb 0 e.1 && not (is_entry_closed h v e)) v o)

-- the operation that an entry names
pub names : (h : History) (v : Entries) (e : ℕ × ℕ) → 0 < e.1 → (ltb 0 e.1 && not (is_entry_closed h v e)) ≡ false
    → (m : Operation) × In h m × (stamp_of m ≡ record { value = e.1; replica = e.0 }) × (within (version_of m) v ≡ true)
names h v e p o =
    let w = any_from (λ o. same_stamp (stamp_of o) (record { value = e.1; replica = e.0 }) && within (version_of o) v) h (named (is_entry_closed h v e) e.1 p o) in
    let a = and_parts (same_stamp (stamp_of w.0) (record { value = e.1; replica = e.0 })) (within (version_of w.0) v) w.2 in
    (w.0, w.1, same_stamp_eq (stamp_of w.0) (record { value = e.1; replica = e.0 }) a.0, a.1)

pub named_at : (h : History) (v : Entries) → Opens h v → (r : ℕ) → 0 < entry v r
    → (m : Operation) × In h m × (stamp_of m ≡ record { value = entry v r; replica = r }) × (within (version_of m) v ≡ true)
named_at h v o r p = names h v (r, entry v r) p (each_entry (λ (e : ℕ × ℕ). (ltb 0 e.1 && not (is_entry_closed h v e)) ≡ false) v r o p)

-- an entry is closed where an operation of the history is what it names
pub names_closed : (h : History) (v : Entries) (e : ℕ × ℕ) (m : Operation) → In h m → same_stamp (stamp_of m) (record { value = e.1; replica = e.0 }) ≡ true → within (version_of m) v ≡ true
    → (ltb 0 e.1 && not (is_entry_closed h v e)) ≡ false
names_closed h v e m i s w = and_not (ltb 0 e.1) (is_entry_closed h v e) (λ q. any_member (λ o. same_stamp (stamp_of o) (record { value = e.1; replica = e.0 }) && within (version_of o) v) h m i (rw (s, w) refl))

opens_more : (h : History) (op : Operation) (v : Entries) → Opens h v → Opens (h ++ op ∷ []) v
opens_more h op v o = each_map (λ (e : ℕ × ℕ). (ltb 0 e.1 && not (is_entry_closed h v e)) ≡ false) (λ (e : ℕ × ℕ). (ltb 0 e.1 && not (is_entry_closed (h ++ op ∷ []) v e)) ≡ false) one v o
  where
    test : ℕ × ℕ → Operation → Bool
    test e o = same_stamp (stamp_of o) (record { value = e.1; replica = e.0 }) && within (version_of o) v

    one : (e : ℕ × ℕ) → (ltb 0 e.1 && not (is_entry_closed h v e)) ≡ false → (ltb 0 e.1 && not (is_entry_closed (h ++ op ∷ []) v e)) ≡ false
    one e n = elim (cases_Bool (is_entry_closed h v e)) [
      | inl c ↦ (let w = any_from (test e) h c in and_not (ltb 0 e.1) (is_entry_closed (h ++ op ∷ []) v e) (λ q. any_member (test e) (h ++ op ∷ []) w.0 (member_left w.0 h (op ∷ []) w.1) w.2))
      | inr c ↦ none (ltb 0 e.1) (rw c at n)
    ]
      where
        none : (a : Bool) → (a && true) ≡ false → (a && not (is_entry_closed (h ++ op ∷ []) v e)) ≡ false
        none true i = cc
        none false i = refl

-- what an operation of a lawful history has seen is in it
pub lawful_opens : (h : History) → Lawful h → (o : Operation) → In h o → Opens h (version_of o)
lawful_opens h l o i = each_of_lawful (λ g o. Opens g (version_of o)) (λ t. tt)
    (λ g op a. opens_more g op (version_of op) (opens_of g (version_of op) (passed g [] op a).closed)) (λ g op o n. opens_more g op (version_of o) n) h l o i

-- what a closed version sees it sees with its causes
pub causes_within : (n : ℕ) (h : History) → Lawful h → (v : Entries) → Opens h v → (o : Operation) → In h o → entry v (stamp_of o).replica < n → sees v (stamp_of o) ≡ true
    → within (version_of o) v ≡ true
causes_within zero h l v c o i b s = absurd (omega arith)
causes_within (suc n) h l v c o i b s =
    let inv : LawInv h = (lawful_ready h l).0 in
    let x : ℕ = entry v (stamp_of o).replica in
    let le = leb-true (stamp_of o).value x s in
    let pos = inv.above o i 0 in
    let w = named_at h v c (stamp_of o).replica (omega arith) in
    let mv : (stamp_of w.0).value ≡ x = ap (λ (t : Lamport). t.value) w.2 in
    let mr : (stamp_of w.0).replica ≡ (stamp_of o).replica = ap (λ (t : Lamport). t.replica) w.2 in
    elim (cases_lt (stamp_of o).value x) [
      | inl lt ↦ (let k : (stamp_of o).value ≤ entry (version_of w.0) (stamp_of o).replica = inv.chained o w.0 i w.1 (sym mr) (omega arith) in
          let z : sees (version_of w.0) (stamp_of o) ≡ true = le-leb (stamp_of o).value (entry (version_of w.0) (stamp_of o).replica) k in
          let a = inv.above w.0 w.1 (stamp_of o).replica in
          within_trans (version_of o) (version_of w.0) v (causes_within n h l (version_of w.0) (lawful_opens h l w.0 w.1) o i (omega arith) z) w.3)
      | inr g ↦ (let q : o ≡ w.0 = distinct_same h o w.0 inv.distinct i w.1 (stamp_is (stamp_of o) (stamp_of w.0) (omega arith) (sym mr)) in
          subst (λ (z : Operation). within (version_of z) v ≡ true) (sym q) w.3)
    ]
