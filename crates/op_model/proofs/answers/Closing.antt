-- Versions that a history closes, and operations that it has.
use Rattle.std.proofs.Common.{ℕ, [], ◌≡◌, subst, inl, inr, true, false, None, ◌<◌, refl, sym, ◌∙◌, ap, not, ◌&&◌, ltb, arith, Bool, cond, Some, ◌∷◌}
use Rattle.std.proofs.lemmas.Bool.{cases_Bool, cases_lt, le-ltb}
use Rattle.std.proofs.lemmas.List.{append-nil}
use Rattle.lamport_clock.specs.declared.stamp.Lamport.{Lamport}
use Rattle.lamport_clock.specs.Stamps.{same_stamp}
use Rattle.lamport_clock.specs.Versions.{sees, Entries, entry, within, IsVersion}
use Rattle.lamport_clock.proofs.Later.{same_stamp_eq, same_stamp_refl}
use Rattle.lamport_clock.proofs.Joined.{within_trans, entry_within}
use Rattle.lamport_clock.proofs.Entries.{own_entries}
use Rattle.op_model.specs.declared.operation.Operation.{Operation}
use Rattle.op_model.specs.Operations.{stamp_of, version_of}
use Rattle.op_model.specs.Histories.{History, In, operation_at, version}
use Rattle.op_model.proofs.histories.Lawful.{each_of_in}
use Rattle.op_model.proofs.answers.Passed.{none_find}
use Rattle.op_model.proofs.histories.VersionLaws.{sees_own}
use Rattle.op_model.specs.Answers.{is_entry_closed, open_replica}
use Rattle.op_model.proofs.histories.Causes.{Opens, named_at, names_closed, opens_of, of_opens}
use Rattle.op_model.specs.Lawful.{Lawful}
use Rattle.op_model.proofs.histories.ClosedVersions.{fronts_seen}
use Rattle.op_model.proofs.Elements.{each_map}

-- no operation has a stamp that the version has not seen
pub unseen_none : (h : History) (t : Lamport) → sees (version h) t ≡ false → operation_at h t ≡ None
unseen_none h t n = none_find (λ o. same_stamp (stamp_of o) t) h (each_of_in (λ (o : Operation). same_stamp (stamp_of o) t ≡ false) h other)
  where
    other : (o : Operation) → In h o → same_stamp (stamp_of o) t ≡ false
    other o i = elim (cases_Bool (same_stamp (stamp_of o) t)) [
      | inl e ↦ (let s : sees (version h) t ≡ true = subst (λ (u : Lamport). sees (version h) u ≡ true) (same_stamp_eq (stamp_of o) t e) (sees_own h o i) in cc)
      | inr e ↦ e
    ]

-- an entry that a closed version has too is closed in each version that has seen that one
pub entry_shared : (h : History) (u v : Entries) → Opens h u → within u v ≡ true → (e : ℕ × ℕ) → entry u e.0 ≡ e.1 → (ltb 0 e.1 && not (is_entry_closed h v e)) ≡ false
entry_shared h u v c b e q = elim (cases_lt 0 e.1) [
  | inl p ↦ (let w = named_at h u c e.0 (subst (λ (x : ℕ). 0 < x) (sym q) p) in
      let t : Lamport = record { value = e.1; replica = e.0 } in
      let s : stamp_of w.0 ≡ t = w.2 ∙ ap (λ (x : ℕ). record { value = x; replica = e.0 }) q in
      names_closed h v e w.0 w.1 (subst (λ (x : Lamport). same_stamp x t ≡ true) (sym s) (same_stamp_refl t)) (within_trans (version_of w.0) u v w.3 b))
  | inr p ↦ (let n = le-ltb 0 e.1 p in rw n refl)
]

pub whole_opens : (h : History) → Lawful h → Opens h (version h)
whole_opens h l = opens_of h (version h) (subst (λ (g : History). open_replica g (version h) ≡ None) (append-nil h) (fronts_seen h [] l (subst Lawful (sym (append-nil h)) l)).0.1)

-- a version that sees the same as that of the history is closed
pub same_closed : (h : History) (v : Entries) → Lawful h → IsVersion v → within v (version h) ≡ true → within (version h) v ≡ true → open_replica h v ≡ None
same_closed h v l i a b = of_opens h v (each_map (λ (e : ℕ × ℕ). entry v e.0 ≡ e.1) (λ (e : ℕ × ℕ). (ltb 0 e.1 && not (is_entry_closed h v e)) ≡ false) one v (own_entries 0 v i))
  where
    one : (e : ℕ × ℕ) → entry v e.0 ≡ e.1 → (ltb 0 e.1 && not (is_entry_closed h v e)) ≡ false
    one e q =
        let x = entry_within v (version h) e.0 a in
        let y = entry_within (version h) v e.0 b in
        entry_shared h (version h) v (whole_opens h l) b e (omega arith)

-- what is found of a stamp is one of the history
pub found_in : (h : History) (t : Lamport) (o : Operation) → operation_at h t ≡ Some o → In h o
found_in [] t o e = cc
found_in (p ∷ h) t o e = elim (cases_Bool (same_stamp (stamp_of p) t)) [
  | inl s ↦ (let q : Some p ≡ Some o = sym (ap (λ (b : Bool). cond b (Some p) (operation_at h t)) s) ∙ e in let r : p ≡ o = cc in inl (sym r))
  | inr s ↦ inr (found_in h t o (sym (ap (λ (b : Bool). cond b (Some p) (operation_at h t)) s) ∙ e))
]
