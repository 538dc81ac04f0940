-- Two lawful histories of one set of operations have one version, and meet the same faults.
use Rattle.std.proofs.Common.{◌≡◌, ℕ, ◌⊎◌, List, [], ◌∷◌, length, refl, ap, inl, inr, true, false, ◌&&◌, ltb, arith}
use Rattle.std.specs.Prelude.{option_map, not}
use Rattle.std.specs.List.{find}
use Rattle.std.proofs.lemmas.Bool.{cases_Bool, leb-false}
use Rattle.lamport_clock.proofs.Associative.{put_kept}
use Rattle.lamport_clock.specs.Stamps.{same_stamp}
use Rattle.lamport_clock.specs.Versions.{Entries, AreEntriesFrom, entry, sees, within}
use Rattle.lamport_clock.proofs.EntryLists.{entries_same}
use Rattle.op_model.specs.declared.anchor.Anchor.{Anchor}
use Rattle.op_model.specs.declared.faults.SinceFault.TheVariants.{Unseen, OpenVersion}
use Rattle.op_model.specs.declared.faults.PlaceFault.TheVariants.{PastEnd, InsideChar}
use Rattle.op_model.specs.Choice.{first_of, when}
use Rattle.op_model.specs.Operations.{stamp_of, version_of}
use Rattle.op_model.specs.Histories.{History, SameSet, version}
use Rattle.op_model.specs.Edits.{is_boundary}
use Rattle.op_model.specs.Answers.{is_entry_closed}
use Rattle.op_model.specs.Lawful.{Lawful}
use Rattle.op_model.specs.Anchors.{place_fault, known_place, known_order}
use Rattle.op_model.specs.Since.{since_fault}
use Rattle.op_model.proofs.histories.Lawful.{entry_version}
use Rattle.op_model.proofs.answers.Good.{lawful_same}
use Rattle.op_model.proofs.settling.AllApplied.{greatest_part}
use Rattle.op_model.proofs.answers.SameAnswers.{any_same, known_same, place_same, compare_same}

version_entries : (h : History) → AreEntriesFrom 0 (version h)
version_entries [] = tt
version_entries (o ∷ h) = go (cases_Bool (sees (version h) (stamp_of o))) (version_entries h)
  where
    go : (sees (version h) (stamp_of o) ≡ true) ⊎ (sees (version h) (stamp_of o) ≡ false) → AreEntriesFrom 0 (version h) → AreEntriesFrom 0 (version (o ∷ h))
    go (inl s) i = rw s i
    go (inr s) i = let g = leb-false (stamp_of o).value (entry (version h) (stamp_of o).replica) s in
        rw s (put_kept 0 (stamp_of o).replica (stamp_of o).value (version h) (omega arith) (omega arith) i)

module _ (h g : History) (l : Lawful h) (m : Lawful g) (s : SameSet h g) where
  pub version_same : version h ≡ version g
  version_same = entries_same 0 (version h) (version g) (version_entries h) (version_entries g)
      (λ r. let a = greatest_part h g r (λ o. (s o).0) in let b = greatest_part g h r (λ o. (s o).1) in let x = entry_version h r in let y = entry_version g r in omega arith)

  closed_same : (v : Entries) (e : ℕ × ℕ) → is_entry_closed h v e ≡ is_entry_closed g v e
  closed_same v e = any_same (λ o. same_stamp (stamp_of o) (record { value = e.1; replica = e.0 }) && within (version_of o) v) h g s

  pub since_fault_same : (v : Entries) → since_fault h v ≡ since_fault g v
  since_fault_same v = λ i. first_of (option_map Unseen (option_map (λ (e : ℕ × ℕ). e.0) (find (λ (e : ℕ × ℕ). ltb (entry (version_same i) e.0) e.1) v))
      ∷ option_map OpenVersion (option_map (λ (e : ℕ × ℕ). e.0) (find (λ (e : ℕ × ℕ). ltb 0 e.1 && not (closed_same v e i)) v)) ∷ [])

  pub place_fault_same : (o : ℕ) → place_fault h o ≡ place_fault g o
  place_fault_same o = ap (λ (t : List ℕ). first_of (when (ltb (length t) o) (PastEnd (length t)) ∷ when (not (is_boundary t o)) InsideChar ∷ [])) (lawful_same h g l m s).1

  pub resolved_same : (a : Anchor) → known_place h a ≡ known_place g a
  resolved_same a = rw (known_same h g l m s a, place_same h g l m s a) refl

  pub compared_same : (a b : Anchor) → known_order h a b ≡ known_order g a b
  compared_same a b = rw (known_same h g l m s a, known_same h g l m s b, compare_same h g l m s a b) refl
