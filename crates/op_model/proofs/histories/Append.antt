-- A history with one operation more.
use Rattle.std.proofs.Common.{◌≡◌, ℕ, ◌+◌, [], ◌∷◌, ◌++◌, refl, ap, ◌∙◌, arith, true, false, cond, eqb}
use Rattle.lamport_clock.specs.Clocks.{clock_after}
use Rattle.lamport_clock.specs.Versions.{raise}
use Rattle.lamport_clock.proofs.Raises.{raise-raise}
use Rattle.op_model.specs.declared.operation.Operation.{Operation}
use Rattle.op_model.specs.Operations.{stamp_of, bytes_of, entries_of}
use Rattle.op_model.specs.Histories.{History, version, clock, clock_from, bytes_held, entries_held}

pub version-append : (h : History) (op : Operation) → version (h ++ op ∷ []) ≡ raise (version h) (stamp_of op)
version-append [] op = refl
version-append (o ∷ h) op = ap (λ v. raise v (stamp_of o)) (version-append h op) ∙ raise-raise (version h) (stamp_of op) (stamp_of o)

clock_from-append : (h : History) (op : Operation) (c : ℕ) → clock_from c (h ++ op ∷ []) ≡ clock_after (clock_from c h) (stamp_of op).value
clock_from-append [] op c = refl
clock_from-append (o ∷ h) op c = clock_from-append h op (clock_after c (stamp_of o).value)

pub clock-append : (h : History) (op : Operation) → clock (h ++ op ∷ []) ≡ clock_after (clock h) (stamp_of op).value
clock-append h op = clock_from-append h op 1

pub bytes_held-append : (h : History) (op : Operation) → bytes_held (h ++ op ∷ []) ≡ bytes_held h + bytes_of op
bytes_held-append [] op = omega arith
bytes_held-append (o ∷ h) op = omega (arith, bytes_held-append h op)

pub entries_held-append : (h : History) (op : Operation) → entries_held (h ++ op ∷ []) ≡ entries_held h + cond (eqb (stamp_of op).replica 0) 0 (entries_of op)
entries_held-append [] op = elim (eqb (stamp_of op).replica 0) as (λ b. cond b 0 (entries_of op + 0) ≡ 0 + cond b 0 (entries_of op)) [
  | true ↦ refl
  | false ↦ omega arith
]
entries_held-append (o ∷ h) op =
    let ih = entries_held-append h op in
    let more = cond (eqb (stamp_of op).replica 0) 0 (entries_of op) in
    elim (eqb (stamp_of o).replica 0) as (λ b. cond b (entries_held (h ++ op ∷ [])) (entries_of o + entries_held (h ++ op ∷ [])) ≡ cond b (entries_held h) (entries_of o + entries_held h) + more) [
      | true ↦ ih
      | false ↦ omega (arith, ih)
    ]
