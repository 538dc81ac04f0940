-- What one operation more adds to what a history holds.
use Rattle.op_model.proofs.answers.Passed.{when_none, all_none, passed, shaped, none_find, any_none}
use Rattle.op_model.specs.declared.limits.Limits.{Limits as LimitsType}
use Rattle.op_model.specs.declared.faults.Unit.TheVariants.{Bytes, Entries}
use Rattle.op_model.specs.Choice.{when}
use Rattle.op_model.specs.Histories.{History, bytes_held, entries_held, operation_at}
use Rattle.op_model.specs.Limited.{Excess, excess}
use Rattle.op_model.specs.declared.operation.Operation.{Operation}
use Rattle.op_model.specs.Answers.{answer, shape_fault}
use Rattle.op_model.specs.Answers.Answer.{Good}
use Rattle.op_model.specs.Operations.{entries_of, stamp_of}
use Rattle.op_model.proofs.histories.Append.{entries_held-append}
use Rattle.op_model.proofs.answers.Good.{stamp_parts}
use Rattle.std.proofs.Common.{ℕ, [], ◌≡◌, ◌+◌, ◌≤◌, ◌∷◌, None, nat_lt, ◌++◌, sym, ap, ◌∙◌}
use Rattle.std.proofs.lemmas.Bool.{ltb-false}
use Rattle.std.proofs.lemmas.List.{append-nil}
use Rattle.std.specs.List.{list_any}
use Rattle.lamport_clock.specs.Stamps.{same_stamp}

-- what passes no limit leaves what is held within them
pub room_in : (l : LimitsType) (h : History) (n m : ℕ) → excess l h n m ≡ None → (bytes_held h + n ≤ l.bytes) × (entries_held h + m ≤ l.entries)
room_in l h n m e =
    let bytes = nat_lt l.bytes (bytes_held h + n) in
    let entries = nat_lt l.entries (entries_held h + m) in
    let more_bytes : Excess = record { unit = Bytes; held = bytes_held h; adds = n } in
    let more_entries : Excess = record { unit = Entries; held = entries_held h; adds = m } in
    let none = all_none (when bytes more_bytes ∷ when entries more_entries ∷ []) e in
    (ltb-false _ _ (when_none bytes more_bytes none.0), ltb-false _ _ (when_none entries more_entries none.1.0))

pub shape_of : (h w : History) (op : Operation) → answer h w op ≡ Good → shape_fault op ≡ None
shape_of h w op g = (passed h w op g).shape

pub entries_more : (h : History) (op : Operation) → answer h [] op ≡ Good → entries_held (h ++ op ∷ []) ≡ entries_held h + entries_of op
entries_more h op g =
    let e = entries_held-append h op in
    let n = (stamp_parts op (shaped op (shape_of h [] op g)).stamp).2 in
    rw n at e

-- its stamp is new
pub fresh_of : (h : History) (op : Operation) → answer h [] op ≡ Good → operation_at h (stamp_of op) ≡ None
fresh_of h op g =
    let same : Operation → Rattle.std.specs.Prelude.Bool = λ o. same_stamp (stamp_of o) (stamp_of op) in
    none_find same h (any_none same h (ap (λ (z : History). list_any same z) (sym (append-nil h)) ∙ (passed h [] op g).fresh))
