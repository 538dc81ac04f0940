-- The answers where a saved history is opened.
use Rattle.std.proofs.Common.{◌≡◌, ◌⊎◌, ℕ, List, Bool, true, false, None, Option, Some, refl, sym, ap, subst, inl, inr}
use Rattle.op_model.specs.declared.operation.Operation.{Operation}
use Rattle.op_model.specs.declared.endings.Endings.{Endings}
use Rattle.op_model.specs.declared.faults.OpenFault.{OpenFault}
use Rattle.op_model.specs.declared.limits.Limits.{Limits as LimitsType}
use Rattle.op_model.specs.Opened.{open_fault}
use Rattle.text_buffer.specs.Opening.{rules_of}
use Rattle.c_values.specs.declared.answer.Answer.{Answer}
use Rattle.c_values.specs.declared.answer.Code.TheVariants.{Done, OutOfRange}
use Rattle.c_values.specs.Answers.{IsAnswer, bare}
use Rattle.c_values.specs.Records.{AreRecords, IsNoRecord}
use Rattle.buffer_handles.specs.declared.replica.Replica.{Replica}
use Rattle.buffer_handles.specs.Replicas.{IsAnswerIf, IsHistoryAnswer, IsReopenAnswer, IsReopened, allowed, open_unless}

within : (t : Bool) → (bytes : List ℕ) → (l : LimitsType) → (e : Endings) → (a : Answer) → t ≡ true → IsHistoryAnswer bytes l e a → IsAnswerIf t bytes l e a
within true bytes l e a is h = h
within false bytes l e a is h = absurd (cc is)

without : (t : Bool) → (bytes : List ℕ) → (l : LimitsType) → (e : Endings) → t ≡ false → IsAnswerIf t bytes l e (bare OutOfRange)
without true bytes l e is = absurd (cc is)
without false bytes l e is = refl

-- the replica or the limits are out of their ranges
pub reopen_out : (r : ℕ) → (bytes : List ℕ) → (l : LimitsType) → (e : Endings) → allowed r l ≡ false → IsReopenAnswer r bytes l e (bare OutOfRange)
reopen_out r bytes l e is = without (allowed r l) bytes l e is

pub reopen_no_record : (r : ℕ) → (bytes : List ℕ) → (l : LimitsType) → (e : Endings) → (a : Answer) → allowed r l ≡ true → IsNoRecord bytes a → IsReopenAnswer r bytes l e a
reopen_no_record r bytes l e a is fault = within (allowed r l) bytes l e a is (inl fault)

-- the operations of the records are opened, or not
pub reopen_history : (r : ℕ) → (bytes : List ℕ) → (l : LimitsType) → (e : Endings) → (a : Answer) → (ops : List Operation) → allowed r l ≡ true → AreRecords bytes ops
    → IsAnswer (open_unless (open_fault (rules_of l e) ops)) a → IsReopenAnswer r bytes l e a
reopen_history r bytes l e a ops is records answered = within (allowed r l) bytes l e a is (inr (ops, records, answered))

-- they were opened, and an allocation may have failed since
pub reopen_done : (r : ℕ) → (bytes : List ℕ) → (l : LimitsType) → (e : Endings) → (x : Replica) → (a : Answer) → allowed r l ≡ true → IsReopened r bytes l e x → IsAnswer (bare Done) a
    → IsReopenAnswer r bytes l e a
reopen_done r bytes l e x a is opened answered =
    reopen_history r bytes l e a opened.ops is opened.records (subst (λ (f : Option OpenFault). IsAnswer (open_unless f) a) (sym opened.good) answered)
