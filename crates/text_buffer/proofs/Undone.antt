-- A local undo: its fault, its operation, and what is true of it.
use Rattle.std.proofs.Common.{◌≡◌, ◌+◌, eqb, List, [], ◌∷◌, length, refl, sym, subst, ◌∙◌, Option, None}
use Rattle.std.specs.Prelude.{option_map}
use Rattle.std.specs.List.{find}
use Rattle.lamport_clock.specs.Clocks.{last_value}
use Rattle.lamport_clock.specs.declared.stamp.Lamport.{Lamport}
use Rattle.op_model.specs.declared.operation.Operation.{Operation}
use Rattle.op_model.specs.declared.limits.Limits.{Limits as LimitsType}
use Rattle.op_model.specs.declared.faults.UndoFault.{UndoFault}
use Rattle.op_model.specs.declared.faults.UndoFault.TheVariants.{ClockEnd, Full}
use Rattle.op_model.specs.Choice.{when}
use Rattle.op_model.specs.Domains.{IsProper}
use Rattle.op_model.specs.Histories.{History, clock}
use Rattle.op_model.specs.Limited.{Excess, excess}
use Rattle.op_model.specs.Rules.{answer_under}
use Rattle.op_model.specs.Answers.Answer.{Good}
use Rattle.op_model.specs.Settled.{full_fault}
use Rattle.op_model.proofs.answers.Passed.{first_none, map_none}
use Rattle.op_model.proofs.answers.Under.{under_clean}
use Rattle.op_model.proofs.histories.Proper.{undo_good, undo_proper}
use Rattle.op_model.proofs.answers.Local.{made_undo_bytes, made_undo_entries}
use Rattle.undo_map.specs.declared.entry.UndoEntry.{UndoEntry}
use Rattle.undo_map.specs.Counts.{count_of}
use Rattle.undo_map.specs.Undos.{undo_entries}
use Rattle.op_answers.specs.LocalUndo.{listed_fault}
use Rattle.op_answers.proofs.LocalUndo.{local_of, room}
use Rattle.text_buffer.specs.Buffer.{BufferState, IsBuffer, undo_fault, undo_of, rules}
use Rattle.op_model.proofs.settling.OpenedRuns.{undo_rule}
use Rattle.text_buffer.proofs.Applied.{within_limits}

-- the faults that come after those of the list
abbrev late : LimitsType → History → List Lamport → List (Option UndoFault)
late l h ts = when (eqb (clock h) last_value) ClockEnd ∷ option_map (λ e. Full e.unit e.held e.adds) (excess l h 0 (1 + length ts)) ∷ []

abbrev full : Excess → UndoFault
full e = Full e.unit e.held e.adds

-- ---- without a fault

-- the list meets none, and the operation passes no limit
record Unmet (b : BufferState) (ts : List Lamport) : Type 0 where
  listed : listed_fault b.history ts ≡ None
  excess : excess b.limits b.history 0 (1 + length ts) ≡ None

meets_none : (b : BufferState) (ts : List Lamport) → undo_fault b ts ≡ None → Unmet b ts
meets_none b ts e =
    let clocked : Option UndoFault = when (eqb (clock b.history) last_value) ClockEnd in
    let over : Option Excess = excess b.limits b.history 0 (1 + length ts) in
    let one = first_none (listed_fault b.history ts) (late b.limits b.history ts) (sym (local_of b.limits b.history ts (listed_fault b.history ts) refl) ∙ e) in
    let two = first_none clocked (option_map full over ∷ []) one.1 in
    record { listed = one.0; excess = map_none full over (first_none (option_map full over) [] two.1).0 }

-- no count stands at its end
pub counts_open : (b : BufferState) (ts : List Lamport) (w : List UndoEntry) → w ≡ undo_entries b.history → undo_fault b ts ≡ None → find (λ t. eqb (count_of w t) last_value) ts ≡ None
counts_open b ts w q e = room b.history w ts q (meets_none b ts e).listed

-- an undo without fault: it is proper and good, and passes no limit
pub record Fits (b : BufferState) (op : Operation) : Type 0 where
  pub proper : IsProper op
  pub good : answer_under b.endings b.history [] op ≡ Good
  pub room : full_fault (rules b) b.history op ≡ None

pub made_fits : (b : BufferState) (ts : List Lamport) (op : Operation) → IsBuffer b → undo_fault b ts ≡ None → op ≡ undo_of b ts → Fits b op
made_fits b ts op k e m = subst (Fits b) (sym m) (record {
  proper = undo_proper b.limits b.history b.replica ts e;
  good = under_clean b.endings b.history [] (undo_of b ts) (undo_rule b.endings b.history b.replica ts)
      ∙ undo_good b.limits b.history b.replica ts k.history.lawful k.history.proper (k.least_replica, k.greatest_replica) e;
  room = within_limits b (undo_of b ts) 0 (1 + length ts) (made_undo_bytes b.history b.replica ts) (made_undo_entries b.history b.replica ts) (meets_none b ts e).excess;
})
