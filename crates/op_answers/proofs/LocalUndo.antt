-- The fault of a local undo, case by case.
use Rattle.std.proofs.Common.{◌≡◌, ◌+◌, eqb, List, [], ◌∷◌, length, sym, ◌∙◌, ap, Some, None, Option}
use Rattle.std.specs.Prelude.{option_map, not}
use Rattle.std.specs.List.{find}
use Rattle.lamport_clock.specs.Clocks.{last_value}
use Rattle.lamport_clock.specs.declared.stamp.Lamport.{Lamport}
use Rattle.op_model.specs.declared.faults.UndoFault.{UndoFault}
use Rattle.op_model.specs.declared.faults.UndoFault.TheVariants.{NoSuchEdit, Twice, CountEnd, ClockEnd, Full}
use Rattle.op_model.specs.declared.limits.Limits.{Limits as LimitsType}
use Rattle.op_model.specs.Limited.{excess}
use Rattle.op_model.specs.Choice.{first_of, when}
use Rattle.op_model.specs.Histories.{History, clock, has_edit}
use Rattle.op_model.specs.Shown.{count}
use Rattle.op_model.specs.Made.{first_twice, local_undo_fault}
use Rattle.op_model.proofs.answers.Passed.{first_none, map_none, first_append}
use Rattle.undo_map.specs.declared.entry.UndoEntry.{UndoEntry}
use Rattle.undo_map.specs.Counts.{count_of}
use Rattle.undo_map.specs.Undos.{undo_entries}
use Rattle.undo_map.proofs.Seeking.{counts_at_end}
use Rattle.op_answers.specs.LocalUndo.{listed_fault}

module _ (h : History) (ts : List Lamport) where
  pub unknown : (t : Lamport) → find (λ t. not (has_edit h t)) ts ≡ Some t → Some (NoSuchEdit t) ≡ listed_fault h ts
  unknown t e = sym (ap (λ (o : Option Lamport). first_of (option_map NoSuchEdit o ∷ option_map Twice (first_twice [] ts) ∷ option_map CountEnd (find (λ t. eqb (count h t) last_value) ts) ∷ [])) e)

  module _ (k : find (λ t. not (has_edit h t)) ts ≡ None) where
    behind : (o : Option Lamport) → first_of (option_map NoSuchEdit (find (λ t. not (has_edit h t)) ts) ∷ option_map Twice o ∷ option_map CountEnd (find (λ t. eqb (count h t) last_value) ts) ∷ [])
        ≡ first_of (option_map Twice o ∷ option_map CountEnd (find (λ t. eqb (count h t) last_value) ts) ∷ [])
    behind o = ap (λ (u : Option Lamport). first_of (option_map NoSuchEdit u ∷ option_map Twice o ∷ option_map CountEnd (find (λ t. eqb (count h t) last_value) ts) ∷ [])) k

    pub twice : (t : Lamport) → first_twice [] ts ≡ Some t → Some (Twice t) ≡ listed_fault h ts
    twice t e = sym (behind (first_twice [] ts) ∙ ap (λ (o : Option Lamport). first_of (option_map Twice o ∷ option_map CountEnd (find (λ t. eqb (count h t) last_value) ts) ∷ [])) e)

    module _ (d : first_twice [] ts ≡ None) where
      last : listed_fault h ts ≡ first_of (option_map CountEnd (find (λ t. eqb (count h t) last_value) ts) ∷ [])
      last = behind (first_twice [] ts) ∙ ap (λ (o : Option Lamport). first_of (option_map Twice o ∷ option_map CountEnd (find (λ t. eqb (count h t) last_value) ts) ∷ [])) d

      pub ended : (t : Lamport) → find (λ t. eqb (count h t) last_value) ts ≡ Some t → Some (CountEnd t) ≡ listed_fault h ts
      ended t e = sym (last ∙ ap (λ (o : Option Lamport). first_of (option_map CountEnd o ∷ [])) e)

      pub faultless : find (λ t. eqb (count h t) last_value) ts ≡ None → None ≡ listed_fault h ts
      faultless e = sym (last ∙ ap (λ (o : Option Lamport). first_of (option_map CountEnd o ∷ [])) e)

-- without a fault no count stands at its end
pub room : (h : History) (w : List UndoEntry) (ts : List Lamport) → w ≡ undo_entries h → listed_fault h ts ≡ None → find (λ t. eqb (count_of w t) last_value) ts ≡ None
room h w ts q e =
    let a : Option UndoFault = option_map NoSuchEdit (find (λ t. not (has_edit h t)) ts) in
    let b : Option UndoFault = option_map Twice (first_twice [] ts) in
    let c : Option UndoFault = option_map CountEnd (find (λ t. eqb (count h t) last_value) ts) in
    counts_at_end h w ts q ∙ map_none CountEnd (find (λ t. eqb (count h t) last_value) ts)
    (first_none c [] (first_none b (c ∷ []) (first_none a (b ∷ c ∷ []) e).1).1).0

-- what stands behind the fault
pub local_of : (l : LimitsType) (h : History) (ts : List Lamport) (r : Option UndoFault) → r ≡ listed_fault h ts
    → local_undo_fault l h ts ≡ first_of (r ∷ when (eqb (clock h) last_value) ClockEnd ∷ option_map (λ e. Full e.unit e.held e.adds) (excess l h 0 (1 + length ts)) ∷ [])
local_of l h ts r e =
    let rest : List (Option UndoFault) = when (eqb (clock h) last_value) ClockEnd ∷ option_map (λ e. Full e.unit e.held e.adds) (excess l h 0 (1 + length ts)) ∷ [] in
    first_append (option_map NoSuchEdit (find (λ t. not (has_edit h t)) ts) ∷ option_map Twice (first_twice [] ts) ∷ option_map CountEnd (find (λ t. eqb (count h t) last_value) ts) ∷ []) rest
    ∙ ap (λ (o : Option UndoFault). first_of (o ∷ rest)) (sym e)

pub room_of : (h : History) (w : List UndoEntry) (ts : List Lamport) (r : Option UndoFault) → w ≡ undo_entries h → r ≡ listed_fault h ts → r ≡ None → find (λ t. eqb (count_of w t) last_value) ts ≡ None
room_of h w ts r q e n = room h w ts q (sym e ∙ n)
