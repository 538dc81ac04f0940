-- What a buffer has applied, after any calls, opens one again under the same rules.
use Rattle.std.proofs.Common.{◌≡◌, ℕ, ◌+◌, Bool, List, [], ◌∷◌, ◌++◌, length, map, true, false, cond, not, eqb, ltb, refl, ◌∙◌, arith, inl, inr, None, Some, Option}
use Rattle.std.specs.Prelude.{option_map}
use Rattle.std.specs.List.{AllByRecursion, find, position}
use Rattle.lamport_clock.specs.declared.stamp.Lamport.{Lamport}
use Rattle.lamport_clock.specs.Clocks.{last_value}
use Rattle.lamport_clock.specs.Versions.{within}
use Rattle.op_model.specs.declared.operation.Piece.{Piece}
use Rattle.op_model.specs.declared.operation.Operation.{Operation}
use Rattle.op_model.specs.declared.limits.Limits.{Limits as LimitsType}
use Rattle.op_model.specs.declared.endings.Endings.{Endings}
use Rattle.op_model.specs.declared.endings.Endings.TheVariants.{AsIs, Lf}
use Rattle.op_model.specs.declared.faults.EditFault.{EditFault}
use Rattle.op_model.specs.declared.faults.EditFault.TheVariants as edit_faults
use Rattle.op_model.specs.declared.faults.UndoFault.{UndoFault}
use Rattle.op_model.specs.declared.faults.UndoFault.TheVariants as undo_faults
use Rattle.op_model.specs.declared.faults.OpFault.{OpFault}
use Rattle.op_model.specs.declared.faults.OpFault.TheVariants.{Full, CarriageReturn}
use Rattle.op_model.specs.Choice.{when}
use Rattle.op_model.specs.Edits.{piece_fault}
use Rattle.op_model.specs.Shown.{count, text}
use Rattle.op_model.specs.Operations.{version_of, bytes_of, entries_of, text_total, text_limit}
use Rattle.op_model.specs.Histories.{History, version, clock, has_edit}
use Rattle.op_model.specs.Limited.{Excess, excess}
use Rattle.op_model.specs.Domains.{IsReplica}
use Rattle.op_model.specs.Made.{full_piece, first_twice, local_edit, local_undo, local_edit_fault, local_undo_fault}
use Rattle.op_model.specs.Answers.{Answer, answer}
use Rattle.op_model.specs.Answers.Answer.{Good, Repeat, Waits, Refused}
use Rattle.op_model.specs.Rules.{Rules, lf, pieces_under, rule_fault, answer_under, has_return}
use Rattle.op_model.specs.Settled.{State, turn, turn_of, full_fault}
use Rattle.op_model.specs.Settled.Turn.{Append, Stay}
use Rattle.op_model.specs.Steps.{Step, step, run, IsProperStep, with_applied, with_deferred, settle_step, take_answer}
use Rattle.op_model.specs.Steps.Step.{Edits, Undoes, Takes, Settles, Forgets}
use Rattle.op_model.specs.Opened.{MayHaveApplied}
use Rattle.op_model.proofs.Elements.{each_append, each_unit}
use Rattle.op_model.proofs.answers.Passed.{all_none, map_none, none_map, none_position}
use Rattle.op_model.proofs.answers.Local.{made_edit_total, made_edit_entries, made_undo_bytes, made_undo_entries}
use Rattle.op_model.proofs.answers.Under.{under_good}
use Rattle.op_model.proofs.histories.Append.{bytes_held-append}
use Rattle.op_model.proofs.histories.Growing.{room_in, entries_more}
use Rattle.op_model.proofs.histories.MoreLawful.{lawful_more}
use Rattle.op_model.proofs.histories.Proper.{edit_good, undo_good}
use Rattle.op_model.proofs.settling.Settling.{settled_keeps, good_alone, limited_good, none_or, Holds, step_holds}
use Rattle.op_model.proofs.settling.Opening.{limits_of_good}
use Rattle.op_model.proofs.texts.Entering.{lf_clean}

-- ---- one operation more

applied_more : (l : Rules) (h : History) (op : Operation) → MayHaveApplied l h → rule_fault l.endings op ≡ None → answer h [] op ≡ Good → full_fault l h op ≡ None → MayHaveApplied l (h ++ op ∷ [])
applied_more l h op m n g f =
    let r = room_in l.limits h (bytes_of op) (entries_of op) (map_none (λ (x : Excess). Full x.unit x.held x.adds) (excess l.limits h (bytes_of op) (entries_of op)) f) in
    let a = bytes_held-append h op in
    let b = entries_more h op g in
    let x = r.0 in let y = r.1 in
    record {
      lawful = lawful_more h op m.lawful g;
      rule = each_append (λ (o : Operation). rule_fault l.endings o ≡ None) h (op ∷ []) m.rule (n, tt);
      bytes = omega arith;
      entries = omega arith;
    }

-- ---- what is made keeps the rule and the limits

pub clean_pieces : (h : History) (ps : List Piece) → AllByRecursion (λ (p : Piece). has_return p ≡ false) (map (full_piece h) (map (λ (p : Piece). record { start = p.start; end = p.end; text = lf p.text }) ps))
clean_pieces h [] = tt
clean_pieces h (p ∷ ps) = (lf_clean p.text, clean_pieces h ps)

pub edit_rule : (e : Endings) (h : History) (r : ℕ) (ps : List Piece) → rule_fault e (local_edit h r (pieces_under e ps)) ≡ None
unfolding local_edit
edit_rule AsIs h r ps = refl
edit_rule Lf h r ps = let qs : List Piece = map (full_piece h) (map (λ (p : Piece). record { start = p.start; end = p.end; text = lf p.text }) ps) in
    none_map CarriageReturn (position has_return qs) (none_position has_return qs (clean_pieces h ps))

pub undo_rule : (e : Endings) (h : History) (r : ℕ) (ts : List Lamport) → rule_fault e (local_undo h r ts) ≡ None
unfolding local_undo
undo_rule AsIs h r ts = refl
undo_rule Lf h r ts = refl

edit_excess : (l : LimitsType) (h : History) (ps : List Piece) → local_edit_fault l h ps ≡ None → excess l h (text_total ps) (1 + length ps) ≡ None
edit_excess l h ps e =
    let a : Option EditFault = piece_fault (text h) ps in
    let b : Option EditFault = when (ltb text_limit (text_total ps)) (edit_faults.TextLimit (text_total ps)) in
    let c : Option EditFault = when (eqb (clock h) last_value) edit_faults.ClockEnd in
    let d : Option EditFault = option_map (λ x. edit_faults.Full x.unit x.held x.adds) (excess l h (text_total ps) (1 + length ps)) in
    map_none (λ (x : Excess). edit_faults.Full x.unit x.held x.adds) (excess l h (text_total ps) (1 + length ps)) (all_none (a ∷ b ∷ c ∷ d ∷ []) e).1.1.1.0

undo_excess : (l : LimitsType) (h : History) (ts : List Lamport) → local_undo_fault l h ts ≡ None → excess l h 0 (1 + length ts) ≡ None
undo_excess l h ts e =
    let a : Option UndoFault = option_map undo_faults.NoSuchEdit (find (λ t. not (has_edit h t)) ts) in
    let b : Option UndoFault = option_map undo_faults.Twice (first_twice [] ts) in
    let c : Option UndoFault = option_map undo_faults.CountEnd (find (λ t. eqb (count h t) last_value) ts) in
    let d : Option UndoFault = when (eqb (clock h) last_value) undo_faults.ClockEnd in
    let f : Option UndoFault = option_map (λ x. undo_faults.Full x.unit x.held x.adds) (excess l h 0 (1 + length ts)) in
    map_none (λ (x : Excess). undo_faults.Full x.unit x.held x.adds) (excess l h 0 (1 + length ts)) (all_none (a ∷ b ∷ c ∷ d ∷ f ∷ []) e).1.1.1.1.0

full_none : (l : Rules) (h : History) (op : Operation) (n m : ℕ) → bytes_of op ≡ n → entries_of op ≡ m → excess l.limits h n m ≡ None → full_fault l h op ≡ None
full_none l h op n m a b e = none_map (λ (x : Excess). Full x.unit x.held x.adds) (excess l.limits h (bytes_of op) (entries_of op)) ((λ i. excess l.limits h (a i) (b i)) ∙ e)

-- ---- an operation at its turn

turn_parts : (a : Answer) (f : Option OpFault) → turn_of a f ≡ Append → (a ≡ Good) × (f ≡ None)
turn_parts Good None e = (refl, refl)
turn_parts Good (Some x) e = cc
turn_parts Repeat f e = cc
turn_parts (Waits r v) f e = cc
turn_parts (Refused x) f e = cc

turn_more : (l : Rules) (h : History) (op : Operation) → MayHaveApplied l h → turn l h op ≡ Append → MayHaveApplied l (h ++ op ∷ [])
turn_more l h op m e = go (within (version_of op) (version h)) e
  where
    go : (b : Bool) → cond b (turn_of (answer_under l.endings h [] op) (full_fault l h op)) Stay ≡ Append → MayHaveApplied l (h ++ op ∷ [])
    go true e = let p = turn_parts (answer_under l.endings h [] op) (full_fault l h op) e in
        let u = under_good l.endings h [] op p.0 in applied_more l h op m u.1 u.0 p.1
    go false e = cc

settled_may : (l : Rules) (s : State) → MayHaveApplied l s.history → MayHaveApplied l (settle_step l s).history
settled_may l s m = (settled_keeps l (MayHaveApplied l) (λ op. Unit {0}) (λ h op p q e. turn_more l h op p e) s.history s.waiting m (each_unit s.waiting)).0

-- ---- calls

abbrev May : Rules → State → Type 0
May l s = MayHaveApplied l s.history

edited_may : (l : Rules) (r : ℕ) (ps : List Piece) (s : State) → IsReplica r → Holds s → May l s → local_edit_fault l.limits s.history (pieces_under l.endings ps) ≡ None
    → May l (with_applied (local_edit s.history r (pieces_under l.endings ps)) s)
edited_may l r ps s i h m e =
    let qs : List Piece = pieces_under l.endings ps in
    let op : Operation = local_edit s.history r qs in
    applied_more l s.history op m (edit_rule l.endings s.history r ps) (edit_good l.limits s.history r qs h.0 h.1 i e).0
    (full_none l s.history op (text_total qs) (1 + length qs) (made_edit_total s.history r qs) (made_edit_entries s.history r qs) (edit_excess l.limits s.history qs e))

undone_may : (l : Rules) (r : ℕ) (ts : List Lamport) (s : State) → IsReplica r → Holds s → May l s → local_undo_fault l.limits s.history ts ≡ None → May l (with_applied (local_undo s.history r ts) s)
undone_may l r ts s i h m e =
    let op : Operation = local_undo s.history r ts in
    applied_more l s.history op m (undo_rule l.endings s.history r ts) (undo_good l.limits s.history r ts h.0 h.1 i e)
    (full_none l s.history op 0 (1 + length ts) (made_undo_bytes s.history r ts) (made_undo_entries s.history r ts) (undo_excess l.limits s.history ts e))

step_may : (l : Rules) (r : ℕ) (c : Step) (s : State) → IsReplica r → Holds s → May l s → May l (step l r c s)
step_may l r (Edits ps) s i h m = elim (none_or (local_edit_fault l.limits s.history (pieces_under l.endings ps))) [
  | inl e ↦ rw e (edited_may l r ps s i h m e)
  | inr e ↦ rw e m
]
step_may l r (Undoes ts) s i h m = elim (none_or (local_undo_fault l.limits s.history ts)) [
  | inl e ↦ rw e (undone_may l r ts s i h m e)
  | inr e ↦ rw e m
]
step_may l r (Takes op) s i h m = go (take_answer l s op) refl
  where
    go : (a : Answer) → take_answer l s op ≡ a
        → May l (elim a [ Good ↦ settle_step l (with_applied op s) | Repeat ↦ s | Waits q v ↦ with_deferred op s | Refused f ↦ s ])
    go Good e = let u = under_good l.endings s.history s.waiting op (limited_good (answer_under l.endings s.history s.waiting op) (full_fault l s.history op) e) in
        settled_may l (with_applied op s) (applied_more l s.history op m u.1 (good_alone s.history s.waiting op u.0)
        (limits_of_good (answer_under l.endings s.history s.waiting op) (full_fault l s.history op) e))
    go Repeat e = m
    go (Waits q v) e = m
    go (Refused f) e = m
step_may l r Settles s i h m = settled_may l s m
step_may l r (Forgets t) s i h m = m

pub run_may : (l : Rules) (r : ℕ) (cs : List Step) (s : State) → IsReplica r → AllByRecursion IsProperStep cs → Holds s → May l s → May l (run l r cs s)
run_may l r [] s i p h m = m
run_may l r (c ∷ cs) s i p h m = run_may l r cs (step l r c s) i p.1 (step_holds l r c s i p.0 h) (step_may l r c s i h m)
