-- The answer, part by part.
use Rattle.std.proofs.Common.{◌≡◌, ℕ, Bool, true, false, ◌||◌, List, [], ◌∷◌, ◌++◌, refl, sym, ◌∙◌, ap, Option, Some, None, inl, inr}
use Rattle.std.specs.Prelude.{is_some, map, option_map, unwrap_or}
use Rattle.std.proofs.lemmas.Bool.{cases_Bool}
use Rattle.lamport_clock.specs.declared.stamp.Lamport.{Lamport}
use Rattle.op_model.specs.declared.operation.Operation.{Operation}
use Rattle.op_model.specs.declared.operation.Operation.TheVariants.{Edit, Undo}
use Rattle.op_model.specs.declared.operation.EditOp.{EditOp}
use Rattle.op_model.specs.declared.operation.UndoOp.{UndoOp}
use Rattle.op_model.specs.declared.faults.OpFault.{OpFault}
use Rattle.op_model.specs.declared.faults.OpFault.TheVariants.{Conflict, OpenVersion}
use Rattle.op_model.specs.Choice.{first_of, when}
use Rattle.op_model.specs.Operations.{stamp_of, version_of, pieces_of, counts_of}
use Rattle.op_model.specs.Histories.{Distinct, History, operation_at, version, seen_history}
use Rattle.op_model.specs.Lawful.{IsClosed, Lawful}
use Rattle.op_model.specs.Shown.{full}
use Rattle.op_model.specs.Answers.{Answer, shape_fault, any_equal, any_stamp, fork_fault, first_missing, open_replica, range_fault, count_fault, objection, answer}
use Rattle.op_model.specs.Answers.Answer.{Good, Repeat, Waits, Refused}
use Rattle.op_model.proofs.answers.Good.{lawful_ready}
use Rattle.op_model.proofs.answers.Passed.{first_past, none_when, first_here, first_behind, first_append, first_map, some_when, first_alone}
use Rattle.op_model.proofs.answers.Founds.{found_either}
use Rattle.op_model.proofs.answers.Answering.{first_before, causes_known, none_later}
use Rattle.op_answers.specs.Verdicts.{cause_objection, equals, part_fault, stamp_objection}
use Rattle.op_answers.proofs.Founds.{held_both}

-- an edit has no counts
pub range_fault-part : (h : History) (e : EditOp) → range_fault (full (seen_history h e.version)) e.pieces ≡ part_fault h (Edit e)
range_fault-part h e = first_before (range_fault (full (seen_history h e.version)) e.pieces)

-- an undo has no pieces
pub count_fault-part : (h : History) (u : UndoOp) → count_fault (seen_history h u.version) u.counts ≡ part_fault h (Undo u)
count_fault-part h u = first_alone (count_fault (seen_history h u.version) u.counts)

module _ (h : History) (w : List Operation) (op : Operation) where
  in_parts : objection h w op ≡ first_of (option_map Refused (shape_fault op) ∷ stamp_objection h w op ∷ cause_objection h op ∷ option_map Refused (part_fault h op) ∷ [])
  in_parts =
      let a : List (Option Answer) = when (any_equal (h ++ w) op) Repeat ∷ when (any_stamp (h ++ w) op) (Refused (Conflict (stamp_of op))) ∷ [] in
      let b : List (Option Answer) = option_map Refused (fork_fault h op) ∷ option_map (λ e. Waits e.0 e.1) (first_missing h (version_of op)) ∷ option_map (λ r. Refused (OpenVersion r)) (open_replica h (version_of op)) ∷ [] in
      let p : List (Option OpFault) = range_fault (full (seen_history h (version_of op))) (pieces_of op) ∷ count_fault (seen_history h (version_of op)) (counts_of op) ∷ [] in
      let r : List (Option Answer) = option_map Refused (part_fault h op) ∷ [] in
      let last : first_of (map (option_map Refused) p) ≡ first_of r = first_map Refused p ∙ first_alone (option_map Refused (first_of p)) in
      let behind : first_of (b ++ map (option_map Refused) p) ≡ first_of (first_of b ∷ r) = first_append b (map (option_map Refused) p) ∙ first_behind (first_of b) (map (option_map Refused) p) r last in
      first_behind (option_map Refused (shape_fault op)) (a ++ (b ++ map (option_map Refused) p)) (first_of a ∷ first_of b ∷ r)
      (first_append a (b ++ map (option_map Refused) p) ∙ first_behind (first_of a) (b ++ map (option_map Refused) p) (first_of b ∷ r) behind)

  -- the answer by what its parts are found to be
  pub answer_by : (s : Option OpFault) (a b : Option Answer) (p : Option OpFault) → s ≡ shape_fault op → a ≡ stamp_objection h w op → b ≡ cause_objection h op → p ≡ part_fault h op
      → unwrap_or (first_of (option_map Refused s ∷ a ∷ b ∷ option_map Refused p ∷ [])) Good ≡ answer h w op
  unfolding answer
  answer_by s a b p q t c e = rw (q, t, c, e) (ap (λ (o : Option Answer). unwrap_or o Good) (sym in_parts))

  pub shaped_badly : (f : OpFault) → shape_fault op ≡ Some f → answer h w op ≡ Refused f
  shaped_badly f e = sym (answer_by (Some f) (stamp_objection h w op) (cause_objection h op) (part_fault h op) (sym e) refl refl refl)

  module _ (s : shape_fault op ≡ None) where
    stamped : (a : Answer) → stamp_objection h w op ≡ Some a → answer h w op ≡ a
    stamped a e = sym (answer_by None (Some a) (cause_objection h op) (part_fault h op) (sym s) (sym e) refl refl)

    pub repeated : any_equal (h ++ w) op ≡ true → answer h w op ≡ Repeat
    repeated e = stamped Repeat (first_here _ _ Repeat (some_when (any_equal (h ++ w) op) Repeat e))

    pub conflicts : any_equal (h ++ w) op ≡ false → any_stamp (h ++ w) op ≡ true → answer h w op ≡ Refused (Conflict (stamp_of op))
    conflicts n e = stamped (Refused (Conflict (stamp_of op))) (first_past _ _ (none_when (any_equal (h ++ w) op) Repeat n)
        ∙ first_here _ _ (Refused (Conflict (stamp_of op))) (some_when (any_stamp (h ++ w) op) (Refused (Conflict (stamp_of op))) e))

-- what stands against a stamp, by the two that are found of it
pub stamp_by : (h w : History) (op : Operation) (t : Lamport) (a b : Option Operation) (x y : Bool) → Lawful h → Distinct w → t ≡ stamp_of op → a ≡ operation_at h t → b ≡ operation_at w t
    → x ≡ (equals a op || equals b op) → y ≡ (is_some a || is_some b) → first_of (when x Repeat ∷ when y (Refused (Conflict t)) ∷ []) ≡ stamp_objection h w op
stamp_by h w op t a b x y l d s p q i j =
    let u = p ∙ ap (operation_at h) s in
    let v = q ∙ ap (operation_at w) s in
    rw (i ∙ held_both h w op a b (lawful_ready h l).0.distinct d u v, j ∙ found_either h w op a b u v, s) refl

-- what stands against what an operation has seen, by what is found of it
pub cause_by : (h : History) (op : Operation) (f : Option OpFault) (m : Option (ℕ × ℕ)) (r : Option ℕ) → f ≡ fork_fault h op → m ≡ first_missing h (version_of op) → r ≡ open_replica h (version_of op)
    → first_of (option_map Refused f ∷ option_map (λ e. Waits e.0 e.1) m ∷ option_map (λ k. Refused (OpenVersion k)) r ∷ []) ≡ cause_objection h op
cause_by h op f m r i j k = rw (i, j, k) refl

-- a version against which nothing stands is closed
pub none_open : (h : History) (op : Operation) → None ≡ cause_objection h op → IsClosed h (version_of op)
none_open h op e =
    let n = none_later Refused (λ (x : ℕ × ℕ). Waits x.0 x.1) (λ (r : ℕ). Refused (OpenVersion r)) (fork_fault h op) (first_missing h (version_of op)) (open_replica h (version_of op)) e in
    (causes_known h (version_of op) (sym n.0), n.1)

-- what is to wait has a stamp that is not there
pub waits_new : (h w : List Operation) (op : Operation) (r v : ℕ) → answer h w op ≡ Waits r v → any_stamp (h ++ w) op ≡ false
waits_new h w op r v e = by_shape (shape_fault op) refl
  where
    by_shape : (o : Option OpFault) → shape_fault op ≡ o → any_stamp (h ++ w) op ≡ false
    by_shape (Some f) q = let a = shaped_badly h w op f q in cc
    by_shape None q = elim (cases_Bool (any_equal (h ++ w) op)) [
      | inl t ↦ (let a = repeated h w op q t in cc)
      | inr n ↦ (elim (cases_Bool (any_stamp (h ++ w) op)) [ inl t ↦ (let a = conflicts h w op q n t in cc) | inr f ↦ f ])
    ]
