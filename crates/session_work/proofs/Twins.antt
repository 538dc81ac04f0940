-- A session without a CR, over buffers that keep texts as they are and over buffers in which each CR becomes an LF: both report the same.
use Rattle.std.proofs.Common.{◌≡◌, ℕ, zero, suc, ◌+◌, ◌-◌, ◌==◌, Bool, true, false, cond, List, [], ◌∷◌, ◌++◌, length, map, get_or, Option, None, Some, Result, Ok, Err, inl, inr, refl, sym, ap, ap₂, ◌∙◌, subst}
use Rattle.std.specs.Prelude.{⊤, option_and_then, option_map}
use Rattle.std.specs.List.{AllByRecursion, AllZip, flat_map, list_any, position}
use Rattle.std.specs.Result.{result_ok}
use Rattle.std.proofs.lemmas.Bool.{or_parts}
use Rattle.lamport_clock.specs.Versions.{within}
use Rattle.op_model.specs.Operations.{stamp_of, version_of}
use Rattle.op_model.specs.Anchors.{place_fault}
use Rattle.op_model.specs.Histories.{History, version}
use Rattle.lamport_clock.specs.declared.stamp.Lamport.{Lamport}
use Rattle.op_model.specs.Answers.{Answer}
use Rattle.op_model.specs.Answers.Answer.{Good, Repeat, Waits, Refused}
use Rattle.op_model.specs.Made.{full_piece, local_edit, local_edit_fault, local_undo}
use Rattle.op_model.specs.Rules.{Rules, KeepsRule, answer_under, has_return, pieces_under, rule_fault}
use Rattle.op_model.specs.Settled.{State as Held, Turn, full_fault, pass, passes, settle, turn, turn_of, with_first_refusal, with_waiting}
use Rattle.op_model.specs.Settled.Turn.{Append, Drop, Stay, Refuse}
use Rattle.op_model.specs.Steps.{ask_limits, older, settle_step, take_answer, take_step, with_applied, with_deferred}
use Rattle.op_model.specs.declared.endings.Endings.{Endings}
use Rattle.op_model.specs.declared.endings.Endings.TheVariants.{AsIs, Lf}
use Rattle.op_model.specs.declared.faults.OpFault.TheVariants.{CarriageReturn}
use Rattle.op_model.specs.declared.limits.Limits.{Limits as LimitsType}
use Rattle.op_model.specs.declared.operation.EditOp.{EditOp}
use Rattle.op_model.specs.declared.operation.Operation.{Operation}
use Rattle.op_model.specs.declared.operation.Operation.TheVariants as operation
use Rattle.op_model.specs.declared.operation.Piece.{Piece}
use Rattle.op_model.proofs.Elements.{each_append}
use Rattle.op_model.proofs.MainLaws.{texts_without_return_stay}
use Rattle.op_model.proofs.answers.Passed.{none_map, none_position}
use Rattle.op_model.proofs.answers.Under.{under_clean}
use Rattle.op_model.proofs.order.Insertion.{each_insert}
use Rattle.op_model.proofs.settling.Leaves.{each_kept}
use Rattle.op_model.proofs.settling.Passes.{after_refused, pass_nil}
use Rattle.op_model.proofs.settling.Settling.{after, pass_is, settled_keeps}
use Rattle.text_buffer.specs.Buffer.{BufferState, after_apply, after_settle, base_under, edit_fault, edit_of, state, undo_of, with_state}
use Rattle.session_lines.specs.Session.{endings_of, session_of_text, unless}
use Rattle.session_lines.specs.declared.report.GiveAnswer.{GiveAnswer}
use Rattle.session_lines.specs.declared.report.Report.{Report}
use Rattle.session_lines.specs.declared.report.Report.TheVariants as report
use Rattle.session_lines.specs.declared.session.SessionLine.{SessionLine}
use Rattle.session_lines.specs.declared.session.SessionLine.TheVariants as line
use Rattle.session_lines.specs.declared.session.Session.{Session}
use Rattle.session_lines.proofs.Headers.{session_read}
use Rattle.session_lines.proofs.Reports.{settled_of}
use Rattle.session_lines.proofs.CleanTexts.{AreClean, IsClean, IsCleanText, clean_session}
use Rattle.session_work.specs.Names.{anchor_answer, new_anchor, under, where_answer, with_name}
use Rattle.session_work.specs.Work.{State, after_all, after_give, after_line, after_outcome, after_reopen, all_events, applied_count, at_end, base_of, buffer_of, edit_outcome, events, first_buffer, give_answer, give_answer_for, history_at, next_number, opening, operation_of, outcome_reports, reports_at, settled_reports, since_reports, stamps_under, step, text_report, undo_outcome, undo_refusal, with_buffer, with_operation_line}
use Rattle.session_work.specs.Queries.{AskedQuery, plain_line, queries_from, query_at, query_of, query_with, question_of, report_of}
use Rattle.session_work.specs.declared.queries.Question.{Question}

-- ---- rules that differ in line endings alone

abbrev rules_as : LimitsType → Endings → Rules
rules_as l e = record { limits = l; endings = e }

-- no text of the operation has a CR
abbrev Keeps : Operation → Type 0
Keeps op = rule_fault Lf op ≡ None

answer_same : (h : History) (w : List Operation) (op : Operation) → Keeps op → answer_under Lf h w op ≡ answer_under AsIs h w op
answer_same h w op k = under_clean Lf h w op k ∙ sym (under_clean AsIs h w op refl)

module _ (l : LimitsType) where
  abbrev strict : Rules
  strict = rules_as l Lf

  abbrev plain : Rules
  plain = rules_as l AsIs

  turn_same : (h : History) (op : Operation) → Keeps op → turn strict h op ≡ turn plain h op
  turn_same h op k = ap (λ (a : Answer). cond (within (version_of op) (version h)) (turn_of a (full_fault plain h op)) Stay) (answer_same h [] op k)

  pass_same : (h : History) (w : List Operation) → KeepsRule Lf w → pass strict h w ≡ pass plain h w
  pass_same h [] k = pass_nil strict h ∙ sym (pass_nil plain h)
  pass_same h (op ∷ w) k =
      pass_is strict h op w ∙ (ap (λ (t : Turn). after t strict h op w) (turn_same h op k.0)
      ∙ (go (turn plain h op) (pass_same (h ++ op ∷ []) w k.1) (pass_same h w k.1) ∙ sym (pass_is plain h op w)))
    where
      go : (t : Turn) → pass strict (h ++ op ∷ []) w ≡ pass plain (h ++ op ∷ []) w → pass strict h w ≡ pass plain h w → after t strict h op w ≡ after t plain h op w
      go Append a b = a
      go Drop a b = b
      go Stay a b = ap (with_waiting op) b
      go (Refuse f) a b = ap (with_first_refusal (stamp_of op, f)) b

  passes_same : (n : ℕ) (h : History) (w : List Operation) → KeepsRule Lf w → passes n strict h w ≡ passes n plain h w
  unfolding passes
  passes_same zero h w k = refl
  passes_same (suc n) h w k =
      let s : Held = pass plain h w in
      ap (λ (z : Held). cond (length z.history == length h) z (after_refused z (passes n strict z.history z.waiting))) (pass_same h w k)
      ∙ ap (λ (r : Held). cond (length s.history == length h) s (after_refused s r)) (passes_same n s.history s.waiting (each_kept Keeps plain h w k))

  settle_same : (h : History) (w : List Operation) → KeepsRule Lf w → settle strict h w ≡ settle plain h w
  unfolding settle
  settle_same h w k = passes_same (suc (length w)) h w k

  settle_kept : (h : History) (w : List Operation) → KeepsRule Lf w → KeepsRule Lf (settle plain h w).waiting
  settle_kept h w k = (settled_keeps plain (λ (g : History). Unit {0}) Keeps (λ g op p q e. tt) h w tt k).1

  settled_same : (s : Held) → KeepsRule Lf s.waiting → settle_step strict s ≡ settle_step plain s
  settled_same s k = ap (after_refused s) (settle_same s.history s.waiting k)

  answered_same : (s : Held) (op : Operation) → Keeps op → take_answer strict s op ≡ take_answer plain s op
  answered_same s op k = ap (λ (a : Answer). ask_limits a (full_fault plain s.history op)) (answer_same s.history s.waiting op k)

-- a state after an operation is taken that has this answer
abbrev taken : Answer → Rules → Operation → Held → Held
taken Good l op s = settle_step l (with_applied op s)
taken Repeat l op s = s
taken (Waits r v) l op s = with_deferred op s
taken (Refused f) l op s = s

take_is : (l : Rules) (op : Operation) (s : Held) → take_step l op s ≡ taken (take_answer l s op) l op s
take_is l op s = go (take_answer l s op)
  where
    go : (a : Answer) → elim a [ Good ↦ settle_step l (with_applied op s) | Repeat ↦ s | Waits r v ↦ with_deferred op s | Refused f ↦ s ] ≡ taken a l op s
    go Good = refl
    go Repeat = refl
    go (Waits r v) = refl
    go (Refused f) = refl

module _ (l : LimitsType) (op : Operation) (s : Held) (keeps : Keeps op) (k : KeepsRule Lf s.waiting) where
  taken_same : take_step (rules_as l Lf) op s ≡ take_step (rules_as l AsIs) op s
  taken_same =
      take_is (rules_as l Lf) op s ∙ (ap (λ (a : Answer). taken a (rules_as l Lf) op s) (answered_same l s op keeps)
      ∙ (go (take_answer (rules_as l AsIs) s op) ∙ sym (take_is (rules_as l AsIs) op s)))
    where
      go : (a : Answer) → taken a (rules_as l Lf) op s ≡ taken a (rules_as l AsIs) op s
      go Good = settled_same l (with_applied op s) k
      go Repeat = refl
      go (Waits r v) = refl
      go (Refused f) = refl

  taken_kept : KeepsRule Lf (take_step (rules_as l AsIs) op s).waiting
  taken_kept = subst (λ (n : Held). KeepsRule Lf n.waiting) (sym (take_is (rules_as l AsIs) op s)) (go (take_answer (rules_as l AsIs) s op))
    where
      go : (a : Answer) → KeepsRule Lf (taken a (rules_as l AsIs) op s).waiting
      go Good = settle_kept l (s.history ++ op ∷ []) s.waiting k
      go Repeat = k
      go (Waits r v) = each_insert Keeps older op s.waiting keeps k
      go (Refused f) = k

-- ---- buffers that differ in line endings alone

abbrev buffer_as : Endings → BufferState → BufferState
buffer_as e m = record m { endings = e }

-- one buffer under both rules, with no CR in what waits
pub record Twin (b n : BufferState) : Type 0 where
  pub both : BufferState
  pub as_is : b ≡ buffer_as AsIs both
  pub with_lf : n ≡ buffer_as Lf both
  pub waiting : KeepsRule Lf both.waiting

-- what holds of each buffer under both rules holds of twins
on_twins : (P : BufferState → BufferState → Type 0) → ((m : BufferState) → KeepsRule Lf m.waiting → P (buffer_as AsIs m) (buffer_as Lf m)) → (b n : BufferState) → Twin b n → P b n
on_twins P h b n t = subst (λ (x : BufferState). P x n) (sym t.as_is) (subst (λ (y : BufferState). P (buffer_as AsIs t.both) y) (sym t.with_lf) (h t.both t.waiting))

settle_twin : (m : BufferState) → KeepsRule Lf m.waiting → Twin (after_settle (buffer_as AsIs m)) (after_settle (buffer_as Lf m))
settle_twin m k = record {
  both = with_state (settle_step (rules_as m.limits AsIs) (state m)) m;
  as_is = refl;
  with_lf = ap (λ (s : Held). with_state s (buffer_as Lf m)) (settled_same m.limits (state m) k);
  waiting = settle_kept m.limits m.history m.waiting k;
}

settled_reported : (m : BufferState) → KeepsRule Lf m.waiting → settled_reports (buffer_as AsIs m) ≡ settled_reports (buffer_as Lf m)
settled_reported m k = ap (λ (s : Held). settled_of m.replica (length s.history - length m.history)) (sym (settled_same m.limits (state m) k))

outcome_twin : (o : Result Operation Report) (m : BufferState) → KeepsRule Lf m.waiting → Twin (after_outcome o (buffer_as AsIs m)) (after_outcome o (buffer_as Lf m))
outcome_twin (Ok op) m k = settle_twin (after_apply m op) k
outcome_twin (Err r) m k = record { both = m; as_is = refl; with_lf = refl; waiting = k }

outcome_reported : (q : ℕ) (o : Result Operation Report) (m : BufferState) → KeepsRule Lf m.waiting → outcome_reports q o (buffer_as AsIs m) ≡ outcome_reports q o (buffer_as Lf m)
outcome_reported q (Ok op) m k = ap (λ (rs : List Report). report.Made q (stamp_of op) ∷ rs) (settled_reported (after_apply m op) k)
outcome_reported q (Err r) m k = refl

-- what stands under a number, if anything does, has no CR
abbrev IsKept : Option Operation → Type 0
IsKept None = ⊤
IsKept (Some op) = Keeps op

give_twin : (o : Option Operation) → IsKept o → (m : BufferState) → KeepsRule Lf m.waiting → Twin (after_give o (buffer_as AsIs m)) (after_give o (buffer_as Lf m))
give_twin None c m k = record { both = m; as_is = refl; with_lf = refl; waiting = k }
give_twin (Some op) c m k = record {
  both = with_state (take_step (rules_as m.limits AsIs) op (state m)) m;
  as_is = refl;
  with_lf = ap (λ (s : Held). with_state s (buffer_as Lf m)) (taken_same m.limits op (state m) c k);
  waiting = taken_kept m.limits op (state m) c k;
}

give_answered : (o : Option Operation) → IsKept o → (m : BufferState) → KeepsRule Lf m.waiting → give_answer o (buffer_as AsIs m) ≡ give_answer o (buffer_as Lf m)
give_answered None c m k = refl
give_answered (Some op) c m k =
    sym (ap₂ (λ (a : Answer) (s : Held). give_answer_for a (length s.history - length m.history)) (answered_same m.limits (state m) op c) (taken_same m.limits op (state m) c k))

-- ---- an edit without a CR

abbrev with_text : Piece → List ℕ → Piece
with_text p t = record { start = p.start; end = p.end; text = t }

pieces_same : (ps : List Piece) → list_any has_return ps ≡ false → pieces_under Lf ps ≡ ps
pieces_same [] n = refl
pieces_same (p ∷ ps) n =
    let parts = or_parts (has_return p) (list_any has_return ps) n in
    ap₂ (λ (t : List ℕ) (qs : List Piece). with_text p t ∷ qs) (texts_without_return_stay Lf p.text parts.0) (pieces_same ps parts.1)

edit_same : (q : ℕ) (ps : List Piece) → list_any has_return ps ≡ false → (m : BufferState) → edit_outcome q ps (buffer_as AsIs m) ≡ edit_outcome q ps (buffer_as Lf m)
edit_same q ps n m =
    ap (λ (xs : List Piece). unless (local_edit m.history m.replica xs) (option_map (report.EditRefused q) (local_edit_fault m.limits m.history xs))) (sym (pieces_same ps n))

each_bare : (ps : List Piece) → list_any has_return ps ≡ false → AllByRecursion (λ (p : Piece). has_return p ≡ false) ps
each_bare [] n = tt
each_bare (p ∷ ps) n = let parts = or_parts (has_return p) (list_any has_return ps) n in (parts.0, each_bare ps parts.1)

each_full : (h : History) (ps : List Piece) → list_any has_return ps ≡ false → AllByRecursion (λ (p : Piece). has_return p ≡ false) (map (full_piece h) ps)
each_full h [] n = tt
each_full h (p ∷ ps) n = let parts = or_parts (has_return p) (list_any has_return ps) n in (parts.0, each_full h ps parts.1)

edit_kept : (h : History) (r : ℕ) (ps : List Piece) → list_any has_return ps ≡ false → Keeps (local_edit h r ps)
unfolding local_edit
edit_kept h r ps n = none_map CarriageReturn (position has_return (map (full_piece h) ps)) (none_position has_return (map (full_piece h) ps) (each_full h ps n))

made_kept : {E : Type 0} (op : Operation) (o : Option E) → Keeps op → IsKept (result_ok (unless op o))
made_kept op None k = k
made_kept op (Some e) k = tt

-- ---- the buffers of all replicas

-- the buffers of one replica on both sides, or none on either
abbrev AreFound : Option BufferState → Option BufferState → Type 0
AreFound None None = ⊤
AreFound None (Some n) = ⊥
AreFound (Some b) None = ⊥
AreFound (Some b) (Some n) = Twin b n

same_replica : (b n : BufferState) → Twin b n → b.replica ≡ n.replica
same_replica b n t = ap (λ (x : BufferState). x.replica) t.as_is ∙ sym (ap (λ (x : BufferState). x.replica) t.with_lf)

found_by : (b n : BufferState) (o p : Option BufferState) (t u : Bool) → t ≡ u → Twin b n → AreFound o p → AreFound (cond t (Some b) o) (cond u (Some n) p)
found_by b n o p true true e w f = w
found_by b n o p false false e w f = f
found_by b n o p true false e w f = absurd (cc e)
found_by b n o p false true e w f = absurd (cc e)

found_twin : (r : ℕ) (bs ns : List BufferState) → AllZip Twin bs ns → AreFound (buffer_of r bs) (buffer_of r ns)
found_twin r [] [] t = tt
found_twin r [] (n ∷ ns) t = absurd t
found_twin r (b ∷ bs) [] t = absurd t
found_twin r (b ∷ bs) (n ∷ ns) t =
    found_by b n (buffer_of r bs) (buffer_of r ns) (b.replica == r) (n.replica == r) (ap (λ (x : ℕ). x == r) (same_replica b n t.0)) t.0 (found_twin r bs ns t.1)

module _ (r : ℕ) (f g : BufferState → BufferState) (same : (b n : BufferState) → Twin b n → Twin (f b) (g n)) where
  changed_by : (b n : BufferState) (bs ns cs ms : List BufferState) (t u : Bool) → t ≡ u → Twin b n → AllZip Twin bs ns → AllZip Twin cs ms → AllZip Twin (cond t (f b ∷ bs) (b ∷ cs)) (cond u (g n ∷ ns) (n ∷ ms))
  changed_by b n bs ns cs ms true true e w a c = (same b n w, a)
  changed_by b n bs ns cs ms false false e w a c = (w, c)
  changed_by b n bs ns cs ms true false e w a c = absurd (cc e)
  changed_by b n bs ns cs ms false true e w a c = absurd (cc e)

  changed_twin : (bs ns : List BufferState) → AllZip Twin bs ns → AllZip Twin (with_buffer r f bs) (with_buffer r g ns)
  changed_twin [] [] t = tt
  changed_twin [] (n ∷ ns) t = absurd t
  changed_twin (b ∷ bs) [] t = absurd t
  changed_twin (b ∷ bs) (n ∷ ns) t =
      changed_by b n bs ns (with_buffer r f bs) (with_buffer r g ns) (b.replica == r) (n.replica == r) (ap (λ (x : ℕ). x == r) (same_replica b n t.0)) t.0 t.1 (changed_twin bs ns t.1)

reports_twin : (f g : BufferState → List Report) → ((b n : BufferState) → Twin b n → f b ≡ g n) → (o p : Option BufferState) → AreFound o p → reports_at f o ≡ reports_at g p
reports_twin f g same None None t = refl
reports_twin f g same None (Some n) t = absurd t
reports_twin f g same (Some b) None t = absurd t
reports_twin f g same (Some b) (Some n) t = same b n t

bound_twin : {X : Type 0} (f g : BufferState → Option X) → ((b n : BufferState) → Twin b n → f b ≡ g n) → (o p : Option BufferState) → AreFound o p → option_and_then f o ≡ option_and_then g p
bound_twin f g same None None t = refl
bound_twin f g same None (Some n) t = absurd t
bound_twin f g same (Some b) None t = absurd t
bound_twin f g same (Some b) (Some n) t = same b n t

same_history : (b n : BufferState) → Twin b n → b.history ≡ n.history
same_history b n t = ap (λ (x : BufferState). x.history) t.as_is ∙ sym (ap (λ (x : BufferState). x.history) t.with_lf)

history_twin : (o p : Option BufferState) → AreFound o p → option_map (λ (b : BufferState). b.history) o ≡ option_map (λ (b : BufferState). b.history) p
history_twin None None t = refl
history_twin None (Some n) t = absurd t
history_twin (Some b) None t = absurd t
history_twin (Some b) (Some n) t = ap Some (same_history b n t)

-- ---- a session on its way

-- the buffers ns are those of s under Lf, and nothing that stands under a number has a CR
pub record AreTwins (s : State) (ns : List BufferState) : Type 0 where
  pub buffers : AllZip Twin s.buffers ns
  pub kept : AllByRecursion IsKept s.operations

-- the session over other buffers
abbrev over : List BufferState → State → State
over ns s = record s { buffers = ns }

kept_at : (ops : List (Option Operation)) (i : ℕ) → AllByRecursion IsKept ops → IsKept (get_or ops i None)
kept_at [] i k = tt
kept_at (o ∷ ops) zero k = k.0
kept_at (o ∷ ops) (suc i) k = kept_at ops i k.1

module _ (s : State) (ns : List BufferState) (t : AreTwins s ns) where
  at : (r : ℕ) → AreFound (buffer_of r s.buffers) (buffer_of r ns)
  at r = found_twin r s.buffers ns t.buffers

  histories_at : (r : ℕ) → history_at r s ≡ history_at r (over ns s)
  histories_at r = history_twin (buffer_of r s.buffers) (buffer_of r ns) (at r)

  -- an operation line, by what comes of it at each of the buffers
  module _ (r : ℕ) (f : BufferState → Result Operation Report) (same : (m : BufferState) → f (buffer_as AsIs m) ≡ f (buffer_as Lf m)) where
    lines_reported : reports_at (λ b. outcome_reports (next_number s) (f b) b) (buffer_of r s.buffers) ≡ reports_at (λ b. outcome_reports (next_number s) (f b) b) (buffer_of r ns)
    lines_reported = reports_twin (λ b. outcome_reports (next_number s) (f b) b) (λ b. outcome_reports (next_number s) (f b) b)
        (on_twins (λ b n. outcome_reports (next_number s) (f b) b ≡ outcome_reports (next_number s) (f n) n)
        (λ m k. outcome_reported (next_number s) (f (buffer_as AsIs m)) m k ∙ ap (λ (o : Result Operation Report). outcome_reports (next_number s) o (buffer_as Lf m)) (same m)))
        (buffer_of r s.buffers) (buffer_of r ns) (at r)

    buffers_twin : AllZip Twin (with_buffer r (λ b. after_outcome (f b) b) s.buffers) (with_buffer r (λ b. after_outcome (f b) b) ns)
    buffers_twin = changed_twin r (λ b. after_outcome (f b) b) (λ b. after_outcome (f b) b)
        (on_twins (λ b n. Twin (after_outcome (f b) b) (after_outcome (f n) n))
        (λ m k. subst (λ (o : Result Operation Report). Twin (after_outcome (f (buffer_as AsIs m)) (buffer_as AsIs m)) (after_outcome o (buffer_as Lf m))) (same m) (outcome_twin (f (buffer_as AsIs m)) m k)))
        s.buffers ns t.buffers

    made_same : option_and_then (λ b. result_ok (f b)) (buffer_of r s.buffers) ≡ option_and_then (λ b. result_ok (f b)) (buffer_of r ns)
    made_same = bound_twin (λ b. result_ok (f b)) (λ b. result_ok (f b)) (on_twins (λ b n. result_ok (f b) ≡ result_ok (f n)) (λ m k. ap result_ok (same m))) (buffer_of r s.buffers) (buffer_of r ns) (at r)

    made_at : ((b : BufferState) → IsKept (result_ok (f b))) → (o : Option BufferState) → IsKept (option_and_then (λ b. result_ok (f b)) o)
    made_at keep None = tt
    made_at keep (Some b) = keep b

-- ---- one line

under_same : (e : Endings) (ps : List Piece) → list_any has_return ps ≡ false → pieces_under e ps ≡ ps
under_same AsIs ps n = refl
under_same Lf ps n = pieces_same ps n

edit_outcome_kept : (q : ℕ) (ps : List Piece) → list_any has_return ps ≡ false → (b : BufferState) → IsKept (result_ok (edit_outcome q ps b))
edit_outcome_kept q ps n b =
    made_kept (edit_of b ps) (option_map (report.EditRefused q) (edit_fault b ps))
    (subst (λ (xs : List Piece). Keeps (local_edit b.history b.replica xs)) (sym (under_same b.endings ps n)) (edit_kept b.history b.replica ps n))

undo_rule : (h : History) (r : ℕ) (ts : List Lamport) → Keeps (local_undo h r ts)
unfolding local_undo
undo_rule h r ts = refl

undo_outcome_kept : (q : ℕ) (ops : List (Option Operation)) (ms : List ℕ) (b : BufferState) → IsKept (result_ok (undo_outcome q ops ms b))
undo_outcome_kept q ops ms b = made_kept (undo_of b (stamps_under ops ms)) (undo_refusal q ops ms b) (undo_rule b.history b.replica (stamps_under ops ms))

op_kept : (e : EditOp) → list_any has_return e.pieces ≡ false → Keeps (operation.Edit e)
op_kept e n = none_map CarriageReturn (position has_return e.pieces) (none_position has_return e.pieces (each_bare e.pieces n))

reopen_twin : (m : BufferState) → KeepsRule Lf m.waiting → Twin (after_reopen (buffer_as AsIs m)) (after_reopen (buffer_as Lf m))
reopen_twin m k = record { both = after_reopen m; as_is = refl; with_lf = refl; waiting = tt }

one_kept : (ops : List (Option Operation)) (o : Option Operation) → AllByRecursion IsKept ops → IsKept o → AllByRecursion IsKept (ops ++ o ∷ [])
one_kept ops o k c = each_append IsKept ops (o ∷ []) k (c, tt)

-- the line is worked alike, and so may be the lines after it
abbrev WorksAlike : SessionLine → State → List BufferState → Type 0
WorksAlike l s ns = (ms : List BufferState) × (step l (over ns s) ≡ over ms (step l s)) × AreTwins (step l s) ms

abbrev asked_on : ℕ → ℕ → Question → History → AskedQuery
asked_on q r ask h = record { number = q; replica = r; history = h; question = ask }

one_asked : (q r : ℕ) (ask : Question) (o p : Option BufferState) → AreFound o p → query_of q r ask o ≡ query_of q r ask p
one_asked q r ask None None t = refl
one_asked q r ask None (Some n) t = absurd t
one_asked q r ask (Some b) None t = absurd t
one_asked q r ask (Some b) (Some n) t = ap (λ (h : History). asked_on q r ask h ∷ []) (same_history b n t)

module _ (s : State) (ns : List BufferState) (t : AreTwins s ns) where
  outcome_works : (r : ℕ) (f : BufferState → Result Operation Report) → ((m : BufferState) → f (buffer_as AsIs m) ≡ f (buffer_as Lf m)) → ((b : BufferState) → IsKept (result_ok (f b)))
      → (after_line r f (over ns s) ≡ over (with_buffer r (λ b. after_outcome (f b) b) ns) (after_line r f s)) × AreTwins (after_line r f s) (with_buffer r (λ b. after_outcome (f b) b) ns)
  outcome_works r f same keep = (
    ap (λ (o : Option Operation). with_operation_line (with_buffer r (λ b. after_outcome (f b) b) ns) o s) (sym (made_same s ns t r f same)),
    record {
      buffers = buffers_twin s ns t r f same;
      kept = one_kept s.operations (option_and_then (λ b. result_ok (f b)) (buffer_of r s.buffers)) t.kept (made_at s ns t r f same keep (buffer_of r s.buffers));
    },
  )

  given : (n : ℕ) → IsKept (operation_of n s.operations)
  given n = kept_at s.operations (n - 1) t.kept

  buffers_change : (r : ℕ) (f : BufferState → BufferState) → ((m : BufferState) → KeepsRule Lf m.waiting → Twin (f (buffer_as AsIs m)) (f (buffer_as Lf m))) → AllZip Twin (with_buffer r f s.buffers) (with_buffer r f ns)
  buffers_change r f same = changed_twin r f f (on_twins (λ b n. Twin (f b) (f n)) same) s.buffers ns t.buffers

  works_alike : (l : SessionLine) → IsClean l → WorksAlike l s ns
  works_alike (line.Edit r ps) c =
      let f : BufferState → Result Operation Report = edit_outcome (next_number s) ps in
      let w = outcome_works r f (edit_same (next_number s) ps c) (edit_outcome_kept (next_number s) ps c) in (with_buffer r (λ b. after_outcome (f b) b) ns, w.0, w.1)
  works_alike (line.Undo r ms) c =
      let f : BufferState → Result Operation Report = undo_outcome (next_number s) s.operations ms in
      let w = outcome_works r f (λ m. refl) (undo_outcome_kept (next_number s) s.operations ms) in (with_buffer r (λ b. after_outcome (f b) b) ns, w.0, w.1)
  works_alike (line.Op e) c = (ns, refl, record { buffers = t.buffers; kept = one_kept s.operations (Some (operation.Edit e)) t.kept (op_kept e c) })
  works_alike (line.Uop u) c = (ns, refl, record { buffers = t.buffers; kept = one_kept s.operations (Some (operation.Undo u)) t.kept refl })
  works_alike (line.Give r n) c =
      let o : Option Operation = operation_of n s.operations in
      (with_buffer r (after_give o) ns, refl, record { buffers = buffers_change r (after_give o) (give_twin o (given n)); kept = t.kept })
  works_alike (line.Text r) c = (ns, refl, t)
  works_alike (line.Anchor r name o b) c = (
    ns,
    ap (λ (h : Option History). record s { buffers = ns; anchors = with_name name (option_and_then (new_anchor o b) h) s.anchors }) (sym (histories_at s ns t r)),
    record { buffers = t.buffers; kept = t.kept },
  )
  works_alike (line.Where r name) c = (ns, refl, t)
  works_alike (line.Mark r name) c = (
    ns,
    ap (λ (h : Option History). record s { buffers = ns; marks = with_name name (option_map version h) s.marks }) (sym (histories_at s ns t r)),
    record { buffers = t.buffers; kept = t.kept },
  )
  works_alike (line.Since r name) c = (ns, refl, t)
  works_alike (line.Find r needle) c = (ns, refl, t)
  works_alike (line.Point r o) c = (ns, refl, t)
  works_alike (line.Offset r row column) c = (ns, refl, t)
  works_alike (line.Reopen r) c = (with_buffer r after_reopen ns, refl, record { buffers = buffers_change r after_reopen reopen_twin; kept = t.kept })

  -- what is reported of a replica's buffer
  reported : (r : ℕ) (f : BufferState → List Report) → ((m : BufferState) → KeepsRule Lf m.waiting → f (buffer_as AsIs m) ≡ f (buffer_as Lf m)) → reports_at f (buffer_of r s.buffers) ≡ reports_at f (buffer_of r ns)
  reported r f same = reports_twin f f (on_twins (λ b n. f b ≡ f n) same) (buffer_of r s.buffers) (buffer_of r ns) (at s ns t r)

  -- what is reported of what a replica has applied
  heard : (r : ℕ) (f : History → List Report) → reports_at f (history_at r s) ≡ reports_at f (history_at r (over ns s))
  heard r f = ap (reports_at f) (histories_at s ns t r)

  events_alike : (l : SessionLine) → IsClean l → events l s ≡ events l (over ns s)
  events_alike (line.Edit r ps) c = lines_reported s ns t r (edit_outcome (next_number s) ps) (edit_same (next_number s) ps c)
  events_alike (line.Undo r ms) c = lines_reported s ns t r (undo_outcome (next_number s) s.operations ms) (λ m. refl)
  events_alike (line.Op e) c = refl
  events_alike (line.Uop u) c = refl
  events_alike (line.Give r n) c =
      let o : Option Operation = operation_of n s.operations in
      reported r (λ b. report.Give n r (give_answer o b) ∷ []) (λ m k. ap (λ (g : GiveAnswer). report.Give n r g ∷ []) (give_answered o (given n) m k))
  events_alike (line.Text r) c = reported r (λ b. text_report b ∷ []) (λ m k. refl)
  events_alike (line.Anchor r name o b) c = heard r (λ h. report.Anchor name (anchor_answer (place_fault h o)) ∷ [])
  events_alike (line.Where r name) c = heard r (λ h. report.Where name r (where_answer (under name s.anchors) h) ∷ [])
  events_alike (line.Mark r name) c = heard r (λ h. report.Mark name ∷ [])
  events_alike (line.Since r name) c = heard r (since_reports name r (under name s.marks))
  events_alike (line.Find r needle) c = refl
  events_alike (line.Point r o) c = refl
  events_alike (line.Offset r row column) c = refl
  events_alike (line.Reopen r) c = reported r (λ b. report.Reopen r (applied_count b.history) ∷ []) (λ m k. refl)

  asked_alike : (q : ℕ) (a : Option (ℕ × Question)) → query_with q s a ≡ query_with q (over ns s) a
  asked_alike q None = refl
  asked_alike q (Some (r, ask)) = one_asked q r ask (buffer_of r s.buffers) (buffer_of r ns) (at s ns t r)

-- ---- all lines

ends_alike : (bs ns : List BufferState) → AllZip Twin bs ns → flat_map at_end bs ≡ flat_map at_end ns
ends_alike [] [] t = refl
ends_alike [] (n ∷ ns) t = absurd t
ends_alike (b ∷ bs) [] t = absurd t
ends_alike (b ∷ bs) (n ∷ ns) t = ap₂ (λ (rs qs : List Report). rs ++ qs) (on_twins (λ x y. at_end x ≡ at_end y) (λ m k. refl) b n t.0) (ends_alike bs ns t.1)

record Alike (ls : List SessionLine) (s : State) (ns : List BufferState) : Type 0 where
  reports : all_events ls (over ns s) ≡ all_events ls s
  asked : (q : ℕ) → queries_from q ls (over ns s) ≡ queries_from q ls s
  left : flat_map at_end (after_all ls (over ns s)).buffers ≡ flat_map at_end (after_all ls s).buffers

lines_alike : (ls : List SessionLine) (s : State) (ns : List BufferState) → AreClean ls → AreTwins s ns → Alike ls s ns
lines_alike [] s ns c t = record { reports = refl; asked = λ q. refl; left = sym (ends_alike s.buffers ns t.buffers) }
lines_alike (l ∷ ls) s ns c t =
    let w = works_alike s ns t l c.0 in
    let rest = lines_alike ls (step l s) w.0 c.1 w.2 in record {
      reports = ap₂ (λ (es fs : List Report). es ++ fs) (sym (events_alike s ns t l c.0)) (ap (all_events ls) w.1 ∙ rest.reports);
      asked = λ q.
          let qs : List AskedQuery = query_at q l s in
          ap (λ (ks : List AskedQuery). ks ++ queries_from (q + length ks) ls (step l (over ns s))) (sym (asked_alike s ns t q (question_of l)))
          ∙ (ap (λ (u : State). qs ++ queries_from (q + length qs) ls u) w.1 ∙ ap (λ (ks : List AskedQuery). qs ++ ks) (rest.asked (q + length qs)));
      left = ap (λ (u : State). flat_map at_end (after_all ls u).buffers) w.1 ∙ rest.left;
    }

-- ---- the report

-- the session with version 2
abbrev pub second : Session → Session
second s = record s { version = 2 }

module _ (s : Session) (one : s.version ≡ 1) (base : IsCleanText s.base) where
  abbrev others : List ℕ → List BufferState
  others ids = map (first_buffer (base_of (second s))) ids

  first_twin : (r : ℕ) → Twin (first_buffer (base_of s) r) (first_buffer (base_of (second s)) r)
  first_twin r = record {
    both = first_buffer (base_under AsIs s.base) r;
    as_is = ap (λ (v : ℕ). first_buffer (base_under (endings_of v) s.base) r) one;
    with_lf = ap (λ (x : List ℕ). first_buffer (record { text = x; endings = Lf }) r) (texts_without_return_stay Lf s.base base);
    waiting = tt;
  }

  first_twins : (ids : List ℕ) → AllZip Twin (map (first_buffer (base_of s)) ids) (others ids)
  first_twins [] = tt
  first_twins (r ∷ ids) = (first_twin r, first_twins ids)

  clean_report : AreClean s.lines → report_of (second s) ≡ report_of s
  unfolding report_of
  clean_report c =
      let a = lines_alike s.lines (opening s) (others s.replicas) c (record { buffers = first_twins s.replicas; kept = tt }) in
      ap₂ (λ (es rs : List Report). es ++ rs) a.reports (ap₂ (λ (qs : List AskedQuery) (rs : List Report). map plain_line qs ++ rs) (a.asked 1) a.left)

-- a session that is read to be migrated reports the same as one of version 2
pub same_report : (input : List ℕ) (s : Session) → session_of_text true input ≡ Ok s → report_of (second s) ≡ report_of s
same_report input s e = elim (session_read true input s e).version [
  | inl one ↦ (let c = clean_session input s e one in clean_report s one c.0 c.1)
  | inr two ↦ ap (λ (v : ℕ). report_of (record s { version = v })) (sym two)
]
