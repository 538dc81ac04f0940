-- What a replica has applied at one line of a session begins what it has applied at each later one.
use Rattle.std.proofs.Common.{◌≡◌, ℕ, zero, suc, ◌+◌, ◌≤◌, ◌⊎◌, inl, inr, Bool, true, false, cond, ◌==◌, List, [], ◌∷◌, length, get_or, set, Option, None, Some, Result, Ok, Err, OnErr, OnOk, refl, sym, ap, ◌∙◌, subst, arith}
use Rattle.std.specs.List.{AllByRecursion}
use Rattle.op_model.specs.declared.operation.Operation.{Operation}
use Rattle.op_model.specs.Steps.{Step, Settles, Takes}
use Rattle.op_model.proofs.Elements.{zip_itself}
use Rattle.op_model.proofs.MainLaws.{runs_append}
use Rattle.text_buffer.specs.Buffer.{BufferState, after_calls, after_apply, after_settle, after_take, rules, state}
use Rattle.text_buffer.specs.Calls.{IsStopped}
use Rattle.text_buffer.specs.Document.{IsFront}
use Rattle.multi_buffer.specs.declared.parts.BufferPieces.{BufferPieces}
use Rattle.session_excerpts.specs.Answers.{pieces_at}
use Rattle.session_lines.specs.declared.report.Report.{Report}
use Rattle.session_lines.specs.declared.session.SessionLine.{SessionLine}
use Rattle.session_lines.specs.declared.session.SessionLine.TheVariants as line
use Rattle.session_more.specs.declared.report.PartAnswer.{PartAnswer}
use Rattle.session_more.specs.declared.session.MoreLine.{MoreLine}
use Rattle.session_more.specs.declared.session.MoreLine.TheVariants as more
use Rattle.session_work.specs.Later.{AllGrow, Grows}
use Rattle.session_work.specs.MoreWork.{MoreState, after_all_more, more_step, split_at}
use Rattle.session_work.specs.Parts.{after_part, after_parts_from, part_outcome, parts_of}
use Rattle.session_work.specs.Work.{State, after_give, after_outcome, after_reopen, buffer_of, edit_outcome, next_number, operation_of, step, undo_outcome, with_buffer}
use Rattle.text_buffer.proofs.Fronts.{front_itself, front_length, front_trans}
use Rattle.text_buffer.proofs.Stopped.{stopped_front}

-- ---- one buffer

grows_itself : (b : BufferState) → Grows b b
grows_itself b = (refl, front_itself b.history)

grows_trans : (a b c : BufferState) → Grows a b → Grows b c → Grows a c
grows_trans a b c f g = (g.0 ∙ f.0, front_trans a.history b.history c.history f.1 g.1)

pub calls_grow : (cs : List Step) (b : BufferState) → Grows b (after_calls cs b)
calls_grow cs b = (refl, runs_append (rules b) b.replica cs (state b))

pub outcome_grows : (o : Result Operation Report) (b : BufferState) → Grows b (after_outcome o b)
outcome_grows (Ok op) b = grows_trans b (after_apply b op) (after_settle (after_apply b op)) (refl, (op ∷ [], refl)) (calls_grow (Settles ∷ []) (after_apply b op))
outcome_grows (Err r) b = grows_itself b

pub give_grows : (o : Option Operation) (b : BufferState) → Grows b (after_give o b)
give_grows None b = grows_itself b
give_grows (Some op) b = calls_grow (Takes op ∷ []) b

pub reopen_grows : (b : BufferState) → Grows b (after_reopen b)
reopen_grows b = (refl, front_itself b.history)

-- a call of `take`, or of `settle`, that fails may have applied operations
took_grows : {T E : Type 0} (x : Result T E) (op : Operation) (b n : BufferState) → OnOk x (n ≡ after_take b op) → OnErr x ((n ≡ b) ⊎ IsStopped (Takes op) b n) → IsFront b.history n.history
took_grows (Ok t) op b n e f = subst (λ (c : BufferState). IsFront b.history c.history) (sym e) (calls_grow (Takes op ∷ []) b).1
took_grows (Err x) op b n e (inl f) = subst (λ (c : BufferState). IsFront b.history c.history) (sym f) (front_itself b.history)
took_grows (Err x) op b n e (inr f) = stopped_front (Takes op) b n f

pub grown_by_take : {T E : Type 0} (x : Result T E) (op : Operation) (a b n : BufferState) → b ≡ a → OnOk x (n ≡ after_take b op) → OnErr x ((n ≡ b) ⊎ IsStopped (Takes op) b n) → IsFront a.history n.history
grown_by_take x op a b n same e f = subst (λ (c : BufferState). IsFront c.history n.history) same (took_grows x op b n e f)

settled_grows : {T E : Type 0} (x : Result T E) (b n : BufferState) → OnOk x (n ≡ after_settle b) → OnErr x (IsStopped Settles b n) → IsFront b.history n.history
settled_grows (Ok t) b n e f = subst (λ (c : BufferState). IsFront b.history c.history) (sym e) (calls_grow (Settles ∷ []) b).1
settled_grows (Err x) b n e f = stopped_front Settles b n f

pub grown_by_settle : {T E : Type 0} (x : Result T E) (a b n : BufferState) → b ≡ a → OnOk x (n ≡ after_settle b) → OnErr x (IsStopped Settles b n) → IsFront a.history n.history
grown_by_settle x a b n same e f = subst (λ (c : BufferState). IsFront c.history n.history) same (settled_grows x b n e f)

-- ---- the buffers of all replicas

pub all_themselves : (bs : List BufferState) → AllGrow bs bs
all_themselves bs = zip_itself Grows grows_itself bs

pub all_trans : (bs cs ds : List BufferState) → AllGrow bs cs → AllGrow cs ds → AllGrow bs ds
all_trans [] [] [] f g = tt
all_trans [] [] (d ∷ ds) f g = g
all_trans [] (c ∷ cs) ds f g = absurd f
all_trans (b ∷ bs) [] ds f g = absurd f
all_trans (b ∷ bs) (c ∷ cs) [] f g = g
all_trans (b ∷ bs) (c ∷ cs) (d ∷ ds) f g = (grows_trans b c d f.0 g.0, all_trans bs cs ds f.1 g.1)

-- there are as many
pub as_many : (bs cs : List BufferState) → AllGrow bs cs → length cs ≡ length bs
as_many [] [] g = refl
as_many [] (c ∷ cs) g = absurd g
as_many (b ∷ bs) [] g = absurd g
as_many (b ∷ bs) (c ∷ cs) g = ap suc (as_many bs cs g.1)

-- one of them grows
set_one : (bs : List BufferState) (i : ℕ) (b c : BufferState) → b ≡ get_or bs i b → Grows b c → AllGrow bs (set bs i c)
set_one [] i b c e g = tt
set_one (x ∷ bs) zero b c e g = (subst (λ (y : BufferState). Grows y c) e g, all_themselves bs)
set_one (x ∷ bs) (suc i) b c e g = (grows_itself x, set_one bs i b c e g)

pub set_grows : (bs all : List BufferState) (i : ℕ) (b c : BufferState) → all ≡ bs → b ≡ get_or all i b → c.replica ≡ b.replica → IsFront b.history c.history → AllGrow bs (set all i c)
set_grows bs all i b c same e id f = subst (λ (l : List BufferState). AllGrow l (set all i c)) same (set_one all i b c e (id, f))

one_grows : (r : ℕ) (f : BufferState → BufferState) (g : (b : BufferState) → Grows b (f b)) (bs : List BufferState) → AllGrow bs (with_buffer r f bs)
one_grows r f g [] = tt
one_grows r f g (b ∷ bs) =
    elim (b.replica == r) as (λ (t : Bool). AllGrow (b ∷ bs) (cond t (f b ∷ bs) (b ∷ with_buffer r f bs))) [
      | true ↦ (g b, all_themselves bs)
      | false ↦ (grows_itself b, one_grows r f g bs)
    ]

step_grows : (l : SessionLine) (s : State) → AllGrow s.buffers (step l s).buffers
step_grows (line.Edit r ps) s = one_grows r (λ b. after_outcome (edit_outcome (next_number s) ps b) b) (λ b. outcome_grows (edit_outcome (next_number s) ps b) b) s.buffers
step_grows (line.Undo r ms) s = one_grows r (λ b. after_outcome (undo_outcome (next_number s) s.operations ms b) b) (λ b. outcome_grows (undo_outcome (next_number s) s.operations ms b) b) s.buffers
step_grows (line.Op e) s = all_themselves s.buffers
step_grows (line.Uop u) s = all_themselves s.buffers
step_grows (line.Give r n) s = one_grows r (after_give (operation_of n s.operations)) (give_grows (operation_of n s.operations)) s.buffers
step_grows (line.Text r) s = all_themselves s.buffers
step_grows (line.Anchor r n o b) s = all_themselves s.buffers
step_grows (line.Where r n) s = all_themselves s.buffers
step_grows (line.Mark r n) s = all_themselves s.buffers
step_grows (line.Since r n) s = all_themselves s.buffers
step_grows (line.Find r t) s = all_themselves s.buffers
step_grows (line.Point r o) s = all_themselves s.buffers
step_grows (line.Offset r k c) s = all_themselves s.buffers
step_grows (line.Reopen r) s = one_grows r after_reopen reopen_grows s.buffers

pub part_grows : (o : Result Operation PartAnswer) (b : BufferState) → Grows b (after_part o b)
part_grows (Ok op) b = grows_trans b (after_apply b op) (after_settle (after_apply b op)) (refl, (op ∷ [], refl)) (calls_grow (Settles ∷ []) (after_apply b op))
part_grows (Err a) b = grows_itself b

parts_grow : (i : ℕ) (gs : List BufferPieces) (bs : List BufferState) → AllGrow bs (after_parts_from i gs bs)
parts_grow i gs [] = tt
parts_grow i gs (b ∷ bs) = (part_grows (part_outcome (pieces_at i gs) b) b, parts_grow (i + 1) gs bs)

pub more_step_grows : (l : MoreLine) (s : MoreState) → AllGrow s.plain.buffers (more_step l s).plain.buffers
more_step_grows (more.Plain l) s = step_grows l s.plain
more_step_grows (more.Select r name rs) s = all_themselves s.plain.buffers
more_step_grows (more.Share r name) s = all_themselves s.plain.buffers
more_step_grows (more.Selected r a) s = all_themselves s.plain.buffers
more_step_grows (more.Fold r start end) s = all_themselves s.plain.buffers
more_step_grows (more.Unfold r start end) s = all_themselves s.plain.buffers
more_step_grows (more.Folded r) s = all_themselves s.plain.buffers
more_step_grows (more.Display r o) s = all_themselves s.plain.buffers
more_step_grows (more.Excerpt name r start end) s = all_themselves s.plain.buffers
more_step_grows (more.Multi name) s = all_themselves s.plain.buffers
more_step_grows (more.Medit name ps) s = parts_grow 0 (parts_of (split_at name ps s)) s.plain.buffers

pub lines_grow : (ls : List MoreLine) (s : MoreState) → AllGrow s.plain.buffers (after_all_more ls s).plain.buffers
lines_grow [] s = all_themselves s.plain.buffers
lines_grow (l ∷ ls) s =
    all_trans s.plain.buffers (more_step l s).plain.buffers (after_all_more ls (more_step l s)).plain.buffers (more_step_grows l s) (lines_grow ls (more_step l s))

-- ---- the buffer of one replica among them

-- the later buffer of a replica
abbrev pub Later : ℕ → List BufferState → BufferState → Type 0
Later r cs b = (n : BufferState) × (buffer_of r cs ≡ Some n) × IsFront b.history n.history

module _ (r : ℕ) where
  later_by : (b c d : BufferState) (bs cs : List BufferState) (t u : Bool) → u ≡ t → IsFront b.history c.history → (buffer_of r bs ≡ Some d → Later r cs d)
      → cond t (Some b) (buffer_of r bs) ≡ Some d → (n : BufferState) × (cond u (Some c) (buffer_of r cs) ≡ Some n) × IsFront d.history n.history
  later_by b c d bs cs true true e f h k = let same : b ≡ d = cc k in (c, refl, subst (λ (x : BufferState). IsFront x.history c.history) same f)
  later_by b c d bs cs false false e f h k = h k
  later_by b c d bs cs true false e f h k = absurd (cc e)
  later_by b c d bs cs false true e f h k = absurd (cc e)

  pub later : (bs cs : List BufferState) (d : BufferState) → AllGrow bs cs → buffer_of r bs ≡ Some d → Later r cs d
  later [] cs d g k = absurd (cc k)
  later (b ∷ bs) [] d g k = absurd g
  later (b ∷ bs) (c ∷ cs) d g k =
      later_by b c d bs cs (b.replica == r) (c.replica == r) (ap (λ q. q == r) g.0.0) g.0.1 (later bs cs d g.1) k

-- ---- each has its base

abbrev pub AreBased : List BufferState → Type 0
AreBased bs = AllByRecursion (λ (b : BufferState). 1 ≤ length b.history) bs

pub based_grow : (bs cs : List BufferState) → AllGrow bs cs → AreBased bs → AreBased cs
based_grow [] [] g a = tt
based_grow [] (c ∷ cs) g a = absurd g
based_grow (b ∷ bs) [] g a = absurd g
based_grow (b ∷ bs) (c ∷ cs) g a = (omega (arith, front_length b.history c.history g.0.1, a.0), based_grow bs cs g.1 a.1)

based_by : (r : ℕ) (b d : BufferState) (bs : List BufferState) (t : Bool) → 1 ≤ length b.history → (buffer_of r bs ≡ Some d → 1 ≤ length d.history) → cond t (Some b) (buffer_of r bs) ≡ Some d → 1 ≤ length d.history
based_by r b d bs true l h k = let same : b ≡ d = cc k in subst (λ (x : BufferState). 1 ≤ length x.history) same l
based_by r b d bs false l h k = h k

pub based_one : (r : ℕ) (bs : List BufferState) (d : BufferState) → AreBased bs → buffer_of r bs ≡ Some d → 1 ≤ length d.history
based_one r [] d a k = absurd (cc k)
based_one r (b ∷ bs) d a k = based_by r b d bs (b.replica == r) a.0 (based_one r bs d a.1) k
