-- Settling and calls append to a history.
use Rattle.op_model.proofs.Elements.{each_append, each_unit}
use Rattle.std.proofs.Common.{◌≡◌, ℕ, List, [], ◌∷◌, ◌++◌, refl, sym, ◌∙◌, ap, subst, true, None, inl, inr, append_assoc}
use Rattle.std.proofs.lemmas.List.{append-nil}
use Rattle.std.specs.List.{AllByRecursion}
use Rattle.std.specs.Prelude.{is_some}
use Rattle.lamport_clock.specs.declared.stamp.Lamport.{Lamport}
use Rattle.op_model.specs.declared.operation.Operation.{Operation}
use Rattle.op_model.specs.declared.operation.Piece.{Piece}
use Rattle.op_model.specs.Rules.{Rules, pieces_under}
use Rattle.op_model.specs.Sorted.{Member}
use Rattle.op_model.specs.Histories.{History}
use Rattle.op_model.specs.Made.{local_edit, local_undo, local_edit_fault, local_undo_fault}
use Rattle.op_model.specs.Answers.{Answer}
use Rattle.op_model.specs.Answers.Answer.{Good, Repeat, Waits, Refused}
use Rattle.op_model.specs.Settled.{State, pass, settle}
use Rattle.op_model.specs.Steps.{with_applied, settle_step, take_answer, with_deferred, Step, step, run}
use Rattle.op_model.specs.Steps.Step.{Edits, Undoes, Takes, Settles, Forgets}
use Rattle.op_model.proofs.histories.Lawful.{each_of_in}
use Rattle.op_model.proofs.settling.Settling.{pass_keeps, settled_keeps, none_or}

-- n is h with operations of w after it
abbrev Longer : History → List Operation → History → Type 0
Longer h w n = (g : List Operation) × (n ≡ h ++ g) × AllByRecursion (λ (op : Operation). Member op w) g

longer_more : (h : History) (w : List Operation) (n : History) (op : Operation) → Longer h w n → Member op w → Longer h w (n ++ op ∷ [])
longer_more h w n op p m = (
  p.0 ++ op ∷ [],
  ap (λ (x : History). x ++ op ∷ []) p.1 ∙ append_assoc h p.0 (op ∷ []),
  each_append (λ (o : Operation). Member o w) p.0 (op ∷ []) p.2 (m, tt),
)

pub settled_longer : (l : Rules) (h : History) (w : List Operation) → Longer h w (settle l h w).history
settled_longer l h w = (settled_keeps l (Longer h w) (λ op. Member op w) (λ n op p m a. longer_more h w n op p m) h w ([], sym (append-nil h), tt)
    (each_of_in (λ (op : Operation). Member op w) w (λ o i. i))).0

pub pass_longer : (l : Rules) (h : History) (w : List Operation) → (g : List Operation) × ((pass l h w).history ≡ h ++ g)
pass_longer l h w = (pass_keeps l (λ (n : History). (g : List Operation) × (n ≡ h ++ g)) (λ op. Unit {0})
    (λ n op p q e. (p.0 ++ op ∷ [], ap (λ (x : History). x ++ op ∷ []) p.1 ∙ append_assoc h p.0 (op ∷ []))) h w ([], sym (append-nil h)) (each_unit w)).0

-- ---- calls

abbrev pub Grows : State → State → Type 0
Grows s n = (g : List Operation) × (n.history ≡ s.history ++ g)

pub still : (s : State) → Grows s s
still s = ([], sym (append-nil s.history))

pub further : (s n m : State) → Grows s n → Grows n m → Grows s m
further s n m a b = (a.0 ++ b.0, b.1 ∙ ap (λ (x : History). x ++ b.0) a.1 ∙ append_assoc s.history a.0 b.0)

pub settle_grows : (l : Rules) (s : State) → Grows s (settle_step l s)
settle_grows l s = let k = settled_longer l s.history s.waiting in (k.0, k.1)

applied_grows : (op : Operation) (s : State) → Grows s (with_applied op s)
applied_grows op s = (op ∷ [], refl)

-- an edit or undo that meets no fault is applied, and one that meets a fault changes nothing
pub edit_made : (l : Rules) (r : ℕ) (ps : List Piece) (s : State) → local_edit_fault l.limits s.history (pieces_under l.endings ps) ≡ None → step l r (Edits ps) s ≡ with_applied (local_edit s.history r (pieces_under l.endings ps)) s
edit_made l r ps s e = rw e refl

pub edit_refused : (l : Rules) (r : ℕ) (ps : List Piece) (s : State) → is_some (local_edit_fault l.limits s.history (pieces_under l.endings ps)) ≡ true → step l r (Edits ps) s ≡ s
edit_refused l r ps s e = rw e refl

pub undo_made : (l : Rules) (r : ℕ) (ts : List Lamport) (s : State) → local_undo_fault l.limits s.history ts ≡ None → step l r (Undoes ts) s ≡ with_applied (local_undo s.history r ts) s
undo_made l r ts s e = rw e refl

pub undo_refused : (l : Rules) (r : ℕ) (ts : List Lamport) (s : State) → is_some (local_undo_fault l.limits s.history ts) ≡ true → step l r (Undoes ts) s ≡ s
undo_refused l r ts s e = rw e refl

pub step_grows : (l : Rules) (r : ℕ) (c : Step) (s : State) → Grows s (step l r c s)
step_grows l r (Edits ps) s = elim (none_or (local_edit_fault l.limits s.history (pieces_under l.endings ps))) [
  | inl e ↦ subst (Grows s) (sym (edit_made l r ps s e)) (applied_grows (local_edit s.history r (pieces_under l.endings ps)) s)
  | inr e ↦ subst (Grows s) (sym (edit_refused l r ps s e)) (still s)
]
step_grows l r (Undoes ts) s = elim (none_or (local_undo_fault l.limits s.history ts)) [
  | inl e ↦ subst (Grows s) (sym (undo_made l r ts s e)) (applied_grows (local_undo s.history r ts) s)
  | inr e ↦ subst (Grows s) (sym (undo_refused l r ts s e)) (still s)
]
step_grows l r (Takes op) s = go (take_answer l s op)
  where
    go : (a : Answer) → Grows s (elim a [ Good ↦ settle_step l (with_applied op s) | Repeat ↦ s | Waits q v ↦ with_deferred op s | Refused f ↦ s ])
    go Good = further s (with_applied op s) (settle_step l (with_applied op s)) (applied_grows op s) (settle_grows l (with_applied op s))
    go Repeat = still s
    go (Waits q v) = still s
    go (Refused f) = still s
step_grows l r Settles s = settle_grows l s
step_grows l r (Forgets t) s = still s

pub run_grows : (l : Rules) (r : ℕ) (cs : List Step) (s : State) → Grows s (run l r cs s)
run_grows l r [] s = still s
run_grows l r (c ∷ cs) s = further s (step l r c s) (run l r cs (step l r c s)) (step_grows l r c s) (run_grows l r cs (step l r c s))
