-- Buffers that are opened with a list, operation by operation.
use Rattle.std.proofs.Common.{◌≡◌, ℕ, suc, ◌+◌, ◌<◌, ◌≤◌, ◌⊎◌, List, [], ◌∷◌, ◌++◌, length, refl, sym, ◌∙◌, ap, subst, inl, inr, true, false, cond, arith, append_assoc, append-nil, None, Some, Option, Bool}
use Rattle.std.specs.Prelude.{option_map}
use Rattle.std.proofs.lemmas.Bool.{cases_Bool, le-ltb, lt-ltb}
use Rattle.op_model.specs.declared.endings.Endings.{Endings}
use Rattle.op_model.specs.declared.limits.Limits.{Limits as LimitsType}
use Rattle.op_model.specs.declared.operation.Operation.{Operation}
use Rattle.op_model.specs.declared.faults.OpFault.{OpFault}
use Rattle.op_model.specs.declared.faults.OpFault.TheVariants.{Full}
use Rattle.op_model.specs.declared.faults.OpenFault.{OpenFault}
use Rattle.op_model.specs.declared.faults.OpenFault.TheVariants.{NotBase, Op, OutOfMemory}
use Rattle.op_model.specs.declared.faults.Unit.TheVariants.{Bytes}
use Rattle.op_model.specs.Brought.{NoFull, operations_of_calls}
use Rattle.op_model.specs.Choice.{first_of}
use Rattle.op_model.specs.Sorted.{Member}
use Rattle.op_model.specs.Operations.{bytes_of, pieces_of}
use Rattle.op_model.specs.Histories.{In, SameSet, base}
use Rattle.op_model.specs.Limited.{Excess, excess}
use Rattle.op_model.specs.Shown.{texts}
use Rattle.op_model.specs.Answers.{Answer, same_op}
use Rattle.op_model.specs.Answers.Answer.{Good}
use Rattle.op_model.specs.Lawful.{Lawful}
use Rattle.op_model.specs.Rules.{Rules, answer_under, rule_fault}
use Rattle.op_model.specs.Settled.{State, full_fault}
use Rattle.op_model.specs.Steps.{Step, ask_limits, run, settle_step, take_answer}
use Rattle.op_model.specs.Opened.{base_open_fault, fault_at, fault_from, is_base, open_fault, state_of}
use Rattle.op_model.proofs.MainLaws.{opened_sets_are_applied_whole, opens_what_is_applied}
use Rattle.op_model.proofs.answers.Passed.{all_none, first_alone, first_here, first_past}
use Rattle.op_model.proofs.histories.Proper.{is_same, same_is}
use Rattle.text_buffer.specs.Buffer.{BufferState, IsBuffer, after_apply, answer_to, rules, state}
use Rattle.text_buffer.specs.Opening.{ActAlike, IsOpenFault, OpenedBuffersApplyAll, first_fault, next_fault, opened_with, rules_of}

-- ---- the first operation

-- a base is one
base_is : (t : List ℕ) → is_base (base t) ≡ true
base_is t = subst (λ (x : List ℕ). same_op (base t) (base x) ≡ true) (sym (append-nil t)) (is_same (base t))

-- and nothing else
no_base : (op : Operation) → ((t : List ℕ) → op ≡ base t → ⊥) → is_base op ≡ false
no_base op n = elim (cases_Bool (is_base op)) [
  | inl y ↦ absurd (n (texts (pieces_of op)) (same_is op (base (texts (pieces_of op))) y))
  | inr f ↦ f
]

base_found : (op : Operation) (t : List ℕ) → op ≡ base t → is_base op ≡ true
base_found op t e = ap is_base e ∙ base_is t

-- the limit of bytes that a base passes
abbrev limit_fault : LimitsType → Operation → Option OpenFault
limit_fault l op = option_map (λ (x : Excess). Op 0 (Full x.unit x.held x.adds)) (excess l [] (bytes_of op) 0)

abbrev excess_of_bytes : ℕ → Excess
excess_of_bytes n = record { unit = Bytes; held = 0; adds = n }

base_bytes : (op : Operation) (t : List ℕ) → op ≡ base t → bytes_of op ≡ length t
base_bytes op t e = let b : bytes_of op ≡ bytes_of (base t) = ap bytes_of e in let n : bytes_of (base t) ≡ length t = omega arith in b ∙ n

past_bytes : (l : LimitsType) (n : ℕ) → l.bytes < n → excess l [] n 0 ≡ Some (excess_of_bytes n)
past_bytes l n r = rw (lt-ltb l.bytes (0 + n) (omega arith)) refl

within_bytes : (l : LimitsType) (n : ℕ) → n ≤ l.bytes → excess l [] n 0 ≡ None
within_bytes l n r = rw (le-ltb l.bytes (0 + n) (omega arith), le-ltb l.entries (0 + 0) (omega arith)) refl

-- its fault
module _ (l : Rules) (op : Operation) where
  pub first_other : ((t : List ℕ) → op ≡ base t → ⊥) → first_fault l op ≡ Some NotBase
  first_other n = ap (λ b. cond b (base_open_fault l op) (Some NotBase)) (no_base op n)

  pub first_broken : (t : List ℕ) (f : OpFault) → op ≡ base t → rule_fault l.endings op ≡ Some f → first_fault l op ≡ Some (Op 0 f)
  first_broken t f e r = ap (λ b. cond b (base_open_fault l op) (Some NotBase)) (base_found op t e)
      ∙ first_here (option_map (Op 0) (rule_fault l.endings op)) (limit_fault l.limits op ∷ []) (Op 0 f) (ap (option_map (Op 0)) r)

  first_limited : (t : List ℕ) → op ≡ base t → rule_fault l.endings op ≡ None → first_fault l op ≡ limit_fault l.limits op
  first_limited t e r = ap (λ b. cond b (base_open_fault l op) (Some NotBase)) (base_found op t e)
      ∙ first_past (option_map (Op 0) (rule_fault l.endings op)) (limit_fault l.limits op ∷ []) (ap (option_map (Op 0)) r)
      ∙ sym (first_alone (limit_fault l.limits op))

  abbrev of_bytes : ℕ → Option OpenFault
  of_bytes n = option_map (λ (x : Excess). Op 0 (Full x.unit x.held x.adds)) (excess l.limits [] n 0)

  pub first_long : (t : List ℕ) → op ≡ base t → rule_fault l.endings op ≡ None → l.limits.bytes < length t → first_fault l op ≡ Some (Op 0 (Full Bytes 0 (length t)))
  first_long t e r x = first_limited t e r ∙ ap of_bytes (base_bytes op t e)
      ∙ ap (option_map (λ (y : Excess). Op 0 (Full y.unit y.held y.adds))) (past_bytes l.limits (length t) x)

  pub first_good : (t : List ℕ) → op ≡ base t → rule_fault l.endings op ≡ None → length t ≤ l.limits.bytes → first_fault l op ≡ None
  first_good t e r x = first_limited t e r ∙ ap of_bytes (base_bytes op t e)
      ∙ ap (option_map (λ (y : Excess). Op 0 (Full y.unit y.held y.adds))) (within_bytes l.limits (length t) x)

-- ---- the whole list

-- the fault of the first stands before those of the others
first_stands : (l : Rules) (op : Operation) (ops : List Operation) (e : OpenFault) → first_fault l op ≡ Some e → open_fault l (op ∷ ops) ≡ Some e
first_stands l op ops e f = go (is_base op) f
  where
    go : (b : Bool) → cond b (base_open_fault l op) (Some NotBase) ≡ Some e → cond b (first_of (base_open_fault l op ∷ fault_from l 1 (op ∷ []) ops ∷ [])) (Some NotBase) ≡ Some e
    go true g = first_here (base_open_fault l op) (fault_from l 1 (op ∷ []) ops ∷ []) e g
    go false g = g

pub first_passes : (l : Rules) (op : Operation) (ops : List Operation) → first_fault l op ≡ None → open_fault l (op ∷ ops) ≡ fault_from l 1 (op ∷ []) ops
first_passes l op ops f = go (is_base op) f
  where
    go : (b : Bool) → cond b (base_open_fault l op) (Some NotBase) ≡ None → cond b (first_of (base_open_fault l op ∷ fault_from l 1 (op ∷ []) ops ∷ [])) (Some NotBase) ≡ fault_from l 1 (op ∷ []) ops
    go true g = first_past (base_open_fault l op) (fault_from l 1 (op ∷ []) ops ∷ []) g ∙ sym (first_alone (fault_from l 1 (op ∷ []) ops))
    go false g = cc

some_not : (o : Option OpenFault) (e : OpenFault) → o ≡ Some e → o ≡ None → ⊥
some_not o e f g = cc

-- what follows a front without fault is judged after it
more_from : (l : Rules) (i : ℕ) (g h more : List Operation) → fault_from l i g h ≡ None → fault_from l i g (h ++ more) ≡ fault_from l (i + length h) (g ++ h) more
more_from l i g [] more e =
    let p : i ≡ i + 0 = omega arith in
    ap (λ (j : ℕ). fault_from l j g more) p ∙ ap (λ (k : List Operation). fault_from l (i + 0) k more) (sym (append-nil g))
more_from l i g (op ∷ h) more e =
    let n = all_none (fault_at i (take_answer l (state_of g) op) ∷ fault_from l (suc i) (g ++ op ∷ []) h ∷ []) e in
    let p : suc i + length h ≡ i + length (op ∷ h) = omega arith in
    first_past (fault_at i (take_answer l (state_of g) op)) (fault_from l (suc i) (g ++ op ∷ []) (h ++ more) ∷ []) n.0
    ∙ sym (first_alone (fault_from l (suc i) (g ++ op ∷ []) (h ++ more)))
    ∙ more_from l (suc i) (g ++ op ∷ []) h more n.1.0
    ∙ ap (λ (j : ℕ). fault_from l j ((g ++ op ∷ []) ++ h) more) p
    ∙ ap (λ (k : List Operation). fault_from l (i + length (op ∷ h)) k more) (append_assoc g (op ∷ []) h)

cases_first : (o : Option OpenFault) → (o ≡ None) ⊎ ((e : OpenFault) × (o ≡ Some e))
cases_first None = inl refl
cases_first (Some e) = inr (e, refl)

open_more : (l : Rules) (h more : List Operation) → open_fault l h ≡ None → open_fault l (h ++ more) ≡ fault_from l (length h) h more
open_more l [] more e = cc
open_more l (op ∷ h) more e = let p : 1 + length h ≡ length (op ∷ h) = omega arith in elim (cases_first (first_fault l op)) [
  | inl n ↦ first_passes l op (h ++ more) n ∙ more_from l 1 (op ∷ []) h more (sym (first_passes l op h n) ∙ e) ∙ ap (λ (j : ℕ). fault_from l j (op ∷ h) more) p
  | inr s ↦ absurd (some_not (open_fault l (op ∷ h)) s.0 (first_stands l op h s.0 s.1) e)
]

-- the fault of the next operation
next_stands : (l : Rules) (h : List Operation) (op : Operation) (rest : List Operation) (e : OpenFault) → open_fault l h ≡ None → fault_at (length h) (take_answer l (state_of h) op) ≡ Some e → open_fault l (h ++ op ∷ rest) ≡ Some e
next_stands l h op rest e o f = open_more l h (op ∷ rest) o
    ∙ first_here (fault_at (length h) (take_answer l (state_of h) op)) (fault_from l (suc (length h)) (h ++ op ∷ []) rest ∷ []) e f

-- with a good one more a list opens still
pub opens_more : (l : Rules) (h : List Operation) (op : Operation) → open_fault l h ≡ None → take_answer l (state_of h) op ≡ Good → open_fault l (h ++ op ∷ []) ≡ None
opens_more l h op o g = open_more l h (op ∷ []) o ∙ first_past (fault_at (length h) (take_answer l (state_of h) op)) (None ∷ []) (ap (fault_at (length h)) g)

-- ---- how opening ends

pub ends_first : (l : Rules) (op : Operation) (ops : List Operation) (e : OpenFault) → (first_fault l op ≡ Some e) ⊎ ((first_fault l op ≡ None) × (e ≡ OutOfMemory)) → IsOpenFault l (op ∷ ops) e
ends_first l op ops e (inl f) = inl (first_stands l op ops e f)
ends_first l op ops e (inr m) = inr (m.1, (op ∷ [], (ops, refl), first_passes l op [] m.0))

pub ends_next : (l : Rules) (h : List Operation) (op : Operation) (rest : List Operation) (e : OpenFault) → open_fault l h ≡ None
    → (fault_at (length h) (take_answer l (state_of h) op) ≡ Some e) ⊎ ((take_answer l (state_of h) op ≡ Good) × (e ≡ OutOfMemory)) → IsOpenFault l (h ++ op ∷ rest) e
ends_next l h op rest e o (inl f) = inl (next_stands l h op rest e o f)
ends_next l h op rest e o (inr m) = inr (m.1, (h ++ op ∷ [], (rest, sym (append_assoc h (op ∷ []) rest)), opens_more l h op o m.0))

-- ---- the next operation

-- its fault by the answer
pub fails_at : (b : BufferState) (op : Operation) (i : ℕ) (a : Answer) (e : OpenFault) → i ≡ length b.history → a ≡ answer_under b.endings b.history b.waiting op
    → ((f : Option OpFault) → fault_at i (ask_limits a f) ≡ Some e) → next_fault b op ≡ Some e
fails_at b op i a e x y h =
    ap (λ (n : ℕ). fault_at n (ask_limits (answer_under b.endings b.history b.waiting op) (full_fault (rules b) b.history op))) (sym x)
    ∙ ap (λ (z : Answer). fault_at i (ask_limits z (full_fault (rules b) b.history op))) (sym y) ∙ h (full_fault (rules b) b.history op)

-- its fault by the limits
pub full_at : (b : BufferState) (op : Operation) (i : ℕ) (f : OpFault) → i ≡ length b.history → answer_under b.endings b.history b.waiting op ≡ Good → Some f ≡ full_fault (rules b) b.history op
    → next_fault b op ≡ Some (Op i f)
full_at b op i f x y z =
    ap (λ (n : ℕ). fault_at n (ask_limits (answer_under b.endings b.history b.waiting op) (full_fault (rules b) b.history op))) (sym x)
    ∙ ap (λ (a : Answer). fault_at i (ask_limits a (full_fault (rules b) b.history op))) y
    ∙ ap (λ (o : Option OpFault). fault_at i (ask_limits Good o)) (sym z)

-- ---- the buffer on the way

-- a buffer that is opened with what it has applied
abbrev pub IsOpened : ℕ → LimitsType → Endings → BufferState → Type 0
IsOpened r l e b = (b ≡ opened_with r b.history l e) × (open_fault (rules_of l e) b.history ≡ None)

module _ (r : ℕ) (l : LimitsType) (e : Endings) where
  pub opened_first : (op : Operation) (b : BufferState) → first_fault (rules_of l e) op ≡ None → b ≡ opened_with r (op ∷ []) l e → IsOpened r l e b
  opened_first op b f n =
      let h : b.history ≡ op ∷ [] = ap (λ (x : BufferState). x.history) n in
      (n ∙ ap (λ (x : List Operation). opened_with r x l e) (sym h), ap (open_fault (rules_of l e)) h ∙ first_passes (rules_of l e) op [] f)

  answer_opened : (b : BufferState) (op : Operation) → IsOpened r l e b → answer_to b op ≡ take_answer (rules_of l e) (state_of b.history) op
  answer_opened b op i = ap (λ (x : BufferState). answer_to x op) i.0

  pub opened_next : (b n : BufferState) (op : Operation) → IsOpened r l e b → answer_to b op ≡ Good → n ≡ after_apply b op → IsOpened r l e n
  opened_next b n op i g q =
      let h : n.history ≡ b.history ++ op ∷ [] = ap (λ (x : BufferState). x.history) q in (
        q ∙ ap (λ (x : BufferState). record x { history = b.history ++ op ∷ [] }) i.0 ∙ ap (λ (x : List Operation). opened_with r x l e) (sym h),
        ap (open_fault (rules_of l e)) h ∙ opens_more (rules_of l e) b.history op i.1 (sym (answer_opened b op i) ∙ g),
      )

  pub stops_next : (b : BufferState) (op : Operation) (rest ops : List Operation) (x : OpenFault) → IsOpened r l e b → b.history ++ op ∷ rest ≡ ops
      → (next_fault b op ≡ Some x) ⊎ ((answer_to b op ≡ Good) × (x ≡ OutOfMemory)) → IsOpenFault (rules_of l e) ops x
  stops_next b op rest ops x i s (inl f) = subst (λ (z : List Operation). IsOpenFault (rules_of l e) z x) s
      (ends_next (rules_of l e) b.history op rest x i.1 (inl (ap (fault_at (length b.history)) (sym (answer_opened b op i)) ∙ f)))
  stops_next b op rest ops x i s (inr m) = subst (λ (z : List Operation). IsOpenFault (rules_of l e) z x) s
      (ends_next (rules_of l e) b.history op rest x i.1 (inr (sym (answer_opened b op i) ∙ m.0, m.1)))

  pub opened_whole : (b : BufferState) (rest ops : List Operation) → IsOpened r l e b → rest ≡ [] → b.history ++ rest ≡ ops → (b ≡ opened_with r ops l e) × (open_fault (rules_of l e) ops ≡ None)
  opened_whole b rest ops i n s =
      let h : b.history ≡ ops = sym (append-nil b.history) ∙ ap (λ (x : List Operation). b.history ++ x) (sym n) ∙ s in
      (i.0 ∙ ap (λ (x : List Operation). opened_with r x l e) h, ap (open_fault (rules_of l e)) (sym h) ∙ i.1)

-- a list that opens is lawful
pub opens_lawful : (l : Rules) (ops : List Operation) → open_fault l ops ≡ None → Lawful ops
opens_lawful l ops o = ((opens_what_is_applied l ops).0 o).lawful

-- ---- laws

pub applied_opens : (b : BufferState) → IsBuffer b → open_fault (rules b) b.history ≡ None
applied_opens b k = (opens_what_is_applied (rules b) b.history).1 (record { lawful = k.history.lawful; rule = k.rule; bytes = k.bytes; entries = k.entries })

pub acts_alike : (b : BufferState) → ActAlike b (opened_with b.replica b.history b.limits b.endings)
acts_alike b = record {
  text = refl;
  version = refl;
  answers = record {
    faults_of_places = λ o. refl;
    anchors = λ o s. refl;
    places = λ a. refl;
    orders = λ a c. refl;
    faults_of_versions = λ v. refl;
    texts = λ v. refl;
    edits = λ v. refl;
  };
  edit_faults = λ ps. refl;
  edits = λ ps. refl;
  undo_faults = λ ts. refl;
  undos = λ ts. refl;
}

-- what is said of the calls from a state on: each of ops is applied or comes by them, and a last settling leaves the set
abbrev Applies : BufferState → List Step → List Operation → State → Type 0
Applies b cs ops s = NoFull (rules b) b.replica cs s → ((o : Operation) → In b.history o → In ops o)
    → ((o : Operation) → Member o (operations_of_calls (rules b) b.replica cs s) → In ops o)
    → ((o : Operation) → In ops o → In b.history o ⊎ Member o (operations_of_calls (rules b) b.replica cs s))
    → SameSet (settle_step (rules b) (run (rules b) b.replica cs s)).history ops

pub apply_all : OpenedBuffersApplyAll
apply_all b k none clear cs ops proper kept honest rule nf part inside all =
    let alone : state_of b.history ≡ state b = λ i. record { history = b.history; waiting = sym none i; refused = sym clear i } in
    let from : Applies b cs ops (state_of b.history) = opened_sets_are_applied_whole (rules b) b.replica b.history cs ops (k.least_replica, k.greatest_replica) k.history.lawful k.history.proper proper kept honest rule in
    subst (Applies b cs ops) alone from nf part inside all
