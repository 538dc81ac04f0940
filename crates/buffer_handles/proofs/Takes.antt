-- Operations that a buffer takes one after the other.
use Rattle.std.proofs.Common.{◌≡◌, ◌⊎◌, ◌∙◌, ℕ, List, [], ◌∷◌, Result, Ok, Err, OnErr, Option, None, Some, map, refl, sym, ap, subst, inl, inr, true≢false, is_none, unwrap_or}
use Rattle.op_model.specs.declared.operation.Operation.{Operation}
use Rattle.op_model.specs.declared.faults.OpFault.{OpFault}
use Rattle.op_model.specs.Answers.{Answer}
use Rattle.op_model.specs.Answers.Answer.{Good, Repeat, Waits, Refused}
use Rattle.op_model.specs.Steps.{Step}
use Rattle.op_model.specs.Steps.Step.{Takes}
use Rattle.text_buffer.specs.declared.outcomes.Took.{Took}
use Rattle.text_buffer.specs.Buffer.{BufferState, after_calls, after_take, answer_to, took_of}
use Rattle.text_buffer.specs.Calls.{AreCalled, IsStopped, Leads, Reaches}
use Rattle.buffer_handles.specs.Taking.{fault_of, first_fault, or_later}

-- ---- answers

none_is_not_some : (t : Took) → None ≡ Some t → ⊥
none_is_not_some t e = true≢false (ap is_none e)

or_later-none : (first : Option OpFault) → first ≡ or_later first None
or_later-none None = refl
or_later-none (Some e) = refl

or_later-assoc : (x y z : Option OpFault) → or_later (or_later x y) z ≡ or_later x (or_later y z)
or_later-assoc None y z = refl
or_later-assoc (Some e) y z = refl

-- an answer with an outcome is no refusal
pub passed_over : (k : ℕ) → (a : Answer) → (t : Took) → (first : Option OpFault) → took_of k a ≡ Some t → first ≡ or_later first (fault_of a)
passed_over k Good t first e = or_later-none first
passed_over k Repeat t first e = or_later-none first
passed_over k (Waits r v) t first e = or_later-none first
passed_over k (Refused f) t first e = absurd (none_is_not_some t e)

joined : (first : Option OpFault) → (e : OpFault) → Some (unwrap_or first e) ≡ or_later first (Some e)
joined None e = refl
joined (Some f) e = refl

-- the first fault where an operation is refused
pub refused_first : (a : Answer) → (first : Option OpFault) → (e : OpFault) → a ≡ Refused e → Some (unwrap_or first e) ≡ or_later first (fault_of a)
refused_first a first e is = joined first e ∙ sym (ap (λ (x : Answer). or_later first (fault_of x)) is)

-- ---- one after the other

-- calls that go on from where calls led
leads_on : (b : BufferState) → (between : List BufferState) → (m n : BufferState) → Leads b between m → AreCalled m n → Reaches b n
leads_on b [] m n led called = (m ∷ [], (led, called))
leads_on b (x ∷ xs) m n led called = let on = leads_on x xs m n led.1 called in (x ∷ on.0, (led.0, on.1))

reaches_on : (b m n : BufferState) → Reaches b m → AreCalled m n → Reaches b n
reaches_on b m n reached called = leads_on b reached.0 m n reached.1 called

-- of the operations the last ones are left
pub record IsTaking (b : BufferState) (ops : List Operation) (now : BufferState) (left : List Operation) (first : Option OpFault) : Type 0 where
  pub taken : after_calls (map Takes left) now ≡ after_calls (map Takes ops) b
  pub fault : or_later first (first_fault now left) ≡ first_fault b ops
  pub reached : Reaches b now

-- nothing is taken yet
pub taking_begins : (b : BufferState) → (ops : List Operation) → IsTaking b ops b ops None
taking_begins b ops = record { taken = refl; fault = refl; reached = ([], inl ([], refl)) }

-- one more operation is taken
pub taking_next : (b : BufferState) → (ops : List Operation) → (now : BufferState) → (op : Operation) → (left : List Operation) → (first : Option OpFault) → (n : BufferState) → (f : Option OpFault)
    → IsTaking b ops now (op ∷ left) first → n ≡ after_take now op → f ≡ or_later first (fault_of (answer_to now op)) → IsTaking b ops n left f
taking_next b ops now op left first n f was is fault = record {
  taken = ap (after_calls (map Takes left)) is ∙ was.taken;
  fault = ap (λ (x : Option OpFault). or_later x (first_fault n left)) fault
      ∙ ap (λ (m : BufferState). or_later (or_later first (fault_of (answer_to now op))) (first_fault m left)) is
      ∙ or_later-assoc first (fault_of (answer_to now op)) (first_fault (after_take now op) left)
      ∙ was.fault;
  reached = reaches_on b now n was.reached (inl (Takes op ∷ [], is));
}

-- the call that was stopped
pub taking_stops : (b : BufferState) → (ops : List Operation) → (now : BufferState) → (op : Operation) → (left : List Operation) → (first : Option OpFault) → (n : BufferState)
    → IsTaking b ops now left first → ((n ≡ now) ⊎ IsStopped (Takes op) now n) → Reaches b n
taking_stops b ops now op left first n was (inl same) = subst (Reaches b) (sym same) was.reached
taking_stops b ops now op left first n was (inr stopped) = reaches_on b now n was.reached (inr (Takes op, stopped))

-- none is left
pub taking_ends : (b : BufferState) → (ops : List Operation) → (now : BufferState) → (first : Option OpFault) → IsTaking b ops now [] first
    → (now ≡ after_calls (map Takes ops) b) × (first ≡ first_fault b ops)
taking_ends b ops now first was = (was.taken, or_later-none first ∙ was.fault)

-- what holds in any case holds after an error
pub on_err : {A E : Type 0} → (P : Type 0) → (r : Result A E) → P → OnErr r P
on_err P (Ok x) p = tt
on_err P (Err e) p = p
