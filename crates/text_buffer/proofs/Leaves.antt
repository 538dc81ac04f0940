-- What a pass that is stopped leaves: what it applied comes after what was applied, and waits no longer.
use Rattle.op_model.proofs.Elements.{each_map, each_append}
use Rattle.std.proofs.Common.{◌≡◌, ℕ, ◌≤◌, true, List, [], ◌∷◌, ◌++◌, length, take, drop, refl, sym, ◌∙◌, ap, subst, append_assoc, arith, None, length-append, inl, inr}
use Rattle.std.specs.List.{AllByRecursion}
use Rattle.std.proofs.lemmas.List.{append-nil, take-append-drop}
use Rattle.lamport_clock.specs.declared.stamp.Lamport.{Lamport}
use Rattle.lamport_clock.specs.Stamps.{same_stamp}
use Rattle.lamport_clock.proofs.Later.{later_differs}
use Rattle.op_model.specs.declared.operation.Operation.{Operation}
use Rattle.op_model.specs.Rules.{Rules}
use Rattle.op_model.specs.Sorted.{Ascending}
use Rattle.op_model.specs.Operations.{stamp_of}
use Rattle.op_model.specs.Histories.{History, In, operation_at}
use Rattle.op_model.specs.Settled.{State, Turn, turn, pass}
use Rattle.op_model.specs.Settled.Turn.{Append, Drop, Stay, Refuse}
use Rattle.op_model.specs.Stopped.{stopped_pass}
use Rattle.op_model.specs.Steps.{older}
use Rattle.op_model.proofs.answers.Passed.{if_some}
use Rattle.op_model.proofs.order.SameSets.{each_in}
use Rattle.op_model.proofs.settling.Settling.{after, pass_is}
use Rattle.op_model.proofs.settling.Leaves.{not_found}
use Rattle.op_model.proofs.settling.Passes.{pass_nil}
use Rattle.text_buffer.specs.Settling.{pass_step}

-- from what is applied and waits to what is applied and waits later
pub record Leaves (h : History) (w : List Operation) (g : History) (v : List Operation) : Type 0 where
  pub new : List Operation
  pub history : g ≡ h ++ new
  pub apart : AllByRecursion (λ (op : Operation). operation_at v (stamp_of op) ≡ None) new
  pub waiting : (t : Lamport) → operation_at w t ≡ None → operation_at v t ≡ None

-- what is applied was waiting
record Takes (h : History) (w : List Operation) (g : History) (v : List Operation) : Type 0 where
  leaves : Leaves h w g v
  from : AllByRecursion (λ (op : Operation). In w op) leaves.new

module _ (l : Rules) (rest : List Operation) where
  abbrev Taken : History → List Operation → State → Type 0
  Taken h w s = Takes h w s.history (s.waiting ++ rest)

  takes : (h : History) (front : List Operation) → Ascending older (front ++ rest) → Taken h (front ++ rest) (pass l h front)
  takes h [] u = subst (Taken h rest) (sym (pass_nil l h)) (record {
    leaves = record { new = []; history = sym (append-nil h); apart = tt; waiting = λ t e. e };
    from = tt;
  })
  takes h (op ∷ front) u = subst (Taken h (op ∷ (front ++ rest))) (sym (pass_is l h op front)) (go (turn l h op) (takes (h ++ op ∷ []) front u.1) (takes h front u.1))
    where
      go : (t : Turn) → Taken (h ++ op ∷ []) (front ++ rest) (pass l (h ++ op ∷ []) front) → Taken h (front ++ rest) (pass l h front) → Taken h (op ∷ (front ++ rest)) (after t l h op front)
      go Append a b = let k = a.leaves in record {
        leaves = record {
          new = op ∷ k.new;
          history = k.history ∙ append_assoc h (op ∷ []) k.new;
          apart = (k.waiting (stamp_of op) (not_found op (front ++ rest) u.0), k.apart);
          waiting = λ t e. k.waiting t (if_some (same_stamp (stamp_of op) t) op (operation_at (front ++ rest) t) e).1;
        };
        from = (inl refl, each_map (λ (o : Operation). In (front ++ rest) o) (λ (o : Operation). In (op ∷ (front ++ rest)) o) (λ o i. inr i) k.new a.from);
      }
      go Drop a b = gone b
        where
          gone : Taken h (front ++ rest) (pass l h front) → Taken h (op ∷ (front ++ rest)) (pass l h front)
          gone b = let k = b.leaves in record {
            leaves = record {
              new = k.new;
              history = k.history;
              apart = k.apart;
              waiting = λ t e. k.waiting t (if_some (same_stamp (stamp_of op) t) op (operation_at (front ++ rest) t) e).1;
            };
            from = each_map (λ (o : Operation). In (front ++ rest) o) (λ (o : Operation). In (op ∷ (front ++ rest)) o) (λ o i. inr i) k.new b.from;
          }
      go Stay a b = let k = b.leaves in record {
        leaves = record {
          new = k.new;
          history = k.history;
          apart = both k.new k.apart b.from;
          waiting = λ t e. let f = if_some (same_stamp (stamp_of op) t) op (operation_at (front ++ rest) t) e in rw f.0 (k.waiting t f.1);
        };
        from = each_map (λ (o : Operation). In (front ++ rest) o) (λ (o : Operation). In (op ∷ (front ++ rest)) o) (λ o i. inr i) k.new b.from;
      }
        where
          both : (new : List Operation) → AllByRecursion (λ (o : Operation). operation_at ((pass l h front).waiting ++ rest) (stamp_of o) ≡ None) new → AllByRecursion (λ (o : Operation). In (front ++ rest) o) new
              → AllByRecursion (λ (o : Operation). operation_at (op ∷ ((pass l h front).waiting ++ rest)) (stamp_of o) ≡ None) new
          both [] x y = tt
          both (o ∷ new) x y = (rw (later_differs (stamp_of op) (stamp_of o) (each_in (λ (z : Operation). older op z ≡ true) (front ++ rest) o u.0 y.0)).0 x.0, both new x.1 y.1)
      go (Refuse f) a b = let k = b.leaves in record {
        leaves = record {
          new = k.new;
          history = k.history;
          apart = k.apart;
          waiting = λ t e. k.waiting t (if_some (same_stamp (stamp_of op) t) op (operation_at (front ++ rest) t) e).1;
        };
        from = each_map (λ (o : Operation). In (front ++ rest) o) (λ (o : Operation). In (op ∷ (front ++ rest)) o) (λ o i. inr i) k.new b.from;
      }

abbrev pub LeavesState : State → State → Type 0
LeavesState s n = Leaves s.history s.waiting n.history n.waiting

pub until_leaves : (k : ℕ) (l : Rules) (s : State) → Ascending older s.waiting → LeavesState s (stopped_pass k l s)
until_leaves k l s u =
    let e : take k s.waiting ++ drop k s.waiting ≡ s.waiting = take-append-drop k s.waiting in
    let t = takes l (drop k s.waiting) s.history (take k s.waiting) (subst (Ascending older) (sym e) u) in
    subst (λ (w : List Operation). Leaves s.history w (stopped_pass k l s).history (stopped_pass k l s).waiting) e t.leaves

pub step_leaves : (l : Rules) (s : State) → Ascending older s.waiting → LeavesState s (pass_step l s)
step_leaves l s u =
    let e : s.waiting ++ [] ≡ s.waiting = append-nil s.waiting in
    let t = takes l [] s.history s.waiting (subst (Ascending older) (sym e) u) in
    subst (λ (w : List Operation). Leaves s.history w (pass_step l s).history (pass_step l s).waiting) e
    (subst (λ (v : List Operation). Leaves s.history (s.waiting ++ []) (pass_step l s).history v) (append-nil (pass_step l s).waiting) t.leaves)

-- one after the other
pub leaves_both : (a b c : State) → LeavesState a b → LeavesState b c → LeavesState a c
leaves_both a b c x y = record {
  new = x.new ++ y.new;
  history = y.history ∙ ap (λ (h : History). h ++ y.new) x.history ∙ append_assoc a.history x.new y.new;
  apart = each_append (λ (op : Operation). operation_at c.waiting (stamp_of op) ≡ None) x.new y.new
      (each_map (λ (op : Operation). operation_at b.waiting (stamp_of op) ≡ None) (λ (op : Operation). operation_at c.waiting (stamp_of op) ≡ None) (λ op e. y.waiting (stamp_of op) e) x.new x.apart) y.apart;
  waiting = λ t e. y.waiting t (x.waiting t e);
}

pub leaves_longer : (h : History) (w : List Operation) (g : History) (v : List Operation) → Leaves h w g v → length h ≤ length g
leaves_longer h w g v k = let e = ap length k.history in let a = length-append h k.new in omega arith
