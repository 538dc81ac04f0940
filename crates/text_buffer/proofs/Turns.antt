-- A pass, by the least operation that misses nothing.
use Rattle.std.proofs.Common.{◌≡◌, ℕ, ◌<◌, true, false, List, [], ◌∷◌, ◌++◌, length, take, drop, refl, sym, ◌∙◌, ap, subst, append_assoc, arith, Option, Some, None, length-append}
use Rattle.std.proofs.lemmas.List.{append-nil}
use Rattle.std.proofs.lemmas.Bool.{and_parts}
use Rattle.std.proofs.Math.Seq.{take-append_seam, drop-append_seam}
use Rattle.std.specs.List.{AllByRecursion, find}
use Rattle.lamport_clock.specs.declared.stamp.Lamport.{Lamport}
use Rattle.lamport_clock.specs.Versions.{within}
use Rattle.lamport_clock.proofs.Later.{one_way}
use Rattle.op_model.specs.declared.operation.Operation.{Operation}
use Rattle.op_model.specs.Rules.{Rules}
use Rattle.op_model.specs.declared.faults.OpFault.{OpFault}
use Rattle.op_model.specs.Sorted.{Ascending}
use Rattle.op_model.specs.Operations.{stamp_of, version_of}
use Rattle.op_model.specs.Histories.{History, version}
use Rattle.op_model.specs.Settled.{State, Turn, turn, with_waiting, pass}
use Rattle.op_model.specs.Settled.Turn.{Append, Drop, Stay, Refuse}
use Rattle.op_model.specs.Stopped.{stopped_pass}
use Rattle.op_model.specs.Steps.{older, without}
use Rattle.op_model.proofs.answers.Passed.{find_none}
use Rattle.op_model.proofs.settling.AllApplied.{AllMiss}
use Rattle.op_model.proofs.settling.GoingOn.{pass_append, state_join}
use Rattle.op_model.proofs.settling.Settling.{after, pass_is}
use Rattle.deferred_ops.specs.Deferred.{is_past, least_ready}
use Rattle.deferred_ops.proofs.Ready.{without_mid, all_past, ready_within, Parted, part_of, is_ready, past_missing}
use Rattle.text_buffer.specs.Settling.{after_turn, turn_step, pass_step}
use Rattle.op_model.proofs.Elements.{each_left, each_right, each_map, found_past}
use Rattle.op_model.proofs.settling.Passes.{pass_nil, pass_missing, older_around, not_stay}

-- it leaves
pub fewer : (l : Rules) (s : State) (after : Option Lamport) (op : Operation) → Ascending older s.waiting → least_ready after (version s.history) s.waiting ≡ Some op → length (turn_step l op s).waiting < length s.waiting
fewer l s after op u e =
    let p = part_of (is_ready after s.history) s.waiting op e in
    let d : without (stamp_of op) s.waiting ≡ p.missed ++ p.behind = ap (without (stamp_of op)) p.is ∙ without_mid p.missed op p.behind (subst (Ascending older) p.is u) in
    let n : length (without (stamp_of op) s.waiting) < length s.waiting =
    (let x = ap length d in let y = ap length p.is in let a = length-append p.missed p.behind in let b = length-append p.missed (op ∷ p.behind) in omega arith) in
    go (turn l s.history op) refl n
  where
    go : (t : Turn) → turn l s.history op ≡ t → length (without (stamp_of op) s.waiting) < length s.waiting → length (after_turn t op s).waiting < length s.waiting
    go Append q n = n
    go Drop q n = n
    go Stay q n = absurd (not_stay l s.history op (ready_within after s.history s.waiting op e) q)
    go (Refuse f) q n = n

-- ---- how far a pass over what b has is

-- the operations of `front` had their turns in a pass, those of `rest` wait for theirs
abbrev pass_front : Rules → State → List Operation → List Operation → State
pass_front l s front rest =
    let p : State = pass l s.history front in
    record { history = p.history; waiting = p.waiting ++ rest; refused = s.refused ++ p.refused }

pub record IsAt (l : Rules) (b : State) (after : Option Lamport) (s : State) : Type 0 where
  pub front : List Operation
  pub rest : List Operation
  pub split : b.waiting ≡ front ++ rest
  pub is : s ≡ pass_front l b front rest
  pub behind : AllByRecursion (λ (o : Operation). is_past after o ≡ false) (pass l b.history front).waiting
  pub ahead : AllByRecursion (λ (o : Operation). is_past after o ≡ true) rest

pub at_start : (l : Rules) (b : State) → IsAt l b None b
at_start l b = record {
  front = [];
  rest = b.waiting;
  split = refl;
  is = sym (ap (λ (p : State). record { history = p.history; waiting = p.waiting ++ b.waiting; refused = b.refused ++ p.refused }) (pass_nil l b.history) ∙ ap (λ z. record { history = b.history; waiting = b.waiting; refused = z }) (append-nil b.refused));
  behind = subst (λ (p : State). AllByRecursion (λ (o : Operation). is_past None o ≡ false) p.waiting) (sym (pass_nil l b.history)) tt;
  ahead = all_past b.waiting;
}

pub at_end : (l : Rules) (b : State) (after : Option Lamport) (s : State) → IsAt l b after s → least_ready after (version s.history) s.waiting ≡ None → s ≡ pass_step l b
at_end l b after s i e =
    let p : State = pass l b.history i.front in
    let n : least_ready after (version p.history) (p.waiting ++ i.rest) ≡ None = subst (λ (z : State). least_ready after (version z.history) z.waiting ≡ None) i.is e in
    let m : AllMiss p.history i.rest = past_missing after p.history i.rest i.ahead (each_right (λ (o : Operation). is_ready after p.history o ≡ false) p.waiting i.rest (find_none (is_ready after p.history) (p.waiting ++ i.rest) n)) in
    let q : pass l b.history b.waiting ≡ record { history = p.history; waiting = p.waiting ++ i.rest; refused = p.refused } =
    ap (pass l b.history) i.split ∙ pass_append l b.history i.front i.rest ∙ ap (state_join p) (pass_missing l p.history i.rest m) ∙ ap (λ z. record { history = p.history; waiting = p.waiting ++ i.rest; refused = z }) (append-nil p.refused) in
    i.is ∙ sym (ap (λ (z : State). record { history = z.history; waiting = z.waiting; refused = b.refused ++ z.refused }) q)

pub at_until : (l : Rules) (b : State) (after : Option Lamport) (s : State) → IsAt l b after s → (k : ℕ) × (s ≡ stopped_pass k l b)
at_until l b after s i =
    let x : take (length i.front) b.waiting ≡ i.front = ap (take (length i.front)) i.split ∙ take-append_seam i.front i.rest in
    let y : drop (length i.front) b.waiting ≡ i.rest = ap (drop (length i.front)) i.split ∙ drop-append_seam i.front i.rest in
    (length i.front, i.is ∙ sym (λ j. pass_front l b (x j) (y j)))

-- ---- a turn

-- what op leaves of itself
abbrev left : Turn → History → Operation → State
left Append h op = record { history = h ++ op ∷ []; waiting = []; refused = [] }
left Drop h op = record { history = h; waiting = []; refused = [] }
left Stay h op = record { history = h; waiting = op ∷ []; refused = [] }
left (Refuse f) h op = record { history = h; waiting = []; refused = (stamp_of op, f) ∷ [] }

pass_last : (l : Rules) (h : History) (op : Operation) (t : Turn) → turn l h op ≡ t → pass l h (op ∷ []) ≡ left t h op
pass_last l h op t e = pass_is l h op [] ∙ ap (λ (u : Turn). after u l h op []) e ∙ go t
  where
    go : (t : Turn) → after t l h op [] ≡ left t h op
    go Append = pass_nil l (h ++ op ∷ [])
    go Drop = pass_nil l h
    go Stay = ap (with_waiting op) (pass_nil l h)
    go (Refuse f) = ap (λ (s : State). record { history = s.history; waiting = s.waiting; refused = (stamp_of op, f) ∷ s.refused }) (pass_nil l h)

pass_more : (l : Rules) (h : History) (front missed : List Operation) (op : Operation) (t : Turn) → AllMiss (pass l h front).history missed → turn l (pass l h front).history op ≡ t
    → pass l h (front ++ (missed ++ op ∷ [])) ≡ state_join (pass l h front) (state_join (record { history = (pass l h front).history; waiting = missed; refused = [] }) (left t (pass l h front).history op))
pass_more l h front missed op t m e =
    let p : State = pass l h front in
    pass_append l h front (missed ++ op ∷ [])
    ∙ ap (state_join p) (pass_append l p.history missed (op ∷ []) ∙ ap (λ (z : State). state_join z (pass l z.history (op ∷ []))) (pass_missing l p.history missed m) ∙ ap (state_join (record { history = p.history; waiting = missed; refused = [] })) (pass_last l p.history op t e))

module _ (l : Rules) (b : State) (front rest : List Operation) (op : Operation) (after : Option Lamport) where
  abbrev p : State
  p = pass l b.history front

  abbrev waiting_front : Parted (is_ready after p.history) rest op → List Operation
  waiting_front q = p.waiting ++ q.missed

  whole : (q : Parted (is_ready after p.history) rest op) → p.waiting ++ rest ≡ waiting_front q ++ op ∷ q.behind
  whole q = ap (λ z. p.waiting ++ z) q.is ∙ sym (append_assoc p.waiting q.missed (op ∷ q.behind))

  more : (q : Parted (is_ready after p.history) rest op) → b.waiting ≡ front ++ rest → b.waiting ≡ (front ++ (q.missed ++ op ∷ [])) ++ q.behind
  more q s = s ∙ ap (λ z. front ++ z) (q.is ∙ sym (append_assoc q.missed (op ∷ []) q.behind)) ∙ sym (append_assoc front (q.missed ++ op ∷ []) q.behind)

  -- with op's turn the pass is one operation further
  further : (q : Parted (is_ready after p.history) rest op) (g : History) (x : List (Lamport × OpFault)) → b.waiting ≡ front ++ rest → Ascending older (p.waiting ++ rest)
      → pass l b.history (front ++ (q.missed ++ op ∷ [])) ≡ record { history = g; waiting = p.waiting ++ (q.missed ++ []); refused = p.refused ++ x }
      → IsAt l b (Some (stamp_of op)) (record { history = g; waiting = without (stamp_of op) (p.waiting ++ rest); refused = b.refused ++ (p.refused ++ x) })
  further q g x s u e =
      let a = older_around (waiting_front q) op q.behind (subst (Ascending older) (whole q) u) in
      let w : without (stamp_of op) (p.waiting ++ rest) ≡ (p.waiting ++ (q.missed ++ [])) ++ q.behind =
      ap (without (stamp_of op)) (whole q) ∙ without_mid (waiting_front q) op q.behind (subst (Ascending older) (whole q) u) ∙ ap (λ z. (p.waiting ++ z) ++ q.behind) (sym (append-nil q.missed)) in
      let k : AllByRecursion (λ (o : Operation). is_past (Some (stamp_of op)) o ≡ false) (p.waiting ++ (q.missed ++ [])) = subst (λ z. AllByRecursion (λ (o : Operation). is_past (Some (stamp_of op)) o ≡ false) (p.waiting ++ z)) (sym (append-nil q.missed))
      (each_map (λ (o : Operation). older o op ≡ true) (λ (o : Operation). is_past (Some (stamp_of op)) o ≡ false) (λ o y. one_way (stamp_of op) (stamp_of o) y) (waiting_front q) a.0) in
      record {
        front = front ++ (q.missed ++ op ∷ []);
        rest = q.behind;
        split = more q s;
        is = ap (λ z. record { history = g; waiting = z; refused = b.refused ++ (p.refused ++ x) }) w
            ∙ sym (ap (λ (z : State). record { history = z.history; waiting = z.waiting ++ q.behind; refused = b.refused ++ z.refused }) e);
        behind = subst (λ (z : State). AllByRecursion (λ (o : Operation). is_past (Some (stamp_of op)) o ≡ false) z.waiting) (sym e) k;
        ahead = a.1;
      }

  step_at : b.waiting ≡ front ++ rest → AllByRecursion (λ (o : Operation). is_past after o ≡ false) p.waiting → AllByRecursion (λ (o : Operation). is_past after o ≡ true) rest
      → Ascending older (p.waiting ++ rest) → least_ready after (version p.history) (p.waiting ++ rest) ≡ Some op
      → IsAt l b (Some (stamp_of op)) (turn_step l op (pass_front l b front rest))
  step_at s v a u e =
      let f : find (is_ready after p.history) rest ≡ Some op =
      sym (found_past (is_ready after p.history) p.waiting rest (each_map (λ (o : Operation). is_past after o ≡ false) (λ (o : Operation). is_ready after p.history o ≡ false) (λ o y. rw y refl) p.waiting v)) ∙ e in
      let q = part_of (is_ready after p.history) rest op f in
      let m : AllMiss p.history q.missed = past_missing after p.history q.missed (each_left (λ (o : Operation). is_past after o ≡ true) q.missed (op ∷ q.behind) (subst (AllByRecursion (λ (o : Operation). is_past after o ≡ true)) q.is a)) q.misses in
      let y : within (version_of op) (version p.history) ≡ true = (and_parts (is_past after op) (within (version_of op) (version p.history)) q.hit).1 in
      go q m y (turn l p.history op) refl
    where
      go : (q : Parted (is_ready after p.history) rest op) → AllMiss p.history q.missed → within (version_of op) (version p.history) ≡ true
          → (t : Turn) → turn l p.history op ≡ t → IsAt l b (Some (stamp_of op)) (after_turn t op (pass_front l b front rest))
      go q m y Append t = subst (λ z. IsAt l b (Some (stamp_of op)) (record { history = p.history ++ op ∷ []; waiting = without (stamp_of op) (p.waiting ++ rest); refused = b.refused ++ z })) (append-nil p.refused)
          (further q (p.history ++ op ∷ []) [] s u (pass_more l b.history front q.missed op Append m t))
      go q m y Drop t = subst (λ z. IsAt l b (Some (stamp_of op)) (record { history = p.history; waiting = without (stamp_of op) (p.waiting ++ rest); refused = b.refused ++ z })) (append-nil p.refused)
          (further q p.history [] s u (pass_more l b.history front q.missed op Drop m t))
      go q m y Stay t = absurd (not_stay l p.history op y t)
      go q m y (Refuse x) t = subst (λ z. IsAt l b (Some (stamp_of op)) (record { history = p.history; waiting = without (stamp_of op) (p.waiting ++ rest); refused = z })) (sym (append_assoc b.refused p.refused ((stamp_of op, x) ∷ [])))
          (further q p.history ((stamp_of op, x) ∷ []) s u (pass_more l b.history front q.missed op (Refuse x) m t))

pub at_turn : (l : Rules) (b : State) (after : Option Lamport) (s : State) (op : Operation) → IsAt l b after s → Ascending older s.waiting → least_ready after (version s.history) s.waiting ≡ Some op
    → IsAt l b (Some (stamp_of op)) (turn_step l op s)
at_turn l b after s op i = subst (λ (z : State). Ascending older z.waiting → least_ready after (version z.history) z.waiting ≡ Some op → IsAt l b (Some (stamp_of op)) (turn_step l op z)) (sym i.is)
    (step_at l b i.front i.rest op after i.split i.behind i.ahead)
