-- Settling that was stopped in a pass and begun again ends as it would have ended without the stop.
use Rattle.std.proofs.Common.{◌≡◌, ℕ, suc, ◌+◌, ◌≤◌, ◌⊎◌, Bool, List, [], ◌∷◌, ◌++◌, length, take, drop, refl, sym, ◌∙◌, ap, subst, inl, inr, true, false, cond, leb, eqb, arith, None, Some, Option}
use Rattle.std.specs.Prelude.{option_map, unwrap_or}
use Rattle.std.specs.List.{AllByRecursion}
use Rattle.std.proofs.lemmas.Bool.{cases_Bool, and_parts, leb-true, le-leb, cases_lt, eqb-true}
use Rattle.std.proofs.lemmas.List.{append-nil, take-append-drop}
use Rattle.lamport_clock.specs.declared.stamp.Lamport.{Lamport}
use Rattle.lamport_clock.specs.Stamps.{same_stamp}
use Rattle.lamport_clock.specs.Versions.{Entries, entry, within}
use Rattle.lamport_clock.proofs.Later.{later_irrefl}
use Rattle.op_model.specs.declared.operation.Operation.{Operation}
use Rattle.op_model.specs.Rules.{Rules, answer_under, rule_fault}
use Rattle.op_model.specs.declared.faults.OpFault.{OpFault}
use Rattle.op_model.specs.Choice.{when}
use Rattle.op_model.specs.Sorted.{Ascending}
use Rattle.op_model.specs.Operations.{stamp_of, version_of}
use Rattle.op_model.specs.Histories.{History, In, version}
use Rattle.op_model.specs.Answers.{Answer, answer, shape_fault, any_equal, same_op}
use Rattle.op_model.specs.Answers.Answer.{Good, Repeat, Waits, Refused}
use Rattle.op_model.specs.Settled.{State, Turn, turn, turn_of, turn_full, full_fault, with_waiting, pass, settle}
use Rattle.op_model.specs.Settled.Turn.{Append, Drop, Stay, Refuse}
use Rattle.op_model.specs.Steps.{older, settle_step}
use Rattle.op_model.specs.Stopped.{AreAlike, stopped_pass, stopped_settling, times_refused}
use Rattle.op_model.proofs.Elements.{each_left, each_right, each_append, each_both, each_map, each_member, any_member, member_left}
use Rattle.op_model.proofs.answers.Passed.{first_past, first_here, none_map, some_when}
use Rattle.op_model.proofs.histories.Lawful.{entry_version, greatest, greatest_in}
use Rattle.op_model.proofs.histories.VersionLaws.{has_greatest}
use Rattle.op_model.proofs.histories.Proper.{is_same}
use Rattle.op_model.specs.declared.endings.Endings.{Endings}
use Rattle.op_model.proofs.answers.Under.{under_clean, under_repeat, under_waits, repeat_shape}
use Rattle.op_model.proofs.settling.Settling.{after, pass_is, pass_keeps, pass_still, pass_fixed, not_waits, within_none, Stays}
use Rattle.op_model.proofs.settling.TwoPasses.{two_passes, pass_adds, pass_stuck}
use Rattle.op_model.proofs.settling.HonestRuns.{repeat_in, drop_repeat}
use Rattle.op_model.proofs.settling.Leaves.{each_kept}
use Rattle.op_model.proofs.settling.Passes.{pass_nil, passes_two, after_refused}

-- ---- a pass over a list in two parts

-- what two parts of a pass leave
abbrev pub state_join : State → State → State
state_join p q = record { history = q.history; waiting = p.waiting ++ q.waiting; refused = p.refused ++ q.refused }

pub pass_append : (l : Rules) (h : History) (v w : List Operation) → pass l h (v ++ w) ≡ state_join (pass l h v) (pass l (pass l h v).history w)
pass_append l h [] w = ap (λ (p : State). state_join p (pass l p.history w)) (sym (pass_nil l h))
pass_append l h (op ∷ v) w = pass_is l h op (v ++ w) ∙ go (turn l h op) (pass_append l (h ++ op ∷ []) v w) (pass_append l h v w) ∙ ap (λ (p : State). state_join p (pass l p.history w)) (sym (pass_is l h op v))
  where
    go : (t : Turn) → pass l (h ++ op ∷ []) (v ++ w) ≡ state_join (pass l (h ++ op ∷ []) v) (pass l (pass l (h ++ op ∷ []) v).history w)
        → pass l h (v ++ w) ≡ state_join (pass l h v) (pass l (pass l h v).history w)
        → after t l h op (v ++ w) ≡ state_join (after t l h op v) (pass l (after t l h op v).history w)
    go Append a b = a
    go Drop a b = b
    go Stay a b = ap (with_waiting op) b
    go (Refuse f) a b = ap (λ (s : State). record { history = s.history; waiting = s.waiting; refused = (stamp_of op, f) ∷ s.refused }) b

-- ---- a pass that appends nothing

abbrev Quiet : Rules → History → List Operation → Type 0
Quiet l h w = AllByRecursion (λ (op : Operation). turn l h op ≡ Append → ⊥) w

abbrev stay_onto : Turn → Operation → List Operation → List Operation
stay_onto Append op w = w
stay_onto Drop op w = w
stay_onto Stay op w = op ∷ w
stay_onto (Refuse f) op w = w

abbrev refuse_onto : Turn → Operation → List (Lamport × OpFault) → List (Lamport × OpFault)
refuse_onto Append op r = r
refuse_onto Drop op r = r
refuse_onto Stay op r = r
refuse_onto (Refuse f) op r = (stamp_of op, f) ∷ r

abbrev stay_at : Rules → History → List Operation → List Operation
stay_at l h [] = []
stay_at l h (op ∷ w) = stay_onto (turn l h op) op (stay_at l h w)

abbrev refused_at : Rules → History → List Operation → List (Lamport × OpFault)
refused_at l h [] = []
refused_at l h (op ∷ w) = refuse_onto (turn l h op) op (refused_at l h w)

abbrev quiet_state : Rules → History → List Operation → State
quiet_state l h w = record { history = h; waiting = stay_at l h w; refused = refused_at l h w }

quiet : (l : Rules) (h : History) (w : List Operation) → Quiet l h w → pass l h w ≡ quiet_state l h w
quiet l h [] q = pass_nil l h
quiet l h (op ∷ w) q = pass_is l h op w ∙ go (turn l h op) q.0 (quiet l h w q.1)
  where
    go : (t : Turn) → (t ≡ Append → ⊥) → pass l h w ≡ quiet_state l h w → after t l h op w ≡ record { history = h; waiting = stay_onto t op (stay_at l h w); refused = refuse_onto t op (refused_at l h w) }
    go Append n e = absurd (n refl)
    go Drop n e = e
    go Stay n e = ap (with_waiting op) e
    go (Refuse f) n e = ap (λ (s : State). record { history = s.history; waiting = s.waiting; refused = (stamp_of op, f) ∷ s.refused }) e

stay_append : (l : Rules) (h : History) (v w : List Operation) → stay_at l h (v ++ w) ≡ stay_at l h v ++ stay_at l h w
stay_append l h [] w = refl
stay_append l h (op ∷ v) w = ap (stay_onto (turn l h op) op) (stay_append l h v w) ∙ go (turn l h op)
  where
    go : (t : Turn) → stay_onto t op (stay_at l h v ++ stay_at l h w) ≡ stay_onto t op (stay_at l h v) ++ stay_at l h w
    go Append = refl
    go Drop = refl
    go Stay = refl
    go (Refuse f) = refl

refused_append : (l : Rules) (h : History) (v w : List Operation) → refused_at l h (v ++ w) ≡ refused_at l h v ++ refused_at l h w
refused_append l h [] w = refl
refused_append l h (op ∷ v) w = ap (refuse_onto (turn l h op) op) (refused_append l h v w) ∙ go (turn l h op)
  where
    go : (t : Turn) → refuse_onto t op (refused_at l h v ++ refused_at l h w) ≡ refuse_onto t op (refused_at l h v) ++ refused_at l h w
    go Append = refl
    go Drop = refl
    go Stay = refl
    go (Refuse f) = refl

-- ---- settling is a pass, and a second one that appends nothing

pub settled_by_two : (l : Rules) (h : History) (w : List Operation) → Ascending older w
    → settle l h w ≡ after_refused (pass l h w) (quiet_state l (pass l h w).history (pass l h w).waiting)
settled_by_two l h w u =
    let p : State = pass l h w in
    let q : pass l p.history p.waiting ≡ quiet_state l p.history p.waiting = quiet l p.history p.waiting (pass_stuck l h w u) in
    two_passes l h w u ∙ passes_two l h w ∙ go (eqb (length p.history) (length h)) refl ∙ ap (after_refused p) q
  where
    go : (b : Bool) → eqb (length (pass l h w).history) (length h) ≡ b
        → cond b (pass l h w) (after_refused (pass l h w) (pass l (pass l h w).history (pass l h w).waiting)) ≡ after_refused (pass l h w) (pass l (pass l h w).history (pass l h w).waiting)
    go false e = refl
    go true e =
        let k = pass_still l h w (eqb-true (length (pass l h w).history) (length h) e) in
        let f : pass l (pass l h w).history (pass l h w).waiting ≡ record { history = (pass l h w).history; waiting = (pass l h w).waiting; refused = [] } =
        pass_fixed l (pass l h w).history (pass l h w).waiting (subst (λ (g : History). Stays l g (pass l h w).waiting) (sym k.0) k.1) in
        ap (λ z. record { history = (pass l h w).history; waiting = (pass l h w).waiting; refused = z }) (sym (append-nil (pass l h w).refused)) ∙ ap (after_refused (pass l h w)) (sym f)

-- ---- one operation at two histories of which the second is longer

abbrev Fits : Turn → Turn → Type 0
Fits Append b = ⊥
Fits Drop b = b ≡ Drop
Fits Stay b = Unit {0}
Fits (Refuse f) b = (x : OpFault) × (b ≡ Refuse x)

plain_repeat : (h : History) (op : Operation) → shape_fault op ≡ None → In h op → answer h [] op ≡ Repeat
unfolding answer
plain_repeat h op n i =
    let t : any_equal (h ++ []) op ≡ true = any_member (λ o. same_op o op) (h ++ []) op (member_left op h [] i) (is_same op) in
    ap (λ (o : Option Answer). unwrap_or o Good) (first_past (option_map Refused (shape_fault op)) _ (none_map Refused (shape_fault op) n)
    ∙ first_here (when (any_equal (h ++ []) op) Repeat) _ Repeat (some_when (any_equal (h ++ []) op) Repeat t))

repeat_of : (e : Endings) (h : History) (op : Operation) → rule_fault e op ≡ None → shape_fault op ≡ None → In h op → answer_under e h [] op ≡ Repeat
repeat_of e h op r n i = under_clean e h [] op r ∙ plain_repeat h op n i

turn_known : (l : Rules) (h : History) (op : Operation) → within (version_of op) (version h) ≡ true → turn l h op ≡ turn_of (answer_under l.endings h [] op) (full_fault l h op)
turn_known l h op e = rw e refl

-- the turn is not Stay where nothing is missed
known_of : (l : Rules) (h : History) (op : Operation) → (turn l h op ≡ Stay → ⊥) → within (version_of op) (version h) ≡ true
known_of l h op n = elim (cases_Bool (within (version_of op) (version h))) [
  | inl y ↦ y
  | inr w ↦ absurd (n (rw w refl))
]

module _ (l : Rules) (h g : History) (rest : List Operation) (keeps : (o : Operation) → In h o → In g o) (from : (o : Operation) → In g o → In h o ⊎ In rest o) where
  entry_grows : (r : ℕ) → entry (version h) r ≤ entry (version g) r
  entry_grows r =
      let a = entry_version h r in
      let b = entry_version g r in
      elim (cases_lt 0 (greatest h r)) [
        | inl p ↦ (let m = has_greatest h r p in
            let x : (stamp_of m.0).value ≡ greatest h r = ap (λ (t : Lamport). t.value) m.2 in
            let y : (stamp_of m.0).replica ≡ r = ap (λ (t : Lamport). t.replica) m.2 in
            let z : (stamp_of m.0).value ≤ greatest g r = subst (λ (n : ℕ). (stamp_of m.0).value ≤ greatest g n) y (greatest_in g m.0 (keeps m.0 m.1)) in
            omega arith)
        | inr n ↦ omega arith
      ]

  within_grows : (v : Entries) → within v (version h) ≡ true → within v (version g) ≡ true
  within_grows [] e = refl
  within_grows (x ∷ v) e =
      let a = and_parts (leb x.1 (entry (version h) x.0)) (within v (version h)) e in
      let b = leb-true x.1 (entry (version h) x.0) a.0 in
      let c = entry_grows x.0 in
      let d : leb x.1 (entry (version g) x.0) ≡ true = le-leb x.1 (entry (version g) x.0) (omega arith) in
      rw d (within_grows v a.1)

  module _ (op : Operation) (ahead : AllByRecursion (λ (o : Operation). older op o ≡ true) rest) where
    not_ahead : In rest op → ⊥
    not_ahead i = let a : older op op ≡ true = each_member (λ (o : Operation). older op o ≡ true) rest op ahead i in let b = later_irrefl (stamp_of op) in cc

    drops : answer_under l.endings h [] op ≡ Repeat → within (version_of op) (version g) ≡ true → turn l g op ≡ Drop
    drops k w =
        let p = under_repeat l.endings h [] op k in
        let i : In h op = elim (repeat_in h [] op p.0) [ inl x ↦ x | inr x ↦ absurd x ] in
        let a : answer_under l.endings g [] op ≡ Repeat = repeat_of l.endings g op p.1 (repeat_shape h [] op p.0) (keeps op i) in
        turn_known l g op w ∙ ap (λ (x : Answer). turn_of x (full_fault l g op)) a

    fits : (turn l h op ≡ Append → ⊥) → (turn l g op ≡ Append → ⊥) → Fits (turn l h op) (turn l g op)
    fits n m = go (turn l h op) refl
      where
        refuses : (f : OpFault) → turn l h op ≡ Refuse f → (x : OpFault) × (turn l g op ≡ Refuse x)
        refuses f e = of (answer_under l.endings g [] op) refl
          where
            w : within (version_of op) (version h) ≡ true
            w = known_of l h op (λ q. cc)

            v : within (version_of op) (version g) ≡ true
            v = within_grows (version_of op) w

            full : (o : Option OpFault) → turn l g op ≡ turn_full o → (x : OpFault) × (turn l g op ≡ Refuse x)
            full None q = absurd (m q)
            full (Some x) q = (x, q)

            of : (a : Answer) → answer_under l.endings g [] op ≡ a → (x : OpFault) × (turn l g op ≡ Refuse x)
            of Good q = full (full_fault l g op) (turn_known l g op v ∙ ap (λ (x : Answer). turn_of x (full_fault l g op)) q)
            of Repeat q = absurd (
                let p = under_repeat l.endings g [] op q in
                let i : In h op = elim (repeat_in g [] op p.0) [ inl x ↦ elim (from op x) [ inl y ↦ y | inr y ↦ absurd (not_ahead y) ] | inr x ↦ absurd x ] in
                let a : answer_under l.endings h [] op ≡ Repeat = repeat_of l.endings h op p.1 (repeat_shape g [] op p.0) i in
                let t : turn l h op ≡ Drop = turn_known l h op w ∙ ap (λ (x : Answer). turn_of x (full_fault l h op)) a in cc)
            of (Waits r x) q = absurd (not_waits g [] op r x (within_none g (version_of op) v) (under_waits l.endings g [] op r x q).0)
            of (Refused x) q = (x, turn_known l g op v ∙ ap (λ (y : Answer). turn_of y (full_fault l g op)) q)

        go : (t : Turn) → turn l h op ≡ t → Fits t (turn l g op)
        go Append e = absurd (n e)
        go Drop e = drops (drop_repeat l h op e) (within_grows (version_of op) (known_of l h op (λ q. cc)))
        go Stay e = tt
        go (Refuse f) e = refuses f e

-- ---- what they leave, list by list

abbrev AllFit : Rules → History → History → List Operation → Type 0
AllFit l h g w = AllByRecursion (λ (op : Operation). Fits (turn l h op) (turn l g op)) w

stay_twice : (l : Rules) (h g : History) (w : List Operation) → AllFit l h g w → stay_at l g (stay_at l h w) ≡ stay_at l g w
stay_twice l h g [] f = refl
stay_twice l h g (op ∷ w) f = go (turn l h op) f.0 (stay_twice l h g w f.1)
  where
    go : (t : Turn) → Fits t (turn l g op) → stay_at l g (stay_at l h w) ≡ stay_at l g w → stay_at l g (stay_onto t op (stay_at l h w)) ≡ stay_onto (turn l g op) op (stay_at l g w)
    go Append k e = absurd k
    go Drop k e = e ∙ sym (ap (λ (t : Turn). stay_onto t op (stay_at l g w)) k)
    go Stay k e = ap (stay_onto (turn l g op) op) e
    go (Refuse x) k e = e ∙ sym (ap (λ (t : Turn). stay_onto t op (stay_at l g w)) k.1)

times_append : (t : Lamport) (r s : List (Lamport × OpFault)) → times_refused t (r ++ s) ≡ times_refused t r + times_refused t s
times_append t [] s = omega arith
times_append t (x ∷ r) s = go (same_stamp x.0 t) (times_append t r s)
  where
    go : (b : Bool) → times_refused t (r ++ s) ≡ times_refused t r + times_refused t s → cond b (suc (times_refused t (r ++ s))) (times_refused t (r ++ s)) ≡ cond b (suc (times_refused t r)) (times_refused t r) + times_refused t s
    go true e = omega arith
    go false e = e

abbrev one : Bool → ℕ
one true = 1
one false = 0

times_one : (t : Lamport) (op : Operation) (f : OpFault) (r : List (Lamport × OpFault)) → times_refused t ((stamp_of op, f) ∷ r) ≡ one (same_stamp (stamp_of op) t) + times_refused t r
times_one t op f r = go (same_stamp (stamp_of op) t)
  where
    go : (b : Bool) → cond b (suc (times_refused t r)) (times_refused t r) ≡ one b + times_refused t r
    go true = omega arith
    go false = omega arith

times_split : (t : Lamport) (l : Rules) (h g : History) (w : List Operation) → AllFit l h g w
    → times_refused t (refused_at l h w) + times_refused t (refused_at l g (stay_at l h w)) ≡ times_refused t (refused_at l g w)
times_split t l h g [] f = refl
times_split t l h g (op ∷ w) f = go (turn l h op) f.0 (times_split t l h g w f.1)
  where
    go : (u : Turn) → Fits u (turn l g op) → times_refused t (refused_at l h w) + times_refused t (refused_at l g (stay_at l h w)) ≡ times_refused t (refused_at l g w)
        → times_refused t (refuse_onto u op (refused_at l h w)) + times_refused t (refused_at l g (stay_onto u op (stay_at l h w))) ≡ times_refused t (refuse_onto (turn l g op) op (refused_at l g w))
    go Append k e = absurd k
    go Drop k e = e ∙ sym (ap (λ (v : Turn). times_refused t (refuse_onto v op (refused_at l g w))) k)
    go (Refuse x) k e =
        let a = times_one t op x (refused_at l h w) in
        let b = times_one t op k.0 (refused_at l g w) in
        let c : times_refused t (refuse_onto (turn l g op) op (refused_at l g w)) ≡ times_refused t ((stamp_of op, k.0) ∷ refused_at l g w) = ap (λ (v : Turn). times_refused t (refuse_onto v op (refused_at l g w))) k.1 in
        omega arith
    go Stay k e = on (turn l g op)
      where
        on : (v : Turn) → times_refused t (refused_at l h w) + times_refused t (refuse_onto v op (refused_at l g (stay_at l h w))) ≡ times_refused t (refuse_onto v op (refused_at l g w))
        on Append = e
        on Drop = e
        on Stay = e
        on (Refuse x) =
            let a = times_one t op x (refused_at l g (stay_at l h w)) in
            let b = times_one t op x (refused_at l g w) in
            omega arith

-- ---- a pass that was stopped

pass_kept : (l : Rules) (h : History) (w : List Operation) (o : Operation) → In h o → In (pass l h w).history o
pass_kept l h w o i = (pass_keeps l (λ (g : History). In g o) (λ op. Unit {0}) (λ g op p q e. member_left o g (op ∷ []) p) h w i (Rattle.op_model.proofs.Elements.each_unit w)).0

across : (v w : List Operation) → Ascending older (v ++ w) → AllByRecursion (λ (op : Operation). AllByRecursion (λ (o : Operation). older op o ≡ true) w) v
across [] w u = tt
across (op ∷ v) w u = (each_right (λ (o : Operation). older op o ≡ true) v w u.0, across v w u.1)

front_up : (l : Rules) (h : History) (v w : List Operation) → Ascending older (v ++ w) → Ascending older ((pass l h v).waiting ++ w)
front_up l h [] w u = subst (λ (s : State). Ascending older (s.waiting ++ w)) (sym (pass_nil l h)) u
front_up l h (op ∷ v) w u = subst (λ (s : State). Ascending older (s.waiting ++ w)) (sym (pass_is l h op v)) (go (turn l h op) (front_up l (h ++ op ∷ []) v w u.1) (front_up l h v w u.1))
  where
    go : (t : Turn) → Ascending older ((pass l (h ++ op ∷ []) v).waiting ++ w) → Ascending older ((pass l h v).waiting ++ w) → Ascending older ((after t l h op v).waiting ++ w)
    go Append a b = a
    go Drop a b = b
    go Stay a b = (
      each_append (λ (o : Operation). older op o ≡ true) (pass l h v).waiting w
          (each_kept (λ (o : Operation). older op o ≡ true) l h v (each_left (λ (o : Operation). older op o ≡ true) v w u.0)) (each_right (λ (o : Operation). older op o ≡ true) v w u.0),
      b,
    )
    go (Refuse f) a b = b

module _ (l : Rules) (h : History) (v w : List Operation) (u : Ascending older (v ++ w)) where
  -- the first part, and the second after it
  abbrev first : State
  first = pass l h v

  abbrev second : State
  second = pass l first.history w

  front_ascends : Ascending older v
  front_ascends = front v u
    where
      front : (v : List Operation) → Ascending older (v ++ w) → Ascending older v
      front [] u = tt
      front (op ∷ v) u = (each_left (λ (o : Operation). older op o ≡ true) v w u.0, front v u.1)

  all_fit : AllFit l first.history second.history first.waiting
  all_fit = go first.waiting
      (pass_stuck l h v front_ascends)
      (each_left (λ (op : Operation). turn l second.history op ≡ Append → ⊥) first.waiting second.waiting stuck_after)
      (across first.waiting w (front_up l h v w u))
    where
      stuck_after : AllByRecursion (λ (op : Operation). turn l second.history op ≡ Append → ⊥) (first.waiting ++ second.waiting)
      stuck_after = subst (λ (s : State). AllByRecursion (λ (op : Operation). turn l s.history op ≡ Append → ⊥) s.waiting) (pass_append l h v w) (pass_stuck l h (v ++ w) u)

      go : (x : List Operation) → Quiet l first.history x → Quiet l second.history x → AllByRecursion (λ (op : Operation). AllByRecursion (λ (o : Operation). older op o ≡ true) w) x → AllFit l first.history second.history x
      go [] a b c = tt
      go (op ∷ x) a b c = (fits l first.history second.history w (λ o i. pass_kept l first.history w o i) (λ o i. pass_adds l first.history w o i) op c.0 a.0 b.0, go x a.1 b.1 c.1)

  -- settled at once
  at_once : settle l h (v ++ w) ≡ record {
    history = second.history;
    waiting = stay_at l second.history first.waiting ++ stay_at l second.history second.waiting;
    refused = (first.refused ++ second.refused) ++ (refused_at l second.history first.waiting ++ refused_at l second.history second.waiting);
  }
  at_once = settled_by_two l h (v ++ w) u ∙ ap (λ (p : State). after_refused p (quiet_state l p.history p.waiting)) (pass_append l h v w)
      ∙ λ i. record { history = second.history; waiting = stay_append l second.history first.waiting second.waiting i; refused = (first.refused ++ second.refused) ++ refused_append l second.history first.waiting second.waiting i }

  -- settled after the first part
  abbrev left : List Operation
  left = stay_at l first.history first.waiting

  passed_again : pass l first.history (first.waiting ++ w) ≡ record { history = second.history; waiting = left ++ second.waiting; refused = refused_at l first.history first.waiting ++ second.refused }
  passed_again = pass_append l first.history first.waiting w
      ∙ ap (λ (p : State). state_join p (pass l p.history w)) (quiet l first.history first.waiting (pass_stuck l h v front_ascends))

  later : settle l first.history (first.waiting ++ w) ≡ record {
    history = second.history;
    waiting = stay_at l second.history left ++ stay_at l second.history second.waiting;
    refused = (refused_at l first.history first.waiting ++ second.refused) ++ (refused_at l second.history left ++ refused_at l second.history second.waiting);
  }
  later = settled_by_two l first.history (first.waiting ++ w) (front_up l h v w u) ∙ ap (λ (p : State). after_refused p (quiet_state l p.history p.waiting)) passed_again
      ∙ λ i. record { history = second.history; waiting = stay_append l second.history left second.waiting i; refused = (refused_at l first.history first.waiting ++ second.refused) ++ refused_append l second.history left second.waiting i }

  alike : (r : List (Lamport × OpFault)) → AreAlike (settle_step l (record { history = h; waiting = v ++ w; refused = r })) (settle_step l (record { history = first.history; waiting = first.waiting ++ w; refused = r ++ first.refused }))
  alike r = record {
    history = ap (λ (s : State). s.history) later ∙ sym (ap (λ (s : State). s.history) at_once);
    waiting = ap (λ (s : State). s.waiting) later ∙ ap (λ (x : List Operation). x ++ stay_at l second.history second.waiting) (stay_twice l first.history second.history first.waiting all_fit) ∙ sym (ap (λ (s : State). s.waiting) at_once);
    refused = λ t.
        (let a = times_append t (r ++ first.refused) (settle l first.history (first.waiting ++ w)).refused in
        let b = times_append t r first.refused in
        let c : times_refused t (settle l first.history (first.waiting ++ w)).refused ≡ _ = ap (λ (s : State). times_refused t s.refused) later in
        let d = times_append t (refused_at l first.history first.waiting ++ second.refused) (refused_at l second.history left ++ refused_at l second.history second.waiting) in
        let e = times_append t (refused_at l first.history first.waiting) second.refused in
        let f = times_append t (refused_at l second.history left) (refused_at l second.history second.waiting) in
        let a1 = times_append t r (settle l h (v ++ w)).refused in
        let c1 : times_refused t (settle l h (v ++ w)).refused ≡ _ = ap (λ (s : State). times_refused t s.refused) at_once in
        let d1 = times_append t (first.refused ++ second.refused) (refused_at l second.history first.waiting ++ refused_at l second.history second.waiting) in
        let e1 = times_append t first.refused second.refused in
        let f1 = times_append t (refused_at l second.history first.waiting) (refused_at l second.history second.waiting) in
        let k = times_split t l first.history second.history first.waiting all_fit in
        omega arith);
  }

once : (l : Rules) (k : ℕ) (s : State) → Ascending older s.waiting → AreAlike (settle_step l s) (settle_step l (stopped_pass k l s))
once l k s u =
    let e : take k s.waiting ++ drop k s.waiting ≡ s.waiting = take-append-drop k s.waiting in
    subst (λ (w : List Operation). AreAlike (settle_step l (record { history = s.history; waiting = w; refused = s.refused })) (settle_step l (stopped_pass k l s))) e
    (alike l s.history (take k s.waiting) (drop k s.waiting) (subst (Ascending older) (sym e) u) s.refused)

stopped_up : (l : Rules) (k : ℕ) (s : State) → Ascending older s.waiting → Ascending older (stopped_pass k l s).waiting
stopped_up l k s u = front_up l s.history (take k s.waiting) (drop k s.waiting) (subst (Ascending older) (sym (take-append-drop k s.waiting)) u)

pub goes_on : (l : Rules) (ks : List ℕ) (s : State) → Ascending older s.waiting → AreAlike (settle_step l s) (settle_step l (stopped_settling ks l s))
goes_on l [] s u = record { history = refl; waiting = refl; refused = λ t. refl }
goes_on l (k ∷ ks) s u =
    let a = once l k s u in
    let b = goes_on l ks (stopped_pass k l s) (stopped_up l k s u) in
    record { history = b.history ∙ a.history; waiting = b.waiting ∙ a.waiting; refused = λ t. b.refused t ∙ a.refused t }
