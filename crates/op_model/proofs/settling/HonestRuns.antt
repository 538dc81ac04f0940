-- A lawful set of which each member was made or taken is applied whole after a last settling.
use Rattle.std.proofs.Common.{◌≡◌, ℕ, zero, suc, ◌⊎◌, Bool, List, [], ◌∷◌, ◌++◌, length, refl, sym, ◌∙◌, ap, subst, inl, inr, true, false, cond, eqb, Some, None, Option}
use Rattle.std.specs.List.{AllByRecursion}
use Rattle.std.specs.Prelude.{option_map, option_to_list}
use Rattle.std.proofs.lemmas.Bool.{cases_Bool}
use Rattle.std.proofs.lemmas.Option.{none-some}
use Rattle.lamport_clock.specs.declared.stamp.Lamport.{Lamport}
use Rattle.lamport_clock.specs.Versions.{within}
use Rattle.op_model.specs.declared.operation.Operation.{Operation}
use Rattle.op_model.specs.Rules.{Rules, answer_under, pieces_under, rule_fault}
use Rattle.op_model.specs.declared.faults.OpFault.{OpFault}
use Rattle.op_model.specs.declared.faults.OpFault.TheVariants.{BadStamp, Full}
use Rattle.op_model.specs.declared.faults.Unit.{Unit as LimitUnit}
use Rattle.op_model.specs.Choice.{when}
use Rattle.op_model.specs.Sorted.{Member, insert_by}
use Rattle.op_model.specs.Operations.{stamp_of, version_of, bytes_of, entries_of}
use Rattle.op_model.specs.Histories.{History, In, SameSet, base, version}
use Rattle.op_model.specs.Domains.{IsReplica}
use Rattle.op_model.specs.Limited.{Excess, excess}
use Rattle.op_model.specs.Made.{local_edit, local_undo, local_edit_fault, local_undo_fault}
use Rattle.op_model.specs.Answers.{Answer, answer, objection, any_equal, same_op, first_missing}
use Rattle.op_model.specs.Answers.Answer.{Good, Repeat, Waits, Refused}
use Rattle.op_model.specs.Lawful.{Lawful}
use Rattle.op_model.specs.Settled.{State, Turn, turn, turn_of, full_fault, pass, passes, settle}
use Rattle.op_model.specs.Settled.Turn.{Append, Drop, Stay, Refuse}
use Rattle.op_model.specs.Steps.{with_applied, settle_step, ask_limits, take_answer, older, with_deferred, Step, step, run, IsProperStep, is_forgetting, NoneForgotten}
use Rattle.op_model.specs.Steps.Step.{Edits, Undoes, Takes, Settles, Forgets}
use Rattle.op_model.specs.Brought.{operation_of_call, operations_of_calls, TakesNoFull, NoFull}
use Rattle.op_model.proofs.order.Insertion.{member_one, member_past, each_insert}
use Rattle.op_model.proofs.order.SameSets.{each_in}
use Rattle.op_model.proofs.histories.Lawful.{distinct_same, in_append}
use Rattle.op_model.proofs.answers.Good.{lawful_ready}
use Rattle.op_model.proofs.histories.MoreLawful.{lawful_more}
use Rattle.op_model.proofs.texts.WholeTexts.{in_last}
use Rattle.op_model.proofs.histories.Proper.{same_is, edit_good, undo_good}
use Rattle.op_model.proofs.answers.Passed.{map_other, objection_not}
use Rattle.op_model.proofs.answers.SameAnswers.{any_from}
use Rattle.op_model.proofs.settling.Settling.{after, pass_is, append_good, pass_keeps, settled_keeps, settled_misses, good_alone, limited_good, unwrapped, none_or, Holds, step_holds}
use Rattle.op_model.proofs.settling.AllApplied.{all_applied}
use Rattle.op_model.proofs.answers.NeverRefused.{never_refused}
use Rattle.op_model.proofs.answers.Under.{under_clean, under_repeat}
use Rattle.op_model.proofs.Elements.{member_left, member_right, member_either}

-- a repeat is applied or waits
not_repeat : (h : History) (w : List Operation) (op : Operation) → any_equal (h ++ w) op ≡ false → answer h w op ≡ Repeat → ⊥
unfolding answer
not_repeat h w op n e = unwrapped (objection h w op) Repeat (λ q. cc) (objection_not Repeat h w op (λ f q. cc) (same n)
    (map_other Repeat (λ (e : ℕ × ℕ). Waits e.0 e.1) (λ x q. cc) (first_missing h (version_of op)))) e
  where
    same : any_equal (h ++ w) op ≡ false → when (any_equal (h ++ w) op) Repeat ≡ Some Repeat → ⊥
    same n q = let z : when false Repeat ≡ Some Repeat = subst (λ (b : Bool). when b Repeat ≡ Some Repeat) n q in cc

pub repeat_in : (h : History) (w : List Operation) (op : Operation) → answer h w op ≡ Repeat → In h op ⊎ In w op
repeat_in h w op e = elim (cases_Bool (any_equal (h ++ w) op)) [
  | inl t ↦ (let m = any_from (λ o. same_op o op) (h ++ w) t in subst (λ (x : Operation). In h x ⊎ In w x) (same_is m.0 op m.2) (member_either m.0 h w m.1))
  | inr f ↦ absurd (not_repeat h w op f e)
]

base_bad : (h : History) (w : List Operation) (t : List ℕ) → answer h w (base t) ≡ Refused BadStamp
unfolding answer
base_bad h w t = refl

of_drop : (a : Answer) (f : Option OpFault) → turn_of a f ≡ Drop → a ≡ Repeat
of_drop Good None e = cc
of_drop Good (Some x) e = cc
of_drop Repeat f e = refl
of_drop (Waits r v) f e = cc
of_drop (Refused x) f e = cc

pub drop_repeat : (l : Rules) (h : History) (op : Operation) → turn l h op ≡ Drop → answer_under l.endings h [] op ≡ Repeat
drop_repeat l h op e = go (within (version_of op) (version h)) e
  where
    go : (b : Bool) → cond b (turn_of (answer_under l.endings h [] op) (full_fault l h op)) Stay ≡ Drop → answer_under l.endings h [] op ≡ Repeat
    go true e = of_drop (answer_under l.endings h [] op) (full_fault l h op) e
    go false e = cc

of_refuse : (a : Answer) (f : Option OpFault) (x : OpFault) → turn_of a f ≡ Refuse x → (a ≡ Refused x) ⊎ ((a ≡ Good) × (f ≡ Some x))
of_refuse Good None x e = cc
of_refuse Good (Some y) x e = let i : y ≡ x = cc in inr (refl, ap Some i)
of_refuse Repeat f x e = cc
of_refuse (Waits r v) f x e = cc
of_refuse (Refused y) f x e = let i : y ≡ x = cc in inl (ap Refused i)

refuse_why : (l : Rules) (h : History) (op : Operation) (x : OpFault) → rule_fault l.endings op ≡ None → turn l h op ≡ Refuse x → (answer h [] op ≡ Refused x) ⊎ ((answer h [] op ≡ Good) × (full_fault l h op ≡ Some x))
refuse_why l h op x n e = go (within (version_of op) (version h)) e
  where
    go : (b : Bool) → cond b (turn_of (answer_under l.endings h [] op) (full_fault l h op)) Stay ≡ Refuse x → (answer h [] op ≡ Refused x) ⊎ ((answer h [] op ≡ Good) × (full_fault l h op ≡ Some x))
    go true e = of_refuse (answer h [] op) (full_fault l h op) x (ap (λ (a : Answer). turn_of a (full_fault l h op)) (sym (under_clean l.endings h [] op n)) ∙ e)
    go false e = cc

-- the limits' fault is Full
full_is : (l : Rules) (h : History) (op : Operation) (x : OpFault) → full_fault l h op ≡ Some x → (u : LimitUnit) × (n : ℕ) × (m : ℕ) × (x ≡ Full u n m)
full_is l h op x e = go (excess l.limits h (bytes_of op) (entries_of op)) e
  where
    go : (o : Option Excess) → option_map (λ (k : Excess). Full k.unit k.held k.adds) o ≡ Some x → (u : LimitUnit) × (n : ℕ) × (m : ℕ) × (x ≡ Full u n m)
    go None i = cc
    go (Some k) i = let j : Full k.unit k.held k.adds ≡ x = cc in (k.unit, k.held, k.adds, sym j)

-- nothing was refused for the limits
abbrev pub NoneFull : List (Lamport × OpFault) → Type 0
NoneFull rs = (u : LimitUnit) → (n m : ℕ) → (t : Lamport) → Member (t, Full u n m) rs → ⊥

abbrev Unfull : State → Type 0
Unfull s = NoneFull s.refused

-- nothing was refused at all
abbrev Clear : State → Type 0
Clear s = s.refused ≡ []

none_left : (xs ys : List (Lamport × OpFault)) → NoneFull (xs ++ ys) → NoneFull xs
none_left xs ys f u n m t i = f u n m t (member_left (t, Full u n m) xs ys i)

none_right : (xs ys : List (Lamport × OpFault)) → NoneFull (xs ++ ys) → NoneFull ys
none_right xs ys f u n m t i = f u n m t (member_right (t, Full u n m) xs ys i)

none_empty : (rs : List (Lamport × OpFault)) → rs ≡ [] → NoneFull rs
none_empty rs e u n m t i = subst (Member (t, Full u n m)) e i

limited_repeat : (a : Answer) (f : Option OpFault) → ask_limits a f ≡ Repeat → a ≡ Repeat
limited_repeat Good None e = cc
limited_repeat Good (Some x) e = cc
limited_repeat Repeat f e = refl
limited_repeat (Waits r v) f e = cc
limited_repeat (Refused x) f e = cc

limited_waits : (a : Answer) (f : Option OpFault) (q v : ℕ) → ask_limits a f ≡ Waits q v → a ≡ Waits q v
limited_waits Good None q v e = cc
limited_waits Good (Some x) q v e = cc
limited_waits Repeat f q v e = cc
limited_waits (Waits r u) f q v e = e
limited_waits (Refused x) f q v e = cc

limited_refused : (a : Answer) (f : Option OpFault) (x : OpFault) → (a ≡ Good → f ≡ None) → ask_limits a f ≡ Refused x → a ≡ Refused x
limited_refused Good None x n e = cc
limited_refused Good (Some y) x n e = let z : Some y ≡ None = n refl in cc
limited_refused Repeat f x n e = cc
limited_refused (Waits r v) f x n e = cc
limited_refused (Refused y) f x n e = e

module _ (l : Rules) (g : History) (lg : Lawful g) (kg : (o : Operation) → In g o → rule_fault l.endings o ≡ None) where
  -- a lawful history of operations of g, and one of g that is no base
  abbrev pub Part : History → Type 0
  Part h = Lawful h × ((o : Operation) → In h o → In g o)

  abbrev pub Own : Operation → Type 0
  Own op = In g op × ((t : List ℕ) → op ≡ base t → ⊥)

  -- the limits never stand against a good operation of g
  abbrev pub Roomy : Type 0
  Roomy = (h : History) (op : Operation) → Part h → In g op → answer h [] op ≡ Good → full_fault l h op ≡ None

  part_more : (h : History) (op : Operation) → Part h → In g op → answer h [] op ≡ Good → Part (h ++ op ∷ [])
  part_more h op p i e = (lawful_more h op p.0 e, λ o j. elim (in_append h op o j) [ inl a ↦ p.1 o a | inr b ↦ subst (In g) (sym b) i ])

  own_more : (h : History) (op : Operation) → Part h → Own op → turn l h op ≡ Append → Part (h ++ op ∷ [])
  own_more h op p q e = part_more h op p q.0 (append_good l h op e)

  not_refused : (h : History) (w : List Operation) (op : Operation) (x : OpFault) → Part h → ((o : Operation) → In w o → In g o) → Own op → answer h w op ≡ Refused x → ⊥
  not_refused h w op x p pw q e = elim (never_refused g h w op lg p.0 p.1 pw q.0) [
    | inl b ↦ q.1 b.0 b.1
    | inr r ↦ elim r [
      | inl a ↦ apart_repeat (sym a ∙ e)
      | inr s ↦ elim s [ inl a ↦ apart_waits a.0.0 a.0.1 (sym a.1 ∙ e) | inr a ↦ apart_good (sym a ∙ e) ]
    ]
  ]
    where
      apart_repeat : Repeat ≡ Refused x → ⊥
      apart_repeat i = cc

      apart_waits : (r v : ℕ) → Waits r v ≡ Refused x → ⊥
      apart_waits r v i = cc

      apart_good : Good ≡ Refused x → ⊥
      apart_good i = cc

  none_waits : (o : Operation) → In [] o → In g o
  none_waits o j = absurd j

  abbrev pub Held : State → Operation → Type 0
  Held s o = In s.history o ⊎ In s.waiting o

  pass_held : (h : History) (w : List Operation) → Part h → AllByRecursion Own w → NoneFull (pass l h w).refused → (o : Operation) → In h o ⊎ In w o → Held (pass l h w) o
  unfolding pass
  pass_held h [] p q nf o i = i
  pass_held h (op ∷ w) p q nf o i = subst (λ (s : State). Held s o) (sym (pass_is l h op w))
      (go (turn l h op) refl (subst (λ (s : State). NoneFull s.refused) (pass_is l h op w) nf) (λ k a n b. pass_held k w a q.1 n o b))
    where
      go : (t : Turn) → turn l h op ≡ t → NoneFull (after t l h op w).refused → ((k : History) → Part k → NoneFull (pass l k w).refused → In k o ⊎ In w o → Held (pass l k w) o) → Held (after t l h op w) o
      go Append e n f = f (h ++ op ∷ []) (own_more h op p q.0 e) n (elim i [
        | inl a ↦ inl (member_left o h (op ∷ []) a)
        | inr b ↦ elim b [ inl c ↦ inl (subst (In (h ++ op ∷ [])) (sym c) (in_last h op)) | inr c ↦ inr c ]
      ])
      go Drop e n f = f h p n (elim i [
        | inl a ↦ inl a
        | inr b ↦ elim b [
          | inl c ↦ elim (repeat_in h [] op (under_repeat l.endings h [] op (drop_repeat l h op e)).0) [ inl d ↦ inl (subst (In h) (sym c) d) | inr d ↦ absurd d ]
          | inr c ↦ inr c
        ]
      ])
      go Stay e n f = elim i [
        | inl a ↦ under (f h p n (inl a))
        | inr b ↦ elim b [ inl c ↦ inr (inl c) | inr c ↦ under (f h p n (inr c)) ]
      ]
        where
          under : Held (pass l h w) o → Held (after Stay l h op w) o
          under (inl a) = inl a
          under (inr b) = inr (inr b)
      go (Refuse x) e n f = absurd (elim (refuse_why l h op x (kg op q.0.0) e) [
        | inl a ↦ not_refused h [] op x p none_waits q.0 a
        | inr a ↦ (let k = full_is l h op x a.1 in n k.0 k.1 k.2 (stamp_of op) (inl (ap (λ (y : OpFault). (stamp_of op, y)) (sym k.3))))
      ])

  passes_held : (n : ℕ) (h : History) (w : List Operation) → Part h → AllByRecursion Own w → NoneFull (passes n l h w).refused → (o : Operation) → In h o ⊎ In w o → Held (passes n l h w) o
  unfolding passes
  passes_held zero h w p q nf o i = i
  passes_held (suc n) h w p q nf o i = let k = pass_keeps l Part Own own_more h w p q in
      go (eqb (length (pass l h w).history) (length h)) nf (λ x. pass_held h w p q x o i) (λ x j. passes_held n (pass l h w).history (pass l h w).waiting k.0 k.1 x o j)
    where
      both : State
      both = let r : State = passes n l (pass l h w).history (pass l h w).waiting in record { history = r.history; waiting = r.waiting; refused = (pass l h w).refused ++ r.refused }

      go : (b : Bool) → NoneFull (cond b (pass l h w) both).refused → (NoneFull (pass l h w).refused → Held (pass l h w) o)
          → (NoneFull (passes n l (pass l h w).history (pass l h w).waiting).refused → Held (pass l h w) o → Held (passes n l (pass l h w).history (pass l h w).waiting) o)
          → Held (cond b (pass l h w) both) o
      go true x a b = a x
      go false x a b = let r : State = passes n l (pass l h w).history (pass l h w).waiting in
          b (none_right (pass l h w).refused r.refused x) (a (none_left (pass l h w).refused r.refused x))

  settled_held : (h : History) (w : List Operation) → Part h → AllByRecursion Own w → NoneFull (settle l h w).refused → (o : Operation) → In h o ⊎ In w o → Held (settle l h w) o
  unfolding settle
  settled_held h w p q nf o i = passes_held (suc (length w)) h w p q nf o i

  -- ---- calls

  abbrev pub Fits : State → Type 0
  Fits s = Part s.history × AllByRecursion Own s.waiting

  settle_fits : (s : State) → Fits s → Fits (settle_step l s)
  settle_fits s f = settled_keeps l Part Own own_more s.history s.waiting f.0 f.1

  settle_held : (s : State) → Fits s → NoneFull (settle_step l s).refused → (o : Operation) → Held s o → Held (settle_step l s) o
  settle_held s f n o i = settled_held s.history s.waiting f.0 f.1 (none_right s.refused (settle l s.history s.waiting).refused n) o i

  applied_fits : (op : Operation) (s : State) → Fits s → In g op → answer s.history [] op ≡ Good → Fits (with_applied op s)
  applied_fits op s f i e = (part_more s.history op f.0 i e, f.1)

  applied_held : (op : Operation) (s : State) (o : Operation) → Held s o → Held (with_applied op s) o
  applied_held op s o i = elim i [ inl a ↦ inl (member_left o s.history (op ∷ []) a) | inr b ↦ inr b ]

  waiting_part : (s : State) → Fits s → (o : Operation) → In s.waiting o → In g o
  waiting_part s f o i = (each_in Own s.waiting o f.1 i).0

  -- what a step takes stays held, and what it brings becomes so
  abbrev pub Steps : State → State → Option Operation → Type 0
  Steps s n b = Fits n × ((o : Operation) → Held s o → Held n o) × ((o : Operation) → b ≡ Some o → Held n o)

  plain_take : (s : State) (op : Operation) → In g op → take_answer l s op ≡ ask_limits (answer s.history s.waiting op) (full_fault l s.history op)
  plain_take s op i = ap (λ (a : Answer). ask_limits a (full_fault l s.history op)) (under_clean l.endings s.history s.waiting op (kg op i))

  taken : (t : List ℕ) (op : Operation) (s : State) → Fits s → In s.history (base t) → In g op → TakesNoFull l (Takes op) s → NoneFull (step l 0 (Takes op) s).refused
      → Steps s (step l 0 (Takes op) s) (Some op)
  taken t op s f b i na nf = go (take_answer l s op) refl nf
    where
      plain : take_answer l s op ≡ ask_limits (answer s.history s.waiting op) (full_fault l s.history op)
      plain = ap (λ (a : Answer). ask_limits a (full_fault l s.history op)) (under_clean l.endings s.history s.waiting op (kg op i))

      full_none : answer s.history s.waiting op ≡ Good → full_fault l s.history op ≡ None
      full_none e = none (full_fault l s.history op) refl
        where
          none : (x : Option OpFault) → full_fault l s.history op ≡ x → full_fault l s.history op ≡ None
          none None q = q
          none (Some x) q = let k = full_is l s.history op x q in absurd (na k.0 k.1 k.2 (plain ∙ (λ j. ask_limits (e j) (q j)) ∙ ap Refused k.3))

      is_op : (o : Operation) → Some op ≡ Some o → op ≡ o
      is_op o e = cc

      -- a base that is taken is the base
      is_base : (u : List ℕ) → op ≡ base u → In s.history op
      is_base u e = subst (In s.history) (distinct_same g (base t) op (lawful_ready g lg).0.distinct (f.0.1 (base t) b) i (sym (ap stamp_of e))) b

      go : (a : Answer) → take_answer l s op ≡ a → Unfull (elim a [ Good ↦ settle_step l (with_applied op s) | Repeat ↦ s | Waits q v ↦ with_deferred op s | Refused x ↦ s ])
          → Steps s (elim a [ Good ↦ settle_step l (with_applied op s) | Repeat ↦ s | Waits q v ↦ with_deferred op s | Refused x ↦ s ]) (Some op)
      go Good e x =
          let k = good_alone s.history s.waiting op (limited_good (answer s.history s.waiting op) (full_fault l s.history op) (sym plain ∙ e)) in
          let n : State = with_applied op s in
          let m = applied_fits op s f i k in
          (settle_fits n m, (λ o j. settle_held n m x o (applied_held op s o j)), (λ o j. settle_held n m x o (inl (subst (In n.history) (is_op o j) (in_last s.history op)))))
      go Repeat e x = (f, (λ o j. j), (λ o j. subst (Held s) (is_op o j) (repeat_in s.history s.waiting op (limited_repeat (answer s.history s.waiting op) (full_fault l s.history op) (sym plain ∙ e)))))
      go (Waits q v) e x =
          let w = limited_waits (answer s.history s.waiting op) (full_fault l s.history op) q v (sym plain ∙ e) in (
            (f.0, each_insert Own older op s.waiting (i, λ u z. bad u z w) f.1),
            (λ o j. elim j [ inl a ↦ inl a | inr c ↦ inr (member_past older o op s.waiting c) ]),
            (λ o j. inr (subst (λ (y : Operation). In (insert_by older op s.waiting) y) (is_op o j) (member_one older op s.waiting))),
          )
        where
          bad : (u : List ℕ) → op ≡ base u → answer s.history s.waiting op ≡ Waits q v → ⊥
          bad u z w = let r : Refused BadStamp ≡ Waits q v = sym (base_bad s.history s.waiting u) ∙ subst (λ (y : Operation). answer s.history s.waiting y ≡ Waits q v) z w in cc
      go (Refused y) e x = (f, (λ o j. j), (λ o j. subst (Held s) (is_op o j) (here (limited_refused (answer s.history s.waiting op) (full_fault l s.history op) y full_none (sym plain ∙ e)))))
        where
          here : answer s.history s.waiting op ≡ Refused y → Held s op
          here r = elim (never_refused g s.history s.waiting op lg f.0.0 f.0.1 (waiting_part s f) i) [
            | inl c ↦ inl (is_base c.0 c.1)
            | inr c ↦ elim c [
              | inl a ↦ repeat_in s.history s.waiting op a
              | inr d ↦ elim d [ inl a ↦ apart_waits a.0.0 a.0.1 (sym a.1 ∙ r) | inr a ↦ apart_good (sym a ∙ r) ]
            ]
          ]
            where
              apart_waits : (q v : ℕ) → Waits q v ≡ Refused y → Held s op
              apart_waits q v z = cc

              apart_good : Good ≡ Refused y → Held s op
              apart_good z = cc

  made_step : (s : State) (m : Operation) → Fits s → In g m → answer s.history [] m ≡ Good → Steps s (with_applied m s) (Some m)
  made_step s m f i e = (applied_fits m s f i e, (λ o j. applied_held m s o j), (λ o j. inl (subst (In (s.history ++ m ∷ [])) (is o j) (in_last s.history m))))
    where
      is : (o : Operation) → Some m ≡ Some o → m ≡ o
      is o j = cc

  still_step : (s : State) → Fits s → Steps s s None
  still_step s f = (f, (λ o j. j), (λ o j. absurd (none-some o j)))

  module _ (r : ℕ) (ir : IsReplica r) (t : List ℕ) where
    step_all : (c : Step) (s : State) → is_forgetting c ≡ false → IsProperStep c → Holds s → Fits s → In s.history (base t) → TakesNoFull l c s → NoneFull (step l r c s).refused
        → ((o : Operation) → operation_of_call l r c s ≡ Some o → In g o) → Steps s (step l r c s) (operation_of_call l r c s)
    step_all (Edits ps) s nf0 p h f b na nf w = elim (none_or (local_edit_fault l.limits s.history (pieces_under l.endings ps))) [
      | inl e ↦ (let i : In g (local_edit s.history r (pieces_under l.endings ps)) = w (local_edit s.history r (pieces_under l.endings ps)) (rw e refl) in rw e (made_step s (local_edit s.history r (pieces_under l.endings ps)) f i (edit_good l.limits s.history r (pieces_under l.endings ps) h.0 h.1 ir e).0))
      | inr e ↦ rw e (still_step s f)
    ]
    step_all (Undoes ts) s nf0 p h f b na nf w = elim (none_or (local_undo_fault l.limits s.history ts)) [
      | inl e ↦ (let i : In g (local_undo s.history r ts) = w (local_undo s.history r ts) (rw e refl) in rw e (made_step s (local_undo s.history r ts) f i (undo_good l.limits s.history r ts h.0 h.1 ir e)))
      | inr e ↦ rw e (still_step s f)
    ]
    step_all (Takes op) s nf0 p h f b na nf w = taken t op s f b (w op refl) na nf
    step_all (Forgets x) s nf0 p h f b na nf w = cc
    step_all Settles s nf0 p h f b na nf w = (settle_fits s f, (λ o j. settle_held s f nf o j), (λ o j. absurd (none-some o j)))

    -- what was refused stays refused
    earlier : (c : Step) (s : State) → NoneFull (step l r c s).refused → NoneFull s.refused
    earlier (Edits ps) s n = elim (none_or (local_edit_fault l.limits s.history (pieces_under l.endings ps))) [ inl e ↦ (let m : NoneFull s.refused = rw e at n in m) | inr e ↦ (let m : NoneFull s.refused = rw e at n in m) ]
    earlier (Undoes ts) s n = elim (none_or (local_undo_fault l.limits s.history ts)) [ inl e ↦ (let m : NoneFull s.refused = rw e at n in m) | inr e ↦ (let m : NoneFull s.refused = rw e at n in m) ]
    earlier (Takes op) s n = go (take_answer l s op) n
      where
        go : (a : Answer) → Unfull (elim a [ Good ↦ settle_step l (with_applied op s) | Repeat ↦ s | Waits q v ↦ with_deferred op s | Refused x ↦ s ]) → NoneFull s.refused
        go Good x = none_left s.refused (settle l (s.history ++ op ∷ []) s.waiting).refused x
        go Repeat x = x
        go (Waits q v) x = x
        go (Refused y) x = x
    earlier (Forgets x) s n = n
    earlier Settles s n = none_left s.refused (settle l s.history s.waiting).refused n

    none_yet : (cs : List Step) (s : State) → NoFull l r cs s → NoneFull s.refused
    none_yet [] s n = none_left s.refused (settle l s.history s.waiting).refused n
    none_yet (c ∷ cs) s n = earlier c s (none_yet cs (step l r c s) n.1)

    none_at_end : (cs : List Step) (s : State) → NoFull l r cs s → NoneFull (settle_step l (run l r cs s)).refused
    none_at_end [] s n = n
    none_at_end (c ∷ cs) s n = none_at_end cs (step l r c s) n.1

    some_in : (b : Option Operation) (xs : List Operation) (o : Operation) → b ≡ Some o → Member o (option_to_list b ++ xs)
    some_in None xs o e = cc
    some_in (Some x) xs o e = let i : x ≡ o = cc in inl (sym i)

    from_in : (b : Option Operation) (xs : List Operation) (o : Operation) → Member o (option_to_list b ++ xs) → (b ≡ Some o) ⊎ Member o xs
    from_in None xs o m = inr m
    from_in (Some x) xs o m = elim m [ inl e ↦ inl (ap Some (sym e)) | inr n ↦ inr n ]

    base_stays : (s : State) → Fits s → Held s (base t) → In s.history (base t)
    base_stays s f j = elim j [ inl a ↦ a | inr c ↦ absurd ((each_in Own s.waiting (base t) f.1 c).1 t refl) ]

    run_all : (cs : List Step) (s : State) → NoneForgotten cs → AllByRecursion IsProperStep cs → Holds s → Fits s → In s.history (base t) → NoFull l r cs s → ((o : Operation) → Member o (operations_of_calls l r cs s) → In g o)
        → Fits (run l r cs s) × ((o : Operation) → Held s o → Held (run l r cs s) o) × ((o : Operation) → Member o (operations_of_calls l r cs s) → Held (run l r cs s) o)
    run_all [] s g0 p h f b nf w = (f, (λ o j. j), (λ o j. absurd j))
    run_all (c ∷ cs) s g0 p h f b nf w =
        let n : State = step l r c s in
        let rest : List Operation = operations_of_calls l r cs n in
        let k = step_all c s g0.0 p.0 h f b nf.0 (none_yet cs n nf.1) (λ o e. w o (some_in (operation_of_call l r c s) rest o e)) in
        let i = run_all cs n g0.1 p.1 (step_holds l r c s ir p.0 h) k.0 (base_stays n k.0 (k.1 (base t) (inl b))) nf.1 (λ o m. w o (member_right o (option_to_list (operation_of_call l r c s)) rest m)) in
        (i.0, (λ o j. i.1 o (k.1 o j)), (λ o m. elim (from_in (operation_of_call l r c s) rest o m) [ inl e ↦ i.1 o (k.2 o e) | inr x ↦ i.2 o x ]))

    -- ---- where the limits hold the set, nothing is refused

    module _ (room : Roomy) where
      pass_none : (h : History) (w : List Operation) → Part h → AllByRecursion Own w → (pass l h w).refused ≡ []
      unfolding pass
      pass_none h [] p q = refl
      pass_none h (op ∷ w) p q = ap (λ (s : State). s.refused) (pass_is l h op w) ∙ go (turn l h op) refl (λ k a. pass_none k w a q.1)
        where
          go : (x : Turn) → turn l h op ≡ x → ((k : History) → Part k → (pass l k w).refused ≡ []) → (after x l h op w).refused ≡ []
          go Append e f = f (h ++ op ∷ []) (own_more h op p q.0 e)
          go Drop e f = f h p
          go Stay e f = f h p
          go (Refuse x) e f = absurd (elim (refuse_why l h op x (kg op q.0.0) e) [
            | inl a ↦ not_refused h [] op x p none_waits q.0 a
            | inr a ↦ apart (sym (room h op p q.0.0 a.0) ∙ a.1)
          ])
            where
              apart : None ≡ Some x → ⊥
              apart i = cc

      passes_none : (n : ℕ) (h : History) (w : List Operation) → Part h → AllByRecursion Own w → (passes n l h w).refused ≡ []
      unfolding passes
      passes_none zero h w p q = refl
      passes_none (suc n) h w p q = let k = pass_keeps l Part Own own_more h w p q in
          go (eqb (length (pass l h w).history) (length h)) (pass_none h w p q) (passes_none n (pass l h w).history (pass l h w).waiting k.0 k.1)
        where
          go : (b : Bool) → (pass l h w).refused ≡ [] → (passes n l (pass l h w).history (pass l h w).waiting).refused ≡ []
              → (cond b (pass l h w) (let x : State = passes n l (pass l h w).history (pass l h w).waiting in record { history = x.history; waiting = x.waiting; refused = (pass l h w).refused ++ x.refused })).refused ≡ []
          go true a b = a
          go false a b = rw (a, b) refl

      settle_none : (s : State) → Fits s → s.refused ≡ [] → (settle_step l s).refused ≡ []
      unfolding settle
      settle_none s f e = rw (e, passes_none (suc (length s.waiting)) s.history s.waiting f.0 f.1) refl

      step_none : (c : Step) (s : State) → IsProperStep c → Holds s → Fits s → s.refused ≡ [] → ((o : Operation) → operation_of_call l r c s ≡ Some o → In g o) → (step l r c s).refused ≡ []
      step_none (Edits ps) s p h f e w = elim (none_or (local_edit_fault l.limits s.history (pieces_under l.endings ps))) [ inl i ↦ rw i e | inr i ↦ rw i e ]
      step_none (Undoes ts) s p h f e w = elim (none_or (local_undo_fault l.limits s.history ts)) [ inl i ↦ rw i e | inr i ↦ rw i e ]
      step_none (Takes op) s p h f e w = go (take_answer l s op) refl
        where
          go : (a : Answer) → take_answer l s op ≡ a → Clear (elim a [ Good ↦ settle_step l (with_applied op s) | Repeat ↦ s | Waits q v ↦ with_deferred op s | Refused x ↦ s ])
          go Good i = settle_none (with_applied op s) (applied_fits op s f (w op refl) (good_alone s.history s.waiting op (limited_good (answer s.history s.waiting op) (full_fault l s.history op) (sym (plain_take s op (w op refl)) ∙ i)))) e
          go Repeat i = e
          go (Waits q v) i = e
          go (Refused x) i = e
      step_none (Forgets x) s p h f e w = e
      step_none Settles s p h f e w = settle_none s f e

      takes_none : (c : Step) (s : State) → Fits s → ((o : Operation) → operation_of_call l r c s ≡ Some o → In g o) → TakesNoFull l c s
      takes_none (Edits ps) s f w = tt
      takes_none (Undoes ts) s f w = tt
      takes_none (Takes op) s f w = λ u n m e. not_full u n m
          (limited_refused (answer s.history s.waiting op) (full_fault l s.history op) (Full u n m) (λ a. room s.history op f.0 (w op refl) (good_alone s.history s.waiting op a)) (sym (plain_take s op (w op refl)) ∙ e))
        where
          apart_base : (u : LimitUnit) (n m : ℕ) (x : List ℕ) → op ≡ base x → answer s.history s.waiting op ≡ Refused (Full u n m) → ⊥
          apart_base u n m x z a = let i : Refused BadStamp ≡ Refused (Full u n m) = sym (base_bad s.history s.waiting x) ∙ subst (λ (y : Operation). answer s.history s.waiting y ≡ Refused (Full u n m)) z a in cc

          apart_repeat : (x : OpFault) → Repeat ≡ Refused x → ⊥
          apart_repeat x i = cc

          apart_waits : (q v : ℕ) (x : OpFault) → Waits q v ≡ Refused x → ⊥
          apart_waits q v x i = cc

          apart_good : (x : OpFault) → Good ≡ Refused x → ⊥
          apart_good x i = cc

          not_full : (u : LimitUnit) (n m : ℕ) → answer s.history s.waiting op ≡ Refused (Full u n m) → ⊥
          not_full u n m a = elim (never_refused g s.history s.waiting op lg f.0.0 f.0.1 (waiting_part s f) (w op refl)) [
            | inl b ↦ apart_base u n m b.0 b.1 a
            | inr b ↦ elim b [
              | inl c ↦ apart_repeat (Full u n m) (sym c ∙ a)
              | inr c ↦ elim c [ inl x ↦ apart_waits x.0.0 x.0.1 (Full u n m) (sym x.1 ∙ a) | inr x ↦ apart_good (Full u n m) (sym x ∙ a) ]
            ]
          ]
      takes_none Settles s f w = tt
      takes_none (Forgets x) s f w = tt

      runs_none : (cs : List Step) (s : State) → NoneForgotten cs → AllByRecursion IsProperStep cs → Holds s → Fits s → In s.history (base t) → s.refused ≡ [] → ((o : Operation) → Member o (operations_of_calls l r cs s) → In g o) → NoFull l r cs s
      runs_none [] s g0 p h f b e w = none_empty (settle_step l s).refused (settle_none s f e)
      runs_none (c ∷ cs) s g0 p h f b e w =
          let n : State = step l r c s in
          let rest : List Operation = operations_of_calls l r cs n in
          let own : (o : Operation) → operation_of_call l r c s ≡ Some o → In g o = λ o i. w o (some_in (operation_of_call l r c s) rest o i) in
          let z : n.refused ≡ [] = step_none c s p.0 h f e own in
          let na = takes_none c s f own in
          let k = step_all c s g0.0 p.0 h f b na (none_empty n.refused z) own in
          (na, runs_none cs n g0.1 p.1 (step_holds l r c s ir p.0 h) k.0 (base_stays n k.0 (k.1 (base t) (inl b))) z (λ o m. w o (member_right o (option_to_list (operation_of_call l r c s)) rest m)))

-- a state before the calls, in which a base t is applied
module _ (l : Rules) (r : ℕ) (t : List ℕ) (cs : List Step) (s : State) (g : History) (ir : IsReplica r) (p : AllByRecursion IsProperStep cs) (nf0 : NoneForgotten cs) (lg : Lawful g) (kg : (o : Operation) → In g o → rule_fault l.endings o ≡ None)
    (h : Holds s) (f : Fits l g lg kg s) (b : In s.history (base t)) (inside : (o : Operation) → Member o (operations_of_calls l r cs s) → In g o) where
  pub room_enough : Roomy l g lg kg → s.refused ≡ [] → NoFull l r cs s
  room_enough room e = runs_none l g lg kg r ir t room cs s nf0 p h f b e inside

  pub applied_whole : NoFull l r cs s → ((o : Operation) → In g o → Held l g lg kg s o ⊎ Member o (operations_of_calls l r cs s)) → SameSet (settle_step l (run l r cs s)).history g
  applied_whole nf all =
      let k = run_all l g lg kg r ir t cs s nf0 p h f b nf inside in
      let n : State = run l r cs s in
      let m : State = settle_step l n in
      let fits = settle_fits l g lg kg n k.0 in
      let held : (o : Operation) → In g o → In m.history o ⊎ In m.waiting o = λ o i. settle_held l g lg kg n k.0 (none_at_end l g lg kg r ir t cs s nf) o
      (elim (all o i) [ inl e ↦ k.1 o e | inr x ↦ k.2 o x ]) in
      λ o. ((λ i. fits.0.1 o i), (λ i. all_applied g m.history m.waiting lg held (settled_misses l n.history n.waiting) o i))
