-- An operation of a lawful set is never refused by a history of operations of the set.
use Rattle.op_model.proofs.Elements.{each_map, each_filter, and_not, member_left, member_either, filter_has, filter_of, any_member}
use Rattle.std.proofs.Common.{◌≡◌, ℕ, zero, suc, ◌<◌, ◌≤◌, ◌⊎◌, Bool, List, [], ◌∷◌, ◌++◌, refl, sym, ◌∙◌, ap, subst, inl, inr, true, false, cond, not, ◌&&◌, ltb, arith, Some, None, Option}
use Rattle.std.specs.Prelude.{option_map, unwrap_or}
use Rattle.std.specs.List.{AllByRecursion, find}
use Rattle.std.proofs.lemmas.Bool.{cases_Bool, and_parts, leb-true, ltb-false, le-ltb, cases_lt}
use Rattle.lamport_clock.specs.declared.stamp.Lamport.{Lamport}
use Rattle.lamport_clock.specs.Stamps.{same_stamp}
use Rattle.lamport_clock.specs.Versions.{Entries, entry, sees, within}
use Rattle.lamport_clock.proofs.Later.{same_stamp_eq, stamp_path as stamp_is}
use Rattle.lamport_clock.proofs.EntryLists.{each_entry}
use Rattle.op_model.specs.declared.operation.Operation.{Operation}
use Rattle.op_model.specs.declared.operation.UndoCount.{UndoCount}
use Rattle.op_model.specs.declared.faults.OpFault.TheVariants.{Conflict, Forked, OpenVersion, NoSuchEdit}
use Rattle.op_model.specs.Choice.{first_of, when}
use Rattle.op_model.specs.Operations.{stamp_of, version_of, pieces_of, counts_of, is_edit}
use Rattle.op_model.specs.Histories.{History, In, SameSet, Distinct, base, version, has_edit, kept_history, seen_history}
use Rattle.op_model.specs.Cells.{everything}
use Rattle.op_model.specs.Shown.{full, full_where}
use Rattle.op_model.specs.Answers.{answer, shape_fault, any_equal, any_stamp, same_op, fork_fault, first_missing, open_replica, is_entry_closed, range_fault, count_fault}
use Rattle.op_model.specs.Answers.Answer.{Good, Repeat, Waits, Refused}
use Rattle.op_model.specs.Lawful.{Lawful, LawfulFrom}
use Rattle.op_model.proofs.order.SameSets.{newest_of_set}
use Rattle.op_model.proofs.histories.Lawful.{LawInv, Checked, greatest, entry_version, distinct_same, in_append}
use Rattle.op_model.proofs.answers.Passed.{Passed, passed, good, first_past, none_map, map_none, none_when, none_find, find_none}
use Rattle.op_model.proofs.answers.Good.{checked_of, lawful_ready}
use Rattle.op_model.proofs.histories.MoreLawful.{lawful_more}
use Rattle.op_model.proofs.histories.Causes.{named_at, lawful_opens}
use Rattle.op_model.proofs.histories.VersionLaws.{has_greatest}
use Rattle.op_model.proofs.histories.Proper.{is_same}
use Rattle.op_model.proofs.answers.SameAnswers.{any_from, any_same}

-- ---- parts of a history

pub in_part : (keep : Lamport → Bool) (h : History) (o : Operation) → In (kept_history keep h) o → In h o × (keep (stamp_of o) ≡ true)
in_part keep h o i = filter_of (λ (x : Operation). keep (stamp_of x)) o h i

pub part_in : (keep : Lamport → Bool) (h : History) (o : Operation) → In h o → keep (stamp_of o) ≡ true → In (kept_history keep h) o
part_in keep h o i k = filter_has (λ (x : Operation). keep (stamp_of x)) o h i k

distinct_part : (keep : Lamport → Bool) (h : History) → Distinct h → Distinct (kept_history keep h)
distinct_part keep [] d = tt
distinct_part keep (p ∷ h) d = elim (keep (stamp_of p)) as (λ b. Distinct (cond b (p ∷ kept_history keep h) (kept_history keep h))) [
  | true ↦ (each_filter (λ (q : Operation). stamp_of q ≡ stamp_of p → ⊥) (λ q. keep (stamp_of q)) h d.0, distinct_part keep h d.1)
  | false ↦ distinct_part keep h d.1
]

full_of_set : (h g : History) → Distinct h → Distinct g → SameSet h g → full h ≡ full g
unfolding full
full_of_set h g d e s = ap (full_where everything) (newest_of_set h g d e s)

module _ (g : History) (lg : Lawful g) where
  inv : LawInv g
  inv = (lawful_ready g lg).0

  positive : (o : Operation) → In g o → 0 < (stamp_of o).value
  positive o i = let a = inv.above o i 0 in omega arith

  module _ (h : History) (lh : Lawful h) (part : (o : Operation) → In h o → In g o) where
    low : LawInv h
    low = (lawful_ready h lh).0

    -- an operation of g that one of h has seen is in h
    down : (n : ℕ) (m o : Operation) → (stamp_of m).value < n → In h m → In g o → (stamp_of o).value ≤ entry (version_of m) (stamp_of o).replica → In h o
    down zero m o b i j s = absurd (omega arith)
    down (suc n) m o b i j s =
        let p = positive o j in
        let x : ℕ = entry (version_of m) (stamp_of o).replica in
        let w = named_at h (version_of m) (lawful_opens h lh m i) (stamp_of o).replica (omega arith) in
        let v : (stamp_of w.0).value ≡ x = ap (λ (t : Lamport). t.value) w.2 in
        let r : (stamp_of w.0).replica ≡ (stamp_of o).replica = ap (λ (t : Lamport). t.replica) w.2 in
        let a = low.above m i (stamp_of o).replica in
        elim (cases_lt (stamp_of o).value x) [
          | inl l ↦ down n w.0 o (omega arith) w.1 j (inv.chained o w.0 j (part w.0 w.1) (sym r) (omega arith))
          | inr l ↦ subst (In h) (distinct_same g w.0 o inv.distinct (part w.0 w.1) j (stamp_is (stamp_of w.0) (stamp_of o) (omega arith) r)) w.1
        ]

    -- and so is one of g whose value its replica's greatest in h does not pass
    pub top : (o : Operation) → In g o → (stamp_of o).value ≤ greatest h (stamp_of o).replica → In h o
    top o j s =
        let p = positive o j in
        let w = has_greatest h (stamp_of o).replica (omega arith) in
        let v : (stamp_of w.0).value ≡ greatest h (stamp_of o).replica = ap (λ (t : Lamport). t.value) w.2 in
        let r : (stamp_of w.0).replica ≡ (stamp_of o).replica = ap (λ (t : Lamport). t.replica) w.2 in
        elim (cases_lt (stamp_of o).value (stamp_of w.0).value) [
          | inl l ↦ down (suc (stamp_of w.0).value) w.0 o (omega arith) w.1 j (inv.chained o w.0 j (part w.0 w.1) (sym r) l)
          | inr l ↦ subst (In h) (distinct_same g w.0 o inv.distinct (part w.0 w.1) j (stamp_is (stamp_of w.0) (stamp_of o) (omega arith) r)) w.1
        ]

-- the base, or good against a lawful history of operations of g
good_place : (g : History) → Lawful g → (op : Operation) → In g op
    → ((t : List ℕ) × (op ≡ base t)) ⊎ ((p : History) × Lawful p × ((o : Operation) → In p o → In g o) × (answer p [] op ≡ Good))
good_place [] l op i = absurd i
good_place (b ∷ ops) l op i = elim i [
  | inl e ↦ inl (l.0.0, e ∙ l.0.1)
  | inr n ↦ inr (go (b ∷ []) ops (l.0, tt) l.1 (λ o j. elim j [ inl e ↦ inl e | inr x ↦ absurd x ]) (λ o j. inr j) op n)
]
  where
    go : (p qs : List Operation) → Lawful p → LawfulFrom p qs → ((o : Operation) → In p o → In (b ∷ ops) o) → ((o : Operation) → In qs o → In (b ∷ ops) o) → (op : Operation) → In qs op
        → (p : History) × Lawful p × ((o : Operation) → In p o → In (b ∷ ops) o) × (answer p [] op ≡ Good)
    go p [] a l f k op i = absurd i
    go p (q ∷ qs) a l f k op i = elim i [
      | inl e ↦ (p, a, f, subst (λ (x : Operation). answer p [] x ≡ Good) (sym e) l.0)
      | inr n ↦ go (p ++ q ∷ []) qs (lawful_more p q a l.0) l.1 (λ o j. elim (in_append p q o j) [ inl x ↦ f o x | inr x ↦ subst (In (b ∷ ops)) (sym x) (k q (inl refl)) ]) (λ o j. k o (inr j)) op n
    ]

module _ (g : History) (lg : Lawful g) (h : History) (lh : Lawful h) (part : (o : Operation) → In h o → In g o)
    (p : History) (lp : Lawful p) (before : (o : Operation) → In p o → In g o) (op : Operation) (there : In g op) (ok : answer p [] op ≡ Good) where
  was : Passed p [] op
  was = passed p [] op ok

  checks : Checked p op
  checks = (checked_of p op ok).0

  -- what op has seen of g is in p
  seen_before : (o : Operation) → In g o → sees (version_of op) (stamp_of o) ≡ true → In p o
  seen_before o i s = top g lg p lp before o i (let a = leb-true (stamp_of o).value (entry (version_of op) (stamp_of o).replica) s in let b = checks.caused (stamp_of o).replica in omega arith)

  module _ (caused : first_missing h (version_of op) ≡ None) where
    all_there : (r : ℕ) → entry (version_of op) r ≤ greatest h r
    all_there r = elim (cases_lt 0 (entry (version_of op) r)) [
      | inl q ↦ subst (λ (n : ℕ). entry (version_of op) r ≤ n) (entry_version h r) (ltb-false (entry (version h) r) (entry (version_of op) r)
          (each_entry (λ (e : ℕ × ℕ). ltb (entry (version h) e.0) e.1 ≡ false) (version_of op) r (find_none (λ e. ltb (entry (version h) e.0) e.1) (version_of op) caused) q))
      | inr q ↦ omega arith
    ]

    seen_here : (o : Operation) → In g o → sees (version_of op) (stamp_of o) ≡ true → In h o
    seen_here o i s = top g lg h lh part o i (let a = leb-true (stamp_of o).value (entry (version_of op) (stamp_of o).replica) s in let b = all_there (stamp_of o).replica in omega arith)

    same_seen : SameSet (seen_history p (version_of op)) (seen_history h (version_of op))
    same_seen o = (
      (λ i. (let w = in_part (sees (version_of op)) p o i in part_in (sees (version_of op)) h o (seen_here o (before o w.0) w.1) w.1)),
      (λ i. (let w = in_part (sees (version_of op)) h o i in part_in (sees (version_of op)) p o (seen_before o (part o w.0) w.1) w.1)),
    )

    same_full : full (seen_history p (version_of op)) ≡ full (seen_history h (version_of op))
    same_full = full_of_set (seen_history p (version_of op)) (seen_history h (version_of op)) (distinct_part (sees (version_of op)) p (lawful_ready p lp).0.distinct) (distinct_part (sees (version_of op)) h (lawful_ready h lh).0.distinct) same_seen

    same_edits : (t : Lamport) → has_edit (seen_history p (version_of op)) t ≡ has_edit (seen_history h (version_of op)) t
    same_edits t = any_same (λ o. is_edit o && same_stamp (stamp_of o) t) (seen_history p (version_of op)) (seen_history h (version_of op)) same_seen

    counts_here : count_fault (seen_history h (version_of op)) (counts_of op) ≡ None
    counts_here = none_map (λ c. NoSuchEdit c.edit) (find (λ c. not (has_edit (seen_history h (version_of op)) c.edit)) (counts_of op))
        (none_find (λ c. not (has_edit (seen_history h (version_of op)) c.edit)) (counts_of op)
        (each_map (λ (c : UndoCount). not (has_edit (seen_history p (version_of op)) c.edit) ≡ false) (λ (c : UndoCount). not (has_edit (seen_history h (version_of op)) c.edit) ≡ false)
        (λ c n. ap not (sym (same_edits c.edit)) ∙ n) (counts_of op)
        (find_none (λ c. not (has_edit (seen_history p (version_of op)) c.edit)) (counts_of op) (map_none (λ c. NoSuchEdit c.edit) (find (λ c. not (has_edit (seen_history p (version_of op)) c.edit)) (counts_of op)) was.counts))))

    open_here : open_replica h (version_of op) ≡ None
    open_here = none_map (λ e. e.0) (find (λ e. ltb 0 e.1 && not (is_entry_closed h (version_of op) e)) (version_of op))
        (none_find (λ e. ltb 0 e.1 && not (is_entry_closed h (version_of op) e)) (version_of op)
        (both (version_of op) (find_none (λ e. ltb 0 e.1 && not (is_entry_closed p (version_of op) e)) (version_of op) (map_none (λ e. e.0) (find (λ e. ltb 0 e.1 && not (is_entry_closed p (version_of op) e)) (version_of op)) was.closed))
        (find_none (λ e. ltb (entry (version h) e.0) e.1) (version_of op) caused)))
      where
        from_no : (x y : Bool) → (x && not y) ≡ false → x ≡ true → y ≡ true
        from_no true true e f = refl
        from_no true false e f = cc
        from_no false y e f = cc

        one : (e : ℕ × ℕ) → (ltb 0 e.1 && not (is_entry_closed p (version_of op) e)) ≡ false → ltb (entry (version h) e.0) e.1 ≡ false → (ltb 0 e.1 && not (is_entry_closed h (version_of op) e)) ≡ false
        one e a b = and_not (ltb 0 e.1) (is_entry_closed h (version_of op) e) (λ t.
            let w = any_from (λ o. same_stamp (stamp_of o) (record { value = e.1; replica = e.0 }) && within (version_of o) (version_of op)) p (from_no (ltb 0 e.1) (is_entry_closed p (version_of op) e) a t) in
            let s = same_stamp_eq (stamp_of w.0) (record { value = e.1; replica = e.0 }) (and_parts (same_stamp (stamp_of w.0) (record { value = e.1; replica = e.0 })) (within (version_of w.0) (version_of op)) w.2).0 in
            let v : (stamp_of w.0).value ≡ e.1 = ap (λ (x : Lamport). x.value) s in
            let r : (stamp_of w.0).replica ≡ e.0 = ap (λ (x : Lamport). x.replica) s in
            let c : e.1 ≤ greatest h e.0 = subst (λ (n : ℕ). e.1 ≤ n) (entry_version h e.0) (ltb-false (entry (version h) e.0) e.1 b) in
            let k : (stamp_of w.0).value ≤ greatest h (stamp_of w.0).replica = subst (λ (n : ℕ). (stamp_of w.0).value ≤ greatest h n) (sym r) (omega arith) in
            any_member (λ o. same_stamp (stamp_of o) (record { value = e.1; replica = e.0 }) && within (version_of o) (version_of op)) h w.0 (top g lg h lh part w.0 (before w.0 w.1) k) w.2)

        both : (v : Entries) → AllByRecursion (λ (e : ℕ × ℕ). (ltb 0 e.1 && not (is_entry_closed p (version_of op) e)) ≡ false) v → AllByRecursion (λ (e : ℕ × ℕ). ltb (entry (version h) e.0) e.1 ≡ false) v
            → AllByRecursion (λ (e : ℕ × ℕ). (ltb 0 e.1 && not (is_entry_closed h (version_of op) e)) ≡ false) v
        both [] a b = tt
        both (e ∷ v) a b = (one e a.0 b.0, both v a.1 b.1)

  chained_here : (In h op → ⊥) → fork_fault h op ≡ None
  chained_here new = none_when (ltb (entry (version_of op) (stamp_of op).replica) (entry (version h) (stamp_of op).replica)) (Forked (entry (version h) (stamp_of op).replica))
      (le-ltb (entry (version_of op) (stamp_of op).replica) (entry (version h) (stamp_of op).replica) (subst (λ (n : ℕ). n ≤ entry (version_of op) (stamp_of op).replica) (sym (entry_version h (stamp_of op).replica)) le))
    where
      r : ℕ
      r = (stamp_of op).replica

      le : greatest h (stamp_of op).replica ≤ entry (version_of op) (stamp_of op).replica
      le = elim (cases_lt 0 (greatest h (stamp_of op).replica)) [
        | inl q ↦ (let w = has_greatest h (stamp_of op).replica q in
            let v : (stamp_of w.0).value ≡ greatest h (stamp_of op).replica = ap (λ (t : Lamport). t.value) w.2 in
            let s : (stamp_of w.0).replica ≡ (stamp_of op).replica = ap (λ (t : Lamport). t.replica) w.2 in
            let i = (lawful_ready g lg).0 in
            elim (cases_lt (stamp_of w.0).value (stamp_of op).value) [
              | inl l ↦ (let c = subst (λ (n : ℕ). (stamp_of w.0).value ≤ entry (version_of op) n) s (i.chained w.0 op (part w.0 w.1) there s l) in omega arith)
              | inr l ↦ absurd (new (top g lg h lh part op there (omega arith)))
            ])
        | inr q ↦ omega arith
      ]

  -- a repeat, an operation that waits, or good
  pub fine : (w : List Operation) → ((o : Operation) → In w o → In g o)
      → (answer h w op ≡ Repeat) ⊎ (((e : ℕ × ℕ) × (answer h w op ≡ Waits e.0 e.1)) ⊎ (answer h w op ≡ Good))
  unfolding answer
  fine w pw = go (cases_Bool (any_equal (h ++ w) op))
    where
      past_shape : (r : List (Option Rattle.op_model.specs.Answers.Answer)) → first_of (option_map Refused (shape_fault op) ∷ r) ≡ first_of r
      past_shape r = first_past (option_map Refused (shape_fault op)) r (none_map Refused (shape_fault op) was.shape)

      in_both : (o : Operation) → In (h ++ w) o → In g o
      in_both o i = elim (member_either o h w i) [ inl a ↦ part o a | inr b ↦ pw o b ]

      no_stamp : any_equal (h ++ w) op ≡ false → any_stamp (h ++ w) op ≡ false
      no_stamp e = elim (cases_Bool (any_stamp (h ++ w) op)) [
        | inl t ↦ (let m = any_from (λ o. same_stamp (stamp_of o) (stamp_of op)) (h ++ w) t in
            let q : m.0 ≡ op = distinct_same g m.0 op (lawful_ready g lg).0.distinct (in_both m.0 m.1) there (same_stamp_eq (stamp_of m.0) (stamp_of op) m.2) in
            let y : any_equal (h ++ w) op ≡ true = any_member (λ o. same_op o op) (h ++ w) m.0 m.1 (subst (λ (x : Operation). same_op x op ≡ true) (sym q) (is_same op)) in cc)
        | inr f ↦ f
      ]

      not_in : any_equal (h ++ w) op ≡ false → In h op → ⊥
      not_in e i = let y : any_equal (h ++ w) op ≡ true = any_member (λ o. same_op o op) (h ++ w) op (member_left op h w i) (is_same op) in cc

      waits : any_equal (h ++ w) op ≡ false → (f : Option (ℕ × ℕ)) → first_missing h (version_of op) ≡ f
          → (answer h w op ≡ Repeat) ⊎ (((e : ℕ × ℕ) × (answer h w op ≡ Waits e.0 e.1)) ⊎ (answer h w op ≡ Good))
      waits e None f = inr (inr (good h w op (record {
        shape = was.shape;
        unequal = e;
        fresh = no_stamp e;
        chained = chained_here (not_in e);
        caused = f;
        closed = open_here f;
        ranges = subst (λ (x : List ℕ). range_fault x (pieces_of op) ≡ None) (same_full f) was.ranges;
        counts = counts_here f;
      })))
      waits e (Some x) f = inr (inl (
        x,
        ap (λ (o : Option Rattle.op_model.specs.Answers.Answer). unwrap_or o Good) (
            past_shape _
            ∙ first_past (when (any_equal (h ++ w) op) Repeat) _ (none_when (any_equal (h ++ w) op) Repeat e)
            ∙ first_past (when (any_stamp (h ++ w) op) (Refused (Conflict (stamp_of op)))) _ (none_when (any_stamp (h ++ w) op) (Refused (Conflict (stamp_of op))) (no_stamp e))
            ∙ first_past (option_map Refused (fork_fault h op)) _ (none_map Refused (fork_fault h op) (chained_here (not_in e)))
            ∙ ap (λ (o : Option (ℕ × ℕ)). first_of (option_map (λ (y : ℕ × ℕ). Waits y.0 y.1) o ∷ option_map (λ r. Refused (OpenVersion r)) (open_replica h (version_of op))
            ∷ option_map Refused (range_fault (full (seen_history h (version_of op))) (pieces_of op)) ∷ option_map Refused (count_fault (seen_history h (version_of op)) (counts_of op)) ∷ [])) f),
      ))

      go : (any_equal (h ++ w) op ≡ true) ⊎ (any_equal (h ++ w) op ≡ false)
          → (answer h w op ≡ Repeat) ⊎ (((e : ℕ × ℕ) × (answer h w op ≡ Waits e.0 e.1)) ⊎ (answer h w op ≡ Good))
      go (inl t) = inl (ap (λ (o : Option Rattle.op_model.specs.Answers.Answer). unwrap_or o Good) (past_shape _ ∙ again t))
        where
          again : any_equal (h ++ w) op ≡ true → first_of (when (any_equal (h ++ w) op) Repeat ∷ when (any_stamp (h ++ w) op) (Refused (Conflict (stamp_of op)))
              ∷ option_map Refused (fork_fault h op) ∷ option_map (λ (e : ℕ × ℕ). Waits e.0 e.1) (first_missing h (version_of op)) ∷ option_map (λ r. Refused (OpenVersion r)) (open_replica h (version_of op))
              ∷ option_map Refused (range_fault (full (seen_history h (version_of op))) (pieces_of op)) ∷ option_map Refused (count_fault (seen_history h (version_of op)) (counts_of op)) ∷ []) ≡ Some Repeat
          again t = rw t refl
      go (inr f) = waits f (first_missing h (version_of op)) refl

-- an operation of a lawful set, but its base, is at no history of operations of the set refused
pub never_refused : (g h : History) (w : List Operation) (op : Operation) → Lawful g → Lawful h → ((o : Operation) → In h o → In g o) → ((o : Operation) → In w o → In g o) → In g op
    → ((t : List ℕ) × (op ≡ base t)) ⊎ ((answer h w op ≡ Repeat) ⊎ (((e : ℕ × ℕ) × (answer h w op ≡ Waits e.0 e.1)) ⊎ (answer h w op ≡ Good)))
never_refused g h w op lg lh part pw i = elim (good_place g lg op i) [
  | inl b ↦ inl b
  | inr q ↦ inr (fine g lg h lh part q.0 q.1 q.2 op i q.3 w pw)
]
