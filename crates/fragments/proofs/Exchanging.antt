-- The sum of fragments after a part of them is replaced.
use Rattle.std.proofs.Common.{◌≡◌, ℕ, suc, ◌+◌, ◌<◌, ◌≤◌, ◌&&◌, Bool, true, false, List, [], ◌∷◌, Option, Some, None, cond, nat_lt, refl, sym, ap, subst, ◌∙◌, arith, eq-eqb}
use Rattle.std.proofs.lemmas.Bool.{and_parts, leb-true, eqb-true}
use Rattle.std.proofs.lemmas.Bool.Decides.{nat_tests}
use Rattle.std.specs.Cmp.Lexicographic.{slice_cmp}
use Rattle.std.specs.Ordering.{nat_cmp, is_le, ordering_reverse}
use Rattle.std.specs.declared.cmp.Ordering.{Ordering}
use Rattle.std.specs.declared.cmp.Ordering.TheVariants.{Less, Equal, Greater}
use Rattle.std.proofs.lemmas.Cmp.{nat_list_cmp_total}
use Rattle.sum_tree.specs.Exchange.{IsExchange}
use Rattle.lamport_clock.specs.declared.stamp.Lamport.{Lamport}
use Rattle.lamport_clock.specs.Versions.{Entries, AreEntriesFrom, AreEntries, raise, join_versions, within}
use Rattle.lamport_clock.proofs.Raises.{by_order, put_before, raise_new, raise-raise}
use Rattle.lamport_clock.proofs.Associative.{joined_assoc, joined_left, none_below}
use Rattle.lamport_clock.proofs.Joined.{joined_seen}
use Rattle.tree_cursor.specs.KeyLaws.{greater_assoc, greater_none}
use Rattle.locators.proofs.Between.{nat_cmp-Equal}
use Rattle.fragments.specs.declared.spans.Span.{Span}
use Rattle.fragments.specs.declared.fragment.FragmentSummary.{FragmentSummary}
use Rattle.fragments.specs.Spans.{hull, with_span, join_spans, AreSpansFrom, AreSpans, covers, covers_all}
use Rattle.fragments.specs.SpanLaws.{span_of, past, at, before, wide_out, spans_assoc, spans_left}
use Rattle.fragments.specs.Summaries.{summaries, IsSummary, Absorbs, id_less, greater_id}
use Rattle.fragments.specs.SummaryLaws.{id_order}
use Rattle.fragments.proofs.Entries.{then_equal}

-- the join of a whole and of what replaces a part of it, where this has all that the part has
module _ {X : Type 0} (join : X → X → X) (assoc : (a b c : X) → join (join a b) c ≡ join a (join b c)) where
  joined_exchange : (a x b y : X) → join x y ≡ y → join b y ≡ join y b → join (join (join a x) b) y ≡ join (join a y) b
  joined_exchange a x b y over comm =
      assoc (join a x) b y ∙ ap (join (join a x)) comm ∙ sym (assoc (join a x) y b) ∙ ap (λ (z : X). join z b) (assoc a x y ∙ ap (join a) over)

-- ---- ids

ids_equal : (a b : List ℕ) → slice_cmp nat_cmp a b ≡ Equal → a ≡ b
ids_equal [] [] e = refl
ids_equal [] (y ∷ ys) e = cc
ids_equal (x ∷ xs) [] e = cc
ids_equal (x ∷ xs) (y ∷ ys) e =
    let k = then_equal (nat_cmp x y) (slice_cmp nat_cmp xs ys) e in
    ap (λ (z : ℕ). z ∷ xs) (nat_cmp-Equal x y k.0) ∙ ap (λ (zs : List ℕ). y ∷ zs) (ids_equal xs ys k.1)

ids_comm_at : (a b : List ℕ) (ab ba : Ordering) → slice_cmp nat_cmp a b ≡ ab → slice_cmp nat_cmp b a ≡ ba → ab ≡ ordering_reverse ba → greater_id (Some a) (Some b) ≡ greater_id (Some b) (Some a)
ids_comm_at a b Less Less e f r = cc
ids_comm_at a b Less Equal e f r = cc
ids_comm_at a b Less Greater e f r = rw (e, f) refl
ids_comm_at a b Equal Less e f r = cc
ids_comm_at a b Equal Equal e f r = rw (e, f) (ap (λ (z : List ℕ). Some z) (ids_equal a b e))
ids_comm_at a b Equal Greater e f r = cc
ids_comm_at a b Greater Less e f r = rw (e, f) refl
ids_comm_at a b Greater Equal e f r = cc
ids_comm_at a b Greater Greater e f r = cc

ids_comm : (p q : Option (List ℕ)) → greater_id p q ≡ greater_id q p
ids_comm None None = refl
ids_comm None (Some b) = refl
ids_comm (Some a) None = refl
ids_comm (Some a) (Some b) = ids_comm_at a b (slice_cmp nat_cmp a b) (slice_cmp nat_cmp b a) refl refl (nat_list_cmp_total.antisymm a b)

id_under_at : (x y : List ℕ) (o : Ordering) → slice_cmp nat_cmp x y ≡ o → is_le o ≡ true → greater_id (Some x) (Some y) ≡ Some y
id_under_at x y Less e h = rw e refl
id_under_at x y Equal e h = rw e (ap (λ (z : List ℕ). Some z) (ids_equal x y e))
id_under_at x y Greater e h = cc

pub id_under : (x y : List ℕ) → is_le (slice_cmp nat_cmp x y) ≡ true → greater_id (Some x) (Some y) ≡ Some y
id_under x y h = id_under_at x y (slice_cmp nat_cmp x y) refl h

-- ---- spans

wide_front : (x : Span) (v : List Span) → AreSpansFrom (suc x.replica) v → with_span x v ≡ x ∷ v
wide_front x [] h = refl
wide_front x (y ∷ v) h = before y v x (omega (arith, h.0))

spans_comm : (n : ℕ) (u v : List Span) → AreSpans u → AreSpansFrom n v → join_spans u v ≡ join_spans v u
spans_comm n u [] p q = sym (spans_left 0 u p)
spans_comm n u (x ∷ v) p q =
    sym (wide_out x u v) ∙ ap (with_span x) (spans_comm (suc x.replica) u v p q.2) ∙ wide_out x v u ∙ ap (λ (w : List Span). join_spans w u) (wide_front x v q.2)

hull_covered : (y x : Span) → y.least ≤ x.least → x.greatest ≤ y.greatest → hull y x ≡ y
hull_covered y x l g = span_of refl (omega arith) (omega arith)

wide_covered : (u : List Span) (x : Span) → covers u x ≡ true → with_span x u ≡ u
wide_covered [] x h = cc
wide_covered (y ∷ u) x h = by_order _ y.replica x.replica
    (λ l. past y u x l ∙ ap (λ (w : List Span). y ∷ w) (wide_covered u x (grind (arith, nat_tests))))
    (λ l. let k : (y.least ≤ x.least) × (x.greatest ≤ y.greatest) = grind (arith, nat_tests) in at y u x l ∙ ap (λ (z : Span). z ∷ u) (hull_covered y x k.0 k.1))
    (λ l. grind (arith, nat_tests))

pub spans_covered : (u v : List Span) → covers_all u v ≡ true → join_spans u v ≡ u
spans_covered u [] h = refl
spans_covered u (x ∷ v) h =
    let k = and_parts (covers u x) (covers_all u v) h in
    ap (λ (w : List Span). join_spans w v) (wide_covered u x k.0) ∙ spans_covered u v k.1

-- ---- versions

raise_out : (t : Lamport) (u v : Entries) → raise (join_versions u v) t ≡ join_versions (raise u t) v
raise_out t u [] = refl
raise_out t u (e ∷ v) = raise_out t (raise u (record { value = e.1; replica = e.0 })) v ∙ ap (λ (z : Entries). join_versions z v) (raise-raise u (record { value = e.1; replica = e.0 }) t)

put_front : (e : ℕ × ℕ) (v : Entries) → AreEntriesFrom (suc e.0) v → 0 < e.1 → raise v (record { value = e.1; replica = e.0 }) ≡ e ∷ v
put_front e [] h p = raise_new [] (record { value = e.1; replica = e.0 }) (omega arith)
put_front e (d ∷ v) h p =
    let none = none_below (suc e.0) (d ∷ v) e.0 h (omega arith) in
    raise_new (d ∷ v) (record { value = e.1; replica = e.0 }) (omega arith) ∙ put_before d v e.0 e.1 (omega (arith, h.0))

versions_comm : (n : ℕ) (u v : Entries) → AreEntries u → AreEntriesFrom n v → join_versions u v ≡ join_versions v u
versions_comm n u [] p q = sym (joined_left 0 u p)
versions_comm n u (e ∷ v) p q =
    let s : Lamport = record { value = e.1; replica = e.0 } in
    sym (raise_out s u v) ∙ ap (λ (w : Entries). raise w s) (versions_comm (suc e.0) u v p q.2) ∙ raise_out s v u ∙ ap (λ (w : Entries). join_versions w u) (put_front e v q.2 q.1)

-- ---- sums

abbrev summary : ℕ → ℕ → Option (List ℕ) → List Span → Entries → FragmentSummary
summary v h i s g = record { visible = v; hidden = h; last_id = i; span = s; greatest = g }

parts : {v w h k : ℕ} {i j : Option (List ℕ)} {s t : List Span} {g e : Entries} → v ≡ w → h ≡ k → i ≡ j → s ≡ t → g ≡ e → summary v h i s g ≡ summary w k j t e
parts {v} {w} {h} {k} {i} {j} {s} {t} {g} {e} a b c d f = ap (λ x. summary x h i s g) a ∙ ap (λ x. summary w x i s g) b ∙ ap (λ x. summary w k x s g) c ∙ ap (λ x. summary w k j x g) d ∙ ap (summary w k j t) f

pub exchanged : (w x y s : FragmentSummary) → Absorbs y x → s.visible + x.visible ≡ w.visible + y.visible → s.hidden + x.hidden ≡ w.hidden + y.hidden → s.last_id ≡ greater_id w.last_id y.last_id → s.span ≡ join_spans w.span y.span → s.greatest ≡ join_versions w.greatest y.greatest → IsExchange summaries IsSummary w x y s
exchanged w x y s over shown hidden id span greatest = λ a b p q r t e.
    let over_spans : join_spans x.span y.span ≡ y.span = spans_comm 0 x.span y.span q.spans r.spans ∙ over.span in
    let over_versions : join_versions x.greatest y.greatest ≡ y.greatest = versions_comm 0 x.greatest y.greatest q.entries r.entries ∙ over.greatest in
    parts
    (omega (arith, shown, ap (λ (z : FragmentSummary). z.visible) e))
    (omega (arith, hidden, ap (λ (z : FragmentSummary). z.hidden) e))
    (id ∙ ap (λ (z : FragmentSummary). greater_id z.last_id y.last_id) e ∙ joined_exchange greater_id (greater_assoc id_less id_order) a.last_id x.last_id b.last_id y.last_id over.id (ids_comm b.last_id y.last_id))
    (span ∙ ap (λ (z : FragmentSummary). join_spans z.span y.span) e ∙ joined_exchange join_spans spans_assoc a.span x.span b.span y.span over_spans (spans_comm 0 b.span y.span t.spans r.spans))
    (greatest ∙ ap (λ (z : FragmentSummary). join_versions z.greatest y.greatest) e ∙ joined_exchange join_versions joined_assoc a.greatest x.greatest b.greatest y.greatest over_versions (versions_comm 0 b.greatest y.greatest t.entries r.entries))
