-- The join of spans is associative, and no spans are its unit; what a version sees of it, it sees of both parts.
use Rattle.std.proofs.Common.{◌≡◌, ℕ, suc, ◌<◌, ◌≤◌, List, [], ◌∷◌, refl, sym, ap, ◌∙◌, arith, true, max, min, subst}
use Rattle.std.proofs.lemmas.Bool.{and_parts, and_from, ltb-true, leb-true, le-leb, lt-ltb}
use Rattle.std.proofs.lemmas.Bool.Decides.{nat_tests}
use Rattle.lamport_clock.specs.Versions.{Entries, entry}
use Rattle.lamport_clock.proofs.Raises.{by_order}
use Rattle.fragments.specs.declared.spans.Span.{Span}
use Rattle.fragments.specs.Spans.{hull, with_span, join_spans, AreSpansFrom, AreSpans, sees_all, sees_none}

abbrev span : ℕ → ℕ → ℕ → Span
span r l g = record { replica = r; least = l; greatest = g }

pub span_of : {r s l m g h : ℕ} → r ≡ s → l ≡ m → g ≡ h → span r l g ≡ span s m h
span_of {r} {s} {l} {m} {g} {h} a b c = ap (λ x. span x l g) a ∙ ap (λ x. span s x g) b ∙ ap (span s m) c

hull_comm : (a b : Span) → a.replica ≡ b.replica → hull a b ≡ hull b a
hull_comm a b e = span_of e (omega arith) (omega arith)

hull_assoc : (e x y : Span) → hull (hull e y) x ≡ hull e (hull y x)
hull_assoc e x y = span_of refl (omega arith) (omega arith)

pub past : (y : Span) (u : List Span) (x : Span) → y.replica < x.replica → with_span x (y ∷ u) ≡ y ∷ with_span x u
past y u x h = grind (arith, nat_tests)

pub at : (y : Span) (u : List Span) (x : Span) → y.replica ≡ x.replica → with_span x (y ∷ u) ≡ hull y x ∷ u
at y u x h = grind (arith, nat_tests)

pub before : (y : Span) (u : List Span) (x : Span) → x.replica < y.replica → with_span x (y ∷ u) ≡ x ∷ y ∷ u
before y u x h = grind (arith, nat_tests)

wide_less : (x y : Span) (u : List Span) → x.replica < y.replica → with_span x (with_span y u) ≡ with_span y (with_span x u)
wide_less x y [] l = before y [] x l ∙ sym (past x [] y l)
wide_less x y (e ∷ u) l =
    let ih = wide_less x y u l in
    by_order _ e.replica x.replica
    (λ h. let k : e.replica < y.replica = omega arith in ap (with_span x) (past e u y k) ∙ past e (with_span y u) x h ∙ ap (λ z. e ∷ z) ih ∙ sym (ap (with_span y) (past e u x h) ∙ past e (with_span x u) y k))
    (λ h. let k : e.replica < y.replica = omega arith in ap (with_span x) (past e u y k) ∙ at e (with_span y u) x h ∙ sym (ap (with_span y) (at e u x h) ∙ past (hull e x) u y k))
    (λ h. let on = ap (with_span y) (before e u x h) ∙ past x (e ∷ u) y l in by_order _ e.replica y.replica
    (λ k. ap (with_span x) (past e u y k) ∙ before e (with_span y u) x h ∙ sym (on ∙ ap (λ z. x ∷ z) (past e u y k)))
    (λ k. ap (with_span x) (at e u y k) ∙ before (hull e y) u x h ∙ sym (on ∙ ap (λ z. x ∷ z) (at e u y k)))
    (λ k. ap (with_span x) (before e u y k) ∙ before y (e ∷ u) x l ∙ sym (on ∙ ap (λ z. x ∷ z) (before e u y k))))

wide_same : (x y : Span) (u : List Span) → x.replica ≡ y.replica → with_span x (with_span y u) ≡ with_span (hull y x) u
wide_same x y [] l = at y [] x (sym l)
wide_same x y (e ∷ u) l =
    let ih = wide_same x y u l in
    by_order _ e.replica y.replica
    (λ h. let k : e.replica < x.replica = omega arith in ap (with_span x) (past e u y h) ∙ past e (with_span y u) x k ∙ ap (λ z. e ∷ z) ih ∙ sym (past e u (hull y x) h))
    (λ h. ap (with_span x) (at e u y h) ∙ at (hull e y) u x (h ∙ sym l) ∙ ap (λ z. z ∷ u) (hull_assoc e x y) ∙ sym (at e u (hull y x) h))
    (λ h. ap (with_span x) (before e u y h) ∙ at y (e ∷ u) x (sym l) ∙ sym (before e u (hull y x) h))

wide_wide : (x y : Span) (u : List Span) → with_span x (with_span y u) ≡ with_span y (with_span x u)
wide_wide x y u = by_order _ x.replica y.replica
    (λ h. wide_less x y u h)
    (λ h. wide_same x y u h ∙ ap (λ z. with_span z u) (hull_comm y x (sym h)) ∙ sym (wide_same y x u (sym h)))
    (λ h. sym (wide_less y x u h))

pub wide_out : (x : Span) (u v : List Span) → with_span x (join_spans u v) ≡ join_spans (with_span x u) v
wide_out x u [] = refl
wide_out x u (y ∷ v) = wide_out x (with_span y u) v ∙ ap (λ z. join_spans z v) (wide_wide x y u)

wide_in : (x : Span) (u v : List Span) → join_spans u (with_span x v) ≡ with_span x (join_spans u v)
wide_in x u [] = refl
wide_in x u (y ∷ v) = by_order _ y.replica x.replica
    (λ h. ap (join_spans u) (past y v x h) ∙ wide_in x (with_span y u) v)
    (λ h. ap (join_spans u) (at y v x h) ∙ ap (λ z. join_spans z v) (sym (wide_same x y u (sym h))) ∙ sym (wide_out x (with_span y u) v))
    (λ h. ap (join_spans u) (before y v x h) ∙ ap (λ z. join_spans z v) (wide_wide y x u) ∙ sym (wide_out x (with_span y u) v))

pub spans_assoc : (a b c : List Span) → join_spans (join_spans a b) c ≡ join_spans a (join_spans b c)
spans_assoc a b [] = refl
spans_assoc a b (x ∷ c) = ap (λ z. join_spans z c) (sym (wide_in x a b)) ∙ spans_assoc a (with_span x b) c

spans_past : (n : ℕ) (d : Span) (u v : List Span) → AreSpansFrom n v → d.replica < n → join_spans (d ∷ u) v ≡ d ∷ join_spans u v
spans_past n d u [] h l = refl
spans_past n d u (x ∷ v) h l = let g = h.0 in ap (λ z. join_spans z v) (past d u x (omega arith)) ∙ spans_past (suc x.replica) d (with_span x u) v h.2 (omega arith)

pub spans_left : (n : ℕ) (v : List Span) → AreSpansFrom n v → join_spans [] v ≡ v
spans_left n [] h = refl
spans_left n (x ∷ v) h = spans_past (suc x.replica) x [] v h.2 (omega arith) ∙ ap (λ z. x ∷ z) (spans_left (suc x.replica) v h.2)

wide_kept : (n : ℕ) (x : Span) (u : List Span) → n ≤ x.replica → x.least ≤ x.greatest → AreSpansFrom n u → AreSpansFrom n (with_span x u)
wide_kept n x [] a b h = (a, b, tt)
wide_kept n x (y ∷ u) a b h = by_order _ y.replica x.replica
    (λ l. subst (AreSpansFrom n) (sym (past y u x l)) (h.0, h.1, wide_kept (suc y.replica) x u (omega arith) b h.2))
    (λ l. let g = h.1 in subst (AreSpansFrom n) (sym (at y u x l)) (h.0, (omega arith), h.2))
    (λ l. subst (AreSpansFrom n) (sym (before y u x l)) (a, b, (omega arith, h.1, h.2)))

pub spans_kept : (n : ℕ) (u v : List Span) → AreSpans u → AreSpansFrom n v → AreSpans (join_spans u v)
spans_kept n u [] a h = a
spans_kept n u (x ∷ v) a h = spans_kept (suc x.replica) (with_span x u) v (wide_kept 0 x u (omega arith) h.1 a) h.2

wide_some : (x : Span) (u : List Span) → with_span x u ≡ [] → ⊥
wide_some x [] e = cc
wide_some x (y ∷ u) e = by_order _ y.replica x.replica
    (λ l. let q = sym (past y u x l) ∙ e in cc)
    (λ l. let q = sym (at y u x l) ∙ e in cc)
    (λ l. let q = sym (before y u x l) ∙ e in cc)

pub spans_none : (u v : List Span) → join_spans u v ≡ [] → (u ≡ []) × (v ≡ [])
spans_none u [] e = (e, refl)
spans_none u (x ∷ v) e = absurd (wide_some x u (spans_none (with_span x u) v e).0)

-- ---- what a version sees of spans

all_wide : (v : Entries) (x : Span) (u : List Span) → sees_all v (with_span x u) ≡ true → (x.greatest ≤ entry v x.replica) × (sees_all v u ≡ true)
all_wide v x [] e = let k = and_parts _ _ e in (leb-true _ _ k.0, refl)
all_wide v x (y ∷ u) e = by_order _ y.replica x.replica
    (λ l. let k = and_parts _ _ (ap (sees_all v) (sym (past y u x l)) ∙ e) in let ih = all_wide v x u k.1 in (ih.0, and_from _ _ k.0 ih.1))
    (λ l. let k = and_parts _ _ (ap (sees_all v) (sym (at y u x l)) ∙ e) in let m : max y.greatest x.greatest ≤ entry v y.replica = leb-true _ _ k.0 in
    ((let q : entry v y.replica ≡ entry v x.replica = ap (entry v) l in omega arith), and_from _ _ (le-leb y.greatest (entry v y.replica) (omega arith)) k.1))
    (λ l. let k = and_parts _ _ (ap (sees_all v) (sym (before y u x l)) ∙ e) in (leb-true _ _ k.0, k.1))

pub all_parts : (v : Entries) (u w : List Span) → sees_all v (join_spans u w) ≡ true → (sees_all v u ≡ true) × (sees_all v w ≡ true)
all_parts v u [] e = (e, refl)
all_parts v u (x ∷ w) e = let ih = all_parts v (with_span x u) w e in let k = all_wide v x u ih.0 in (k.1, and_from _ _ (le-leb x.greatest (entry v x.replica) k.0) ih.1)

none_wide : (v : Entries) (x : Span) (u : List Span) → sees_none v (with_span x u) ≡ true → (entry v x.replica < x.least) × (sees_none v u ≡ true)
none_wide v x [] e = let k = and_parts _ _ e in (ltb-true _ _ k.0, refl)
none_wide v x (y ∷ u) e = by_order _ y.replica x.replica
    (λ l. let k = and_parts _ _ (ap (sees_none v) (sym (past y u x l)) ∙ e) in let ih = none_wide v x u k.1 in (ih.0, and_from _ _ k.0 ih.1))
    (λ l. let k = and_parts _ _ (ap (sees_none v) (sym (at y u x l)) ∙ e) in let m : entry v y.replica < min y.least x.least = ltb-true _ _ k.0 in
    ((let q : entry v y.replica ≡ entry v x.replica = ap (entry v) l in omega arith), and_from _ _ (lt-ltb (entry v y.replica) y.least (omega arith)) k.1))
    (λ l. let k = and_parts _ _ (ap (sees_none v) (sym (before y u x l)) ∙ e) in (ltb-true _ _ k.0, k.1))

pub none_parts : (v : Entries) (u w : List Span) → sees_none v (join_spans u w) ≡ true → (sees_none v u ≡ true) × (sees_none v w ≡ true)
none_parts v u [] e = (e, refl)
none_parts v u (x ∷ w) e = let ih = none_parts v (with_span x u) w e in let k = none_wide v x u ih.0 in (k.1, and_from _ _ (lt-ltb (entry v x.replica) x.least k.0) ih.1)

-- a version that sees all and none of some spans sees no spans
pub both_seen : (n : ℕ) (v : Entries) (u : List Span) → AreSpansFrom n u → sees_all v u ≡ true → sees_none v u ≡ true → u ≡ []
both_seen n v [] h a b = refl
both_seen n v (x ∷ u) h a b = let k : x.greatest ≤ entry v x.replica = leb-true _ _ (and_parts _ _ a).0 in let l : entry v x.replica < x.least = ltb-true _ _ (and_parts _ _ b).0 in let g = h.1 in absurd (omega arith)
