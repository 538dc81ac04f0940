-- Laws of what sums of fragments see, and of how early they begin.
use Rattle.std.proofs.Common.{◌≡◌, ◌<◌, Bool, true, false, ◌&&◌, min, List, [], ◌∷◌, refl, sym, ap, ◌∙◌, arith, inl, inr}
use Rattle.std.proofs.lemmas.Bool.{cases_Bool, leb-false, lt-leb, or_parts, or_from}
use Rattle.lamport_clock.specs.declared.stamp.Lamport.{Lamport}
use Rattle.lamport_clock.specs.Versions.{join_versions, sees}
use Rattle.lamport_clock.proofs.Raises.{by_order}
use Rattle.lamport_clock.proofs.Sees.{sees_joined}
use Rattle.fragments.specs.declared.fragment.FragmentSummary.{FragmentSummary}
use Rattle.fragments.specs.Summaries.{summaries}
use Rattle.fragments.specs.declared.spans.Span.{Span}
use Rattle.fragments.specs.Spans.{with_span, join_spans}
use Rattle.fragments.specs.SpanLaws.{past, at, before}
use Rattle.op_model.proofs.Elements.{false_from}
use Rattle.remote_edit.specs.Concern.{sees_edit, begins_by, may_concern, may_concern_any}

pub sees_parts : (t : Lamport) (a b : FragmentSummary) → sees_edit t (summaries a b) ≡ false → (sees_edit t a ≡ false) × (sees_edit t b ≡ false)
sees_parts t a b h =
    let j = sees_joined a.greatest b.greatest t in
    (false_from (sees a.greatest t) (sees (join_versions a.greatest b.greatest) t) j.0 h, false_from (sees b.greatest t) (sees (join_versions a.greatest b.greatest) t) j.1 h)

-- if no span begins by t after one is widened, neither did that span nor one of the others
wide_later : (t : Lamport) (x : Span) (u : List Span) → begins_by t (with_span x u) ≡ false → (t.value < x.least) × (begins_by t u ≡ false)
wide_later t x [] e = (leb-false x.least t.value (or_parts _ _ e).0, refl)
wide_later t x (y ∷ u) e = by_order _ y.replica x.replica
    (λ l. let k = or_parts _ _ (ap (begins_by t) (sym (past y u x l)) ∙ e) in let ih = wide_later t x u k.1 in (ih.0, or_from _ _ k.0 ih.1))
    (λ l. let k = or_parts _ _ (ap (begins_by t) (sym (at y u x l)) ∙ e) in let m : t.value < min y.least x.least = leb-false _ _ k.0 in
    ((omega arith), or_from _ _ (lt-leb y.least t.value (omega arith)) k.1))
    (λ l. let k = or_parts _ _ (ap (begins_by t) (sym (before y u x l)) ∙ e) in (leb-false _ _ k.0, k.1))

joined_later : (t : Lamport) (u v : List Span) → begins_by t (join_spans u v) ≡ false → (begins_by t u ≡ false) × (begins_by t v ≡ false)
joined_later t u [] e = (e, refl)
joined_later t u (x ∷ v) e =
    let ih = joined_later t (with_span x u) v e in
    let k = wide_later t x u ih.0 in
    (k.1, or_from _ _ (lt-leb x.least t.value k.0) ih.1)

concern_parts : (a b : FragmentSummary) (t : Lamport) → may_concern (summaries a b) t ≡ false → (may_concern a t ≡ false) × (may_concern b t ≡ false)
concern_parts a b t h = elim (cases_Bool (begins_by t (join_spans a.span b.span))) [
  | inr e ↦ (let k = joined_later t a.span b.span e in (rw k.0 refl, rw k.1 refl))
  | inl e ↦ (let s : sees (join_versions a.greatest b.greatest) t ≡ false = ap (λ (x : Bool). x && sees (join_versions a.greatest b.greatest) t) (sym e) ∙ h in
      let j = sees_joined a.greatest b.greatest t in
      (unseen (begins_by t a.span) (sees a.greatest t) j.0 s, unseen (begins_by t b.span) (sees b.greatest t) j.1 s))
]
  where
    unseen : (x y : Bool) → {z : Bool} → (y ≡ true → z ≡ true) → z ≡ false → (x && y) ≡ false
    unseen false y f e = refl
    unseen true false f e = refl
    unseen true true f e = let k = f refl in cc

pub concern_any_parts : (ts : List Lamport) (a b : FragmentSummary) → may_concern_any ts (summaries a b) ≡ false → (may_concern_any ts a ≡ false) × (may_concern_any ts b ≡ false)
concern_any_parts [] a b h = (refl, refl)
concern_any_parts (t ∷ ts) a b h =
    let k = or_parts (may_concern (summaries a b) t) (may_concern_any ts (summaries a b)) h in
    let i = concern_parts a b t k.0 in
    let ih = concern_any_parts ts a b k.1 in
    (or_from _ _ i.0 ih.0, or_from _ _ i.1 ih.1)
