-- The laws of places that count the cells a version sees.
use Rattle.std.specs.Prelude.{ℕ, [], ◌≡◌, ◌+◌, true, Bool, false, cond, Some, None, Option, nat_le, ◌≤◌}
use Rattle.std.proofs.Common.{◌⊎◌, ap, sym, inl, inr, refl, arith, ◌∙◌, ◌∷◌}
use Rattle.std.proofs.lemmas.Option.{same_Some}
use Rattle.std.proofs.lemmas.Bool.{and_from, leb-false, lt-ltb, cases_Bool}
use Rattle.fragments.specs.declared.fragment.FragmentSummary.{FragmentSummary}
use Rattle.fragments.specs.Spans.{sees_all, sees_none}
use Rattle.fragments.specs.Summaries.{IsSummary, summaries, no_fragments, IsOne}
use Rattle.fragments.specs.SpanLaws.{both_seen, all_parts, none_parts}
use Rattle.fragments.specs.SeenPlaces.{At, AtFits, IsLaterAt, at_place, cells_of, move_at}
use Rattle.lamport_clock.specs.Versions.{Entries, entry}
use Rattle.tree_cursor.specs.Places.{DimensionLaws}

abbrev Went : At → FragmentSummary → At → Type 0
Went p s q = (p.0 ≡ q.0)
    × (((sees_all p.0 s.span ≡ true) × (q.1 ≡ p.1 + cells_of s)) ⊎ ((sees_none p.0 s.span ≡ true) × (q.1 ≡ p.1)))

went_at : (p q : At) (s : FragmentSummary) (all none : Bool) → sees_all p.0 s.span ≡ all → sees_none p.0 s.span ≡ none → cond all (at_place p.0 (p.1 + cells_of s)) (cond none (at_place p.0 p.1) None) ≡ Some q → Went p s q
went_at p q s true none e f h = (ap (λ (u : At). u.0) (same_Some _ _ h), inl (e, sym (ap (λ (u : At). u.1) (same_Some _ _ h))))
went_at p q s false true e f h = (ap (λ (u : At). u.0) (same_Some _ _ h), inr (f, sym (ap (λ (u : At). u.1) (same_Some _ _ h))))
went_at p q s false false e f h = cc

went : (p q : At) (s : FragmentSummary) → move_at p s ≡ Some q → Went p s q
went p q s h = went_at p q s (sees_all p.0 s.span) (sees_none p.0 s.span) refl refl h

pub all_in : (p : At) (s : FragmentSummary) → sees_all p.0 s.span ≡ true → move_at p s ≡ at_place p.0 (p.1 + cells_of s)
all_in p s h = ap (λ (b : Bool). cond {A = Option At} b (at_place p.0 (p.1 + cells_of s)) (cond (sees_none p.0 s.span) (at_place p.0 p.1) None)) h

none_at : (p : At) (s : FragmentSummary) (all : Bool) → IsSummary s → sees_all p.0 s.span ≡ all → sees_none p.0 s.span ≡ true → cond all (at_place p.0 (p.1 + cells_of s)) (cond (sees_none p.0 s.span) (at_place p.0 p.1) None) ≡ at_place p.0 p.1
none_at p s true k e h = let z = k.none (both_seen 0 p.0 s.span k.spans e h) in ap (at_place p.0) (omega (arith, z))
none_at p s false k e h = ap (λ (b : Bool). cond {A = Option At} b (at_place p.0 p.1) None) h

pub none_in : (p : At) (s : FragmentSummary) → IsSummary s → sees_none p.0 s.span ≡ true → move_at p s ≡ at_place p.0 p.1
none_in p s k h = none_at p s (sees_all p.0 s.span) k refl h

same : (p q : At) (n : ℕ) → p.0 ≡ q.0 → q.1 ≡ n → at_place p.0 n ≡ Some q
same p q n e f = ap (at_place p.0) (sym f) ∙ ap (λ (c : Entries). at_place c q.1) e

parts_of : (p q : At) (a b : FragmentSummary) → IsSummary a → IsSummary b → Went p (summaries a b) q → (r : At) × (move_at p a ≡ Some r) × (move_at r b ≡ Some q)
parts_of p q a b f g (e, inl h) =
    let k = all_parts p.0 a.span b.span h.0 in
    let n = h.1 in
    ((p.0, p.1 + cells_of a), all_in p a k.0, all_in (p.0, p.1 + cells_of a) b k.1 ∙ same p q (p.1 + cells_of a + cells_of b) e (omega arith))
parts_of p q a b f g (e, inr h) =
    let k = none_parts p.0 a.span b.span h.0 in
    ((p.0, p.1), none_in p a f k.0, none_in (p.0, p.1) b g k.1 ∙ same p q p.1 e h.1)

one_at : (p : At) (a : FragmentSummary) (r n : ℕ) → a.span ≡ record { replica = r; least = n; greatest = n } ∷ [] → (nat_le n (entry p.0 r) ≡ true) ⊎ (nat_le n (entry p.0 r) ≡ false) → IsSummary a → (q : At) × (move_at p a ≡ Some q)
one_at p a r n e (inl h) k = ((p.0, p.1 + cells_of a), all_in p a (ap (sees_all p.0) e ∙ and_from _ _ h refl))
one_at p a r n e (inr h) k = ((p.0, p.1), none_in p a k (ap (sees_none p.0) e ∙ and_from _ _ (lt-ltb _ _ (leb-false _ _ h)) refl))

up_of : (p q : At) (s : FragmentSummary) → Went p s q → (p.0 ≡ q.0) × (p.1 ≤ q.1)
up_of p q s (e, inl h) = let n = h.1 in (e, omega arith)
up_of p q s (e, inr h) = let n = h.1 in (e, omega arith)

back_of : (p r : At) (a b : FragmentSummary) → AtFits p (summaries a b) → Went p a r → AtFits r b
back_of p r a b h (e, inl w) = let n = w.1 in omega arith
back_of p r a b h (e, inr w) = let n = w.1 in omega arith

nothing_of : (p q : At) → Went p no_fragments q → q ≡ p
nothing_of p q (e, inl h) = let n = h.1 in same_Some _ _ (sym (same p q p.1 e (omega arith)))
nothing_of p q (e, inr h) = same_Some _ _ (sym (same p q p.1 e h.1))

pub at_laws : DimensionLaws {P = At} {S = FragmentSummary} no_fragments summaries IsSummary IsOne IsLaterAt move_at AtFits
at_laws = record {
  nothing = λ p q e. nothing_of p q (went p q no_fragments e);
  parts = λ p q a b f g e. parts_of p q a b f g (went p q (summaries a b) e);
  one = λ p a f s r. one_at p a s.0.replica s.0.value s.1 (cases_Bool _) f;
  forward = λ p q a f e. up_of p q a (went p q a e);
  fits_front = λ p a b f g h. omega arith;
  fits_back = λ p r a b f g h e. back_of p r a b h (went p r a e);
}
