-- The laws of sums of fragments.
use Rattle.std.proofs.Common.{◌≡◌, ◌||◌, ℕ, Bool, true, List, [], ◌∷◌, Option, refl, sym, ap, subst, ◌∙◌, arith, inl, inr}
use Rattle.std.proofs.lemmas.Bool.{cases_Bool}
use Rattle.std.specs.List.{list_any}
use Rattle.std.proofs.lemmas.Cmp.{nat_list_cmp_total}
use Rattle.std.specs.Cmp.Lexicographic.{slice_cmp}
use Rattle.std.specs.Ordering.{nat_cmp}
use Rattle.sum_tree.specs.Laws.{SummaryLaws}
use Rattle.tree_cursor.specs.Keys.{IsLess}
use Rattle.tree_cursor.specs.KeyLaws.{greater_none, greater_assoc, order_less}
use Rattle.lamport_clock.specs.declared.stamp.Lamport.{Lamport}
use Rattle.lamport_clock.specs.Stamps.{same_stamp}
use Rattle.lamport_clock.specs.Versions.{Entries, AreEntriesFrom, raise, join_versions, sees}
use Rattle.fragments.specs.declared.spans.Span.{Span}
use Rattle.fragments.specs.declared.fragment.Fragment.{Fragment}
use Rattle.fragments.specs.declared.fragment.FragmentSummary.{FragmentSummary}
use Rattle.lamport_clock.proofs.Associative.{joined_assoc, joined_left, joined_kept, raise_kept}
use Rattle.lamport_clock.proofs.Sees.{raise_sees, sees_raise}
use Rattle.lamport_clock.proofs.Later.{same_stamp_eq}
use Rattle.fragments.specs.SpanLaws.{spans_assoc, spans_left, spans_kept, spans_none}
use Rattle.fragments.specs.Summaries.{no_fragments, summaries, IsSummary, SummaryFits, IsOne, id_less, with_stamps, summary_of}

pub id_order : IsLess id_less
id_order = order_less (slice_cmp nat_cmp) nat_list_cmp_total

abbrev summary : ℕ → ℕ → Option (List ℕ) → List Span → Entries → FragmentSummary
summary v h i s g = record { visible = v; hidden = h; last_id = i; span = s; greatest = g }

parts : {v w h k : ℕ} {i j : Option (List ℕ)} {s t : List Span} {g e : Entries} → v ≡ w → h ≡ k → i ≡ j → s ≡ t → g ≡ e → summary v h i s g ≡ summary w k j t e
parts {v} {w} {h} {k} {i} {j} {s} {t} {g} {e} a b c d f = ap (λ x. summary x h i s g) a ∙ ap (λ x. summary w x i s g) b ∙ ap (λ x. summary w k x s g) c ∙ ap (λ x. summary w k j x g) d ∙ ap (summary w k j t) f

sums_admitted : (a b : FragmentSummary) → IsSummary a → IsSummary b → IsSummary (summaries a b)
sums_admitted a b p q = record {
  spans = spans_kept 0 a.span b.span p.spans q.spans;
  none = λ e. let n = spans_none a.span b.span e in let x = p.none n.0 in let y = q.none n.1 in omega arith;
  entries = joined_kept a.greatest b.greatest p.entries;
}

pub summary_laws : SummaryLaws no_fragments summaries IsSummary SummaryFits
summary_laws = record {
  empty_admitted = record { spans = tt; none = λ e. refl; entries = tt };
  op_admitted = sums_admitted;
  left_identity = λ a p. parts (omega arith) (omega arith) refl (spans_left 0 a.span p.spans) (joined_left 0 a.greatest p.entries);
  right_identity = λ a p. parts (omega arith) (omega arith) (greater_none id_less a.last_id) refl refl;
  assoc = λ a b c p q r. parts (omega arith) (omega arith) (greater_assoc id_less id_order a.last_id b.last_id c.last_id) (spans_assoc a.span b.span c.span) (joined_assoc a.greatest b.greatest c.greatest);
  empty_fits = omega arith;
  fits_parts = λ a b c p q r h. omega arith;
}

stamps_kept : (d : List Lamport) (v : Entries) → AreEntriesFrom 0 v → AreEntriesFrom 0 (with_stamps d v)
stamps_kept [] v h = h
stamps_kept (t ∷ d) v h = stamps_kept d (raise v t) (raise_kept v t h)

-- what is seen stays seen after more stamps are seen
pub sees_stamps : (d : List Lamport) (v : Entries) (t : Lamport) → sees v t ≡ true → sees (with_stamps d v) t ≡ true
sees_stamps [] v t h = h
sees_stamps (s ∷ d) v t h = sees_stamps d (raise v s) t (sees_raise v s t h)

-- each of these stamps is then seen
pub stamps_seen : (d : List Lamport) (v : Entries) (t : Lamport) → list_any (same_stamp t) d ≡ true → sees (with_stamps d v) t ≡ true
stamps_seen [] v t h = cc
stamps_seen (s ∷ d) v t h = elim (cases_Bool (same_stamp t s)) [
  | inl e ↦ sees_stamps d (raise v s) t (subst (λ (x : Lamport). sees (raise v x) t ≡ true) (same_stamp_eq t s e) (raise_sees v t))
  | inr e ↦ stamps_seen d (raise v s) t (ap (λ (b : Bool). b || list_any (same_stamp t) d) (sym e) ∙ h)
]

pub one_admitted : (f : Fragment) → IsSummary (summary_of f)
one_admitted f = record {
  spans = (omega arith, omega arith, tt);
  none = λ e. absurd (cc);
  entries = stamps_kept (f.stamp ∷ f.deletions) (join_versions [] f.max_undos) (joined_kept [] f.max_undos tt);
}

pub one_single : (f : Fragment) → IsOne (summary_of f)
one_single f = (f.stamp, refl)
