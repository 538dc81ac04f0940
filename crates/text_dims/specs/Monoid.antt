-- Summaries of texts are a monoid, as texts are.
use Rattle.std.proofs.Common.{◌≡◌, ℕ, ◌^◌, ◌<◌, List, [], ◌++◌, refl, ap, sym, ◌∙◌, subst, arith, append_assoc, length-append}
use Rattle.std.proofs.lemmas.List.{append-nil}
use Rattle.sum_tree.specs.Laws.{SummaryLaws}
use Rattle.text_dims.specs.declared.summary.TextSummary.{TextSummary}
use Rattle.text_dims.specs.Counts.{char_count, utf16_count, newline_count, rows, first_row, last_row}
use Rattle.text_dims.specs.Summaries.{end_point, row_chars, summary_of, text_sum, no_text, IsOfText, TextFits}
use Rattle.text_dims.specs.Concat.{summary-append, utf16_count-append}
use Rattle.text_dims.specs.Bounds.{summary_fits}

pub summary-nil : summary_of [] ≡ no_text
unfolding summary_of end_point row_chars char_count utf16_count newline_count rows first_row last_row
summary-nil = refl

module _ {S : Type 0} (h : List ℕ → S) (empty : S) (op : S → S → S) (nil : h [] ≡ empty) (both : (xs ys : List ℕ) → h (xs ++ ys) ≡ op (h xs) (h ys)) where
  of_both : (a b : S) → (xs : List ℕ) × (a ≡ h xs) → (ys : List ℕ) × (b ≡ h ys) → (zs : List ℕ) × (op a b ≡ h zs)
  of_both a b p q = (p.0 ++ q.0, rw (p.1, q.1) (sym (both p.0 q.0)))

  left : (a : S) → (xs : List ℕ) × (a ≡ h xs) → op empty a ≡ a
  left a p = rw (← nil, p.1) (sym (both [] p.0))

  right : (a : S) → (xs : List ℕ) × (a ≡ h xs) → op a empty ≡ a
  right a p = rw (← nil, p.1) (sym (both p.0 []) ∙ ap h (append-nil p.0))

  both_ways : (a b c : S) → (xs : List ℕ) × (a ≡ h xs) → (ys : List ℕ) × (b ≡ h ys) → (zs : List ℕ) × (c ≡ h zs) → op (op a b) c ≡ op a (op b c)
  both_ways a b c p q r =
      rw (p.1, q.1, r.1, ← both p.0 q.0, ← both q.0 r.0, ← both (p.0 ++ q.0) r.0, ← both p.0 (q.0 ++ r.0)) (ap h (append_assoc p.0 q.0 r.0))

none_fits : utf16_count [] < 2 ^ 64
unfolding utf16_count
none_fits = omega arith

fits_ends : (xs ys zs : List ℕ) → TextFits (summary_of (xs ++ (ys ++ zs))) → TextFits (summary_of (xs ++ zs))
unfolding summary_of
fits_ends xs ys zs f =
    summary_fits (xs ++ zs)
    (omega (arith, f.len, length-append xs zs, length-append xs (ys ++ zs), length-append ys zs))
    (omega (arith, f.len_utf16, utf16_count-append xs zs, utf16_count-append xs (ys ++ zs), utf16_count-append ys zs))

fits_part : (a b c : TextSummary) → IsOfText a → IsOfText b → IsOfText c → TextFits (text_sum a (text_sum b c)) → TextFits (text_sum a c)
fits_part a b c p q r f =
    let whole : text_sum a (text_sum b c) ≡ summary_of (p.0 ++ (q.0 ++ r.0)) = rw (p.1, q.1, r.1) (sym (summary-append p.0 (q.0 ++ r.0) ∙ ap (text_sum (summary_of p.0)) (summary-append q.0 r.0))) in
    let part : summary_of (p.0 ++ r.0) ≡ text_sum a c = rw (p.1, r.1) (summary-append p.0 r.0) in
    subst (λ s. TextFits s) part (fits_ends p.0 q.0 r.0 (subst (λ s. TextFits s) whole f))

pub text_laws : SummaryLaws no_text text_sum IsOfText TextFits
text_laws = record {
  empty_admitted = ([], sym summary-nil);
  op_admitted = of_both summary_of no_text text_sum summary-nil summary-append;
  left_identity = left summary_of no_text text_sum summary-nil summary-append;
  right_identity = right summary_of no_text text_sum summary-nil summary-append;
  assoc = both_ways summary_of no_text text_sum summary-nil summary-append;
  empty_fits = subst (λ s. TextFits s) summary-nil (summary_fits [] (omega arith) none_fits);
  fits_parts = fits_part;
}
