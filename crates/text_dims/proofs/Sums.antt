-- Sums of the summaries of texts.
use Rattle.std.proofs.Common.{ℕ, [], ◌≡◌, List, ◌∷◌, ◌++◌, ap, sym, ◌∙◌, append_assoc, length}
use Rattle.std.specs.List.{concat}
use Rattle.std.proofs.lemmas.List.{append-nil}
use Rattle.sum_tree.specs.Laws.{fold}
use Rattle.text_dims.specs.Summaries.{summary_of, text_sum, no_text}
use Rattle.text_dims.specs.Concat.{summary-append}
use Rattle.text_dims.specs.Monoid.{summary-nil}
use Rattle.text_dims.specs.declared.summary.TextSummary.{TextSummary}

pub fold_from : (bs : List ℕ) (cs : List (List ℕ)) → fold (summary_of bs) text_sum summary_of cs ≡ summary_of (bs ++ concat cs)
fold_from bs [] = ap summary_of (sym (append-nil bs))
fold_from bs (c ∷ cs) =
    ap (λ s. fold s text_sum summary_of cs) (sym (summary-append bs c)) ∙ fold_from (bs ++ c) cs ∙ ap summary_of (append_assoc bs c (concat cs))

-- the sum of the chunks' summaries is that of the text
pub fold_is : (cs : List (List ℕ)) → fold no_text text_sum summary_of cs ≡ summary_of (concat cs)
fold_is cs = ap (λ s. fold s text_sum summary_of cs) (sym summary-nil) ∙ fold_from [] cs

-- what a summary says of the length
pub sum_len : (c : List ℕ) (s : TextSummary) → s ≡ summary_of c → s.len ≡ length c
unfolding summary_of
sum_len c s e = ap (λ (t : TextSummary). t.len) e

pub fold_len : (cs : List (List ℕ)) (s : TextSummary) → s ≡ fold no_text text_sum summary_of cs → s.len ≡ length (concat cs)
fold_len cs s e = sum_len (concat cs) s (e ∙ fold_is cs)
