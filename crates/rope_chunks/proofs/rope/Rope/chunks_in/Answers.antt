use Rattle.std.proofs.Common.{◌≡◌, ◌≤◌, ◌-◌, ◌∙◌, ℕ, List, ap, take, drop, subst, sym}
use Rattle.std.specs.List.{concat, slice_range}
use Rattle.std.specs.Str.{IsCharBoundary}
use Rattle.rope_chunks.proofs.CutTexts.{concat_up_to, each_up_to, from_cut}
use Rattle.rope_chunks.proofs.rope.Rope.chunks_in.Goals as goal

cut : (bs : List ℕ) (ts : List (List ℕ)) (start end : ℕ) → concat ts ≡ drop start bs → IsCharBoundary bs start → IsCharBoundary bs end → start ≤ end → IsCharBoundary (concat ts) (end - start)
cut bs ts start end e a b l = subst (λ xs. IsCharBoundary xs (end - start)) (sym e) (from_cut bs start end a b l)

pub invariant_of-result : goal.invariant_of-result
invariant_of-result c = λ _. cut c.args.self.now c.chunks_from.result c.args.start c.args.end c.chunks_from.ensures.text c.requires.start c.requires.end c.requires.order

pub returns-clause-text : goal.returns-clause-text
returns-clause-text c =
    let b = cut c.args.self.now c.chunks_from.result c.args.start c.args.end c.chunks_from.ensures.text c.requires.start c.requires.end c.requires.order in
    concat_up_to c.chunks_from.result (c.args.end - c.args.start) b.0 ∙ ap (take (c.args.end - c.args.start)) c.chunks_from.ensures.text

pub returns-clause-each : goal.returns-clause-each
returns-clause-each c =
    let b = cut c.args.self.now c.chunks_from.result c.args.start c.args.end c.chunks_from.ensures.text c.requires.start c.requires.end c.requires.order in
    each_up_to c.chunks_from.result (c.args.end - c.args.start) c.chunks_from.ensures.each b
