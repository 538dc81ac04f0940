use Rattle.std.proofs.Common.{◌≡◌, ◌<◌, ℕ, List, length, ap, subst, ◌∙◌}
use Rattle.std.proofs.lemmas.Str.{IsCharBoundary-start}
use Rattle.snapshot_search.specs.Starts.{starts_between}
use Rattle.snapshot_search.proofs.Places.{starts-whole}
use Rattle.snapshot_search.proofs.find.find_all.Goals as goal

pub find_between-requires-clause-start : goal.find_between-requires-clause-start
find_between-requires-clause-start c = IsCharBoundary-start c.args.rope.now c.known.ensures.text

pub returns-clause-starts : goal.returns-clause-starts
returns-clause-starts c =
    let text = c.args.rope.now in
    let same : c.in_ok-needle.needle ≡ c.args.needle.now = c.in_ok-needle.ensures ∙ c.as_bytes.ensures.value in
    let view = c.needle.view_is in
    let bytes : c.needle.inside.bytes.now ≡ c.args.needle.now = cc in
    let some : 0 < length c.args.needle.now = subst (λ (l : List ℕ). 0 < length l) bytes c.needle.invariant.some in
    c.in_ok-found.ensures ∙ (ap (λ n. starts_between text n 0 c.len.result) same ∙ (ap (starts_between text c.args.needle.now 0) c.len.ensures ∙ starts-whole text c.args.needle.now some))
