use Rattle.std.proofs.Common.{◌≡◌, ◌+◌, List, Some, length, ap, refl, ◌∙◌, arith}
use Rattle.sum_tree.specs.Seen.{Seen}
use Rattle.sum_tree.specs.Grown.{with_pair}
use Rattle.sum_tree.proofs.Pairs.{run_children, pair_length, paired_placed}
use Rattle.sum_tree.proofs.Widths.{both_children}
use Rattle.sum_tree.proofs.here.pair_in_place.Goals as goal

pub returns-then-len-lt-MOST-clause-children : goal.returns-then-len-lt-MOST-clause-children
returns-then-len-lt-MOST-clause-children g c =
    (paired_placed c.args.height c.args.children.now.items c.put_pair.new.list.items c.args.k c.args.front c.args.back c.requires.within (omega (arith, c.if-len-lt-MOST.true, c.len.ensures, c.args.children.now.ok)) c.requires.children c.requires.front c.requires.back c.in_ok-put_pair.ensures.ok).0

pub returns-then-len-lt-MOST-clause-placing : goal.returns-then-len-lt-MOST-clause-placing
returns-then-len-lt-MOST-clause-placing g c ys =
    ((paired_placed c.args.height c.args.children.now.items c.put_pair.new.list.items c.args.k c.args.front c.args.back c.requires.within (omega (arith, c.if-len-lt-MOST.true, c.len.ensures, c.args.children.now.ok)) c.requires.children c.requires.front c.requires.back c.in_ok-put_pair.ensures.ok).1, refl)

pub two_inners-requires-clause-children : goal.two_inners-requires-clause-children
two_inners-requires-clause-children g c =
    let all : c.in_ok-all.all.items ≡ with_pair c.args.children.now.items c.args.k c.args.front (Some c.args.back) = c.in_ok-all.ensures ∙ ap (λ (ts : List (Seen _)). with_pair ts c.args.k c.args.front (Some c.args.back)) c.deref.ensures.value in
    rw all (run_children c.args.height c.args.children.now.items c.args.k (c.args.k + 1) c.args.front (Some c.args.back) c.requires.children.0 (both_children c.args.height c.args.front c.args.back c.requires.front c.requires.back))

pub two_inners-requires-clause-many : goal.two_inners-requires-clause-many
two_inners-requires-clause-many g c =
    let all : c.in_ok-all.all.items ≡ with_pair c.args.children.now.items c.args.k c.args.front (Some c.args.back) = c.in_ok-all.ensures ∙ ap (λ (ts : List (Seen _)). with_pair ts c.args.k c.args.front (Some c.args.back)) c.deref.ensures.value in
    omega (arith, ap length all, pair_length c.args.children.now.items c.args.k c.args.front (Some c.args.back) c.requires.within, c.if-len-lt-MOST.false, c.len.ensures, c.args.children.now.ok)

pub two_inners-requires-clause-most : goal.two_inners-requires-clause-most
two_inners-requires-clause-most g c =
    let all : c.in_ok-all.all.items ≡ with_pair c.args.children.now.items c.args.k c.args.front (Some c.args.back) = c.in_ok-all.ensures ∙ ap (λ (ts : List (Seen _)). with_pair ts c.args.k c.args.front (Some c.args.back)) c.deref.ensures.value in
    omega (arith, ap length all, pair_length c.args.children.now.items c.args.k c.args.front (Some c.args.back) c.requires.within, c.requires.children.2)

pub two_inners-requires-clause-short : goal.two_inners-requires-clause-short
two_inners-requires-clause-short g c =
    let all : c.in_ok-all.all.items ≡ with_pair c.args.children.now.items c.args.k c.args.front (Some c.args.back) = c.in_ok-all.ensures ∙ ap (λ (ts : List (Seen _)). with_pair ts c.args.k c.args.front (Some c.args.back)) c.deref.ensures.value in
    rw all c.requires.short

pub two_inners-requires-clause-fits : goal.two_inners-requires-clause-fits
two_inners-requires-clause-fits g c =
    let all : c.in_ok-all.all.items ≡ with_pair c.args.children.now.items c.args.k c.args.front (Some c.args.back) = c.in_ok-all.ensures ∙ ap (λ (ts : List (Seen _)). with_pair ts c.args.k c.args.front (Some c.args.back)) c.deref.ensures.value in
    rw all c.requires.fits
