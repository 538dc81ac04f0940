use Rattle.std.proofs.Common.{List, ℕ, ◌+◌, [], ◌∷◌, ◌∙◌, ap, arith, refl, subst, sym}
use Rattle.std.specs.Option.{option_copied}
use Rattle.sum_tree.specs.Seen.{Seen}
use Rattle.sum_tree.specs.Spliced.{splice_list}
use Rattle.multi_buffer.specs.declared.excerpt.Excerpt.{Excerpt}
use Rattle.multi_buffer.specs.declared.members.Member.{Member}
use Rattle.multi_buffer.specs.Found.{AreShort}
use Rattle.multi_buffer.proofs.Sums.{sum_fits}
use Rattle.multi_buffer.proofs.Turns.{turn_begins, turn_ends, turn_follows, turn_leaves, turn_place, turn_put, turn_short, turn_smaller, turn_stay, turn_within}
use Rattle.multi_buffer.proofs.excerpts.Excerpts.follow.Goals as goal

pub loop-members-init : goal.loop-members-init
loop-members-init c =
    turn_begins c.args.buffer c.args.snapshot.now c.args.self.now c.self.inside.tree.items c.in_ok-tree.tree.items c.self.inside.members.items c.in_ok-members.members.items _ _ c.in_ok-found.found
    c.self.invariant.members c.self.view_is (ap (λ (t : Seen Excerpt). t.items) c.in_ok-tree.ensures) (ap (λ (t : Seen Member). t.items) c.in_ok-members.ensures) refl c.in_ok-found.ensures.made

pub follow-excerpt-requires : goal.follow-excerpt-requires
follow-excerpt-requires c =
    turn_follows c.args.buffer c.args.snapshot.now c.args.self.now c.loop-members.tree.items c.loop-members.members.items c.loop-members.found c.next.new.self c.loop-members.invariant c.in_ok-member.ensures.moved
    c.in-Some.member.now (sym c.in_ok-member.ensures.item ∙ ap option_copied c.in-Some.is) c.requires

pub new-requires : goal.new-requires
new-requires c = λ k. (omega arith, ((refl, tt), tt))

pub same-tree : goal.same-tree
same-tree c = refl

pub same-members : goal.same-members
same-members c = refl

pub next-requires : goal.next-requires
next-requires c = λ k. (omega arith, (refl, tt))

pub same-tree-then-differs : goal.same-tree-then-differs
same-tree-then-differs c = refl

pub put_at-requires-clause-within : goal.put_at-requires-clause-within
put_at-requires-clause-within c =
    let l = turn_within c.args.buffer c.args.snapshot.now c.args.self.now c.loop-members.tree.items c.loop-members.members.items c.loop-members.found c.next.new.self c.loop-members.invariant c.in_ok-member.ensures.moved
    c.in-Some.member.now (sym c.in_ok-member.ensures.item ∙ ap option_copied c.in-Some.is) in
    let e = c.from.ensures in
    omega arith

pub put_at-requires-clause-fits : goal.put_at-requires-clause-fits
put_at-requires-clause-fits c =
    let y : Excerpt = c.follow-excerpt.result in
    let xs : List Excerpt = c.loop-members.tree.items in
    let short : AreShort c.args.self.now = subst (λ (zs : List Excerpt). AreShort zs) c.self.view_is c.self.invariant.short in
    let s = turn_short c.args.buffer c.args.snapshot.now c.args.self.now c.loop-members.tree.items c.loop-members.members.items c.loop-members.found c.next.new.self c.loop-members.invariant c.in_ok-member.ensures.moved
    c.in-Some.member.now (sym c.in_ok-member.ensures.item ∙ ap option_copied c.in-Some.is)
    y c.follow-excerpt.ensures c.known.ensures c.requires short in
    sum_fits (splice_list c.from.result (c.from.result + 1) (y ∷ []) xs) (subst (λ (n : ℕ). AreShort (splice_list n (n + 1) (y ∷ []) xs)) (sym c.from.ensures) s)

pub same-members-then-differs : goal.same-members-then-differs
same-members-then-differs c = refl

pub index-requires : goal.index-requires
index-requires c = λ k. (omega arith, (refl, tt))

pub put_at-requires-then-differs-clause-within : goal.put_at-requires-then-differs-clause-within
put_at-requires-then-differs-clause-within c =
    turn_place c.args.buffer c.args.snapshot.now c.args.self.now c.loop-members.tree.items c.loop-members.members.items c.loop-members.found c.next.new.self c.loop-members.invariant c.in_ok-member.ensures.moved
    c.in-Some.member.now (sym c.in_ok-member.ensures.item ∙ ap option_copied c.in-Some.is)
    c.index.result c.index.ensures

pub put_at-requires-then-differs-clause-fits : goal.put_at-requires-then-differs-clause-fits
put_at-requires-then-differs-clause-fits c = tt

pub same-tree-in-Continue-branch-7 : goal.same-tree-in-Continue-branch-7
same-tree-in-Continue-branch-7 c = refl

pub same-members-in-Continue-branch-7 : goal.same-members-in-Continue-branch-7
same-members-in-Continue-branch-7 c = refl

pub loop-members-smaller-in-Continue-branch-7 : goal.loop-members-smaller-in-Continue-branch-7
loop-members-smaller-in-Continue-branch-7 c =
    turn_smaller c.args.buffer c.args.snapshot.now c.args.self.now c.loop-members.tree.items c.loop-members.members.items c.loop-members.found c.next.new.self c.loop-members.invariant c.in_ok-member.ensures.moved
    c.in-Some.member.now (sym c.in_ok-member.ensures.item ∙ ap option_copied c.in-Some.is)

pub loop-members-preserved-in-Continue-branch-7 : goal.loop-members-preserved-in-Continue-branch-7
loop-members-preserved-in-Continue-branch-7 c =
    let y : Excerpt = c.follow-excerpt.result in
    turn_put c.args.buffer c.args.snapshot.now c.args.self.now c.loop-members.tree.items c.loop-members.members.items c.loop-members.found c.next.new.self c.loop-members.invariant c.in_ok-member.ensures.moved
    c.in-Some.member.now (sym c.in_ok-member.ensures.item ∙ ap option_copied c.in-Some.is)
    y c.index.result c.put_at.new.items.items c.put_at-then-differs.new.items.items c.follow-excerpt.ensures c.index.ensures
    (c.in_ok-put_at.ensures.ok ∙ ap (λ (n : ℕ). splice_list n (n + 1) (y ∷ []) c.loop-members.tree.items) c.from.ensures) c.in_ok-put_at-2.ensures.ok

pub same-tree-else-differs : goal.same-tree-else-differs
same-tree-else-differs c = refl

pub same-members-else-differs : goal.same-members-else-differs
same-members-else-differs c = refl

pub loop-members-smaller : goal.loop-members-smaller
loop-members-smaller c =
    turn_smaller c.args.buffer c.args.snapshot.now c.args.self.now c.loop-members.tree.items c.loop-members.members.items c.loop-members.found c.next.new.self c.loop-members.invariant c.in_ok-member.ensures.moved
    c.in-Some.member.now (sym c.in_ok-member.ensures.item ∙ ap option_copied c.in-Some.is)

pub loop-members-preserved : goal.loop-members-preserved
loop-members-preserved c =
    turn_stay c.args.buffer c.args.snapshot.now c.args.self.now c.loop-members.tree.items c.loop-members.members.items c.loop-members.found c.next.new.self c.loop-members.invariant c.in_ok-member.ensures.moved
    c.in-Some.member.now (sym c.in_ok-member.ensures.item ∙ ap option_copied c.in-Some.is)
    c.follow-excerpt.result c.follow-excerpt.ensures (c.differs.ensures.same c.if-differs.false)

pub same-tree-2 : goal.same-tree-2
same-tree-2 c = refl

pub same-members-2 : goal.same-members-2
same-members-2 c = refl

pub invariant_of-result : goal.invariant_of-result
invariant_of-result c =
    turn_leaves c.args.buffer c.args.snapshot.now c.args.self.now c.loop-members.tree.items c.loop-members.members.items c.loop-members.found c.next.new.self c.loop-members.invariant c.in_ok-member.ensures.moved
    (sym c.in_ok-member.ensures.item ∙ ap option_copied c.in_default.is)
    c.known.ensures c.requires (subst (λ (zs : List Excerpt). AreShort zs) c.self.view_is c.self.invariant.short)

pub returns : goal.returns
returns c =
    turn_ends c.args.buffer c.args.snapshot.now c.args.self.now c.loop-members.tree.items c.loop-members.members.items c.loop-members.found c.next.new.self c.loop-members.invariant c.in_ok-member.ensures.moved
    (sym c.in_ok-member.ensures.item ∙ ap option_copied c.in_default.is)
