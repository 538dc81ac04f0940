use Rattle.std.proofs.Common.{List, [], ◌∷◌, ◌++◌, length, ◌<◌, ◌≡◌, ◌^◌, ap, refl, subst, sym, ◌∙◌, arith}
use Rattle.sum_tree.specs.Seen.{Seen}
use Rattle.multi_buffer.specs.declared.excerpt.Excerpt.{Excerpt}
use Rattle.multi_buffer.specs.declared.members.Member.{Member}
use Rattle.multi_buffer.specs.Members.{member, put_member, AreExcerpts}
use Rattle.multi_buffer.proofs.Indexed.{AreExcerpts-put}
use Rattle.multi_buffer.proofs.Sums.{AreShort-push, sum_fits}
use Rattle.multi_buffer.proofs.excerpts.Excerpts.push.Goals as goal

pub put_member-requires : goal.put_member-requires
put_member-requires c =
    let few : length c.self.inside.tree.items < 2 ^ 20 = subst (λ (xs : List Excerpt). length xs < 2 ^ 20) (sym c.self.view_is) c.requires.few in
    let n = c.self.invariant.members.count in
    let e : length c.in_ok-members.members.items ≡ length c.self.inside.members.items = ap (λ (t : Seen Member). length t.items) c.in_ok-members.ensures in
    omega arith

pub same-self-in_err-put_member : goal.same-self-in_err-put_member
same-self-in_err-put_member c = refl

pub push-requires-clause-short : goal.push-requires-clause-short
push-requires-clause-short c =
    let few : length c.self.inside.tree.items < 2 ^ 20 = subst (λ (xs : List Excerpt). length xs < 2 ^ 20) (sym c.self.view_is) c.requires.few in
    omega arith

pub push-requires-clause-fits : goal.push-requires-clause-fits
push-requires-clause-fits c =
    let few : length c.self.inside.tree.items < 2 ^ 20 = subst (λ (xs : List Excerpt). length xs < 2 ^ 20) (sym c.self.view_is) c.requires.few in
    sum_fits (c.self.inside.tree.items ++ c.args.excerpt ∷ []) (AreShort-push c.self.inside.tree.items c.args.excerpt c.self.invariant.short few c.requires.short)

pub invariant_of-self : goal.invariant_of-self
invariant_of-self c = subst (λ (t : Seen Excerpt). AreExcerpts t.items c.self.inside.members.items) (sym c.in_err-push.ensures.err) c.self.invariant

pub same-members : goal.same-members
same-members c = refl

pub invariant_of-self-2 : goal.invariant_of-self-2
invariant_of-self-2 c =
    let few : length c.self.inside.tree.items < 2 ^ 20 = subst (λ (xs : List Excerpt). length xs < 2 ^ 20) (sym c.self.view_is) c.requires.few in
    let index : c.next_index-index.result ≡ length c.self.inside.tree.items = c.next_index-index.ensures ∙ ap (λ (xs : List Excerpt). length xs) (sym c.self.view_is) in
    AreExcerpts-put c.self.inside.tree.items c.push.new.self.items c.self.inside.members.items c.put_member.new.members.items c.next_index-index.result c.args.excerpt
    c.self.invariant few c.requires.short index c.in_ok-push.ensures.ok
    (c.in_ok-put_member.ensures.ok ∙ ap (λ (t : Seen Member). put_member (member c.next_index-index.result c.args.excerpt) t.items) c.in_ok-members.ensures)
