use Rattle.std.proofs.Common.{List, ℕ, ap, ◌∙◌, arith}
use Rattle.sum_tree.specs.Spliced.{splice_list}
use Rattle.multi_buffer.specs.declared.members.Member.{Member}
use Rattle.multi_buffer.proofs.Indexed.{on_ok, place_within, put_spliced}
use Rattle.multi_buffer.proofs.members.put_member.Goals as goal

pub splice-requires-clause-within : goal.splice-requires-clause-within
splice-requires-clause-within c =
    let l = place_within c.args.member.excerpt.buffer c.args.members.now.items in
    let e = c.place_after-at.ensures in
    omega arith

pub returns-clause-ok : goal.returns-clause-ok
returns-clause-ok c =
    let ms : List Member = c.args.members.now.items in
    let at : ℕ = c.place_after-at.result in
    on_ok c.splice.result c.splice.ensures.ok
    (λ e. e ∙ ap (λ (ns : List Member). splice_list at at ns ms) c.in_ok-list.ensures ∙ put_spliced c.args.member ms at c.place_after-at.ensures)
