use Rattle.std.proofs.Common.{◌≡◌, ℕ, ◌<◌, ◌^◌, List, ◌++◌, length, drop, get_or, take, Option, None, sym, ap, subst, ◌∙◌}
use Rattle.std.specs.List.{position}
use Rattle.std.proofs.Math.Seq.{take-append_seam}
use Rattle.text_buffer.specs.Buffer.{BufferState}
use Rattle.session_work.specs.Later.{AllGrow}
use Rattle.session_work.proofs.Buffers.{is_own}
use Rattle.session_work.proofs.Finding.{position-grown}
use Rattle.session_work.proofs.Growth.{as_many}
use Rattle.session_work.proofs.replicas.Replicas.edit_parts.Goals as goal

-- the buffers that a slice of all of them has after a call are all of them
put_back : (len : ℕ) (bs old new : List BufferState) → AllGrow old new → length old ≡ len → take len (new ++ drop (length new) bs) ≡ new
put_back len bs old new g l =
    ap (λ (n : ℕ). take n (new ++ drop (length new) bs)) (sym (as_many old new g ∙ l)) ∙ take-append_seam new (drop (length new) bs)

-- the table has the index of each of its ids
abbrev AreAt : List (Option ℕ) → List BufferState → Type 0
AreAt table bs = (k : ℕ) → k < length table → get_or table k None ≡ position (is_own k) bs

pub edit_each-requires : goal.edit_each-requires
edit_each-requires c = subst (λ (bs : List BufferState). length bs < 2 ^ 32) (sym (c.deref_mut.ensures.value ∙ c.self.view_is)) c.requires

pub invariant_of-self : goal.invariant_of-self
invariant_of-self c =
    let bs = c.self.inside.list.items in
    let n = c.edit_each.new.replicas in
    let back = put_back c.self.inside.list.len bs c.deref_mut.result.now n c.edit_each.ensures.grows c.deref_mut.ensures.len in
    subst (AreAt c.self.inside.indices.items) (sym back)
    (λ k lt. c.self.invariant k lt ∙ position-grown k bs n (subst (λ (bs : List BufferState). AllGrow bs n) c.deref_mut.ensures.value c.edit_each.ensures.grows))

pub returns-clause-grows : goal.returns-clause-grows
returns-clause-grows c =
    let n = c.edit_each.new.replicas in
    let back = put_back c.self.inside.list.len c.self.inside.list.items c.deref_mut.result.now n c.edit_each.ensures.grows c.deref_mut.ensures.len in
    subst (AllGrow c.args.self.now) (sym back) (subst (λ (bs : List BufferState). AllGrow bs n) (c.deref_mut.ensures.value ∙ c.self.view_is) c.edit_each.ensures.grows)
