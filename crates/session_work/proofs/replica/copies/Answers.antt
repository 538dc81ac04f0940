use Rattle.std.proofs.Common.{◌≡◌, ◌+◌, ◌++◌, ℕ, List, [], ◌∷◌, Some, take, sym, ap, ap₂, ◌∙◌}
use Rattle.std.specs.List.{slice_get}
use Rattle.std.specs.Option.{option_copied}
use Rattle.std.proofs.lemmas.List.{take_more}
use Rattle.std.proofs.lemmas.Option.{get_or_from_slice_get, slice_get_within}
use Rattle.op_model.specs.declared.operation.Operation.{Operation}
use Rattle.session_work.proofs.replica.copies.Goals as goal

-- the first i and the next one are the first i + 1
take_next : (xs : List Operation) (i : ℕ) (x : Operation) → slice_get xs i ≡ Some x → take i xs ++ x ∷ [] ≡ take (i + 1) xs
take_next xs i x e =
    sym (take_more xs i x (slice_get_within xs i x e) ∙ ap (λ (y : Operation). take i xs ++ y ∷ []) (get_or_from_slice_get xs i x x e))

-- one more is copied
one_more : (xs copied more : List Operation) (i : ℕ) (x op copy : Operation) → copied ≡ take i xs → slice_get xs i ≡ Some x → op ≡ x → copy ≡ op → more ≡ copied ++ copy ∷ [] → more ≡ take (i + 1) xs
one_more xs copied more i x op copy front next is same pushed =
    let last : copy ≡ x = same ∙ is in
    pushed ∙ (ap₂ (λ (ops : List Operation) (o : Operation). ops ++ o ∷ []) front last ∙ take_next xs i x next)

pub loop-i-preserved : goal.loop-i-preserved
loop-i-preserved c =
    let next : slice_get c.args.applied.now.items c.loop-i.i ≡ Some c.in-Some.applied.now = sym c.get.ensures ∙ ap option_copied c.in-Some.is in
    one_more c.args.applied.now.items c.loop-i.copies.items c.push.new.self.items c.loop-i.i c.in-Some.applied.now c.op.result.now c.in_ok-copy-in-Some.field-0
    c.loop-i.invariant next c.op.ensures c.in_ok-copy-in-Some.ensures c.in_ok-push-in-Some.ensures.items
