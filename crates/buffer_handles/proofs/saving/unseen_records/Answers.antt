use Rattle.std.proofs.Common.{◌≡◌, ◌∙◌, ◌++◌, ℕ, List, Option, None, Some, ap, subst, sym, arith}
use Rattle.std.specs.List.{slice_get}
use Rattle.std.specs.Option.{option_copied}
use Rattle.std.proofs.lemmas.Result.{err_from_is_err_and}
use Rattle.buffer_handles.specs.Saving.{IsLong, unseen_record}
use Rattle.buffer_handles.proofs.Saves.{first_long-here, first_long-next, none_past, written_next}
use Rattle.buffer_handles.proofs.saving.unseen_records.Goals as goal

pub loop-i-preserved : goal.loop-i-preserved
loop-i-preserved c =
    let v = c.args.version.now in let f = unseen_record v in let op = c.op.result.now in let h = c.args.applied.now.items in
    let got : slice_get h c.loop-i.i ≡ Some op = sym c.in-Some.ensures ∙ ap Some (sym c.op.ensures) in (
      c.in_ok-push_unseen-in-Some.ensures.new ∙ ap (λ (bytes : List ℕ). bytes ++ f op) c.loop-i.invariant.0 ∙ written_next f h c.loop-i.i op got,
      first_long-next v h c.loop-i.i op got c.in_ok-push_unseen-in-Some.ensures.short ∙ c.loop-i.invariant.1,
    )

pub unreachable-requires : goal.unreachable-requires
unreachable-requires c =
    let none : slice_get c.args.applied.now.items c.loop-i.i ≡ None = sym c.get.ensures ∙ ap option_copied c.in-None.is in
    omega (arith, none_past c.args.applied.now.items c.loop-i.i none, c.loop-i-test.true, c.len-i-end.ensures)

pub returns-in_err-push_unseen-in-Some-clause-long : goal.returns-in_err-push_unseen-in-Some-clause-long
returns-in_err-push_unseen-in-Some-clause-long c =
    let v = c.args.version.now in let h = c.args.applied.now.items in let op = c.op.result.now in let e = c.in_err-push_unseen-in-Some.field-0.0 in
    let got : slice_get h c.loop-i.i ≡ Some op = sym c.in-Some.ensures ∙ ap Some (sym c.op.ensures) in
    let p = err_from_is_err_and c.from_residual.result c.from_residual.ensures.1 in
    rw (p.1, p.2) (subst (λ (o : Option ℕ). IsLong o e) c.loop-i.invariant.1 (first_long-here v h c.loop-i.i op e got c.in_err-push_unseen-in-Some.ensures.long))
