use Rattle.std.proofs.Common.{Bool, Option, ◌&&◌, not, ltb, sym, ap, ◌∙◌}
use Rattle.op_model.specs.declared.operation.Operation.{Operation}
use Rattle.op_answers.specs.Verdicts.{causes}
use Rattle.op_answers.proofs.Founds.{caused}
use Rattle.op_answers.proofs.found.is_open.Goals as goal

pub returns-then-tells : goal.returns-then-tells
returns-then-tells c = sym (c.requires.latest c.args.entry (sym c.tells.ensures ∙ c.if-tells.true))

pub returns : goal.returns
returns c =
    let e = c.args.entry in
    let v = c.args.version.now in
    let a = c.is_cause-is_closed.ensures ∙ ap (λ (o : Option Operation). causes o v) c.find.ensures ∙ caused c.args.applied.now (record { value = e.1; replica = e.0 }) v c.requires.applied in
    c.both.ensures ∙ ap (λ (x : Bool). ltb 0 e.1 && not x) a
