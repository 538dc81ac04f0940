use Rattle.std.proofs.Common.{◌∙◌, ap₂}
use Rattle.std.specs.Prelude.{◌||◌}
use Rattle.std.proofs.lemmas.Result.{IfOk-weaker}
use Rattle.clap.specs.Words.{with_rule}
use Rattle.command_words.proofs.line.make_line.Goals as goal

pub returns-clause-line : goal.returns-clause-line
returns-clause-line c =
    let one = c.in_ok-arg.ensures.shape c.seed.ensures.local ∙ ap₂ with_rule c.new.ensures.app c.seed.ensures.rule in
    let two = c.in_ok-arg-2.ensures.shape c.replicas.ensures.local ∙ ap₂ with_rule one c.replicas.ensures.rule in
    IfOk-weaker c.arg-3.result _ _ (λ r h. h.shape c.edits.ensures.local ∙ ap₂ with_rule two c.edits.ensures.rule) c.arg-3.ensures

pub returns-clause-local : goal.returns-clause-local
returns-clause-local c =
    let one = c.in_ok-arg.ensures.globals ∙ ap₂ (λ x y. x || y) c.new.ensures.local c.seed.ensures.local in
    let two = c.in_ok-arg-2.ensures.globals ∙ ap₂ (λ x y. x || y) one c.replicas.ensures.local in
    IfOk-weaker c.arg-3.result _ _ (λ r h. h.globals ∙ ap₂ (λ x y. x || y) two c.edits.ensures.local) c.arg-3.ensures
