use Rattle.std.proofs.Common.{◌∙◌, ap₂}
use Rattle.std.specs.Prelude.{◌||◌}
use Rattle.std.proofs.lemmas.Result.{IfOk-weaker}
use Rattle.clap.specs.Words.{with_rule}
use Rattle.command_words.proofs.line.replay_line.Goals as goal

pub returns-clause-line : goal.returns-clause-line
returns-clause-line c = IfOk-weaker c.arg.result _ _ (λ r h. h.shape c.workers.ensures.local ∙ ap₂ with_rule c.new.ensures.app c.workers.ensures.rule) c.arg.ensures

pub returns-clause-local : goal.returns-clause-local
returns-clause-local c = IfOk-weaker c.arg.result _ _ (λ r h. h.globals ∙ ap₂ (λ x y. x || y) c.new.ensures.local c.workers.ensures.local) c.arg.ensures
