use Rattle.std.proofs.Common.{◌∙◌, ap, ap₂}
use Rattle.std.proofs.lemmas.Result.{IfOk-weaker}
use Rattle.clap.specs.Simple.{App, with_subcommand}
use Rattle.command_words.proofs.line.command_line.Goals as goal

pub returns : goal.returns
returns c =
    let one = c.in_ok-subcommand.ensures.shape c.in_ok-replay_line.ensures.local ∙ ap₂ with_subcommand c.program.ensures (ap (λ (a : App). a.top) c.in_ok-replay_line.ensures.line) in
    let two = c.in_ok-subcommand-2.ensures.shape c.new.ensures.local ∙ ap₂ with_subcommand one (ap (λ (a : App). a.top) c.new.ensures.app) in
    let three = c.in_ok-subcommand-3.ensures.shape c.in_ok-make_line.ensures.local ∙ ap₂ with_subcommand two (ap (λ (a : App). a.top) c.in_ok-make_line.ensures.line) in
    let four = c.in_ok-subcommand-4.ensures.shape c.new-2.ensures.local ∙ ap₂ with_subcommand three (ap (λ (a : App). a.top) c.new-2.ensures.app) in
    let five = c.in_ok-subcommand-5.ensures.shape c.new-3.ensures.local ∙ ap₂ with_subcommand four (ap (λ (a : App). a.top) c.new-3.ensures.app) in
    IfOk-weaker c.subcommand-6.result _ _ (λ r h. h.shape c.new-4.ensures.local ∙ ap₂ with_subcommand five (ap (λ (a : App). a.top) c.new-4.ensures.app)) c.subcommand-6.ensures
