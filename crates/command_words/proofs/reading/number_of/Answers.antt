use Rattle.std.proofs.Common.{rules, ◌≡◌, None, ap, ◌∙◌}
use Rattle.std.specs.Bool.{then_some}
use Rattle.std.specs.Str.Parse.{ParsesUnsigned, ExplainsUnsignedError, HasUnsignedDigitsIfOk}
use Rattle.clap.specs.Words.{found_of}
use Rattle.clap.proofs.WalkLemmas.{one_text-rows}
use Rattle.command_words.proofs.Numbers.{none_read, some_read}
use Rattle.command_words.proofs.reading.number_of.Goals as goal

pub returns-in_err-number-clause-number : goal.returns-in_err-number-clause-number
returns-in_err-number-clause-number c =
    let e : c.from_residual.result ≡ None = search rules in
    e ∙ none_read _ (λ bs r. ParsesUnsigned 64 10 bs r × ExplainsUnsignedError 10 bs r × HasUnsignedDigitsIfOk bs r) (λ u x g. g.0) c.args.least c.args.most _
    (λ t k. c.in_err-number.ensures.value t (one_text-rows (found_of c.args.matches.now) c.args.name.now ∙ k))

pub returns-clause-number : goal.returns-clause-number
returns-clause-number c =
    let rows = one_text-rows (found_of c.args.matches.now) c.args.name.now in
    c.then_some.ensures ∙ ap (λ b. then_some b c.in_ok-number.number) c.is_within.ensures.test
    ∙ some_read _ (λ bs r. ParsesUnsigned 64 10 bs r × ExplainsUnsignedError 10 bs r × HasUnsignedDigitsIfOk bs r) (λ u x g. g.0) c.args.least c.args.most c.in_ok-number.number _
    (λ k. c.in_ok-number.ensures.none (rows ∙ k)) (λ t k. c.in_ok-number.ensures.value t (rows ∙ k))
