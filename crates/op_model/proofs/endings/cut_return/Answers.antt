use Rattle.std.proofs.Common.{List, ℕ, ◌∷◌, ◌++◌, arith, Some, None, ap, sym, ◌∙◌}
use Rattle.std.proofs.lemmas.Str.Pattern.{split_parts}
use Rattle.op_model.specs.Rules.{lf}
use Rattle.op_model.proofs.texts.Entering.{lf_cut, lf_none}
use Rattle.op_model.proofs.endings.cut_return.Goals as goal

pub returns-in_err-line-clause-none : goal.returns-in_err-line-clause-none
returns-in_err-line-clause-none c = rw c.from_residual.ensures (lf_none c.args.text.now (split_parts 13 c.args.text.now None c.in_err-line.ensures.cases (omega arith)))

pub returns-clause-some : goal.returns-clause-some
returns-clause-some c =
    let p = split_parts 13 c.args.text.now (Some (c.in_ok-line.line, c.in_ok-line.after)) c.in_ok-line.ensures.cases (omega arith) in
    ap lf p.0 ∙ lf_cut c.in_ok-line.line.now c.in_ok-line.after.now p.1 ∙ ap (λ (t : List ℕ). c.in_ok-line.line.now ++ 10 ∷ t) (sym c.without_feed.ensures.lines)
