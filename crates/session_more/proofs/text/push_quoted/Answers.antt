use Rattle.std.proofs.Common.{◌∙◌, ap}
use Rattle.session_lines.proofs.Quoted.{quoted-ok, quoted-err}
use Rattle.session_more.proofs.text.push_quoted.Goals as goal

pub returns-clause-ok : goal.returns-clause-ok
returns-clause-ok c = quoted-ok _ _ _ _ _ _ c.string-written.ensures (c.new-writer.ensures.before ∙ ap (λ v. v.items) c.replace.ensures.value) c.new-writer.ensures.tokens c.into_inner.ensures.items

pub returns-clause-err : goal.returns-clause-err
returns-clause-err c = quoted-err _ _ _ _ _ _ c.string-written.ensures (c.new-writer.ensures.before ∙ ap (λ v. v.items) c.replace.ensures.value) c.new-writer.ensures.tokens c.into_inner.ensures.items
