use Rattle.std.proofs.Common.{rules, ◌≡◌, length, List, ap, sym, ◌∙◌, arith, None}
use Rattle.remote_edit.specs.declared.moves.Move.{Move}
use Rattle.remote_edit.specs.Moves.{as_one, with_move}
use Rattle.remote_edit.proofs.Joining.{one_longer, one_more, first_one}
use Rattle.remote_edit.proofs.moves.Moves.push.Goals as goal
use Rattle.remote_edit.proofs.moves.Moves.push.Goals.{else-len-gt0-via-else-len-gt0, else-len-gt0-via-then-len-gt0+in-None-1}

pub returns-clause-ok : goal.returns-clause-ok
returns-clause-ok c =
    let n : c.len-len.result ≡ length c.self.inside.inner.items = search rules in
    one_longer c.self.inside.inner.items c.len-len.result c.index.result.now c.args.next c.in-Some.one (λ e. c.if-len-eq0.false (c.len.ensures ∙ e)) n c.if-len-gt0.true c.index.ensures (sym c.as_one.ensures ∙ c.in-Some.is)
    ∙ ap (λ (ms : List Move). with_move ms c.args.next) c.self.view_is

pub returns-2-clause-ok : goal.returns-2-clause-ok
returns-2-clause-ok c =
    let n : c.len-len.result ≡ length c.self.inside.inner.items = search rules in
    elim c.else-len-gt0.branch [
      | else-len-gt0-via-else-len-gt0 w ↦ c.in_ok-push.ensures.items ∙ first_one c.self.inside.inner.items c.args.next (λ e. c.if-len-eq0.false (c.len.ensures ∙ e)) (omega arith) ∙ ap (λ (ms : List Move). with_move ms c.args.next) c.self.view_is
      | else-len-gt0-via-then-len-gt0+in-None-1 w ↦ (
          let o : as_one w.index.result.now c.args.next ≡ None = search rules in
          c.in_ok-push.ensures.items ∙ one_more c.self.inside.inner.items c.len-len.result w.index.result.now c.args.next (λ e. c.if-len-eq0.false (c.len.ensures ∙ e)) n w.if-len-gt0.true w.index.ensures o ∙ ap (λ (ms : List Move). with_move ms c.args.next) c.self.view_is)
    ]
