use Rattle.std.proofs.lemmas.Result.{IfOk-weaker}
use Rattle.text_buffer.proofs.Contents.{content_seen, history_seen}
use Rattle.text_buffer.proofs.document.Document.content_with.Goals as goal

pub with_operation-requires : goal.with_operation-requires
with_operation-requires c =
    let h = c.args.self.now in
    record {
      history = h;
      content = c.in_ok-content.ensures h (content_seen c.self.inside h c.self.invariant c.self.view_is);
      known = history_seen c.self.inside h c.self.invariant c.self.view_is;
      grows = c.requires;
    }

pub returns : goal.returns
returns c =
    let h = c.args.self.now in
    let k = c.in_ok-content.ensures h (content_seen c.self.inside h c.self.invariant c.self.view_is) in
    let s = history_seen c.self.inside h c.self.invariant c.self.view_is in
    IfOk-weaker c.with_operation.result _ _ (λ x f. f h k s c.requires) c.with_operation.ensures
