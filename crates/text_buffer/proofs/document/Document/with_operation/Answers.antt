use Rattle.std.proofs.Common.{◌∙◌, ◌+◌, ℕ, [], sym, ap, subst}
use Rattle.op_model.specs.Histories.{History}
use Rattle.op_model.specs.Answers.{answer}
use Rattle.op_model.proofs.histories.Growing.{fresh_of}
use Rattle.lamport_clock.specs.Versions.{raise}
use Rattle.text_buffer.specs.Document.{MayGrow}
use Rattle.text_buffer.proofs.Applied.{IsDocumentInside-applied}
use Rattle.text_buffer.proofs.Contents.{content_seen, history_seen}
use Rattle.text_buffer.proofs.document.Document.with_operation.Goals as goal

pub with_operation-requires : goal.with_operation-requires
with_operation-requires c =
    let h = c.args.self in
    record {
      history = h;
      content = content_seen c.self.inside h c.self.invariant c.self.view_is;
      known = history_seen c.self.inside h c.self.invariant c.self.view_is;
      grows = c.requires;
    }

pub push-requires : goal.push-requires
push-requires c = fresh_of c.self.inside.operations c.args.op (ap (λ (h : History). answer h [] c.args.op) c.self.view_is ∙ c.requires.good)

pub invariant_of-result : goal.invariant_of-result
invariant_of-result c =
    let op = c.args.op in
    let h = c.self.inside.operations in
    let grows : MayGrow h op = subst (λ (g : History). MayGrow g op) (sym c.self.view_is) c.requires in
    IsDocumentInside-applied c.self.inside _ op c.stamp-stamp.result c.self.invariant grows.proper grows.good grows.room c.stamp-stamp.ensures
    c.in_ok-push.ensures.ok c.after.ensures (c.in_ok-version.ensures ∙ ap (λ v. raise v c.stamp-stamp.result) c.self.invariant.version)
    (c.in_ok-content.ensures h c.self.invariant.content c.self.invariant.history grows)
    (ap (λ (n : ℕ). c.self.inside.bytes + n) c.size-adds.ensures.bytes) (ap (λ (n : ℕ). c.self.inside.entries + n) c.size-adds.ensures.entries)
