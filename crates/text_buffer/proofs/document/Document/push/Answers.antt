use Rattle.std.proofs.Common.{◌≡◌, ◌∙◌, ◌+◌, ℕ, [], ◌∷◌, ◌++◌, refl, sym, ap, subst, arith}
use Rattle.sum_tree.specs.Seen.{Seen}
use Rattle.op_model.specs.Histories.{History}
use Rattle.op_model.specs.Answers.{answer}
use Rattle.op_model.specs.Answers.Answer.{Good}
use Rattle.op_model.proofs.histories.Growing.{fresh_of}
use Rattle.lamport_clock.specs.Versions.{raise}
use Rattle.fragments.specs.declared.fragment.Fragment.{Fragment}
use Rattle.remote_edit.specs.Changes.{after_change, MayChange}
use Rattle.remote_edit.specs.Fragments.{fragments_of}
use Rattle.remote_edit.proofs.Planned.{change_none}
use Rattle.text_buffer.specs.declared.content.Content.{Content}
use Rattle.text_buffer.specs.Document.{HasRoom, IsContent}
use Rattle.text_buffer.specs.DocumentInside.{IsDocumentInside}
use Rattle.text_buffer.proofs.Applied.{IsDocumentInside-applied, stay_few}
use Rattle.text_buffer.proofs.Contents.{content_seen}
use Rattle.text_buffer.proofs.Drafts.{content_drafted}
use Rattle.text_buffer.proofs.document.Document.push.Goals as goal

pub push_with_change-requires-clause-new : goal.push_with_change-requires-clause-new
push_with_change-requires-clause-new g c = fresh_of c.self.inside.operations c.args.op (ap (λ (h : History). answer h [] c.args.op) c.self.view_is ∙ c.requires.grows.good)

pub push_with_change-requires-clause-may : goal.push_with_change-requires-clause-may
push_with_change-requires-clause-may g c =
    let k = content_seen c.self.inside c.args.self.now c.self.invariant c.self.view_is in
    subst (MayChange c.args.draft.change) (sym k.fragments) c.requires.draft.may

pub invariant_of-self-2 : goal.invariant_of-self-2
invariant_of-self-2 g c =
    let op = c.args.op in
    let d = c.args.draft in
    let h = c.args.self.now in
    let k = content_seen c.self.inside h c.self.invariant c.self.view_is in
    let good : answer c.self.inside.operations [] op ≡ Good = ap (λ (x : History). answer x [] op) c.self.view_is ∙ c.requires.grows.good in
    let room : HasRoom c.self.inside.operations op = subst (λ (x : History). HasRoom x op) (sym c.self.view_is) c.requires.grows.room in
    let new : Content = record { fragments = c.push_with_change.new.fragments; index = d.index; undos = d.undos; text = d.text; hidden = d.hidden } in
    IsDocumentInside-applied c.self.inside _ op c.stamp-stamp.result c.self.invariant c.requires.grows.proper good room c.stamp-stamp.ensures
    c.in_ok-push_with_change.ensures.pushed c.after-self-inside.ensures
    (c.in_ok-version.ensures ∙ ap (λ v. raise v c.stamp-stamp.result) c.self.invariant.version)
    (subst (λ (x : History). IsContent new (x ++ op ∷ [])) (sym c.self.view_is)
    (content_drafted new d (fragments_of h) (h ++ op ∷ []) c.requires.draft (c.in_ok-push_with_change.ensures.ok ∙ ap (after_change d.change) k.fragments) refl refl refl refl))
    (ap (λ (n : ℕ). c.self.inside.bytes + n) c.requires.bytes) (ap (λ (n : ℕ). c.self.inside.entries + n) c.requires.entries)

pub invariant_of-self : goal.invariant_of-self
invariant_of-self g c =
    let d = c.self.inside in
    subst (λ (t : Seen Fragment). IsDocumentInside (record d { operations = c.push_with_change.new.operations; content = record d.content { fragments = t } })) (sym c.in_err-push_with_change.ensures.err)
    (subst (λ (h : History). IsDocumentInside (record d { operations = h })) (sym c.in_err-push_with_change.ensures.operations) c.self.invariant)

pub returns-in_err-version-clause-cost : goal.returns-in_err-version-clause-cost
returns-in_err-version-clause-cost g c = change_none c.args.draft.change c.args.steps.now

pub overflow_cast-self : goal.overflow_cast-self
overflow_cast-self g c = omega (arith, (stay_few c.self.inside c.args.self.now c.args.op c.args.adds.0 c.args.adds.1 c.self.invariant c.self.view_is c.requires.grows.room c.requires.bytes c.requires.entries).0)

pub overflow_add-self : goal.overflow_add-self
overflow_add-self g c = omega (arith, (stay_few c.self.inside c.args.self.now c.args.op c.args.adds.0 c.args.adds.1 c.self.invariant c.self.view_is c.requires.grows.room c.requires.bytes c.requires.entries).0)

pub overflow_add-self-2 : goal.overflow_add-self-2
overflow_add-self-2 g c = omega (arith, (stay_few c.self.inside c.args.self.now c.args.op c.args.adds.0 c.args.adds.1 c.self.invariant c.self.view_is c.requires.grows.room c.requires.bytes c.requires.entries).1)

pub same-self : goal.same-self
same-self g c = refl
