use Rattle.std.proofs.Common.{◌≡◌, ◌∙◌, List, ℕ, sym, ap, subst}
use Rattle.op_model.specs.declared.operation.Operation.{Operation}
use Rattle.op_model.specs.declared.operation.Operation.TheVariants.{Edit}
use Rattle.op_model.specs.Operations.{pieces_of}
use Rattle.op_model.specs.Histories.{clock, version}
use Rattle.op_model.specs.Made.{local_edit}
use Rattle.op_model.specs.Shown.{hidden_text, text, texts}
use Rattle.op_model.proofs.answers.Local.{made_edit_texts}
use Rattle.remote_edit.specs.declared.tree_change.TreeChange.{TreeChange}
use Rattle.remote_edit.specs.Changes.{after_change, ChangeFew}
use Rattle.remote_edit.specs.Fragments.{fragments_of}
use Rattle.remote_edit.specs.Moves.{TakeTexts}
use Rattle.remote_edit.proofs.Fragments.{fragments_with_edit}
use Rattle.text_buffer.proofs.Contents.{content_seen, history_seen, edit_room, made_grows, may_make}
use Rattle.text_buffer.proofs.Costs.{edit_cost}
use Rattle.text_buffer.proofs.Drafts.{draft_after}
use Rattle.text_buffer.proofs.document.Document.with_changes.Goals as goal

pub plan_local-requires : goal.plan_local-requires
plan_local-requires g c =
    let h = c.args.self.now in
    let k = content_seen c.self.inside h c.self.invariant c.self.view_is in
    let s = history_seen c.self.inside h c.self.invariant c.self.view_is in
    let v = c.self.invariant.clock ∙ ap clock c.self.view_is in
    let z = c.in_ok-copy.ensures ∙ c.deref.ensures ∙ c.self.invariant.version ∙ ap version c.self.view_is in
    may_make c.self.inside.content h (record { value = c.self.inside.clock; replica = c.args.replica }) c.in_ok-copy.field-0 c.args.changes.now k s c.requires v z

pub draft_of-requires-clause-texts : goal.draft_of-requires-clause-texts
draft_of-requires-clause-texts g c =
    let h = c.args.self.now in
    let k = content_seen c.self.inside h c.self.invariant c.self.view_is in
    let s = history_seen c.self.inside h c.self.invariant c.self.view_is in
    let v = c.self.invariant.clock ∙ ap clock c.self.view_is in
    let z = c.in_ok-copy.ensures ∙ c.deref.ensures ∙ c.self.invariant.version ∙ ap version c.self.view_is in
    let op = Edit c.in_ok-edit.edit in
    let i : op ≡ local_edit h c.args.replica c.args.changes.now = c.in_ok-edit.ensures.made h k.stand v z in
    let g = made_grows h c.args.replica c.args.changes.now op s c.requires i c.size-adds.ensures.proper in
    subst (λ (n : List ℕ). TakeTexts c.in_ok-edit.placement.moves (text h) (hidden_text h) n) (ap (λ (o : Operation). texts (pieces_of o)) i ∙ made_edit_texts h c.args.replica c.args.changes.now)
    (c.in_ok-edit.ensures.placement.characters h k.stand s.lawful s.proper g.proper g.good k.whole).1

pub draft_of-requires-clause-room : goal.draft_of-requires-clause-room
draft_of-requires-clause-room g c = edit_room c.args.self.now c.args.replica c.args.changes.now c.requires

pub returns-clause-made : goal.returns-clause-made
returns-clause-made g c =
    let h = c.args.self.now in
    let k = content_seen c.self.inside h c.self.invariant c.self.view_is in
    let s = history_seen c.self.inside h c.self.invariant c.self.view_is in
    let v = c.self.invariant.clock ∙ ap clock c.self.view_is in
    let z = c.in_ok-copy.ensures ∙ c.deref.ensures ∙ c.self.invariant.version ∙ ap version c.self.view_is in
    c.in_ok-edit.ensures.made h k.stand v z

pub returns-clause-grows : goal.returns-clause-grows
returns-clause-grows g c =
    let h = c.args.self.now in
    let k = content_seen c.self.inside h c.self.invariant c.self.view_is in
    let s = history_seen c.self.inside h c.self.invariant c.self.view_is in
    let v = c.self.invariant.clock ∙ ap clock c.self.view_is in
    let z = c.in_ok-copy.ensures ∙ c.deref.ensures ∙ c.self.invariant.version ∙ ap version c.self.view_is in
    let op = Edit c.in_ok-edit.edit in
    let i : op ≡ local_edit h c.args.replica c.args.changes.now = c.in_ok-edit.ensures.made h k.stand v z in
    made_grows h c.args.replica c.args.changes.now op s c.requires i c.size-adds.ensures.proper

pub returns-clause-bytes : goal.returns-clause-bytes
returns-clause-bytes g c = c.size-adds.ensures.bytes

pub returns-clause-entries : goal.returns-clause-entries
returns-clause-entries g c = c.size-adds.ensures.entries

pub returns-clause-draft : goal.returns-clause-draft
returns-clause-draft g c =
    let h = c.args.self.now in
    let k = content_seen c.self.inside h c.self.invariant c.self.view_is in
    let s = history_seen c.self.inside h c.self.invariant c.self.view_is in
    let v = c.self.invariant.clock ∙ ap clock c.self.view_is in
    let z = c.in_ok-copy.ensures ∙ c.deref.ensures ∙ c.self.invariant.version ∙ ap version c.self.view_is in
    let op = Edit c.in_ok-edit.edit in
    let i : op ≡ local_edit h c.args.replica c.args.changes.now = c.in_ok-edit.ensures.made h k.stand v z in
    let g = made_grows h c.args.replica c.args.changes.now op s c.requires i c.size-adds.ensures.proper in
    let fs = c.self.inside.content.fragments.items in
    let p = c.in_ok-edit.ensures.placement in
    draft_after c.in_ok-draft.draft c.in_ok-edit.placement fs (fragments_of h) h op c.self.inside.content.undos c.in_ok-undos.undos (texts c.args.changes.now) c.in_ok-draft.ensures
    (sym (ap (λ (o : Operation). texts (pieces_of o)) i ∙ made_edit_texts h c.args.replica c.args.changes.now)) c.in_ok-undos.ensures k.fragments p.may
    (fragments_with_edit h c.in_ok-edit.edit c.self.inside.content.undos fs (after_change c.in_ok-edit.placement.change fs) k.stand.counts k.fragments p.fragments)
    (p.stands h k.stand s.lawful g.good) (p.characters h k.stand s.lawful s.proper g.proper g.good k.whole).0 (p.moves h k.stand s.lawful g.good)

pub returns-clause-change : goal.returns-clause-change
returns-clause-change g c = λ n f.
    let h = c.args.self.now in
    let k = content_seen c.self.inside h c.self.invariant c.self.view_is in
    edit_cost c.self.inside.content h c.args.changes.now n c.args.steps.now k c.known.ensures.tall
    (c.in_ok-edit.ensures.change n (subst (λ (x : TreeChange). ChangeFew x c.plan_local.new.steps n) c.in_ok-draft.ensures.change f))
