use Rattle.std.proofs.Common.{◌∙◌, ap}
use Rattle.op_model.specs.Histories.{version}
use Rattle.op_model.proofs.answers.Local.{local_undo_is}
use Rattle.undo_map.specs.Undos.{undo_entries}
use Rattle.text_buffer.specs.Buffer.{BufferState}
use Rattle.text_buffer.proofs.Undone.{counts_open}
use Rattle.text_buffer.proofs.buffer.Buffer.undo_operation.Goals as goal

pub next_counts-requires : goal.next_counts-requires
next_counts-requires c = counts_open c.args.self.now c.args.edits.now _ (c.undos.ensures ∙ ap (λ (b : BufferState). undo_entries b.history) c.self.view_is) c.requires

pub returns : goal.returns
returns c =
    let h = c.args.self.now.history in
    local_undo_is h c.args.self.now.replica c.args.edits.now _ _ _ c.next_stamp.ensures
    (c.in_ok-copy.ensures ∙ c.version.ensures ∙ ap (λ (b : BufferState). version b.history) c.self.view_is)
    (c.in_ok-next_counts.ensures.history h (c.undos.ensures ∙ ap (λ (b : BufferState). undo_entries b.history) c.self.view_is))
