-- A buffer, a snapshot and a base may go to another thread, and be shared with one. A document has trees in it, those of the applied
-- operations, of the undo counts, of the fragments and their index, and of the ropes: so its fields are gone through one by one.
use denote.Param.Send.{IsSend, IsSync, sendable}
use denote.Param.SendFields.{declared_send, declared_sync}
use Rattle.std.proofs.Crossing.{crosses}
use Rattle.std.proofs.MapsCrossing as maps
use Rattle.rope_chunks.below.sum_tree.proofs.tree.SumTree.TheLaws.TheKnot as knot
use Rattle.rope_chunks.specs.contracts.rope.Rope as rope
use Rattle.undo_map.specs.contracts.map.UndoMap as undos
use Rattle.op_model.specs.contracts.operation.Operation as operation
use Rattle.applied_ops.specs.contracts.operation.Applied as applied
use Rattle.applied_ops.specs.contracts.operation.Applied.TheInside as shared
use Rattle.applied_ops.specs.contracts.list.AppliedList as list
use Rattle.applied_ops.specs.contracts.list.AppliedList.TheInside as held
use Rattle.fragments.specs.contracts.fragment.Fragment as fragment
use Rattle.fragments.specs.contracts.fragment.FragmentSummary as summary
use Rattle.fragments.specs.contracts.index_entry.IndexEntry as entry
use Rattle.fragments.specs.contracts.index_entry.IndexKey as key
use Rattle.fragments.specs.contracts.deleted_run.DeletedRun as deleted
use Rattle.fragments.specs.contracts.recent.RecentEntries as recent
use Rattle.fragments.specs.contracts.recent.RecentEntries.TheInside as listed
use Rattle.fragments.specs.contracts.index.InsertionIndex as index
use Rattle.fragments.specs.contracts.index.InsertionIndex.TheInside as sorted
use Rattle.text_buffer.specs.contracts.content.Content as content
use Rattle.text_buffer.specs.contracts.document.Document as document
use Rattle.text_buffer.specs.contracts.document.Document.TheInside as fields
use Rattle.text_buffer.specs.contracts.base.Base as opening
use Rattle.text_buffer.specs.contracts.base.Base.TheInside as ready
use Rattle.text_buffer.specs.contracts.snapshot.Snapshot as snapshot
use Rattle.text_buffer.specs.contracts.snapshot.Snapshot.TheInside as still
use Rattle.text_buffer.specs.contracts.buffer.Buffer as buffer
use Rattle.text_buffer.specs.contracts.buffer.Buffer.TheInside as inside

ruleset trees = (knot.crosses, crosses, sendable)

ruleset plain = (maps.crosses, crosses, sendable)

rope_sent : IsSend rope.the_row
rope_sent = search trees depth 60 fits 20000

rope_shared : IsSync rope.the_row
rope_shared = search trees depth 60 fits 20000

undos_sent : IsSend undos.the_row
undos_sent = search trees depth 60 fits 20000

undos_shared : IsSync undos.the_row
undos_shared = search trees depth 60 fits 20000

operation_sent : IsSend operation.the_row
operation_sent = search plain depth 60 fits 20000

operation_shared : IsSync operation.the_row
operation_shared = search plain depth 60 fits 20000

shared_sent : IsSend shared.the_row
shared_sent = declared_send shared.the_type (operation_sent, tt)

shared_shared : IsSync shared.the_row
shared_shared = declared_sync shared.the_type (operation_shared, tt)

applied_sent : IsSend applied.the_row
applied_sent = search (shared_sent, sendable) depth 60 fits 20000

applied_shared : IsSync applied.the_row
applied_shared = search (shared_shared, sendable) depth 60 fits 20000

ruleset operations = (applied_sent, applied_shared, knot.crosses, crosses, sendable)

held_sent : IsSend held.the_row
held_sent = declared_send held.the_type (search operations depth 60 fits 20000, (search trees depth 60 fits 20000, tt))

held_shared : IsSync held.the_row
held_shared = declared_sync held.the_type (search operations depth 60 fits 20000, (search trees depth 60 fits 20000, tt))

list_sent : IsSend list.the_row
list_sent = search (held_sent, sendable) depth 60 fits 20000

list_shared : IsSync list.the_row
list_shared = search (held_shared, sendable) depth 60 fits 20000

fragment_sent : IsSend fragment.the_row
fragment_sent = search plain depth 60 fits 20000

fragment_shared : IsSync fragment.the_row
fragment_shared = search plain depth 60 fits 20000

summary_sent : IsSend summary.the_row
summary_sent = search plain depth 60 fits 20000

summary_shared : IsSync summary.the_row
summary_shared = search plain depth 60 fits 20000

entry_sent : IsSend entry.the_row
entry_sent = search plain depth 60 fits 20000

entry_shared : IsSync entry.the_row
entry_shared = search plain depth 60 fits 20000

key_sent : IsSend key.the_row
key_sent = search plain depth 60 fits 20000

key_shared : IsSync key.the_row
key_shared = search plain depth 60 fits 20000

deleted_sent : IsSend deleted.the_row
deleted_sent = search plain depth 60 fits 20000

deleted_shared : IsSync deleted.the_row
deleted_shared = search plain depth 60 fits 20000

ruleset entries = (entry_sent, entry_shared, deleted_sent, deleted_shared, key_sent, key_shared, knot.crosses, crosses, sendable)

listed_sent : IsSend listed.the_row
listed_sent = declared_send listed.the_type (search entries depth 60 fits 20000, tt)

listed_shared : IsSync listed.the_row
listed_shared = declared_sync listed.the_type (search entries depth 60 fits 20000, tt)

recent_sent : IsSend recent.the_row
recent_sent = search (listed_sent, sendable) depth 60 fits 20000

recent_shared : IsSync recent.the_row
recent_shared = search (listed_shared, sendable) depth 60 fits 20000

sorted_sent : IsSend sorted.the_row
sorted_sent = declared_send sorted.the_type (search entries depth 60 fits 20000, (recent_sent, (search entries depth 60 fits 20000, tt)))

sorted_shared : IsSync sorted.the_row
sorted_shared = declared_sync sorted.the_type (search entries depth 60 fits 20000, (recent_shared, (search entries depth 60 fits 20000, tt)))

index_sent : IsSend index.the_row
index_sent = search (sorted_sent, sendable) depth 60 fits 20000

index_shared : IsSync index.the_row
index_shared = search (sorted_shared, sendable) depth 60 fits 20000

ruleset fragments = (fragment_sent, fragment_shared, summary_sent, summary_shared, knot.crosses, crosses, sendable)

content_sent : IsSend content.the_row
content_sent = declared_send content.the_type (search fragments depth 60 fits 20000, (index_sent, (undos_sent, (rope_sent, (rope_sent, tt)))))

content_shared : IsSync content.the_row
content_shared = declared_sync content.the_type (search fragments depth 60 fits 20000, (index_shared, (undos_shared, (rope_shared, (rope_shared, tt)))))

fields_sent : IsSend fields.the_row
fields_sent = declared_send fields.the_type (search plain depth 60 fits 20000, (list_sent, (search plain depth 60 fits 20000, (search plain depth 60 fits 20000, (content_sent, (search plain depth 60 fits 20000, (search plain depth 60 fits 20000, tt)))))))

fields_shared : IsSync fields.the_row
fields_shared = declared_sync fields.the_type (search plain depth 60 fits 20000, (list_shared, (search plain depth 60 fits 20000, (search plain depth 60 fits 20000, (content_shared, (search plain depth 60 fits 20000, (search plain depth 60 fits 20000, tt)))))))

document_sent : IsSend document.the_row
document_sent = search (fields_sent, sendable) depth 60 fits 20000

document_shared : IsSync document.the_row
document_shared = search (fields_shared, sendable) depth 60 fits 20000

inside_sent : IsSend inside.the_row
inside_sent = declared_send inside.the_type (search plain depth 60 fits 20000, (search plain depth 60 fits 20000, (document_sent, (search plain depth 60 fits 20000, (search plain depth 60 fits 20000, (search plain depth 60 fits 20000, (search plain depth 60 fits 20000, tt)))))))

inside_shared : IsSync inside.the_row
inside_shared = declared_sync inside.the_type (search plain depth 60 fits 20000, (search plain depth 60 fits 20000, (document_shared, (search plain depth 60 fits 20000, (search plain depth 60 fits 20000, (search plain depth 60 fits 20000, (search plain depth 60 fits 20000, tt)))))))

pub buffer_sent : IsSend buffer.the_row
buffer_sent = search (inside_sent, sendable) depth 60 fits 20000

pub buffer_shared : IsSync buffer.the_row
buffer_shared = search (inside_shared, sendable) depth 60 fits 20000

still_sent : IsSend still.the_row
still_sent = declared_send still.the_type (document_sent, tt)

still_shared : IsSync still.the_row
still_shared = declared_sync still.the_type (document_shared, tt)

pub snapshot_sent : IsSend snapshot.the_row
snapshot_sent = search (still_sent, sendable) depth 60 fits 20000

pub snapshot_shared : IsSync snapshot.the_row
snapshot_shared = search (still_shared, sendable) depth 60 fits 20000

ready_sent : IsSend ready.the_row
ready_sent = declared_send ready.the_type (document_sent, (search plain depth 60 fits 20000, (search plain depth 60 fits 20000, tt)))

ready_shared : IsSync ready.the_row
ready_shared = declared_sync ready.the_type (document_shared, (search plain depth 60 fits 20000, (search plain depth 60 fits 20000, tt)))

pub base_sent : IsSend opening.the_row
base_sent = search (ready_sent, sendable) depth 60 fits 20000

pub base_shared : IsSync opening.the_row
base_shared = search (ready_shared, sendable) depth 60 fits 20000
