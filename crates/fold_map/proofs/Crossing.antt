-- A fold map may go to another thread, and be shared with one. It has trees in it, those of its snapshot and of its folds and spans:
-- so the fields are gone through one by one.
use denote.Param.Send.{IsSend, IsSync, sendable}
use denote.Param.SendFields.{declared_send, declared_sync}
use Rattle.std.proofs.Crossing.{crosses}
use Rattle.std.proofs.MapsCrossing as maps
use Rattle.rope_chunks.below.sum_tree.proofs.tree.SumTree.TheLaws.TheKnot as knot
use Rattle.text_buffer.proofs.Crossing.{snapshot_sent, snapshot_shared}
use Rattle.fold_spans.specs.contracts.spans.Spans as spans
use Rattle.fold_map.specs.contracts.fold.NumberedFold as item
use Rattle.fold_map.specs.contracts.folds.Folds as folds
use Rattle.fold_map.specs.contracts.folds.Folds.TheInside as numbered
use Rattle.fold_map.specs.contracts.map.FoldMap as map
use Rattle.fold_map.specs.contracts.map.FoldMap.TheInside as inside

ruleset trees = (knot.crosses, crosses, sendable)

ruleset plain = (maps.crosses, crosses, sendable)

spans_sent : IsSend spans.the_row
spans_sent = search trees depth 60 fits 20000

spans_shared : IsSync spans.the_row
spans_shared = search trees depth 60 fits 20000

item_sent : IsSend item.the_row
item_sent = search plain depth 60 fits 20000

item_shared : IsSync item.the_row
item_shared = search plain depth 60 fits 20000

ruleset items = (item_sent, item_shared, knot.crosses, crosses, sendable)

numbered_sent : IsSend numbered.the_row
numbered_sent = declared_send numbered.the_type (search items depth 60 fits 20000, (search plain depth 60 fits 20000, tt))

numbered_shared : IsSync numbered.the_row
numbered_shared = declared_sync numbered.the_type (search items depth 60 fits 20000, (search plain depth 60 fits 20000, tt))

folds_sent : IsSend folds.the_row
folds_sent = search (numbered_sent, sendable) depth 60 fits 20000

folds_shared : IsSync folds.the_row
folds_shared = search (numbered_shared, sendable) depth 60 fits 20000

inside_sent : IsSend inside.the_row
inside_sent = declared_send inside.the_type (search plain depth 60 fits 20000, (snapshot_sent, (folds_sent, (spans_sent, tt))))

inside_shared : IsSync inside.the_row
inside_shared = declared_sync inside.the_type (search plain depth 60 fits 20000, (snapshot_shared, (folds_shared, (spans_shared, tt))))

pub map_sent : IsSend map.the_row
map_sent = search (inside_sent, sendable) depth 60 fits 20000

pub map_shared : IsSync map.the_row
map_shared = search (inside_shared, sendable) depth 60 fits 20000
