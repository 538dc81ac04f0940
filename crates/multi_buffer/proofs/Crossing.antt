-- A multibuffer may go to another thread, and be shared with one. It has a tree and snapshots in it, so its fields are gone through one by one.
use denote.Param.Send.{IsSend, IsSync, sendable}
use denote.Param.SendFields.{declared_send, declared_sync}
use Rattle.std.proofs.Crossing.{crosses}
use Rattle.rope_chunks.below.sum_tree.proofs.tree.SumTree.TheLaws.TheKnot as knot
use Rattle.text_buffer.proofs.Crossing.{snapshot_sent, snapshot_shared}
use Rattle.multi_buffer.specs.contracts.excerpt.Excerpt as excerpt
use Rattle.multi_buffer.specs.contracts.lengths.Lengths as lengths
use Rattle.multi_buffer.specs.contracts.excerpts.Excerpts as excerpts
use Rattle.multi_buffer.specs.contracts.excerpts.Excerpts.TheInside as held
use Rattle.multi_buffer.specs.contracts.members.Member as member
use Rattle.multi_buffer.specs.contracts.reach.Reach as reach
use Rattle.multi_buffer.specs.contracts.source.Source as source
use Rattle.multi_buffer.specs.contracts.multi.MultiBuffer as multi
use Rattle.multi_buffer.specs.contracts.multi.MultiBuffer.TheInside as inside

ruleset plain = (crosses, sendable)

excerpt_sent : IsSend excerpt.the_row
excerpt_sent = search plain depth 60 fits 20000

excerpt_shared : IsSync excerpt.the_row
excerpt_shared = search plain depth 60 fits 20000

lengths_sent : IsSend lengths.the_row
lengths_sent = search plain depth 60 fits 20000

lengths_shared : IsSync lengths.the_row
lengths_shared = search plain depth 60 fits 20000

member_sent : IsSend member.the_row
member_sent = search plain depth 60 fits 20000

member_shared : IsSync member.the_row
member_shared = search plain depth 60 fits 20000

reach_sent : IsSend reach.the_row
reach_sent = search plain depth 60 fits 20000

reach_shared : IsSync reach.the_row
reach_shared = search plain depth 60 fits 20000

ruleset trees = (excerpt_sent, excerpt_shared, lengths_sent, lengths_shared, knot.crosses, crosses, sendable)

ruleset member_trees = (member_sent, member_shared, reach_sent, reach_shared, knot.crosses, crosses, sendable)

held_sent : IsSend held.the_row
held_sent = declared_send held.the_type (search trees depth 60 fits 20000, (search member_trees depth 60 fits 20000, tt))

held_shared : IsSync held.the_row
held_shared = declared_sync held.the_type (search trees depth 60 fits 20000, (search member_trees depth 60 fits 20000, tt))

excerpts_sent : IsSend excerpts.the_row
excerpts_sent = search (held_sent, sendable) depth 60 fits 20000

excerpts_shared : IsSync excerpts.the_row
excerpts_shared = search (held_shared, sendable) depth 60 fits 20000

source_sent : IsSend source.the_row
source_sent = declared_send source.the_type (search plain depth 60 fits 20000, (snapshot_sent, tt))

source_shared : IsSync source.the_row
source_shared = declared_sync source.the_type (search plain depth 60 fits 20000, (snapshot_shared, tt))

ruleset sources = (source_sent, source_shared, crosses, sendable)

inside_sent : IsSend inside.the_row
inside_sent = declared_send inside.the_type (search plain depth 60 fits 20000, (excerpts_sent, (search sources depth 60 fits 20000, tt)))

inside_shared : IsSync inside.the_row
inside_shared = declared_sync inside.the_type (search plain depth 60 fits 20000, (excerpts_shared, (search sources depth 60 fits 20000, tt)))

pub multi_sent : IsSend multi.the_row
multi_sent = search (inside_sent, sendable) depth 60 fits 20000

pub multi_shared : IsSync multi.the_row
multi_shared = search (inside_shared, sendable) depth 60 fits 20000
