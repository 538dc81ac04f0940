-- A publisher, a reader and a token may go to another thread. A snapshot has trees in it, so the fields are taken one by one.
use denote.Param.Send.{IsSend, IsSync, sendable}
use denote.Param.SendFields.{declared_send, declared_sync}
use Rattle.std.proofs.Crossing.{crosses}
use Rattle.text_buffer.proofs.Crossing.{snapshot_sent, snapshot_shared}
use Rattle.logbook.proofs.tokens.Seen.TheSendSync as seen
use Rattle.left_right.proofs.reader.Reader.TheSendSync as reader_end
use Rattle.left_right.proofs.writer.Writer.TheSendSync as writer_end
use Rattle.snapshot_pub.proofs.growth.Growth.TheSendSync as growth
use Rattle.snapshot_pub.specs.contracts.kept.Kept as kept
use Rattle.snapshot_pub.specs.contracts.publisher.Told as told
use Rattle.snapshot_pub.specs.contracts.publisher.Told.TheInside as told_inside
use Rattle.snapshot_pub.specs.contracts.publisher.Side as side
use Rattle.snapshot_pub.specs.contracts.publisher.Publisher as publisher
use Rattle.snapshot_pub.specs.contracts.publisher.Publisher.TheInside as publisher_inside
use Rattle.snapshot_pub.specs.contracts.reader.SnapReader as reader
use Rattle.snapshot_pub.specs.contracts.reader.SnapReader.TheInside as reader_inside

ruleset plain = (crosses, sendable)

ruleset logs = (seen.the_send, seen.the_sync, crosses, sendable)

kept_sent : IsSend kept.the_row
kept_sent = declared_send kept.the_type (snapshot_sent, (search logs depth 60 fits 20000, tt))

kept_shared : IsSync kept.the_row
kept_shared = declared_sync kept.the_type (snapshot_shared, (search logs depth 60 fits 20000, tt))

ruleset ends = (reader_end.the_send, writer_end.the_send, kept_sent, kept_shared, crosses, sendable)

told_inside_sent : IsSend told_inside.the_row
told_inside_sent = declared_send told_inside.the_type (kept_sent, tt)

pub told_sent : IsSend told.the_row
told_sent = search (told_inside_sent, sendable) depth 60 fits 20000

reader_inside_sent : IsSend reader_inside.the_row
reader_inside_sent = declared_send reader_inside.the_type (search ends depth 60 fits 20000, (kept_sent, (search plain depth 60 fits 20000, tt)))

pub reader_sent : IsSend reader.the_row
reader_sent = search (reader_inside_sent, sendable) depth 60 fits 20000

side_sent : IsSend side.the_row
side_sent = declared_send side.the_type (search ends depth 60 fits 20000, (growth.the_send, tt))

publisher_inside_sent : IsSend publisher_inside.the_row
publisher_inside_sent = declared_send publisher_inside.the_type (search (side_sent, crosses, sendable) depth 60 fits 20000, tt)

pub publisher_sent : IsSend publisher.the_row
publisher_sent = search (publisher_inside_sent, sendable) depth 60 fits 20000
