-- What the sources and sinks in memory hold.
use Rattle.std.specs.Prelude.{ℕ, List, drop}
use Rattle.session_io.specs.declared.memory.MemSource.{MemSource}
use Rattle.session_io.specs.declared.memory.MemSink.{MemSink}
use Rattle.session_io.specs.declared.memory.SureSource.{SureSource}
use Rattle.session_io.specs.declared.counts.ReadCounts.{ReadCounts}

abbrev pub source_left : MemSource → List ℕ
source_left s = drop s.at s.bytes.items

abbrev pub source_counts : MemSource → ReadCounts
source_counts s = s.counts

abbrev pub sure_left : SureSource → List ℕ
sure_left s = drop s.at s.bytes.items

abbrev pub sink_bytes : MemSink → List ℕ
sink_bytes s = s.bytes.items

abbrev pub sink_faults : MemSink → ℕ
sink_faults s = s.faults

-- how many bytes there is room for in all, and how many a call takes at most
abbrev pub sink_room : MemSink → ℕ
sink_room s = s.room

abbrev pub sink_most : MemSink → ℕ
sink_most s = s.most
