-- What the fields of a buffer stand for.
use Rattle.std.specs.Prelude.{map}
use Rattle.text_buffer.specs.Buffer.{BufferState, IsBuffer}
use Rattle.text_buffer.specs.Outcomes.{pair_of}
use Rattle.text_buffer.specs.declared.buffer.Buffer.TheInside.{Inside}

abbrev pub state_of : Inside → BufferState
state_of b = record {
  history = b.document;
  waiting = b.waiting;
  refused = map pair_of b.refused.items;
  replica = b.replica;
  limits = b.limits;
  endings = b.endings;
}

abbrev pub IsBufferInside : Inside → Type 0
IsBufferInside b = IsBuffer (state_of b)
