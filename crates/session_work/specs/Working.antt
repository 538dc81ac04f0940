-- What a session that is worked stands for.
use Rattle.std.specs.Prelude.{ℕ, List, Vec}
use Rattle.std.specs.declared.alloc.Global.{Global}
use Rattle.lamport_clock.specs.Versions.{Entries}
use Rattle.op_model.specs.declared.anchor.Anchor.{Anchor}
use Rattle.text_buffer.specs.Buffer.{BufferState}
use Rattle.session_excerpts.specs.State.{Multis}
use Rattle.session_folds.specs.State.{ReplicaFolds}
use Rattle.session_selections.specs.State.{SelectionWork}
use Rattle.session_work.specs.Exchange.{ExchangeState}
use Rattle.session_work.specs.Names.{Names, by_bytes}
use Rattle.session_work.specs.MoreWork.{MoreState}
use Rattle.session_work.specs.Work.{State}
use Rattle.session_work.specs.declared.replay.Progress.{Progress}

abbrev pub state_of : Progress → State
state_of p = record {
  buffers = p.exchange.buffers;
  operations = p.exchange.operations;
  anchors = by_bytes p.anchors.entries;
  marks = by_bytes p.marks.entries;
}

-- what its fields stand for
pub record PlainState : Type 0 where
  pub exchange : ExchangeState
  pub anchors : Names Anchor
  pub marks : Names Entries
  pub report : Vec ℕ Global

abbrev pub plain_of : Progress → PlainState
plain_of p = record {
  exchange = p.exchange;
  anchors = by_bytes p.anchors.entries;
  marks = by_bytes p.marks.entries;
  report = p.report;
}

-- the parts of a session as far as it was worked
pub record ProgressState : Type 0 where
  -- what its lines of `session_lines` came to, and the lines of the events
  pub plain : PlainState
  -- what those of further kinds came to
  pub selections : SelectionWork
  pub folds : List ReplicaFolds
  pub excerpts : Multis

-- the buffers of its replicas
abbrev pub buffers_of : ProgressState → List BufferState
buffers_of p = p.plain.exchange.buffers

abbrev pub more_state_of : ProgressState → MoreState
more_state_of p = record {
  plain = record {
    buffers = p.plain.exchange.buffers;
    operations = p.plain.exchange.operations;
    anchors = p.plain.anchors;
    marks = p.plain.marks;
  };
  selections = p.selections;
  folds = p.folds;
  excerpts = p.excerpts;
}
