-- What the fields of a document stand for.
use Rattle.std.specs.Prelude.{◌≡◌}
use Rattle.std.specs.Arc.{arc_value}
use Rattle.op_model.specs.Histories.{version, clock, bytes_held, entries_held}
use Rattle.text_buffer.specs.Document.{IsContent, IsBufferHistory}
use Rattle.text_buffer.specs.declared.document.Document.TheInside.{Inside}

pub record IsDocumentInside (d : Inside) : Type 0 where
  pub clock : d.clock ≡ clock d.operations
  pub version : arc_value d.version ≡ version d.operations
  pub content : IsContent d.content d.operations
  pub bytes : d.bytes ≡ bytes_held d.operations
  pub entries : d.entries ≡ entries_held d.operations
  pub history : IsBufferHistory d.operations
