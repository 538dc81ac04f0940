-- The content of a history is what anchors and edits since a version are found in.
use Rattle.lamport_clock.specs.Versions.{Entries}
use Rattle.op_model.specs.Histories.{History}
use Rattle.op_model.specs.Lawful.{Lawful, IsClosed}
use Rattle.edits_since.specs.Telling.{MayTell}
use Rattle.text_buffer.specs.Document.{IsContent}
use Rattle.text_buffer.specs.declared.content.Content.{Content}

pub may_tell : (c : Content) (h : History) (v : Entries) → IsContent c h → Lawful h → IsClosed h v → MayTell c.fragments.items c.undos v h
may_tell c h v k l d = record { index = c.index; stands = k.stand; lawful = l; closed = d }
