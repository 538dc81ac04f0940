use Rattle.std.proofs.Common.{◌∙◌, ap}
use Rattle.lamport_clock.specs.Versions.{Entries, raise}
use Rattle.text_buffer.proofs.document.base_version.Goals as goal

pub returns : goal.returns
returns c = λ t. c.in_ok-new.ensures.ok ∙ c.in_ok-observe.ensures.ok ∙ ap (λ (v : Entries). raise v (record { value = 1; replica = 0 })) c.new-version.ensures
