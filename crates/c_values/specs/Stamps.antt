-- Stamps, as C hands them in and gets them.
use Rattle.lamport_clock.specs.declared.stamp.Lamport.{Lamport}
use Rattle.c_values.specs.declared.stamps.Stamp.{Stamp}

abbrev pub lamport : Stamp → Lamport
lamport s = record { value = s.value; replica = s.replica }

abbrev pub stamp : Lamport → Stamp
stamp t = record { value = t.value; replica = t.replica }
