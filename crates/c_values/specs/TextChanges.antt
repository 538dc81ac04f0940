-- What changed in a text, as C gets it.
use Rattle.op_model.specs.declared.anchor.TextEdit.{TextEdit}
use Rattle.c_values.specs.declared.text_changes.TextChange.{TextChange}

abbrev pub text_change : TextEdit → TextChange
text_change e = record { old_start = e.old.0; old_end = e.old.1; new_start = e.new.0; new_end = e.new.1 }
