-- What the fields of a base stand for.
use Rattle.std.specs.Prelude.{◌≡◌, ◌∷◌, [], length}
use Rattle.op_model.specs.Histories.{base}
use Rattle.op_model.specs.Rules.{KeepsRule}
use Rattle.text_buffer.specs.Bases.{opening_text}
use Rattle.text_buffer.specs.Buffer.{BaseText}
use Rattle.text_buffer.specs.declared.base.Base.TheInside.{Inside}

abbrev pub base_of : Inside → BaseText
base_of b = record { text = opening_text b.document; endings = b.endings }

-- the document has the base alone, which has entered
pub record IsBaseInside (b : Inside) : Type 0 where
  pub alone : b.document ≡ base (opening_text b.document) ∷ []
  pub rule : KeepsRule b.endings b.document
  pub len : b.len ≡ length (opening_text b.document)
