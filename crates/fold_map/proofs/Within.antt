-- A history that goes on has all operations that it had.
use Rattle.std.proofs.Common.{◌≡◌, sym, subst}
use Rattle.op_model.specs.Histories.{History, In}
use Rattle.op_model.proofs.Elements.{member_left}
use Rattle.text_buffer.specs.Document.{IsFront}
use Rattle.fold_map.specs.Calls.{IsWithin}

pub front_within : (h g : History) → IsFront h g → IsWithin h g
front_within h g f op i = subst (λ (x : History). In x op) (sym f.1) (member_left op h f.0 i)

-- a snapshot s of what h has become
pub later_within : (h g s : History) → s ≡ g → IsFront h g → IsWithin h s
later_within h g s e f = subst (IsWithin h) (sym e) (front_within h g f)
