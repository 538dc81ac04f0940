-- What was synced of one replica's buffer is in that of another.
use Rattle.std.proofs.Common.{◌≡◌, ap, ◌∙◌, sym, subst}
use Rattle.op_model.specs.Histories.{History}
use Rattle.op_model.specs.Settled.{State}
use Rattle.text_buffer.specs.Buffer.{BufferState, state}
use Rattle.multi_buffer.specs.Calls.{IsWithin}

pub within_snapshot : (k h s : History) → s ≡ h → IsWithin k h → IsWithin k s
within_snapshot k h s e w = subst (IsWithin k) (sym e) w

pub within_from : (k h g : History) → k ≡ h → IsWithin h g → IsWithin k g
within_from k h g e w = subst (λ (x : History). IsWithin x g) (sym e) w

pub opened_within : (b : BufferState) (s : State) (g : History) → state b ≡ s → IsWithin b.history g → IsWithin s.history g
opened_within b s g e w = subst (λ (t : State). IsWithin t.history g) e w

pub opened_is : (b : BufferState) (s : State) (h : History) → h ≡ b.history → state b ≡ s → h ≡ s.history
opened_is b s h e f = e ∙ ap (λ (t : State). t.history) f
