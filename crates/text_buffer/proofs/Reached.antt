-- Calls append to what is applied.
use Rattle.std.proofs.Common.{List, [], ◌∷◌, ap, ◌∙◌, inl, inr}
use Rattle.op_model.proofs.MainLaws.{runs_append}
use Rattle.text_buffer.specs.Buffer.{BufferState, rules, state}
use Rattle.text_buffer.specs.Calls.{AreCalled, Leads}
use Rattle.text_buffer.specs.Document.{IsFront}
use Rattle.text_buffer.proofs.Fronts.{front_trans}
use Rattle.text_buffer.proofs.Stopped.{stopped_front}

called_front : (b n : BufferState) → AreCalled b n → IsFront b.history n.history
called_front b n (inl c) =
    let k = runs_append (rules b) b.replica c.0 (state b) in
    (k.0, ap (λ (x : BufferState). x.history) c.1 ∙ k.1)
called_front b n (inr s) = stopped_front s.0 b n s.1

pub reached_front : (b n : BufferState) (between : List BufferState) → Leads b between n → IsFront b.history n.history
reached_front b n [] l = called_front b n l
reached_front b n (m ∷ between) l = front_trans b.history m.history n.history (called_front b m l.0) (reached_front m n between l.1)
