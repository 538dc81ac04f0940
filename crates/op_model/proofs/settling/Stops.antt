-- What settling has applied when it is stopped is a front of what it would apply.
use Rattle.std.proofs.Common.{◌≡◌, ℕ, List, [], ◌∷◌, ◌++◌, take, sym, ◌∙◌}
use Rattle.op_model.specs.Rules.{Rules}
use Rattle.op_model.specs.Sorted.{Ascending}
use Rattle.op_model.specs.Histories.{History}
use Rattle.op_model.specs.Settled.{State}
use Rattle.op_model.specs.Steps.{older, settle_step}
use Rattle.op_model.specs.Stopped.{stopped_pass, stopped_settling}
use Rattle.op_model.proofs.settling.Appending.{Grows, still, further, settle_grows, pass_longer}
use Rattle.op_model.proofs.settling.GoingOn.{goes_on}

stop_grows : (l : Rules) (k : ℕ) (s : State) → Grows s (stopped_pass k l s)
stop_grows l k s = pass_longer l s.history (take k s.waiting)

stops_grow : (l : Rules) (ks : List ℕ) (s : State) → Grows s (stopped_settling ks l s)
stops_grow l [] s = still s
stops_grow l (k ∷ ks) s = further s (stopped_pass k l s) (stopped_settling ks l (stopped_pass k l s)) (stop_grows l k s) (stops_grow l ks (stopped_pass k l s))

pub fronts_left : (l : Rules) (ks : List ℕ) (s : State) → Ascending older s.waiting
    → (f : History) × (g : History) × ((stopped_settling ks l s).history ≡ s.history ++ f) × ((settle_step l s).history ≡ (stopped_settling ks l s).history ++ g)
fronts_left l ks s u =
    let f = stops_grow l ks s in
    let g = settle_grows l (stopped_settling ks l s) in
    (f.0, g.0, f.1, sym (goes_on l ks s u).history ∙ g.1)
