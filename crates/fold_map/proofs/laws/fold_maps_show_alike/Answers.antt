use Rattle.fold_map.proofs.Followed.{show_alike}
use Rattle.fold_map.proofs.laws.fold_maps_show_alike.Goals as goal

pub returns : goal.returns
returns c = λ s e. show_alike c.args.a.now c.args.b.now c.known.ensures.history.lawful c.known-2.ensures.history.lawful s e
