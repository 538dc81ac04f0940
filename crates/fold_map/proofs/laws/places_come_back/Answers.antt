use Rattle.fold_map.proofs.Answering.{come_back}
use Rattle.fold_map.proofs.Followed.{cut_folds}
use Rattle.fold_map.proofs.laws.places_come_back.Goals as goal

pub returns : goal.returns
returns c =
    let m = c.args.map.now in
    let k = c.known.ensures in
    come_back m (cut_folds m.history k.history.lawful k.history.proper m.folds k.folds)
