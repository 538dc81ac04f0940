use Rattle.std.proofs.Common.{ap}
use Rattle.fold_map.specs.Folds.{FoldState}
use Rattle.fold_map_tests.proofs.Fronts.{front_of_same}
use Rattle.fold_map_tests.proofs.refused.sync_again.Goals as goal

pub stays_and_goes_on-requires : goal.stays_and_goes_on-requires
stays_and_goes_on-requires c = front_of_same c.go_on_to.new.map.history c.args.map.now.history c.args.snapshot.now (ap (λ (m : FoldState). m.history) c.in-Err-OutOfMemory.ensures) c.requires
