use Rattle.text_buffer.proofs.Fronts.{front_trans}
use Rattle.fold_map_tests.proofs.Fronts.{front_of_same}
use Rattle.fold_map_tests.proofs.rows.takes.Goals as goal

pub follow-requires : goal.follow-requires
follow-requires g c = front_trans c.args.map.now.history c.args.authors.now.own.history c.moves-goes_on.new.authors.own.history c.requires c.moves-goes_on.ensures

pub returns : goal.returns
returns g c = front_of_same c.answers.new.map.history c.follow.new.map.history c.moves-goes_on.new.authors.own.history c.answers.ensures c.follow.ensures
