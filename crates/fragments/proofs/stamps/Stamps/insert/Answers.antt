use Rattle.fragments.proofs.Stamping.{inserted}
use Rattle.fragments.proofs.stamps.Stamps.insert.Goals as goal
use Rattle.fragments.proofs.stamps.Stamps.insert.Goals.{in-Ok, in-Err}

pub returns-clause-ok : goal.returns-clause-ok
returns-clause-ok c = elim c.match-insert.branch [
  | in-Ok w ↦ rw w.result-is (inserted c.args.t c.args.self.now c.self.inside.inner.items c.as_slice.result.now c.insert.new.self.items c.place_in-at.result w.in-Ok.ensures.ok c.place_in-at.ensures.place c.as_slice.ensures c.self.view_is)
  | in-Err w ↦ rw w.result-is tt
]
