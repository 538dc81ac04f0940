use Rattle.std.proofs.Common.{sym, subst, ap, get_or, ◌∙◌, arith}
use Rattle.text_dims.specs.declared.places.Place.{Place}
use Rattle.text_dims.specs.Places.{PlaceFits, place_after}
use Rattle.text_dims.proofs.Fronts.{run_end}
use Rattle.text_dims.proofs.PlaceSums.{next_is}
use Rattle.rope_chunks.proofs.Fronts.{front_fits, next_fits}
use Rattle.rope_chunks.proofs.look.Front.by_lanes.Goals as goal

pub past_run-requires : goal.past_run-requires
past_run-requires c =
    let r = c.run_at-run.result in
    let e = c.run_at-run.ensures in
    let bs = c.args.bytes.now in
    subst PlaceFits (sym (run_end c.args.start bs r.len r.chars r.units (omega (arith, c.requires.long, e.few)) e.row e.chars e.units))
    (front_fits c.args.start bs r.len c.requires.room (omega (arith, c.requires.long, e.few)))

pub with_next-requires-clause-fits : goal.with_next-requires-clause-fits
with_next-requires-clause-fits c =
    let r = c.run_at-run.result in
    let e = c.run_at-run.ensures in
    let bs = c.args.bytes.now in
    next_fits c.args.start c.past_run.result bs r.len c.requires.room (omega (arith, c.requires.long, e.few, c.if-run-eq-LANES.false))
    (c.past_run.ensures ∙ run_end c.args.start bs r.len r.chars r.units (omega (arith, c.requires.long, e.few)) e.row e.chars e.units)

pub returns-then-run-eq-LANES-clause-place : goal.returns-then-run-eq-LANES-clause-place
returns-then-run-eq-LANES-clause-place c =
    let r = c.run_at-run.result in
    let e = c.run_at-run.ensures in
    c.past_run.ensures ∙ run_end c.args.start c.args.bytes.now r.len r.chars r.units (omega (arith, c.requires.long, e.few)) e.row e.chars e.units

pub returns-clause-place : goal.returns-clause-place
returns-clause-place c =
    let r = c.run_at-run.result in
    let e = c.run_at-run.ensures in
    let bs = c.args.bytes.now in
    let is = c.past_run.ensures ∙ run_end c.args.start bs r.len r.chars r.units (omega (arith, c.requires.long, e.few)) e.row e.chars e.units in
    rw c.with_next.ensures
    (ap (λ (k : Place). place_after k (get_or bs r.len 0)) is ∙ next_is c.args.start bs r.len (omega (arith, c.requires.long, e.few, c.if-run-eq-LANES.false)))
