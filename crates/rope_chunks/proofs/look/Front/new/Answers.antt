use Rattle.std.proofs.Common.{ap, sym, get_or, ◌∙◌, arith}
use Rattle.text_dims.specs.declared.places.Place.{Place}
use Rattle.text_dims.specs.Places.{place_after}
use Rattle.text_dims.proofs.Fronts.{cut_before, cut_end}
use Rattle.text_dims.proofs.PlaceSums.{next_is}
use Rattle.rope_chunks.proofs.Fronts.{next_fits}
use Rattle.rope_chunks.proofs.look.Front.new.Goals as goal

pub with_next-front-requires-clause-fits : goal.with_next-front-requires-clause-fits
with_next-front-requires-clause-fits c =
    let f = c.loop-front.front in
    next_fits c.args.start f.place c.args.bytes.now f.len c.requires.room (omega (arith, c.loop-front-test.true)) c.loop-front.invariant.place

pub loop-front-preserved : goal.loop-front-preserved
loop-front-preserved c =
    let f = c.loop-front.front in
    let bs = c.args.bytes.now in
    rw c.with_next-front.ensures (record {
      some = omega arith;
      within = omega (arith, c.loop-front-test.true);
      place = ap (λ (k : Place). place_after k (get_or bs f.len 0)) c.loop-front.invariant.place ∙ next_is c.args.start bs f.len (omega (arith, c.loop-front-test.true));
    })

pub returns-else-not-is_char_start-clause-cut : goal.returns-else-not-is_char_start-clause-cut
returns-else-not-is_char_start-clause-cut c =
    cut_before c.args.bytes.now c.loop-front.front.len c.loop-front-test.true (sym c.is_char_start.ensures ∙ c.if-not-is_char_start.false)

pub returns-after-loop-front-clause-cut : goal.returns-after-loop-front-clause-cut
returns-after-loop-front-clause-cut c = cut_end c.args.bytes.now c.loop-front.front.len c.loop-front.invariant.within c.loop-front-test.false
