use Rattle.std.proofs.Common.{◌≡◌, ◌∙◌, ap, sym, refl, Some}
use Rattle.std.proofs.lemmas.Bool.{eq-eqb, ne_eqb}
use Rattle.rope_chunks.proofs.PointClips.{point_on}
use Rattle.rope_chunks.proofs.rope.Rope.point_on.Goals as goal
use Rattle.text_dims.proofs.PointClips.{in_row}

pub returns-then-place-point : goal.returns-then-place-point
returns-then-place-point c =
    let before = c.stop-stop.result.before in
    let step : before ≡ in_row c.args.point.row (Some c.in-Some.place) before = rw (ne_eqb c.in-Some.place.row c.args.point.row c.if-place-point.true) refl in
    step ∙ ap (λ h. in_row c.args.point.row h before) (sym c.in-Some.is)
    ∙ point_on c.args.self.now c.args.point c.stop-stop.result c.known.ensures.text c.stop-stop.ensures

pub returns-else-place-point : goal.returns-else-place-point
returns-else-place-point c =
    let before = c.stop-stop.result.before in
    let step : c.in-Some.place ≡ in_row c.args.point.row (Some c.in-Some.place) before = rw (eq-eqb c.in-Some.place.row c.args.point.row c.if-place-point.false) refl in
    step ∙ ap (λ h. in_row c.args.point.row h before) (sym c.in-Some.is)
    ∙ point_on c.args.self.now c.args.point c.stop-stop.result c.known.ensures.text c.stop-stop.ensures

pub returns-in-None : goal.returns-in-None
returns-in-None c =
    let before = c.stop-stop.result.before in
    ap (λ h. in_row c.args.point.row h before) (sym c.in-None.is)
    ∙ point_on c.args.self.now c.args.point c.stop-stop.result c.known.ensures.text c.stop-stop.ensures
