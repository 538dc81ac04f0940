use Rattle.std.proofs.Common.{◌≡◌, ◌∙◌, refl, Some, None}
use Rattle.std.proofs.lemmas.Bool.{eq-eqb, ne_eqb}
use Rattle.rope_chunks.proofs.RowEnds.{told, row_end}
use Rattle.rope_chunks.proofs.rope.Rope.row_len.Goals as goal

pub returns-then-end-row : goal.returns-then-end-row
returns-then-end-row c =
    let step : Some c.stop.result.before.column ≡ told c.args.row c.stop.result.before = rw (eq-eqb c.stop.result.before.row c.args.row c.if-end-row.true) refl in
    step ∙ row_end c.args.self.now c.args.row c.stop.result c.stop.ensures

pub returns-else-end-row : goal.returns-else-end-row
returns-else-end-row c =
    let step : None ≡ told c.args.row c.stop.result.before = rw (ne_eqb c.stop.result.before.row c.args.row c.if-end-row.false) refl in
    step ∙ row_end c.args.self.now c.args.row c.stop.result c.stop.ensures
