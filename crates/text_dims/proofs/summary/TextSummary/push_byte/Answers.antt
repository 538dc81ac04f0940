use Rattle.std.proofs.Common.{rules, ◌≡◌, false, cond, eqb, sym}
use Rattle.std.proofs.lemmas.Bool.{ne_eqb}
use Rattle.text_dims.specs.Counts.{begins_char}
use Rattle.text_dims.proofs.Singles.{one_newline, one_byte}
use Rattle.text_dims.proofs.summary.TextSummary.push_byte.Goals as goal

pub push_newline-requires-clause-fits : goal.push_newline-requires-clause-fits
push_newline-requires-clause-fits c = rw (one_newline c.args.byte c.if-byte-eq10.true) at c.requires.fits

pub push_run-requires-clause-fits : goal.push_run-requires-clause-fits
push_run-requires-clause-fits c =
    let start : cond (begins_char c.args.byte) 1 0 ≡ c.from.result = search rules in
    let other : eqb c.args.byte 10 ≡ false = ne_eqb c.args.byte 10 c.if-byte-eq10.false in
    rw (one_byte c.args.byte c.from.result c.units_at.result other start (sym c.units_at.ensures)) at c.requires.fits

pub returns-then-byte-eq10 : goal.returns-then-byte-eq10
returns-then-byte-eq10 c = rw (one_newline c.args.byte c.if-byte-eq10.true) c.push_newline.ensures

pub returns-else-byte-eq10 : goal.returns-else-byte-eq10
returns-else-byte-eq10 c =
    let start : cond (begins_char c.args.byte) 1 0 ≡ c.from.result = search rules in
    let other : eqb c.args.byte 10 ≡ false = ne_eqb c.args.byte 10 c.if-byte-eq10.false in
    rw (one_byte c.args.byte c.from.result c.units_at.result other start (sym c.units_at.ensures)) c.push_run.ensures
