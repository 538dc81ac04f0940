use Rattle.std.proofs.Common.{◌≡◌, ◌+◌, ◌∙◌, sym, take, arith}
use Rattle.text_dims.specs.Summaries.{summary_of}
use Rattle.text_dims.proofs.Characters.{front_fits}
use Rattle.text_dims.proofs.Fronts.{longest, one_more, one_fits, run_more}
use Rattle.text_dims.proofs.summary.TextSummary.push_lanes.Goals as goal

pub push_run-requires-clause-longest : goal.push_run-requires-clause-longest
push_run-requires-clause-longest c = rw c.requires.before (longest (take c.args.at c.args.bytes.now))

pub push_run-requires-clause-fits : goal.push_run-requires-clause-fits
push_run-requires-clause-fits c =
    let bs = c.args.bytes.now in
    let r = c.run_at-run.result in
    let e = c.run_at-run.ensures in
    rw (c.requires.before, ← run_more bs c.args.at r.len r.chars r.units (omega (arith, c.requires.within, e.few)) e.row e.chars e.units)
    (front_fits bs (c.args.at + r.len) c.requires.text c.requires.short)

pub returns-then-run-eq-LANES-clause-after : goal.returns-then-run-eq-LANES-clause-after
returns-then-run-eq-LANES-clause-after c =
    let r = c.run_at-run.result in
    let e = c.run_at-run.ensures in
    c.push_run.ensures ∙ rw c.requires.before (sym (run_more c.args.bytes.now c.args.at r.len r.chars r.units (omega (arith, c.requires.within, e.few)) e.row e.chars e.units))

pub push_byte-requires-clause-fits : goal.push_byte-requires-clause-fits
push_byte-requires-clause-fits c =
    let bs = c.args.bytes.now in
    let r = c.run_at-run.result in
    let e = c.run_at-run.ensures in
    let after : c.push_run.new.self ≡ summary_of (take (c.args.at + r.len) bs) =
    c.push_run.ensures ∙ rw c.requires.before (sym (run_more bs c.args.at r.len r.chars r.units (omega (arith, c.requires.within, e.few)) e.row e.chars e.units)) in
    rw after (one_fits bs (c.args.at + r.len) c.requires.text c.requires.short (omega (arith, c.requires.within, e.few, c.if-run-eq-LANES.false)))

pub returns-clause-after : goal.returns-clause-after
returns-clause-after c =
    let bs = c.args.bytes.now in
    let r = c.run_at-run.result in
    let e = c.run_at-run.ensures in
    let after : c.push_run.new.self ≡ summary_of (take (c.args.at + r.len) bs) =
    c.push_run.ensures ∙ rw c.requires.before (sym (run_more bs c.args.at r.len r.chars r.units (omega (arith, c.requires.within, e.few)) e.row e.chars e.units)) in
    c.push_byte.ensures ∙ rw after (sym (one_more bs (c.args.at + r.len) (omega (arith, c.requires.within, e.few, c.if-run-eq-LANES.false))))
