use Rattle.std.proofs.Common.{◌≡◌, ◌≤◌, ◌∙◌, length, take, drop, arith, length-drop}
use Rattle.std.specs.List.{count_by}
use Rattle.text_dims.specs.Counts.{begins_char, begins_wide, char_count}
use Rattle.text_dims.proofs.Bits.{row_few, row_plain, first_ones, utf16_count-wide}
use Rattle.text_dims.proofs.lanes.run_at.Goals as goal

pub ones_below-chars-requires : goal.ones_below-chars-requires
ones_below-chars-requires c =
    let bs = drop c.args.at c.args.bytes.now in
    row_few bs c.of-masks.result.newlines c.lowest-len.result c.of-masks.ensures.newlines (omega (arith, length-drop c.args.at c.args.bytes.now, c.requires)) c.lowest-len.ensures

pub ones_below-requires : goal.ones_below-requires
ones_below-requires c =
    let bs = drop c.args.at c.args.bytes.now in
    row_few bs c.of-masks.result.newlines c.lowest-len.result c.of-masks.ensures.newlines (omega (arith, length-drop c.args.at c.args.bytes.now, c.requires)) c.lowest-len.ensures

pub returns-clause-few : goal.returns-clause-few
returns-clause-few c =
    let bs = drop c.args.at c.args.bytes.now in
    row_few bs c.of-masks.result.newlines c.lowest-len.result c.of-masks.ensures.newlines (omega (arith, length-drop c.args.at c.args.bytes.now, c.requires)) c.lowest-len.ensures

pub returns-clause-row : goal.returns-clause-row
returns-clause-row c =
    let bs = drop c.args.at c.args.bytes.now in
    row_plain bs c.of-masks.result.newlines c.lowest-len.result c.of-masks.ensures.newlines (omega (arith, length-drop c.args.at c.args.bytes.now, c.requires)) c.lowest-len.ensures

pub returns-clause-chars : goal.returns-clause-chars
unfolding char_count
returns-clause-chars c =
    let bs = drop c.args.at c.args.bytes.now in
    let long : 16 ≤ length bs = omega (arith, length-drop c.args.at c.args.bytes.now, c.requires) in
    let few = row_few bs c.of-masks.result.newlines c.lowest-len.result c.of-masks.ensures.newlines long c.lowest-len.ensures in
    c.ones_below-chars.ensures.value ∙ first_ones begins_char bs c.of-masks.result.starts c.lowest-len.result c.of-masks.ensures.starts long few

pub returns-clause-units : goal.returns-clause-units
unfolding char_count
returns-clause-units c =
    let bs = drop c.args.at c.args.bytes.now in
    let n = c.lowest-len.result in
    let long : 16 ≤ length bs = omega (arith, length-drop c.args.at c.args.bytes.now, c.requires) in
    let few = row_few bs c.of-masks.result.newlines n c.of-masks.ensures.newlines long c.lowest-len.ensures in
    let chars : c.ones_below-chars.result ≡ count_by begins_char (take n bs) = c.ones_below-chars.ensures.value ∙ first_ones begins_char bs c.of-masks.result.starts n c.of-masks.ensures.starts long few in
    let wide : c.ones_below.result ≡ count_by begins_wide (take n bs) = c.ones_below.ensures.value ∙ first_ones begins_wide bs c.of-masks.result.wide n c.of-masks.ensures.wide long few in
    omega (arith, chars, wide, utf16_count-wide (take n bs))
