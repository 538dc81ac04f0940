use Rattle.std.proofs.Common.{◌≡◌, ◌+◌, ◌≤◌, ◌++◌, length, take, drop, arith, length-drop}
use Rattle.std.proofs.lemmas.List.{length-take-le}
use Rattle.text_dims.specs.Counts.{begins_char, begins_wide, is_newline}
use Rattle.text_dims.proofs.Fronts.{take-both}
use Rattle.rope_chunks.proofs.masks.Masks.push_lanes.Goals as goal

pub returns : goal.returns
returns c =
    let bs = c.args.bytes.now in
    let i = c.args.at in
    let xs = take i bs in
    let ys = take 16 (drop i bs) in
    let long : length xs ≡ i = length-take-le i bs (omega (arith, c.requires.within)) in
    let more : length ys ≡ 16 = length-take-le 16 (drop i bs) (omega (arith, length-drop i bs, c.requires.within)) in
    let few : length xs + length ys ≤ 128 = omega (arith, long, more, c.requires.within, c.requires.few) in
    let whole : take (i + 16) bs ≡ xs ++ ys = take-both i 16 bs in
    rw whole (record {
      starts = c.with_bits-self.ensures begins_char xs ys long few c.requires.before.starts c.of-lanes.ensures.starts;
      wide = c.with_bits-self-2.ensures begins_wide xs ys long few c.requires.before.wide c.of-lanes.ensures.wide;
      newlines = c.with_bits-self-3.ensures is_newline xs ys long few c.requires.before.newlines c.of-lanes.ensures.newlines;
    })
