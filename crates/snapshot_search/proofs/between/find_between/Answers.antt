use Rattle.std.proofs.Common.{◌-◌, take, ◌∙◌, arith}
use Rattle.std.specs.List.{concat}
use Rattle.snapshot_search.proofs.Ranges.{found_between, piece_read}
use Rattle.snapshot_search.proofs.between.find_between.Goals as goal

pub returns : goal.returns
returns c =
    let text = c.args.rope.now in
    let end = c.end_of-end.result in
    let within = c.end_of-end.ensures.within in
    let reaches = c.end_of-end.ensures.reaches in
    let needle = c.len.ensures.len in
    let some = c.len.ensures.some in
    let len = c.len-len.ensures in
    let order = c.requires.order in
    let new = c.new-progress.ensures in
    found_between text c.args.needle.now (take (end - c.args.from) (concat c.chunks.result)) c.args.from c.args.to end c.new-progress.result c.read_chunks.new.progress
    (omega arith) order within.0 (omega arith) (omega arith) (λ k h fits. let reach = reaches k h (omega arith) in omega arith) new.start new.matched new.found
    (piece_read text (concat c.chunks.result) c.args.from end c.len-len.result (omega arith) (omega arith) len (c.chunks.ensures ∙ c.in_ok-rest.ensures))
    c.in_ok-read_chunks.ensures
