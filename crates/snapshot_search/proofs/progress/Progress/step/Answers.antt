use Rattle.std.proofs.Common.{◌≡◌, ◌+◌, ◌-◌, ◌∷◌, ◌++◌, [], length, refl, ◌∙◌, arith}
use Rattle.snapshot_search.specs.Shifts.{IsFallback}
use Rattle.snapshot_search.specs.Progress.{place_of}
use Rattle.snapshot_search.proofs.Reading.{reads_byte, reads_last, on_ok3}
use Rattle.snapshot_search.proofs.progress.Progress.step.Goals as goal

pub returns-then-matched-len : goal.returns-then-matched-len
returns-then-matched-len c =
    let needle = c.args.needle.now in
    let p = c.args.self.now in
    let matched = c.next_match-matched.result in
    let start = p.start + (p.matched + 1 - matched) in
    let most = c.next_match-matched.ensures.most in
    let q = c.hit.new.self in
    on_ok3 c.hit.result (q.found.items ≡ p.found.items ++ start ∷ []) (IsFallback needle (length needle) q.matched) (place_of q ≡ start + length needle) _
    c.hit.ensures.found c.hit.ensures.overlap c.hit.ensures.place
    (λ found overlap place.
    reads_last needle c.args.byte matched start p q c.requires.matched most c.next_match-matched.ensures.moves (c.if-matched-len.true ∙ c.len.ensures.len) (omega arith) overlap place found)

pub returns : goal.returns
returns c =
    let needle = c.args.needle.now in
    let p = c.args.self.now in
    let matched = c.next_match-matched.result in
    let most = c.next_match-matched.ensures.most in
    let open_still = c.requires.matched in
    let differs = c.if-matched-len.false in
    let len = c.len.ensures.len in
    reads_byte needle c.args.byte matched p _ c.requires.matched most c.next_match-matched.ensures.moves (omega arith) (omega arith) refl refl
