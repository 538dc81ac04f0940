use Rattle.std.proofs.Common.{◌++◌, List, ℕ, sym, subst}
use Rattle.snapshot_search.specs.Progress.{Reads, Holds}
use Rattle.snapshot_search.proofs.Reading.{gathers_all}
use Rattle.snapshot_search.proofs.between.gather.Goals as goal

-- the window is read whole
pub returns : goal.returns
returns c =
    let needle = c.args.needle.now in
    let piece = c.args.piece.now in
    let p = c.args.progress.now in
    let q = c.read.new.self in
    let reads = subst (λ (l : List ℕ). Reads needle l p q) c.deref.ensures.value c.in_ok-read.ensures in
    λ begin front held.
    subst (λ (w : List ℕ). Holds needle (front ++ piece) begin q w) (sym c.clear.ensures.items)
    (gathers_all needle piece p q c.args.window.now.items c.extend_from_slice.new.self.items c.in_ok-extend_from_slice.ensures.items reads begin front held)
