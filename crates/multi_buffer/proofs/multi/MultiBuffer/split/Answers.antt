use Rattle.std.proofs.Common.{List, None, subst, sym, ◌≡◌, ◌∙◌}
use Rattle.std.specs.List.{AllByRecursion}
use Rattle.multi_buffer.specs.declared.parts.BufferPieces.{BufferPieces}
use Rattle.multi_buffer.specs.Splits.{split_fault, IsFaultless}
use Rattle.multi_buffer.proofs.Faultless.{split_faultless}
use Rattle.multi_buffer.proofs.multi.MultiBuffer.split.Goals as goal

pub returns-in_ok-split_pieces-in-None-clause-faultless : goal.returns-in_ok-split_pieces-in-None-clause-faultless
returns-in_ok-split_pieces-in-None-clause-faultless c =
    let e : split_fault c.args.self.now c.args.changes.now ≡ None = sym c.split_fault.ensures ∙ c.in-None.is in
    subst (λ (gs : List BufferPieces). AllByRecursion (IsFaultless c.args.self.now) gs) (sym c.in_ok-split_pieces-in-None.ensures)
    (split_faultless c.args.self.now c.args.changes.now c.known.ensures.excerpts e)
