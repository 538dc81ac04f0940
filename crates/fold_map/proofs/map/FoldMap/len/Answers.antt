use Rattle.std.proofs.Common.{◌≡◌, length, subst, ◌∙◌}
use Rattle.fold_map.specs.Folds.{FoldState, shown}
use Rattle.fold_map.specs.Numbered.{state_of}
use Rattle.fold_map.proofs.Answering.{len_is}
use Rattle.fold_map.proofs.map.FoldMap.len.Goals as goal

pub returns : goal.returns
returns c =
    subst (λ (m : FoldState). c.shown_len.result ≡ length (shown m)) c.self.view_is
    (c.shown_len.ensures ∙ len_is (state_of c.self.inside.snapshot c.self.inside.folds) c.self.inside.spans c.known.ensures.spans c.self.invariant.spans.marks)
