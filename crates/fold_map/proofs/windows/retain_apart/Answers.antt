use Rattle.std.proofs.Common.{not, rules}
use Rattle.std.proofs.lemmas.Fn.{filter_same}
use Rattle.fold_map.specs.Numbered.{range_shares}
use Rattle.fold_map.proofs.windows.retain_apart.Goals as goal

pub returns : goal.returns
returns c = filter_same _ (λ r. not (range_shares c.args.s c.args.e r)) _ (λ x b f' k. search rules) _ _ c.retain.ensures.filtered
