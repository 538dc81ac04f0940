-- An id that the next one replaces.
use Rattle.std.proofs.Common.{◌≡◌, ℕ, List, Option, sym, ap, ◌∙◌}
use Rattle.tree_cursor.specs.KeyLaws.{greater_assoc}
use Rattle.fragments.specs.Summaries.{greater_id, id_less}
use Rattle.fragments.specs.SummaryLaws.{id_order}

pub giving_way : (first other next : Option (List ℕ)) → greater_id other next ≡ next → greater_id first next ≡ greater_id (greater_id first other) next
giving_way first other next e = ap (greater_id first) (sym e) ∙ sym (greater_assoc id_less id_order first other next)
