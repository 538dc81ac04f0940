-- Excerpts that follow a later history, for private clauses.
use Rattle.std.specs.Prelude.{◌≡◌, ℕ, true, List}
use Rattle.std.specs.List.{AllByRecursion}
use Rattle.std.specs.declared.cmp.Ordering.TheVariants.{Less}
use Rattle.op_model.specs.Histories.{History}
use Rattle.op_model.specs.Anchors.{is_known, compare_anchors}
use Rattle.multi_buffer.specs.declared.excerpt.Excerpt.{Excerpt}
use Rattle.multi_buffer.specs.declared.source.Source.{Source}
use Rattle.multi_buffer.specs.State.{MultiState, AscendFrom, HasHistory, IsSynced}

-- the anchors of x are known in h, and the first is less than the second
pub record MayFollow (h : History) (x : Excerpt) : Type 0 where
  pub left : is_known h x.left ≡ true
  pub right : is_known h x.right ≡ true
  pub order : compare_anchors h x.left x.right ≡ Less

-- so it is if x is one of buffer b
abbrev pub MayFollowIn : ℕ → History → Excerpt → Type 0
MayFollowIn b h x = x.buffer ≡ b → MayFollow h x

abbrev pub AllMayFollow : ℕ → History → List Excerpt → Type 0
AllMayFollow b h xs = AllByRecursion (MayFollowIn b h) xs

-- what is true of the fields of a multibuffer
pub record IsMulti (xs : List Excerpt) (ss : List Source) : Type 0 where
  pub ascending : AscendFrom 0 ss
  pub histories : AllByRecursion HasHistory ss
  pub excerpts : AllByRecursion (IsSynced ss) xs

abbrev pub state_of : List Excerpt → List Source → MultiState
state_of xs ss = record { excerpts = xs; synced = ss }
