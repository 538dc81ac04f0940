-- Laws of what snapshots answer, which src/laws.rt shows.
use Rattle.std.specs.Prelude.{◌≡◌, ℕ, ◌≤◌, true, None, Some}
use Rattle.std.specs.declared.cmp.Ordering.{Ordering}
use Rattle.std.specs.declared.cmp.Ordering.TheVariants.{Less}
use Rattle.lamport_clock.specs.Versions.{Entries}
use Rattle.op_model.specs.declared.anchor.Anchor.{Anchor}
use Rattle.op_model.specs.declared.anchor.Bias.{Bias}
use Rattle.op_model.specs.Histories.{History}
use Rattle.op_model.specs.Shown.{text}
use Rattle.op_model.specs.Anchors.{is_known, place_fault, known_place, known_order}
use Rattle.op_model.specs.Since.{since, since_fault, text_at, apply_edits}
use Rattle.anchors.specs.Making.{made_anchor}
use Rattle.edits_since.specs.Laws.{AreApart}

-- snapshots of h and of g answer alike: with the same anchors, places, orders, texts, edits and faults
pub record AnswerAlike (h g : History) : Type 0 where
  pub faults_of_places : (o : ℕ) → place_fault h o ≡ place_fault g o
  pub anchors : (o : ℕ) → (b : Bias) → made_anchor h o b ≡ made_anchor g o b
  pub places : (a : Anchor) → known_place h a ≡ known_place g a
  pub orders : (a b : Anchor) → known_order h a b ≡ known_order g a b
  pub faults_of_versions : (v : Entries) → since_fault h v ≡ since_fault g v
  pub texts : (v : Entries) → text_at h v ≡ text_at g v
  pub edits : (v : Entries) → since h v ≡ since g v

-- the anchors that are known in h are known in g and have the same order there, and the lesser has no greater place
pub record AnchorsStay (h g : History) : Type 0 where
  pub known : (a : Anchor) → is_known h a ≡ true → is_known g a ≡ true
  pub orders : (a b : Anchor) → (o : Ordering) → known_order h a b ≡ Some o → known_order g a b ≡ Some o
  pub places : (a b : Anchor) → known_order h a b ≡ Some Less
      → (p q : ℕ) → known_place g a ≡ Some p → known_place g b ≡ Some q → p ≤ q

-- at each version without fault: the text then, with each old range replaced by the new text's range, is the text of h; the ranges
-- ascend and do not touch
abbrev pub EditsMakeTheText : History → Type 0
EditsMakeTheText h = (v : Entries) → since_fault h v ≡ None
    → (apply_edits 0 (since h v) (text_at h v) (text h) ≡ text h) × AreApart (since h v)
