-- Ends of excerpts that keep to bytes which are shown.
use Rattle.std.proofs.Common.{◌≡◌, ℕ, suc, Some, ap, sym, ◌∙◌}
use Rattle.std.specs.Prelude.{slice_get}
use Rattle.op_model.specs.declared.anchor.Anchor.TheVariants.{At}
use Rattle.op_model.specs.declared.anchor.Bias.TheVariants.{Left, Right}
use Rattle.op_model.specs.Anchors.{left_anchor, place, right_anchor, shown_cells}
use Rattle.op_model.specs.Cells.{Cell}
use Rattle.op_model.specs.Histories.{History}
use Rattle.op_model.specs.Lawful.{Lawful}
use Rattle.op_model.proofs.MainLaws.{shown_anchors_are_made_again}
use Rattle.multi_buffer.specs.declared.excerpt.Excerpt.{Excerpt}
use Rattle.multi_buffer.specs.Calls.{followed, made}
use Rattle.multi_buffer.specs.Laws.{ShownEndsStay}

module _ (h : History) (l : Lawful h) (x : Excerpt) (i : ℕ) (c : Cell) (e : slice_get (shown_cells h) i ≡ Some c) where
  left_stays : x.left ≡ At c.stamp (suc c.k) Left → ((followed h x).left ≡ x.left) × ((followed h x).start ≡ suc i)
  left_stays f =
      let a = shown_anchors_are_made_again h l i c e in
      let p : place h x.left ≡ suc i = ap (place h) f ∙ a.2 in
      (ap made (ap (left_anchor h) p ∙ a.0) ∙ sym f, p)

  right_stays : x.right ≡ At c.stamp c.k Right → ((followed h x).right ≡ x.right) × ((followed h x).end ≡ i)
  right_stays f =
      let a = shown_anchors_are_made_again h l i c e in
      let p : place h x.right ≡ i = ap (place h) f ∙ a.3 in
      (ap made (ap (right_anchor h) p ∙ a.1) ∙ sym f, p)

pub ends_stay : ShownEndsStay
ends_stay h l x i c e = (left_stays h l x i c e, right_stays h l x i c e)
