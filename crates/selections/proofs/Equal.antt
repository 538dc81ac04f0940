-- The test of operations says which are equal.
use Rattle.std.proofs.Common.{◌≡◌, List, [], ◌∷◌, refl, sym, ap, ◌∙◌, true, eqb, ◌&&◌, Bool}
use Rattle.std.proofs.lemmas.Bool.{and_from, and_parts, eq-eqb, eqb-true}
use Rattle.lamport_clock.specs.Stamps.{same_stamp}
use Rattle.lamport_clock.proofs.Later.{same_stamp_eq, same_stamp_refl}
use Rattle.op_model.specs.declared.anchor.Anchor.{Anchor}
use Rattle.op_model.specs.declared.anchor.Anchor.TheVariants.{Least, Greatest, At}
use Rattle.op_model.specs.declared.anchor.Bias.{Bias}
use Rattle.op_model.specs.declared.anchor.Bias.TheVariants.{Left, Right}
use Rattle.op_model.specs.Answers.{same_list}
use Rattle.selections.specs.declared.selection.Selection.{Selection}
use Rattle.selections.specs.declared.selection.SelectionOp.{SelectionOp}
use Rattle.selections.specs.Laws.{EqualSelectionsAreSame}
use Rattle.selections.specs.Same.{same_anchor, same_bias, same_operation, same_selection}

list_eq : {A : Type 0} (same : A → A → Bool) → ((x y : A) → same x y ≡ true → x ≡ y) → (xs ys : List A) → same_list same xs ys ≡ true → xs ≡ ys
list_eq same f [] [] e = refl
list_eq same f [] (y ∷ ys) e = cc
list_eq same f (x ∷ xs) [] e = cc
list_eq same f (x ∷ xs) (y ∷ ys) e =
    let a = and_parts (same x y) (same_list same xs ys) e in
    ap (λ z. z ∷ xs) (f x y a.0) ∙ ap (λ z. y ∷ z) (list_eq same f xs ys a.1)

list_refl : {A : Type 0} (same : A → A → Bool) → ((x : A) → same x x ≡ true) → (xs : List A) → same_list same xs xs ≡ true
list_refl same f [] = refl
list_refl same f (x ∷ xs) = and_from (same x x) (same_list same xs xs) (f x) (list_refl same f xs)

bias_eq : (a b : Bias) → same_bias a b ≡ true → a ≡ b
bias_eq Left Left e = refl
bias_eq Left Right e = cc
bias_eq Right Left e = cc
bias_eq Right Right e = refl

bias_refl : (a : Bias) → same_bias a a ≡ true
bias_refl Left = refl
bias_refl Right = refl

anchor_eq : (a b : Anchor) → same_anchor a b ≡ true → a ≡ b
anchor_eq Least Least e = refl
anchor_eq Least Greatest e = cc
anchor_eq Least (At t k b) e = cc
anchor_eq Greatest Least e = cc
anchor_eq Greatest Greatest e = refl
anchor_eq Greatest (At t k b) e = cc
anchor_eq (At s j a) Least e = cc
anchor_eq (At s j a) Greatest e = cc
anchor_eq (At s j a) (At t k b) e =
    let p = and_parts (same_stamp s t && eqb j k) (same_bias a b) e in
    let q = and_parts (same_stamp s t) (eqb j k) p.0 in
    let x = same_stamp_eq s t q.0 in
    let y = eqb-true j k q.1 in
    let z = bias_eq a b p.1 in
    λ i. At (x i) (y i) (z i)

anchor_refl : (a : Anchor) → same_anchor a a ≡ true
anchor_refl Least = refl
anchor_refl Greatest = refl
anchor_refl (At t k b) = and_from (same_stamp t t && eqb k k) (same_bias b b) (and_from (same_stamp t t) (eqb k k) (same_stamp_refl t) (eq-eqb k k refl)) (bias_refl b)

selection_eq : (r q : Selection) → same_selection r q ≡ true → r ≡ q
selection_eq r q e =
    let p = and_parts (same_anchor r.start q.start) (same_anchor r.end q.end) e in
    let x = anchor_eq r.start q.start p.0 in
    let y = anchor_eq r.end q.end p.1 in
    λ i. record { start = x i; end = y i }

selection_refl : (r : Selection) → same_selection r r ≡ true
selection_refl r = and_from (same_anchor r.start r.start) (same_anchor r.end r.end) (anchor_refl r.start) (anchor_refl r.end)

operation_eq : (a b : SelectionOp) → same_operation a b ≡ true → a ≡ b
operation_eq a b e =
    let p = and_parts (same_stamp a.stamp b.stamp) (same_list same_selection a.ranges b.ranges) e in
    let x = same_stamp_eq a.stamp b.stamp p.0 in
    let y = list_eq same_selection selection_eq a.ranges b.ranges p.1 in
    λ i. record { stamp = x i; ranges = y i }

operation_refl : (a : SelectionOp) → same_operation a a ≡ true
operation_refl a = and_from (same_stamp a.stamp a.stamp) (same_list same_selection a.ranges a.ranges) (same_stamp_refl a.stamp) (list_refl same_selection selection_refl a.ranges)

pub equal_selections_are_same : EqualSelectionsAreSame
equal_selections_are_same a b = (operation_eq a b, λ e. ap (λ (x : SelectionOp). same_operation a x) (sym e) ∙ operation_refl a)
