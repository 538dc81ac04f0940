-- Records of several parts, part by part.
use Rattle.std.specs.Prelude.{◌≡◌}
use Rattle.std.proofs.Common.{ap, ◌∙◌}

pub four : {A B C D R : Type 0} (f : A → B → C → D → R) {a x : A} {b y : B} {c z : C} {d w : D} → a ≡ x → b ≡ y → c ≡ z → d ≡ w → f a b c d ≡ f x y z w
four {A} {B} {C} {D} f {a} {x} {b} {y} {c} {z} {d} {w} p q r s = ap (λ (e : A). f e b c d) p ∙ ap (λ (e : B). f x e c d) q ∙ ap (λ (e : C). f x y e d) r ∙ ap (f x y z) s
