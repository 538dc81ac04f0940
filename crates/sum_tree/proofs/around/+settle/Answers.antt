use Rattle.std.proofs.Common.{rules, ◌≡◌, ◌<◌, List, [], ◌∷◌, ◌++◌, length, sym, ap, subst, ◌∙◌, refl, arith, length-append}
use Rattle.sum_tree.specs.declared.around.Around.{Around}
use Rattle.sum_tree.specs.Around.{outer_sums, Fitting}
use Rattle.sum_tree.proofs.Arounds.{outer_sums-snoc, Fitting-last}
use Rattle.sum_tree.proofs.around.+settle.Goals as goal

pub add_before-requires-clause-sum : goal.add_before-requires-clause-sum
add_before-requires-clause-sum g t c =
    let a = c.in-Some.level in
    let x = c.args.sum in
    let op = g.S.Summary.op in
    let split : c.args.around.items ≡ c.pop.new.self.items ++ a ∷ [] = c.in-Some.ensures.items in
    (Fitting-last op g.S.Summary.fits c.pop.new.self.items a x (op (op a.before x) a.behind) refl (subst (λ (ls : List (Around _)). Fitting g.S.Summary.fits op ls x) split c.requires)).1

pub add_before-requires-clause-both : goal.add_before-requires-clause-both
add_before-requires-clause-both g t c =
    let a = c.in-Some.level in
    let x = c.args.sum in
    let op = g.S.Summary.op in
    let split : c.args.around.items ≡ c.pop.new.self.items ++ a ∷ [] = c.in-Some.ensures.items in
    (Fitting-last op g.S.Summary.fits c.pop.new.self.items a x (op (op a.before x) a.behind) refl (subst (λ (ls : List (Around _)). Fitting g.S.Summary.fits op ls x) split c.requires)).2

pub add-requires : goal.add-requires
add-requires g t c =
    let a = c.in-Some.level in
    let x = c.args.sum in
    let op = g.S.Summary.op in
    let split : c.args.around.items ≡ c.pop.new.self.items ++ a ∷ [] = c.in-Some.ensures.items in
    subst g.S.Summary.fits (sym c.in_ok-add_before-in-Some.ensures.ok) ((Fitting-last op g.S.Summary.fits c.pop.new.self.items a x (op (op a.before x) a.behind) refl (subst (λ (ls : List (Around _)). Fitting g.S.Summary.fits op ls x) split c.requires)).2)

pub settle-requires : goal.settle-requires
settle-requires g t c κs within =
    let a = c.in-Some.level in
    let x = c.args.sum in
    let op = g.S.Summary.op in
    let split : c.args.around.items ≡ c.pop.new.self.items ++ a ∷ [] = c.in-Some.ensures.items in
    let made : c.add.new.self ≡ op (op a.before x) a.behind = c.in_ok-add-in-Some.ensures.ok ∙ c.in_ok-add_before-in-Some.ensures.ok in
    let fitting = (Fitting-last op g.S.Summary.fits c.pop.new.self.items a x c.add.new.self made (subst (λ (ls : List (Around _)). Fitting g.S.Summary.fits op ls x) split c.requires)).0 in
    let shorter : length c.pop.new.self.items < length c.args.around.items = omega (arith, ap length split, length-append c.pop.new.self.items (a ∷ [])) in
    search rules

pub returns-in-Some : goal.returns-in-Some
returns-in-Some g t c =
    let a = c.in-Some.level in
    let x = c.args.sum in
    let op = g.S.Summary.op in
    let split : c.args.around.items ≡ c.pop.new.self.items ++ a ∷ [] = c.in-Some.ensures.items in
    let made : c.add.new.self ≡ op (op a.before x) a.behind = c.in_ok-add-in-Some.ensures.ok ∙ c.in_ok-add_before-in-Some.ensures.ok in
    let front = c.in_ok-sums-in-Some.ensures ∙ sym (outer_sums-snoc op c.pop.new.self.items a x c.add.new.self made) ∙ ap (λ (ls : List (Around _)). outer_sums op ls x) (sym split) in
    c.in_ok-push-in-Some.ensures.items ∙ ap (λ ss. ss ++ x ∷ []) front
