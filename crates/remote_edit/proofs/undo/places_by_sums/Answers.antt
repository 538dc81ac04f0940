use Rattle.std.proofs.Common.{◌∙◌, ◌+◌, ◌-◌, ◌<◌, min, ℕ, length, sym, ap, subst, refl, arith}
use Rattle.std.specs.Option.{option_copied}
use Rattle.remote_edit.proofs.BySums.{HavePassed, one_further, none_passed, all_passed}
use Rattle.remote_edit.proofs.undo.places_by_sums.Goals as goal

pub loop-places-init : goal.loop-places-init
loop-places-init c =
    let e = c.in_ok-found.ensures.made in
    let z = ap (λ p. p.next) e in
    record {
      items = ap (λ p. p.items) e;
      keep = ap (λ p. p.keep.edits.now) e;
      within = omega (arith, z);
      passed = subst (λ (n : ℕ). HavePassed c.args.tree.now.items c.args.edits.now n c.new-places.result.items) (sym z) (none_passed c.args.tree.now.items c.args.edits.now c.new-places.result.items);
    }

pub loop-places-smaller : goal.loop-places-smaller
loop-places-smaller c =
    let t = one_further c.args.tree.now.items c.loop-places.found.items c.args.edits.now c.loop-places.found.keep.edits.now c.loop-places.found.next c.index.result c.next.new.self.next c.loop-places.places.items c.in-Some._fragment.now
    c.loop-places.invariant.items c.loop-places.invariant.keep c.loop-places.invariant.passed (sym c.in_ok-_fragment.ensures.item ∙ ap option_copied c.in-Some.is)
    (c.index.ensures ∙ ap (λ p. p.given) c.in_ok-_fragment.ensures.moved)
    (ap (λ p. p.next) c.in_ok-_fragment.ensures.moved ∙ ap (λ (k : ℕ). min (k + 1) (length c.loop-places.found.items)) (sym (c.index.ensures ∙ ap (λ p. p.given) c.in_ok-_fragment.ensures.moved))) in
    let a = t.forward in let b = t.within in
    let less : length c.args.tree.now.items - c.next.new.self.next < length c.args.tree.now.items - c.loop-places.found.next = omega (arith, a, b) in less

pub loop-places-preserved : goal.loop-places-preserved
loop-places-preserved c =
    let t = one_further c.args.tree.now.items c.loop-places.found.items c.args.edits.now c.loop-places.found.keep.edits.now c.loop-places.found.next c.index.result c.next.new.self.next c.loop-places.places.items c.in-Some._fragment.now
    c.loop-places.invariant.items c.loop-places.invariant.keep c.loop-places.invariant.passed (sym c.in_ok-_fragment.ensures.item ∙ ap option_copied c.in-Some.is)
    (c.index.ensures ∙ ap (λ p. p.given) c.in_ok-_fragment.ensures.moved)
    (ap (λ p. p.next) c.in_ok-_fragment.ensures.moved ∙ ap (λ (k : ℕ). min (k + 1) (length c.loop-places.found.items)) (sym (c.index.ensures ∙ ap (λ p. p.given) c.in_ok-_fragment.ensures.moved))) in
    record {
      items = ap (λ p. p.items) c.in_ok-_fragment.ensures.moved ∙ c.loop-places.invariant.items;
      keep = ap (λ p. p.keep.edits.now) c.in_ok-_fragment.ensures.moved ∙ c.loop-places.invariant.keep;
      within = t.within;
      passed = subst (HavePassed c.args.tree.now.items c.args.edits.now c.next.new.self.next) (sym c.in_ok-push.ensures.items) t.passed;
    }

pub returns : goal.returns
returns c =
    all_passed c.args.tree.now.items c.loop-places.found.items c.args.edits.now c.loop-places.found.keep.edits.now c.loop-places.found.next c.loop-places.places.items
    c.loop-places.invariant.items c.loop-places.invariant.keep c.loop-places.invariant.passed (sym c.in_ok-_fragment.ensures.item ∙ ap option_copied c.in_default.is)

pub next-requires : goal.next-requires
next-requires c κs = (omega arith, (refl, tt))

pub index-requires : goal.index-requires
index-requires c κs = (omega arith, (refl, tt))
