use Rattle.std.proofs.Common.{◌+◌, ◌-◌, Option, None, Some, subst, sym, ap, arith}
use Rattle.std.specs.Option.{option_copied}
use Rattle.fragments.specs.declared.fragment.Fragment.{Fragment}
use Rattle.seen_text.specs.Lies.{Lies, IsFound}
use Rattle.seen_text.proofs.Begins.{shown_more, hidden_more, shown_fits, hidden_fits, at_first, in_shown, in_hidden, at_end}
use Rattle.seen_text.proofs.boundary.is_seen_boundary.Goals as goal

pub returns-in_default : goal.returns-in_default
returns-in_default c = λ h t l o.
    let b = c.seek.result.1 in
    let p : IsFound c.args.version.now c.args.fragments.now.items c.args.place None b.bytes b.visible b.hidden =
    subst (λ (x : Option Fragment). IsFound c.args.version.now c.args.fragments.now.items c.args.place x b.bytes b.visible b.hidden) (ap (option_copied {T = Fragment}) c.in_default.is) c.seek.ensures in
    at_end h c.args.version.now c.args.fragments.now.items t.cells l o c.args.place b.bytes p.0 p.1

pub returns-then-place-before : goal.returns-then-place-before
returns-then-place-before c = λ h t l o.
    let b = c.seek.result.1 in
    let fs = c.args.fragments.now.items in
    let w : Lies c.args.version.now fs c.args.place c.in-Some.fragment.now b.bytes b.visible b.hidden =
    subst (λ (x : Option Fragment). IsFound c.args.version.now fs c.args.place x b.bytes b.visible b.hidden) (ap (option_copied {T = Fragment}) c.in-Some.is) c.seek.ensures in
    at_first h c.args.version.now fs t.cells l o c.args.place c.in-Some.fragment.now b.bytes b.visible b.hidden w t.whole (sym c.if-place-before.true)

pub overflow_sub-inside : goal.overflow_sub-inside
overflow_sub-inside c =
    let b = c.seek.result.1 in
    let w : Lies c.args.version.now c.args.fragments.now.items c.args.place c.in-Some.fragment.now b.bytes b.visible b.hidden =
    subst (λ (x : Option Fragment). IsFound c.args.version.now c.args.fragments.now.items c.args.place x b.bytes b.visible b.hidden) (ap (option_copied {T = Fragment}) c.in-Some.is) c.seek.ensures in
    w.low

pub overflow_add-before : goal.overflow_add-before
overflow_add-before c =
    let b = c.seek.result.1 in
    let fs = c.args.fragments.now.items in
    let w : Lies c.args.version.now fs c.args.place c.in-Some.fragment.now b.bytes b.visible b.hidden =
    subst (λ (x : Option Fragment). IsFound c.args.version.now fs c.args.place x b.bytes b.visible b.hidden) (ap (option_copied {T = Fragment}) c.in-Some.is) c.seek.ensures in
    let l = shown_fits fs c.known.ensures.fits (b.visible + (c.args.place - b.bytes)) (shown_more c.args.version.now fs c.args.place c.in-Some.fragment.now b.bytes b.visible b.hidden w c.if-fragment.true) in
    omega (arith, l)

pub overflow_add-before-else-fragment : goal.overflow_add-before-else-fragment
overflow_add-before-else-fragment c =
    let b = c.seek.result.1 in
    let fs = c.args.fragments.now.items in
    let w : Lies c.args.version.now fs c.args.place c.in-Some.fragment.now b.bytes b.visible b.hidden =
    subst (λ (x : Option Fragment). IsFound c.args.version.now fs c.args.place x b.bytes b.visible b.hidden) (ap (option_copied {T = Fragment}) c.in-Some.is) c.seek.ensures in
    let l = hidden_fits fs c.known.ensures.fits (b.hidden + (c.args.place - b.bytes)) (hidden_more c.args.version.now fs c.args.place c.in-Some.fragment.now b.bytes b.visible b.hidden w c.if-fragment.false) in
    omega (arith, l)

pub returns-then-fragment : goal.returns-then-fragment
returns-then-fragment c = λ h t l o.
    let b = c.seek.result.1 in
    let fs = c.args.fragments.now.items in
    let w : Lies c.args.version.now fs c.args.place c.in-Some.fragment.now b.bytes b.visible b.hidden =
    subst (λ (x : Option Fragment). IsFound c.args.version.now fs c.args.place x b.bytes b.visible b.hidden) (ap (option_copied {T = Fragment}) c.in-Some.is) c.seek.ensures in
    in_shown h c.args.version.now fs t.cells l o c.args.place c.in-Some.fragment.now b.bytes b.visible b.hidden w c.args.shown.now c.is_char_boundary.result t.shown c.if-fragment.true c.is_char_boundary.ensures

pub returns-else-fragment : goal.returns-else-fragment
returns-else-fragment c = λ h t l o.
    let b = c.seek.result.1 in
    let fs = c.args.fragments.now.items in
    let w : Lies c.args.version.now fs c.args.place c.in-Some.fragment.now b.bytes b.visible b.hidden =
    subst (λ (x : Option Fragment). IsFound c.args.version.now fs c.args.place x b.bytes b.visible b.hidden) (ap (option_copied {T = Fragment}) c.in-Some.is) c.seek.ensures in
    in_hidden h c.args.version.now fs t.cells l o c.args.place c.in-Some.fragment.now b.bytes b.visible b.hidden w c.args.hidden.now c.is_char_boundary-else-fragment.result t.hidden c.if-fragment.false c.is_char_boundary-else-fragment.ensures
