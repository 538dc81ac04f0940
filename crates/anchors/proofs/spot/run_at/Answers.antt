use Rattle.std.proofs.Common.{Some, None, subst, sym, ap, ◌∙◌}
use Rattle.std.specs.Option.{option_copied}
use Rattle.anchors.specs.Before.{at}
use Rattle.anchors.specs.Spots.{IsWholeRun, RunFits}
use Rattle.anchors.proofs.Around.{whole_at}
use Rattle.anchors.proofs.Seeking.{sought, first_is, start_is, seek_not_none, seek_run, seek_room}
use Rattle.anchors.proofs.spot.run_at.Goals as goal

pub returns-in_default-next-2-clause-run : goal.returns-in_default-next-2-clause-run
returns-in_default-next-2-clause-run c = λ pre post f e r d.
    let m = c.in-Ok.ensures.made in
    absurd (seek_not_none c.args.tree.now.items c.args.id.now pre post f e r d
    (first_is c.args.tree.now.items c.in-Ok.found.items c.args.id.now c.in-Ok.found.keep.id.now c.in-Ok.found.next (ap (λ p. p.items) m) (ap (λ p. p.keep.id.now) m) (ap (λ p. p.next) m)
    None (sym (ap option_copied c.in_default-next-2.is) ∙ c.in-Ok-next.ensures.item)))

pub returns-clause-run : goal.returns-clause-run
returns-clause-run c = λ pre post f e r d.
    let m = c.in-Ok.ensures.made in
    let n = c.in-Ok-next.ensures.moved in
    ap (λ z. Some z) (c.run_behind.ensures ∙ seek_run c.args.tree.now.items c.args.id.now pre post f e r d c.in-Some.fragment.now (at c.start.result.shown c.start.result.cells)
    (sym (first_is c.args.tree.now.items c.in-Ok.found.items c.args.id.now c.in-Ok.found.keep.id.now c.in-Ok.found.next (ap (λ p. p.items) m) (ap (λ p. p.keep.id.now) m) (ap (λ p. p.next) m)
    (Some c.in-Some.fragment.now) (sym (ap option_copied c.in-Some.is) ∙ c.in-Ok-next.ensures.item)))
    (start_is c.args.tree.now.items c.in-Ok.found.items c.args.id.now c.in-Ok.found.keep.id.now c.in-Ok.found.next (ap (λ p. p.items) m) (ap (λ p. p.keep.id.now) m) (ap (λ p. p.next) m)
    (at c.start.result.shown c.start.result.cells) c.next.new.self.from.shown c.next.new.self.from.cells c.next.new.self.given c.next.new.self.items c.start.ensures
    (ap (λ p. p.items) n) (ap (λ p. p.given) n) (ap (λ p. p.from.shown) n ∙ ap (λ p. p.from.shown) m) (ap (λ p. p.from.cells) n ∙ ap (λ p. p.from.cells) m)))

pub returns-clause-room : goal.returns-clause-room
returns-clause-room c =
    let m = c.in-Ok.ensures.made in
    let n = c.in-Ok-next.ensures.moved in
    subst RunFits (sym c.run_behind.ensures) (seek_room c.args.tree.now.items (sought c.args.id.now c.args.tree.now.items) c.in-Some.fragment.now (at c.start.result.shown c.start.result.cells)
    (sym (first_is c.args.tree.now.items c.in-Ok.found.items c.args.id.now c.in-Ok.found.keep.id.now c.in-Ok.found.next (ap (λ p. p.items) m) (ap (λ p. p.keep.id.now) m) (ap (λ p. p.next) m)
    (Some c.in-Some.fragment.now) (sym (ap option_copied c.in-Some.is) ∙ c.in-Ok-next.ensures.item)))
    (start_is c.args.tree.now.items c.in-Ok.found.items c.args.id.now c.in-Ok.found.keep.id.now c.in-Ok.found.next (ap (λ p. p.items) m) (ap (λ p. p.keep.id.now) m) (ap (λ p. p.next) m)
    (at c.start.result.shown c.start.result.cells) c.next.new.self.from.shown c.next.new.self.from.cells c.next.new.self.given c.next.new.self.items c.start.ensures
    (ap (λ p. p.items) n) (ap (λ p. p.given) n) (ap (λ p. p.from.shown) n ∙ ap (λ p. p.from.shown) m) (ap (λ p. p.from.cells) n ∙ ap (λ p. p.from.cells) m))
    c.known.ensures.fits)

pub returns-clause-whole : goal.returns-clause-whole
returns-clause-whole c = λ h w.
    let m = c.in-Ok.ensures.made in
    subst (IsWholeRun h) (sym c.run_behind.ensures) (whole_at h c.args.tree.now.items (sought c.args.id.now c.args.tree.now.items) c.in-Some.fragment.now
    (first_is c.args.tree.now.items c.in-Ok.found.items c.args.id.now c.in-Ok.found.keep.id.now c.in-Ok.found.next (ap (λ p. p.items) m) (ap (λ p. p.keep.id.now) m) (ap (λ p. p.next) m)
    (Some c.in-Some.fragment.now) (sym (ap option_copied c.in-Some.is) ∙ c.in-Ok-next.ensures.item)) w)
