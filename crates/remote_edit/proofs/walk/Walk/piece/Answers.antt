use Rattle.std.proofs.Common.{◌≡◌, ◌-◌, ◌+◌, ◌≤◌, List, length, take, drop, sym, ap, subst}
use Rattle.std.specs.Prelude.{option_to_list}
use Rattle.sum_tree.specs.Seen.{Seen}
use Rattle.fragments.specs.declared.fragment.Fragment.{Fragment}
use Rattle.remote_edit.specs.Walk.{Zip, one_piece}
use Rattle.remote_edit.specs.Starts.{IsLeft}
use Rattle.remote_edit.proofs.Intake.{piece_few, piece_made, one_piece-length}
use Rattle.remote_edit.proofs.walk.Walk.piece.Goals as goal

pub returns-clause-cost : goal.returns-clause-cost
returns-clause-cost g c = λ a m.
    let e = c.args.edit.now in
    let p = c.args.piece.now in
    let s = c.seek.new.self in
    let o = c.args.self in
    let w = c.in_ok-tree.gather in
    let k = c.in_ok-left.left in
    let xs : List Fragment = s.tree.items in
    let ys : List Fragment = drop o.at o.tree.items in
    let z : Zip = one_piece c.args.undos.now e.stamp e.version k s.number p (take s.at xs) (drop s.at xs) in
    let t : o.tree.items ≡ xs = ap (λ (q : Seen Fragment). q.items) (sym c.in_ok-left.ensures.tree) in
    let l : IsLeft e.version c.args.count ys k (drop s.at xs) = subst (λ (q : List Fragment). IsLeft e.version c.args.count ys k (drop s.at q)) t (c.in_ok-left.ensures.left a m) in
    let b = c.in_ok-tree.ensures in
    piece_few e.version xs ys c.args.steps.now c.after_change.new.steps w.from w.at s.at c.args.count k (p.end - p.start) (length w.made.items + length (option_to_list w.back))
    l (b.few l.0) b.from
    (λ n. piece_made xs w.made.items w.from s.at w.at n w.back z b.from (subst (λ (q : List Fragment). s.at ≤ length q) t c.in_ok-left.ensures.sought.within) b.gathered.goes (one_piece-length c.args.undos.now e.stamp e.version k s.number p (take s.at xs) (drop s.at xs)))
    c.after_change.ensures.cost
