use Rattle.std.proofs.Common.{◌≡◌, ◌+◌, ◌-◌, ◌≤◌, ◌++◌, List, [], length, take, drop, refl, sym, ap, subst, arith}
use Rattle.std.specs.Prelude.{option_to_list}
use Rattle.sum_tree.specs.Seen.{Seen}
use Rattle.fragments.specs.declared.fragment.Fragment.{Fragment}
use Rattle.remote_edit.specs.Gathers.{so_far, ahead}
use Rattle.remote_edit.specs.Indexes.{IsIndexed}
use Rattle.remote_edit.specs.Places.{IsAfter}
use Rattle.remote_edit.specs.Walk.{Zip, one_piece}
use Rattle.remote_edit.specs.Starts.{IsLeft}
use Rattle.remote_edit.proofs.Intake.{piece_few, piece_made, one_piece-length}
use Rattle.remote_edit.proofs.OnePiece.{one_gathered}
use Rattle.remote_edit.proofs.walk.gather_in.Goals as goal

pub gather-requires-clause-numbers : goal.gather-requires-clause-numbers
gather-requires-clause-numbers c = omega (arith, c.in_ok-left.ensures.number, c.requires.room)

pub returns-clause-within : goal.returns-clause-within
returns-clause-within c = omega (arith, c.in_ok-gather.ensures.from, c.in_ok-left.ensures.sought.within)

pub returns-clause-order : goal.returns-clause-order
returns-clause-order c = omega (arith, c.in_ok-gather.ensures.from, c.in_ok-gather.ensures.order)

pub returns-clause-passed : goal.returns-clause-passed
returns-clause-passed c = subst (λ n. IsAfter c.in_ok-left.passed (take n c.args.tree.items)) (sym c.in_ok-gather.ensures.from) (c.in_ok-left.ensures.passed refl)

pub returns-clause-gathered : goal.returns-clause-gathered
returns-clause-gathered c =
    let e = c.args.edit.now in
    let s = c.seek.new.self in
    one_gathered c.args.undos.now e.stamp e.version c.args.tree.items s.tree.items s.at c.in_ok-left.left c.args.piece.now.start s.number c.args.piece.now c.in_ok-gather.gather
    (ap (λ (q : Seen Fragment). q.items) c.in_ok-left.ensures.tree) c.in_ok-left.ensures.number c.in_ok-left.ensures.sought.goes c.in_ok-gather.ensures.gathered

pub returns-clause-indexed : goal.returns-clause-indexed
returns-clause-indexed c =
    let g = c.in_ok-gather.gather in
    subst (λ (q : List Fragment). IsIndexed c.args.edit.now.stamp g.number (so_far q g ++ ahead q g) g.index) (ap (λ (q : Seen Fragment). q.items) c.in_ok-left.ensures.tree) c.in_ok-gather.ensures.indexed

pub returns-clause-few : goal.returns-clause-few
returns-clause-few c = λ a m old new f.
    let e = c.args.edit.now in
    let p = c.args.piece.now in
    let s = c.seek.new.self in
    let w = c.in_ok-gather.gather in
    let k = c.in_ok-left.left in
    let xs : List Fragment = s.tree.items in
    let ys : List Fragment = c.args.tree.items in
    let z : Zip = one_piece c.args.undos.now e.stamp e.version k s.number p (take s.at xs) (drop s.at xs) in
    let t : ys ≡ xs = ap (λ (q : Seen Fragment). q.items) (sym c.in_ok-left.ensures.tree) in
    let l : IsLeft e.version p.start ys k (drop s.at xs) = subst (λ (q : List Fragment). IsLeft e.version p.start ys k (drop s.at q)) t (c.in_ok-left.ensures.left a m) in
    let b = c.in_ok-gather.ensures in
    piece_few e.version xs ys old new w.from w.at s.at p.start k (p.end - p.start) (length w.made.items + length (option_to_list w.back))
    l (b.few l.0) b.from
    (λ n. piece_made xs w.made.items w.from s.at w.at n w.back z b.from (subst (λ (q : List Fragment). s.at ≤ length q) t c.in_ok-left.ensures.sought.within) b.gathered.goes (one_piece-length c.args.undos.now e.stamp e.version k s.number p (take s.at xs) (drop s.at xs)))
    f
