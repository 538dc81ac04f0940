use Rattle.std.proofs.Common.{◌≡◌, ◌+◌, ◌≤◌, ◌++◌, List, [], length, sym, ap, subst, ◌∙◌, arith, length-append}
use Rattle.std.specs.Prelude.{option_to_list}
use Rattle.op_model.specs.declared.operation.Operation.TheVariants.{Edit}
use Rattle.op_model.specs.Shown.{texts}
use Rattle.op_model.proofs.shown.OnePass.{unseen_self}
use Rattle.fragments.specs.declared.fragment.Fragment.{Fragment}
use Rattle.sum_tree.specs.Spliced.{splice_list}
use Rattle.remote_edit.specs.BeforeEdit.{Brings, before_edit}
use Rattle.remote_edit.specs.Carried.{CarryOn}
use Rattle.remote_edit.specs.Gathers.{so_far, ahead}
use Rattle.remote_edit.specs.Indexes.{IsIndexed}
use Rattle.remote_edit.specs.Walk.{Fit, walk}
use Rattle.remote_edit.proofs.EditTexts.{brings, untouched}
use Rattle.remote_edit.proofs.Intake.{back_few}
use Rattle.remote_edit.proofs.Standing.{indexed_start, fit_start}
use Rattle.remote_edit.proofs.Planned.{are_placed, are_moves, keep_characters, one_walked, one_room, one_range, one_cost}
use Rattle.remote_edit.proofs.plan.plan_piece.Goals as goal

pub gather_one-requires-clause-unseen : goal.gather_one-requires-clause-unseen
gather_one-requires-clause-unseen c = let r = c.requires.may in unseen_self r.history (Edit c.args.edit.now) r.lawful r.good

pub gather_one-requires-clause-fit : goal.gather_one-requires-clause-fit
gather_one-requires-clause-fit c = (fit_start c.args.tree.now.items c.args.index c.args.undos.now (Edit c.args.edit.now) c.requires.may).0

pub gather_one-requires-clause-room : goal.gather_one-requires-clause-room
gather_one-requires-clause-room c = one_room c.args.edit.now.pieces c.args.piece.now _ c.requires.one (fit_start c.args.tree.now.items c.args.index c.args.undos.now (Edit c.args.edit.now) c.requires.may).1

pub gather_one-requires-clause-indexed : goal.gather_one-requires-clause-indexed
gather_one-requires-clause-indexed c = let r = c.requires.may in indexed_start c.args.tree.now.items c.args.index c.args.undos.now r.history (Edit c.args.edit.now) r.stands r.lawful r.good

pub range_moves-requires-clause-order : goal.range_moves-requires-clause-order
range_moves-requires-clause-order c = let b = c.in_ok-before.ensures in omega (arith, c.min-to.ensures, c.len.ensures, b.order, b.within)

pub range_moves-requires-clause-within : goal.range_moves-requires-clause-within
range_moves-requires-clause-within c = omega (arith, c.min-to.ensures, c.len.ensures)

pub range_moves-requires-clause-before : goal.range_moves-requires-clause-before
range_moves-requires-clause-before c = c.in_ok-before.ensures.passed

pub range_moves-requires-clause-untouched : goal.range_moves-requires-clause-untouched
range_moves-requires-clause-untouched c = let r = c.requires.may in untouched r.history (Edit c.args.edit.now) c.args.undos.now c.args.tree.now.items c.args.index r.stands r.lawful r.good

pub range_moves-requires-clause-brought : goal.range_moves-requires-clause-brought
range_moves-requires-clause-brought c =
    let r = c.requires.may in
    let e = c.args.edit.now in
    let xs = c.args.tree.now.items in
    let g = c.in_ok-before.gather in
    let here : splice_list g.from c.min-to.result c.in_ok-made.made.items xs ≡ so_far xs g ++ ahead xs g = one_range xs g.made.items c.in_ok-made.made.items g.from g.at c.min-to.result c.len.result g.back c.in_ok-made.ensures c.len.ensures c.min-to.ensures in
    let walked : splice_list g.from c.min-to.result c.in_ok-made.made.items xs ≡ walk c.args.undos.now e.stamp e.version 0 0 e.pieces [] xs =
    here ∙ one_walked c.args.undos.now e c.args.piece.now xs (so_far xs g) (ahead xs g) c.requires.one c.requires.changes c.in_ok-before.ensures.gathered.goes in
    subst (λ (m : List Fragment). Brings e.stamp 0 (length (texts e.pieces)) (splice_list g.from c.min-to.result m xs)) (sym c.deref.ensures.value)
    (subst (Brings e.stamp 0 (length (texts e.pieces))) (sym walked) (brings r.history (Edit e) c.args.undos.now xs c.args.index r.stands r.lawful r.good))

pub returns-clause-placement : goal.returns-clause-placement
returns-clause-placement c =
    let r = c.requires.may in
    let e = c.args.edit.now in
    let u = c.args.undos.now in
    let i = c.args.index in
    let xs = c.args.tree.now.items in
    let g = c.in_ok-before.gather in
    let b = c.in_ok-before.ensures in
    let gs : List Fragment = splice_list g.from c.min-to.result c.in_ok-made.made.items xs in
    let here : gs ≡ so_far xs g ++ ahead xs g = one_range xs g.made.items c.in_ok-made.made.items g.from g.at c.min-to.result c.len.result g.back c.in_ok-made.ensures c.len.ensures c.min-to.ensures in
    let walked : gs ≡ walk u e.stamp e.version 0 0 e.pieces [] xs = here ∙ one_walked u e c.args.piece.now xs (so_far xs g) (ahead xs g) c.requires.one c.requires.changes b.gathered.goes in
    let fit : Fit gs = subst Fit (sym here) b.gathered.fit in
    let indexed : IsIndexed e.stamp g.number gs g.index = subst (λ (z : List Fragment). IsIndexed e.stamp g.number z g.index) (sym here) b.indexed in
    let carry = subst (λ (m : List Fragment). CarryOn e.stamp [] [] (before_edit u e.stamp (splice_list g.from c.min-to.result m xs)) 0 c.in_ok-moves.moves (splice_list g.from c.min-to.result m xs) [] (length (texts e.pieces))) c.deref.ensures.value c.in_ok-moves.ensures in
    record {
      may = (omega (arith, c.min-to.ensures, c.len.ensures, b.order, b.within), omega (arith, c.min-to.ensures, c.len.ensures), fit);
      fragments = walked;
      stands = are_placed xs i u e gs walked g.number g.index fit indexed;
      moves = are_moves xs i u e gs walked c.in_ok-moves.moves carry;
      characters = keep_characters xs i u e gs walked c.in_ok-moves.moves carry fit;
    }

pub returns-clause-cost : goal.returns-clause-cost
returns-clause-cost c = λ a o old new f.
    let e = c.args.edit.now in
    let p = c.args.piece.now in
    let xs = c.args.tree.now.items in
    let g = c.in_ok-before.gather in
    let n : length c.in_ok-made.made.items ≡ length g.made.items + length (option_to_list g.back) = ap length c.in_ok-made.ensures ∙ length-append g.made.items (option_to_list g.back) in
    one_cost e.version xs e.pieces p old new c.requires.one (fit_start xs c.args.index c.args.undos.now (Edit e) c.requires.may).0.0 a o
    (λ m. c.in_ok-before.ensures.few a m old new (back_few old new g.from c.min-to.result g.at (length c.in_ok-made.made.items) (length g.made.items + length (option_to_list g.back)) (omega (arith, c.min-to.ensures)) n f))
