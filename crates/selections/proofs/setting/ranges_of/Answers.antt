use Rattle.std.proofs.Common.{List, map, ap, ◌≡◌, ◌++◌, ◌∙◌}
use Rattle.op_model.specs.Shown.{text}
use Rattle.selections.specs.declared.selection.Selection.{Selection}
use Rattle.selections.specs.Setting.{selection_of}
use Rattle.selections.proofs.Kept.{if_ok}
use Rattle.selections.proofs.Selecting.{none_inside, select-end, some}
use Rattle.selections.proofs.setting.ranges_of.Goals as goal

pub loop-start-init : goal.loop-start-init
loop-start-init c = record {
  made = ap (λ (z : List Selection). map some z ++ map (selection_of c.args.snapshot.now) c.args.ranges.now) c.in_ok-made.ensures.items;
  outside = none_inside (text c.args.snapshot.now) c.args.ranges.now c.requires;
}

pub returns : goal.returns
returns c =
    let all = select-end c.args.snapshot.now c.args.ranges.now c.loop-start.start-index c.loop-start.made.items c.loop-start-test.false c.loop-start.invariant.made in
    if_ok (λ (rs : List Selection). rs ≡ c.new.result) (λ (rs : List Selection). map some rs ≡ map (selection_of c.args.snapshot.now) c.args.ranges.now)
    (λ rs e. ap (λ (z : List Selection). map some z) (e ∙ c.new.ensures) ∙ all) c.into_shared.result c.into_shared.ensures
