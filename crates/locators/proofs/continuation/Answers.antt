use Rattle.std.proofs.Common.{◌<◌, ◌^◌, ◌-◌, ◌++◌, ◌∷◌, [], List, length, length-append, subst, sym, ◌∙◌, arith}
use Rattle.locators.specs.Runs.{kept_runs}
use Rattle.locators.specs.Reading.{AreFull}
use Rattle.locators.specs.declared.runs.Run.{Run}
use Rattle.locators.proofs.RunLists.{full, full-one}
use Rattle.locators.proofs.Reading.{parts_one}
use Rattle.locators.proofs.continuation.Goals as goal

pub new-requires : goal.new-requires
new-requires c =
    let pad : Run = record { digit = c.args.digit; count = 2 ^ 64 - 1 } in
    let k : List Run = kept_runs c.args.runs.now in
    subst AreFull (sym (parts_one c.parts.result.0.now c.parts.result.1.now k pad c.parts.ensures)) (full-one k pad (full k c.requires.0) (omega arith))

pub returns : goal.returns
returns c =
    let pad : Run = record { digit = c.args.digit; count = 2 ^ 64 - 1 } in
    let f : List Run = c.parts.result.0.now in
    let l : List Run = c.parts.result.1.now in
    let some : 0 < length (f ++ l ++ pad ∷ []) = omega (arith, length-append (f ++ l) (pad ∷ [])) in
    record {
      ready = c.new.ensures.ready;
      start = c.new.ensures.taken;
      more = 2 ^ 64 - 1;
      many = omega arith;
      whole = c.new.ensures.whole some ∙ parts_one f l (kept_runs c.args.runs.now) pad c.parts.ensures;
    }
