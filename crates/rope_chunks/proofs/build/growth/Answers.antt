use Rattle.std.proofs.Common.{◌≡◌, sym, refl, append_assoc, List, ℕ, Some, [], take, ◌-◌}
use Rattle.std.specs.Prelude.{slice_get}
use Rattle.std.specs.List.{concat}
use Rattle.rope_chunks.proofs.Grows.{concat-last, no_last}
use Rattle.rope_chunks.proofs.build.growth.Goals as goal

pub returns-in_ok-cut_up-in-None-clause-text : goal.returns-in_ok-cut_up-in-None-clause-text
returns-in_ok-cut_up-in-None-clause-text c =
    let none : c.args.tree.now.items ≡ [] = no_last c.args.tree.now.items (sym c.in-None.ensures) in
    rw (none, c.in_ok-cut_up-in-None.ensures.text, c.new-chunks.ensures.items) refl

pub returns-in_ok-chunks-in-Some-clause-text : goal.returns-in_ok-chunks-in-Some-clause-text
returns-in_ok-chunks-in-Some-clause-text c =
    let cs : List (List ℕ) = c.args.tree.now.items in
    let n = c.len.result in
    let last : slice_get cs (n - 1) ≡ Some c.in-Some.last.now = rw c.len.ensures (sym c.in-Some.ensures) in
    rw (c.in_ok-chunks-in-Some.ensures.text, c.as_str.ensures.value, ← append_assoc (concat (take (n - 1) cs)) c.in-Some.last.now c.args.text.now, concat-last cs n c.in-Some.last.now c.len.ensures last) refl
