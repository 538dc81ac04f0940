use Rattle.std.proofs.Common.{◌≡◌, ◌++◌, ◌∷◌, map}
use Rattle.std.specs.List.{concat}
use Rattle.json.specs.Print.{escape}
use Rattle.session_lines.proofs.text.push_text.Given as goal

abbrev pub invariant-loop-part : goal.invariant-loop-part
invariant-loop-part g l = l.out.items ≡ l.fn.out.items ++ 34 ∷ escape (concat (map (λ x. x.now) l.yielded))
