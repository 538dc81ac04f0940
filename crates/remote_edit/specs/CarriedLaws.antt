-- Laws of moves and of whole fragments, which src/laws.rt shows.
use Rattle.std.specs.Prelude.{◌≡◌, ℕ, List, [], ◌∷◌, ◌++◌}
use Rattle.std.specs.List.{AllByRecursion}
use Rattle.std.specs.Str.{IsUtf8}
use Rattle.op_model.specs.declared.operation.Operation.{Operation}
use Rattle.op_model.specs.Walked.{IsWhole}
use Rattle.op_model.specs.Histories.{History, base}
use Rattle.op_model.specs.Answers.{answer}
use Rattle.op_model.specs.Answers.Answer.{Good}
use Rattle.op_model.specs.Lawful.{Lawful}
use Rattle.fragments.specs.declared.fragment.Fragment.{Fragment}
use Rattle.fragments.specs.Laws.{whole_base}
use Rattle.fragments.specs.Stand.{runs, Tell}
use Rattle.remote_edit.specs.declared.moves.Move.{Move}
use Rattle.remote_edit.specs.Carried.{AreMovesOf, Carry}

-- moves that carry the bytes of fragments with the cells of h to those of fragments with the cells of h with op take
-- the texts of h to those of h with op
abbrev pub CarriedTextsAreThose : Type 0
CarriedTextsAreThose = (h : History) → (op : Operation) → (fs gs : List Fragment) → (ms : List Move)
    → Lawful h → answer h [] op ≡ Good
    → Tell fs h → Tell gs (h ++ op ∷ []) → Carry ms op fs gs → AreMovesOf ms h op

-- the fragment of a base whose text is UTF-8 begins and ends between characters
abbrev pub BaseIsWhole : Type 0
BaseIsWhole = (id t : List ℕ) → IsUtf8 t → AllByRecursion (IsWhole (base t ∷ [])) (runs (whole_base id t ∷ []))
