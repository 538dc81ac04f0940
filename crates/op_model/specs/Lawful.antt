-- Lawful histories, honest sets, closed versions.
use Rattle.std.specs.Prelude.{◌≡◌, ℕ, true, List, [], ◌∷◌, ◌++◌, Option, None, option_map}
use Rattle.lamport_clock.specs.Versions.{Entries, within}
use Rattle.op_model.specs.declared.operation.Operation.{Operation}
use Rattle.op_model.specs.Histories.{History, base, version, oldest_first}
use Rattle.op_model.specs.Answers.{answer, first_missing, open_replica}
use Rattle.op_model.specs.Answers.Answer.{Good}

-- each operation of ops, after those of h, has the answer Good against those before it
abbrev pub LawfulFrom : History → List Operation → Type 0
LawfulFrom h [] = Unit {0}
LawfulFrom h (op ∷ ops) = (answer h [] op ≡ Good) × LawfulFrom (h ++ op ∷ []) ops

-- the base, and each operation after it has the answer Good against those before it, with nothing waiting
abbrev pub Lawful : History → Type 0
Lawful [] = ⊥
Lawful (op ∷ ops) = ((t : List ℕ) × (op ≡ base t)) × LawfulFrom (op ∷ []) ops

-- a set of operations with distinct stamps, the base among them, whose list by stamps is lawful
abbrev pub Honest : List Operation → Type 0
Honest ops = Lawful (oldest_first ops)

-- the least replica of which v has more than h
abbrev pub unseen_replica : History → Entries → Option ℕ
unseen_replica h v = option_map (λ e. e.0) (first_missing h v)

-- v has no more than h, and each of its entries is an operation of h whose version lies within v
abbrev pub IsClosed : History → Entries → Type 0
IsClosed h v = (within v (version h) ≡ true) × (open_replica h v ≡ None)
