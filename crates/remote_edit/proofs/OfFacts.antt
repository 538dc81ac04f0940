-- What holds of the cells of fragments holds of the fragments.
use Rattle.op_model.proofs.Elements.{each_right}
use Rattle.std.proofs.Common.{ℕ, zero, suc, ◌<◌, Bool, List, [], ◌∷◌, ◌++◌, arith}
use Rattle.std.specs.List.{AllByRecursion}
use Rattle.lamport_clock.specs.declared.stamp.Lamport.{Lamport}
use Rattle.op_model.specs.Facts.{Fact, alike}
use Rattle.op_model.specs.Walked.{run_facts, facts_of}
use Rattle.fragments.specs.declared.fragment.Fragment.{Fragment}
use Rattle.fragments.specs.Stand.{run_of, runs, IsFilled}

module _ (P : Lamport → Bool → List Lamport → Type 0) where
  abbrev pub OfFact : Fact → Type 0
  OfFact q = P q.cell.stamp q.visible q.deletions

  abbrev pub OfFragment : Fragment → Type 0
  OfFragment f = P f.stamp f.visible f.deletions

  first_fact : (t : Lamport) (k n : ℕ) (v : Bool) (d : List Lamport) (s : List Fact) → 0 < n → AllByRecursion OfFact (alike t k n v d ++ s) → P t v d
  first_fact t k zero v d s l e = absurd (omega arith)
  first_fact t k (suc n) v d s l e = e.0

  pub of_facts : (fs : List Fragment) → AllByRecursion IsFilled fs → AllByRecursion OfFact (facts_of (runs fs)) → AllByRecursion OfFragment fs
  of_facts [] l e = tt
  of_facts (f ∷ fs) l e = (
    first_fact f.stamp f.offset f.len f.visible f.deletions (facts_of (runs fs)) l.0.0 e,
    of_facts fs l.1 (each_right OfFact (run_facts (run_of f)) (facts_of (runs fs)) e),
  )
