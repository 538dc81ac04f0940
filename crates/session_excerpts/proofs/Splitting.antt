-- What is reported of changes that were split.
use Rattle.std.proofs.Common.{◌≡◌, ◌⊎◌, inl, inr, List, Option, None, Some, option_map, sym, ap, ◌∙◌}
use Rattle.op_model.specs.declared.operation.Piece.{Piece}
use Rattle.multi_buffer.specs.Splits.{split_fault, split_of}
use Rattle.multi_buffer.specs.State.{MultiState}
use Rattle.multi_buffer.specs.declared.faults.SplitFault.{SplitFault}
use Rattle.multi_buffer.specs.declared.faults.SplitFault.TheVariants.{OutOfMemory}
use Rattle.multi_buffer.specs.declared.parts.BufferPieces.{BufferPieces}
use Rattle.session_lines.specs.Session.{unless}
use Rattle.session_more.specs.declared.report.SplitRefusal.{SplitRefusal}
use Rattle.session_excerpts.specs.Answers.{refusal, split_answer, split_outcome}
use Rattle.session_excerpts.specs.declared.answers.SplitAnswer.TheVariants.{Parts, Refused}

-- n are the excerpts m
module _ (ps : List Piece) (m n : MultiState) (is : n ≡ m) where
  pub parts_said : (gs : List BufferPieces) → split_fault n ps ≡ None → gs ≡ split_of n ps → split_answer (split_outcome ps m) ≡ Some (Parts gs)
  parts_said gs none e =
      ap (λ (x : MultiState). split_answer (split_outcome ps x)) (sym is)
      ∙ ap (λ (o : Option SplitFault). split_answer (unless (split_of n ps) o)) none
      ∙ ap (λ (l : List BufferPieces). Some (Parts l)) (sym e)

  cause : (f : SplitFault) (r : SplitRefusal) → refusal f ≡ Some r → (split_fault n ps ≡ Some f) ⊎ ((split_fault n ps ≡ None) × (f ≡ OutOfMemory)) → split_fault n ps ≡ Some f
  cause f r says (inl e) = e
  cause f r says (inr e) = let no : refusal f ≡ None = ap refusal e.1 in absurd (cc (no, says))

  pub refused_said : (f : SplitFault) (r : SplitRefusal) → refusal f ≡ Some r → (split_fault n ps ≡ Some f) ⊎ ((split_fault n ps ≡ None) × (f ≡ OutOfMemory))
      → split_answer (split_outcome ps m) ≡ Some (Refused r)
  refused_said f r says or =
      ap (λ (x : MultiState). split_answer (split_outcome ps x)) (sym is)
      ∙ ap (λ (o : Option SplitFault). split_answer (unless (split_of n ps) o)) (cause f r says or)
      ∙ ap (option_map Refused) says
