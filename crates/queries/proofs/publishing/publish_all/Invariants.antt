use Rattle.std.proofs.Common.{◌≡◌, ◌<◌, ℕ, length, get_or, []}
use Rattle.std.specs.List.{All}
use Rattle.text_buffer.specs.Document.{IsFront}
use Rattle.queries.proofs.publishing.publish_all.Given as goal

abbrev pub invariant-loop-i : goal.invariant-loop-i
invariant-loop-i g l = record {
  pairs : l.publisher.pairs ≡ l.initial.publisher.pairs;
  count : length l.publisher.published ≡ length l.initial.publisher.published;
  grows : All (λ x. IsFront x l.snapshot) l.publisher.published;
  published : (j : ℕ) → j < l.i → get_or l.publisher.published j [] ≡ l.snapshot;
}
