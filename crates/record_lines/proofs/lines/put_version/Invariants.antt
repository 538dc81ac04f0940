use Rattle.std.proofs.Common.{◌≡◌, [], ◌∷◌, ◌++◌, take}
use Rattle.std.specs.List.{flat_map}
use Rattle.json.specs.Token as token
use Rattle.record_lines.specs.Lines.{entry_value, value_tokens}
use Rattle.record_lines.proofs.lines.put_version.Given as goal

abbrev pub invariant-loop-replica : goal.invariant-loop-replica
invariant-loop-replica l = record {
  before : l.writer.before ≡ l.fn.writer.before;
  tokens : l.writer.tokens ≡ (l.fn.writer.tokens ++ token.begin_array ∷ []) ++ flat_map (λ x. value_tokens (entry_value x)) (take l.replica-index l.entries);
}
