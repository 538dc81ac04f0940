use Rattle.std.proofs.Common.{◌≡◌, [], ◌∷◌, ◌++◌, take}
use Rattle.std.specs.List.{flat_map}
use Rattle.json.specs.Token as token
use Rattle.record_lines.specs.Lines.{piece_value, value_tokens}
use Rattle.record_lines.proofs.lines.put_pieces.Given as goal

abbrev pub invariant-loop-p : goal.invariant-loop-p
invariant-loop-p l = record {
  before : l.writer.before ≡ l.fn.writer.before;
  tokens : l.writer.tokens ≡ (l.fn.writer.tokens ++ token.begin_array ∷ []) ++ flat_map (λ x. value_tokens (piece_value x)) (take l.p-index l.ps);
}
