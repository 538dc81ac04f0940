use Rattle.std.proofs.Common.{◌≡◌, ◌++◌, [], drop, map, decimal}
use Rattle.json.specs.Token as token
use Rattle.session_writer.proofs.Headers.{front_tokens}
use Rattle.session_writer.proofs.header.header_text.Given as goal

abbrev pub invariant-loop-id : goal.invariant-loop-id
invariant-loop-id l = record {
  before : l.writer.before ≡ [];
  tokens : l.writer.tokens ++ map (λ id. token.number (decimal id)) (drop l.id-index l.ids) ≡ front_tokens l.base ++ map (λ id. token.number (decimal id)) l.ids;
}
