use Rattle.std.proofs.Common.{◌≡◌, ℕ, Bool, false, eqb, ◌<◌, ◌++◌, ◌∙◌, length, ap, arith}
use Rattle.std.proofs.lemmas.Bool.Decides.{nat_tests}
use Rattle.rope_chunks.proofs.Changes.{one_is, one_list}
use Rattle.rope_chunks.proofs.change.one_chunk.Goals as goal

above : (n : ℕ) (t : Bool) → t ≡ eqb n 0 → t ≡ false → 0 < n
above n t e f = grind (arith, nat_tests)

pub returns-clause-each : goal.returns-clause-each
returns-clause-each c =
    let chunk = c.join-chunk.result in
    let is : chunk ≡ (c.args.front.now ++ c.args.middle.now) ++ c.args.back.now = c.join-chunk.ensures ∙ ap (λ t. t ++ c.args.back.now) (c.as_str.ensures.value ∙ c.join-front.ensures) in
    let some : 0 < length chunk = omega (arith, above (length c.as_str-2.result.now) c.is_empty.result c.is_empty.ensures c.if-is_empty.false, ap length c.as_str-2.ensures.value) in
    one_list c.push.new.self.items c.in_ok-chunks.chunks.items chunk c.in_ok-push.ensures.items c.in_ok-chunks.ensures.items (one_is chunk c.args.front.now c.args.middle.now c.args.back.now is c.utf8.front c.utf8.middle c.utf8.back c.requires.few some)
