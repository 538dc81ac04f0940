use Rattle.std.proofs.Common.{◌≡◌, ℕ, ◌<◌, ◌≤◌, ◌^◌, sym, ◌∙◌, List, length, take, arith}
use Rattle.std.proofs.lemmas.List.{take_all}
use Rattle.text_dims.specs.Summaries.{summary_of}
use Rattle.text_dims.specs.Monoid.{summary-nil}
use Rattle.text_dims.proofs.Characters.{char_count-chars, utf16_count-chars}
use Rattle.text_dims.proofs.Fronts.{longest, one_more, one_fits}
use Rattle.text_dims.proofs.summary.TextSummary.of.Goals as goal

pub loop-at-init : goal.loop-at-init
loop-at-init c = record { within = omega arith; counted = c.empty-summary.ensures ∙ sym summary-nil }

pub push_byte-requires-clause-longest : goal.push_byte-requires-clause-longest
push_byte-requires-clause-longest c = rw c.loop-at-2.invariant.counted (longest (take c.loop-at-2.at c.as_bytes-bytes.result.now))

pub push_byte-requires-clause-fits : goal.push_byte-requires-clause-fits
push_byte-requires-clause-fits c =
    let bs = c.as_bytes-bytes.result.now in
    let few : length bs < 2 ^ 64 = omega arith in
    rw c.loop-at-2.invariant.counted (one_fits bs c.loop-at-2.at c.as_bytes-bytes.ensures.utf8 few (omega (arith, c.loop-at-2-test.true)))

pub loop-at-2-preserved : goal.loop-at-2-preserved
loop-at-2-preserved c =
    let bs = c.as_bytes-bytes.result.now in
    record {
      within = omega (arith, c.loop-at-2-test.true);
      counted = c.push_byte.ensures ∙ rw c.loop-at-2.invariant.counted (sym (one_more bs c.loop-at-2.at (omega (arith, c.loop-at-2-test.true))));
    }

whole : (bs ts : List ℕ) (i : ℕ) → bs ≡ ts → length bs ≤ i → take i bs ≡ ts
whole bs ts i e h = take_all i bs h ∙ e

pub returns-clause-characters : goal.returns-clause-characters
unfolding summary_of
returns-clause-characters c =
    let is : take c.loop-at-2.at c.as_bytes-bytes.result.now ≡ c.args.text.now = whole c.as_bytes-bytes.result.now c.args.text.now c.loop-at-2.at c.as_bytes-bytes.ensures.value (omega (arith, c.loop-at-2-test.false)) in
    rw (c.loop-at-2.invariant.counted, is) (char_count-chars c.args.text.now c.utf8.text)

pub returns-clause-units : goal.returns-clause-units
unfolding summary_of
returns-clause-units c =
    let is : take c.loop-at-2.at c.as_bytes-bytes.result.now ≡ c.args.text.now = whole c.as_bytes-bytes.result.now c.args.text.now c.loop-at-2.at c.as_bytes-bytes.ensures.value (omega (arith, c.loop-at-2-test.false)) in
    rw (c.loop-at-2.invariant.counted, is) (utf16_count-chars c.args.text.now c.utf8.text)
