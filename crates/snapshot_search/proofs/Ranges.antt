-- The places from one offset up to another, by a text that is read no further than their matches reach.
use Rattle.std.proofs.Common.{◌≡◌, ℕ, zero, suc, ◌+◌, ◌-◌, ◌<◌, ◌≤◌, true, false, List, [], ◌∷◌, length, take, drop, slice_range, refl, sym, ap, subst, ◌∙◌, arith, ⊎_elim, cond, length-drop}
use Rattle.std.specs.List.{filter, range_with_len}
use Rattle.std.proofs.lemmas.Bool.{cases_Bool, cases_lt, false≢true}
use Rattle.std.proofs.lemmas.List.{take_all, get_or-take, get_or-drop, length-take-le}
use Rattle.memchr.specs.Find.{OccursAt}
use Rattle.snapshot_search.specs.Starts.{stands_at, starts_between}
use Rattle.snapshot_search.specs.declared.progress.Progress.{Progress}
use Rattle.snapshot_search.specs.Progress.{Follows, Reads, place_of}
use Rattle.snapshot_search.proofs.Places.{in_front, from_front, stands-true, true-stands, starts-none, starts-passed}

module _ (text other needle : List ℕ) (some : 0 < length needle) where
  same_test : (i : ℕ) → (OccursAt text needle i → OccursAt other needle i) → (OccursAt other needle i → OccursAt text needle i) → stands_at text needle i ≡ stands_at other needle i
  same_test i to from =
      ⊎_elim (λ (yes : stands_at text needle i ≡ true). yes ∙ sym (stands-true other needle some i (to (true-stands text needle some i yes))))
      (λ (not_here : stands_at text needle i ≡ false).
      ⊎_elim (λ (yes : stands_at other needle i ≡ true). absurd (false≢true (sym not_here ∙ stands-true text needle some i (from (true-stands other needle some i yes)))))
      (λ (nor : stands_at other needle i ≡ false). not_here ∙ sym nor)
      (cases_Bool (stands_at other needle i)))
      (cases_Bool (stands_at text needle i))

  same_from : (i n : ℕ) → ((k : ℕ) → i ≤ k → k < i + n → (OccursAt text needle k → OccursAt other needle k) × (OccursAt other needle k → OccursAt text needle k))
      → filter (stands_at text needle) (range_with_len i n) ≡ filter (stands_at other needle) (range_with_len i n)
  same_from i zero h = refl
  same_from i (suc n) h =
      let here = h i (omega arith) (omega arith) in
      let rest = same_from (i + 1) n (λ k low high. h k (omega arith) (omega arith)) in
      let test = same_test i here.0 here.1 in
      (λ x. cond (test x) (i ∷ rest x) (rest x))

  pub starts-same : (i j : ℕ) → ((k : ℕ) → i ≤ k → k < j → (OccursAt text needle k → OccursAt other needle k) × (OccursAt other needle k → OccursAt text needle k))
      → starts_between text needle i j ≡ starts_between other needle i j
  unfolding starts_between
  starts-same i j h = same_from i (j - i) (λ k low high. h k low (omega arith))

-- a part of a text stands in its front where it stands in the text
part_there : (text : List ℕ) (from end : ℕ) → from ≤ end → end ≤ length text → OccursAt (take end text) (slice_range text from end) from
part_there text from end order within =
    let size = length-take-le end text within in
    let rest = length-drop from text in
    let part = length-take-le (end - from) (drop from text) (omega arith) in
    record {
      fits = omega arith;
      reads = λ j low.
          get_or-take end text (from + j) 0 (omega arith)
          ∙ sym (get_or-take (end - from) (drop from text) j 0 (omega arith) ∙ get_or-drop from text j 0);
    }

pub found_between : (text needle piece : List ℕ) (from to end : ℕ) (p q : Progress) → 0 < length needle → from ≤ to → to ≤ end → end ≤ length text → end + 1 ≤ to + length needle
    → ((k : ℕ) → k < to → k + length needle ≤ length text → k + length needle ≤ end)
    → p.start ≡ from → p.matched ≡ 0 → p.found.items ≡ [] → piece ≡ slice_range text from end → Reads needle piece p q
    → q.found.items ≡ starts_between text needle from to
found_between text needle piece from to end p q some order within inside short reaches start matched found is reads =
    let front = take end text in
    let size = length-take-le end text inside in
    let at : from ≡ place_of p = omega arith in
    let there = subst (OccursAt front piece) at (subst (λ l. OccursAt front l from) (sym is) (part_there text from end (omega arith) inside)) in
    let none : starts_between front needle from from ≡ [] = starts-none front needle some from from (omega arith) (λ k low high. absurd (omega arith)) in
    let begins : Follows front needle from p = record {
      begun = omega arith;
      stands = λ j h. absurd (omega arith);
      found = found ∙ (sym none ∙ ap (starts_between front needle from) (sym start));
    } in
    let ends = reads.follows front from there begins in
    let begun = ends.begun in
    let place = reads.place in
    let partial = reads.partial in
    let rest = length-drop from text in
    let count : length piece ≡ end - from = ap length is ∙ length-take-le (end - from) (drop from text) (omega arith) in
    let up_to : starts_between front needle from q.start ≡ starts_between front needle from to =
    ⊎_elim (λ (before : q.start < to).
    starts-passed front needle some from q.start to begun (omega arith) (λ t low high other. let fits = other.fits in absurd (omega arith)))
    (λ (past : to ≤ q.start).
    sym (starts-passed front needle some from to q.start order past (λ t low high other. let fits = other.fits in absurd (omega arith))))
    (cases_lt q.start to) in
    ends.found ∙ (up_to ∙ starts-same front text needle some from to
    (λ k low high. (from_front text needle k end inside, λ (h : OccursAt text needle k). in_front text needle k end (reaches k high h.fits) inside h)))

-- what is read of the text behind an offset
pub piece_read : (text rest : List ℕ) (from end len : ℕ) → from ≤ end → end ≤ len → len ≡ length text → rest ≡ slice_range text from len → take (end - from) rest ≡ slice_range text from end
piece_read text rest from end len a b e is =
    ap (take (end - from)) (is ∙ take_all (len - from) (drop from text) (omega (arith, length-drop from text)))
