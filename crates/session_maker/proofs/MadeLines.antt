-- The lines of a session that is made: each reads as it behind those before it, and there are not too many.
use Rattle.std.proofs.Common.{◌≡◌, ℕ, zero, suc, ◌+◌, ◌-◌, ◌*◌, ◌<◌, ◌≤◌, ◌^◌, ◌%◌, ◌==◌, true, cond, min, List, [], ◌∷◌, length, replicate, refl, ap₂, subst, arith, length-append, ltb-true}
use Rattle.std.specs.Prelude.{◌&&◌, ◌||◌, nat_lt}
use Rattle.std.specs.List.{flat_map, range_with_len}
use Rattle.std.proofs.lemmas.Bool.{and_parts, cond_both, eqb-true}
use Rattle.std.proofs.lemmas.List.{length-map}
use Rattle.std.proofs.lemmas.List.FromFn.{length-range_with_len}
use Rattle.std.proofs.lemmas.Nat.{mul-le}
use Rattle.session_lines.specs.Parts.{is_among}
use Rattle.session_lines.specs.declared.session.SessionLine.{SessionLine}
use Rattle.session_lines.specs.declared.session.SessionLine.TheVariants.{Give}
use Rattle.session_maker.specs.Draws.{draw_below, next}
use Rattle.session_maker.specs.Made.{gives_behind, gives_of, gives_to, ids_to, last_eight, made_lines, round_of, rounds_from, turn_at}
use Rattle.session_maker.specs.Turns.{author_of, delete_turn, insert_turn, turn_of, undo_turn}
use Rattle.session_maker.proofs.WrittenLines.{AreRead, are_read-append, edit_read, gives_read, known_from, known_id, numbers_from, plain_letters, plain_nothing, undo_read}

-- ---- turns

drawn_small : (m x : ℕ) → draw_below m (next x) < 2 ^ 31
drawn_small m x =
    let y : ℕ = next x in
    let small : y < 2 ^ 31 = omega arith in
    omega arith

module _ (ids : List ℕ) (a i r l : ℕ) (e : a + 1 ≡ i) (fits : i < 2 ^ 32) (small : r ≤ 65535) (known : is_among ids r ≡ true) where
  undone : (x : ℕ) → 1 < i → AreRead ids a ((undo_turn r i x).0 ∷ []) i
  undone x lt = (undo_read ids a r small known (1 + draw_below (i - 1) (next x)) (omega arith) (omega arith) (omega arith), e)

  deleted : (x : ℕ) → AreRead ids a ((delete_turn r l x).0 ∷ []) i
  deleted x =
      let y : ℕ = next x in
      let s : ℕ = draw_below (l + 1) y in
      let start : s < 2 ^ 31 = drawn_small (l + 1) x in
      let count : draw_below 4 (next y) < 2 ^ 31 = drawn_small 4 y in
      (edit_read ids a r small known s (min l (s + (1 + draw_below 4 (next y)))) [] (omega arith) (omega arith) plain_nothing, e)

  inserted : (x : ℕ) → AreRead ids a ((insert_turn r l x).0 ∷ []) i
  inserted x =
      let y : ℕ = next x in
      let z : ℕ = next y in
      let s : ℕ = draw_below (l + 1) y in
      let start : s < 2 ^ 31 = drawn_small (l + 1) x in
      let letter : draw_below 26 (next z) < 26 = omega arith in (
        edit_read ids a r small known s s (replicate (1 + draw_below 3 z) (97 + draw_below 26 (next z))) (omega arith) (omega arith)
            (plain_letters (1 + draw_below 3 z) (97 + draw_below 26 (next z)) (omega arith) (omega arith)),
        e,
      )

  turn_read : (x : ℕ) → AreRead ids a ((turn_of i r l x).0 ∷ []) i
  turn_read x =
      let y : ℕ = next x in
      let kind : ℕ = draw_below 8 y in
      let P : SessionLine × ℕ → Type 0 = λ p. AreRead ids a (p.0 ∷ []) i in
      cond_both (kind == 0 && nat_lt 1 i) (undo_turn r i y) (cond (kind == 1 || kind == 2) (delete_turn r l y) (insert_turn r l y)) P
      (λ h. undone y (ltb-true 1 i (and_parts (kind == 0) (nat_lt 1 i) h).1))
      (λ h. cond_both (kind == 1 || kind == 2) (delete_turn r l y) (insert_turn r l y) P (λ _. deleted y) (λ _. inserted y))

-- ---- what is given

length-gives : (ns rs : List ℕ) → length (flat_map (gives_to ns) rs) ≤ length rs * length ns
length-gives ns [] = omega arith
length-gives ns (r ∷ rs) =
    omega (arith, length-append (gives_to ns r) (flat_map (gives_to ns) rs), length-map ns (Give r), length-gives ns rs)

module _ (n : ℕ) (some : 1 ≤ n) (most : n ≤ 16) where
  behind_read : (i : ℕ) → 1 ≤ i → i < 2 ^ 32 → AreRead (ids_to n) i (gives_behind n i) i
  behind_read i low fits =
      cond_both (i % 8 == 0) (gives_of n (last_eight i)) [] (λ ls. AreRead (ids_to n) i ls i)
      (λ h.
      let zeroth : i % 8 ≡ 0 = eqb-true (i % 8) 0 h in
      let eighth : 8 ≤ i = omega arith in
      gives_read (ids_to n) i (last_eight i) (ids_to n) (omega arith)
      ((low, omega arith), ((omega arith, omega arith), ((omega arith, omega arith), ((omega arith, omega arith), ((omega arith, omega arith), ((omega arith, omega arith), ((omega arith, omega arith), ((omega arith, omega arith), tt))))))))
      (known_from n 1 n (omega arith) (omega arith) (omega arith)))
      (λ h. refl)

  behind_short : (i : ℕ) → 1 ≤ i → length (gives_behind n i) + 16 * (i % 8) ≤ 16 * (1 + (i - 1) % 8)
  behind_short i low =
      cond_both (i % 8 == 0) (gives_of n (last_eight i)) [] (λ ls. length ls + 16 * (i % 8) ≤ 16 * (1 + (i - 1) % 8))
      (λ h. omega (arith, eqb-true (i % 8) 0 h, length-gives (last_eight i) (ids_to n), length-range_with_len 1 n))
      (λ h. omega arith)

  -- ---- rounds, and all lines

  module _ {S : Type 0} (after : List SessionLine → S → S) (length_at : ℕ → S → ℕ) where
    rounds_read : (k i a b x : ℕ) (s : S) → a + 1 ≡ i → a + k ≡ b → b < 2 ^ 31 → AreRead (ids_to n) a (rounds_from after length_at n k i x s) b
    rounds_read zero i a b x s e f fits = omega arith
    rounds_read (suc k) i a b x s e f fits =
        let r : ℕ = author_of n (next x) in
        let p : SessionLine × ℕ = turn_at after length_at n i x s in
        let lines : List SessionLine = round_of n i p.0 in
        let fits_here : i < 2 ^ 32 = omega arith in
        let turn : AreRead (ids_to n) a (p.0 ∷ []) i =
        turn_read (ids_to n) a i r (length_at r s) e fits_here (omega arith) (known_id n r (omega arith) (omega arith)) (next x) in
        let round : AreRead (ids_to n) a lines i =
        are_read-append (ids_to n) a i i (p.0 ∷ []) (gives_behind n i) turn (behind_read i (omega arith) fits_here) in
        are_read-append (ids_to n) a i b lines (rounds_from after length_at n k (i + 1) p.1 (after lines s)) round
        (rounds_read k (i + 1) i b p.1 (after lines s) refl (omega arith) fits)

    rounds_short : (k i x : ℕ) (s : S) → 1 ≤ i → length (rounds_from after length_at n k i x s) ≤ k + 16 * (k + (i - 1) % 8)
    rounds_short zero i x s low = omega arith
    rounds_short (suc k) i x s low =
        let p : SessionLine × ℕ = turn_at after length_at n i x s in
        let lines : List SessionLine = round_of n i p.0 in
        let rest : List SessionLine = rounds_from after length_at n k (i + 1) p.1 (after lines s) in
        let back : (i + 1) - 1 ≡ i = omega arith in
        let short : length rest ≤ k + 16 * (k + i % 8) =
        subst (λ (z : ℕ). length rest ≤ k + 16 * (k + z % 8)) back (rounds_short k (i + 1) p.1 (after lines s) (omega arith)) in
        omega (arith, length-append lines rest, behind_short i low)

    pub made_read : (seed edits : ℕ) (s : S) → edits ≤ 20000 → AreRead (ids_to n) 0 (made_lines after length_at seed n edits s) edits
    made_read seed edits s le =
        are_read-append (ids_to n) 0 edits edits (rounds_from after length_at n edits 1 seed s) (gives_of n (range_with_len 1 edits))
        (rounds_read edits 1 0 edits seed s refl (omega arith) (omega arith))
        (gives_read (ids_to n) edits (range_with_len 1 edits) (ids_to n) (omega arith) (numbers_from edits 1 edits (omega arith) (omega arith)) (known_from n 1 n (omega arith) (omega arith) (omega arith)))

    pub made_short : (seed edits : ℕ) (s : S) → edits ≤ 20000 → length (made_lines after length_at seed n edits s) ≤ 1000000
    made_short seed edits s le =
        let rounds : List SessionLine = rounds_from after length_at n edits 1 seed s in
        let gives : List SessionLine = gives_of n (range_with_len 1 edits) in
        let counts : length (ids_to n) * length (range_with_len 1 edits) ≡ n * edits = ap₂ (λ a b. a * b) (length-range_with_len 1 n) (length-range_with_len 1 edits) in
        let given : length gives ≤ n * edits = subst (λ (z : ℕ). length gives ≤ z) counts (length-gives (range_with_len 1 edits) (ids_to n)) in
        omega (arith, length-append rounds gives, rounds_short edits 1 seed s (omega arith), given, mul-le n edits 16 20000 most le)
