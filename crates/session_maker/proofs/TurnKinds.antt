-- The line of a turn, by the kind that is drawn.
use Rattle.std.proofs.Common.{◌≡◌, ◌⊎◌, inl, inr, ℕ, ◌<◌, ◌≤◌, ◌==◌, true, false, cond, sym, ap, ap₂, ◌∙◌, lt-ltb, le-ltb, ne_eqb}
use Rattle.std.specs.Prelude.{◌&&◌, ◌||◌, nat_lt}
use Rattle.session_lines.specs.declared.session.SessionLine.{SessionLine}
use Rattle.session_maker.specs.Draws.{draw_below, next}
use Rattle.session_maker.specs.Turns.{delete_turn, insert_turn, turn_of, undo_turn}

-- turn i of replica r, whose text has l bytes: k is the kind that is drawn by the state x, and y the state behind the draw
module _ (i r l x y k : ℕ) (state : y ≡ next x) (kind : k ≡ draw_below 8 (next x)) where
  abbrev turn_with : ℕ → ℕ → SessionLine × ℕ
  turn_with k y = cond (k == 0 && nat_lt 1 i) (undo_turn r i y) (cond (k == 1 || k == 2) (delete_turn r l y) (insert_turn r l y))

  turn_is : turn_with k y ≡ turn_of i r l x
  turn_is = ap₂ turn_with kind state

  pub undone : k ≡ 0 → 1 < i → undo_turn r i y ≡ turn_of i r l x
  undone first later =
      let undoes : (k == 0 && nat_lt 1 i) ≡ true = ap₂ (λ a b. a == 0 && b) first (lt-ltb 1 i later) in
      sym (ap (λ b. cond b (undo_turn r i y) (cond (k == 1 || k == 2) (delete_turn r l y) (insert_turn r l y))) undoes) ∙ turn_is

  pub deleted : (k ≡ 1) ⊎ ((k ≡ 1 → ⊥) × (k ≡ 2)) → delete_turn r l y ≡ turn_of i r l x
  deleted (inl one) = sym (ap (λ j. turn_with j y) one) ∙ turn_is
  deleted (inr two) = sym (ap (λ j. turn_with j y) two.1) ∙ turn_is

  no_undo : ((k ≡ 0) × (i ≤ 1)) ⊎ (k ≡ 0 → ⊥) → (k == 0 && nat_lt 1 i) ≡ false
  no_undo (inl first) = ap₂ (λ a b. a == 0 && b) first.0 (le-ltb 1 i first.1)
  no_undo (inr other) = ap (λ b. b && nat_lt 1 i) (ne_eqb k 0 other)

  pub inserted : ((k ≡ 0) × (i ≤ 1)) ⊎ (k ≡ 0 → ⊥) → (k ≡ 1 → ⊥) × (k ≡ 2 → ⊥) → insert_turn r l y ≡ turn_of i r l x
  inserted other none =
      let no_deletion : (k == 1 || k == 2) ≡ false = ap₂ (λ a b. a || b) (ne_eqb k 1 none.0) (ne_eqb k 2 none.1) in
      sym (ap₂ (λ a b. cond a (undo_turn r i y) (cond b (delete_turn r l y) (insert_turn r l y))) (no_undo other) no_deletion) ∙ turn_is
