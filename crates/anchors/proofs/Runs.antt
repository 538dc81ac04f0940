-- What stands before a cell, by the fragments before its own.
use Rattle.op_model.proofs.Elements.{each_left, each_right}
use Rattle.std.proofs.Common.{◌≡◌, ℕ, suc, ◌+◌, ◌-◌, ◌<◌, cond, List, ◌∷◌, ◌++◌, length, refl, sym, ap, ◌∙◌, arith, subst, append_assoc}
use Rattle.std.specs.List.{AllByRecursion}
use Rattle.std.proofs.lemmas.List.{length-append, length-map, map-append}
use Rattle.op_model.specs.Histories.{History}
use Rattle.op_model.specs.Cells.{Cell, seq, cells, cell_at}
use Rattle.op_model.specs.Shown.{shows}
use Rattle.op_model.specs.Anchors.{shown_count}
use Rattle.op_model.specs.Facts.{Fact, cell_facts, alike}
use Rattle.op_model.specs.Walked.{facts_of}
use Rattle.op_model.proofs.texts.Utf8Runs.{length_alike}
use Rattle.fragments.specs.declared.fragment.Fragment.{Fragment}
use Rattle.fragments.specs.Stand.{runs, Tell}
use Rattle.fragments.specs.Laws.{shown_len, cells_len}
use Rattle.op_model.proofs.shown.FactCells.{cells_in, told_cells}
use Rattle.op_model.proofs.shown.Alike.{fact_at, told_shown, visible_in, visible_shown, visible_append, visible_alike, alike_split}
use Rattle.fragments.proofs.Counts.{length_facts}
use Rattle.fragments.proofs.Cells.{facts_append, visible_runs}

-- ---- the cells before cell j of fragment f

module _ (h : History) (pre post : List Fragment) (f : Fragment) (j : ℕ) (tell : Tell (pre ++ f ∷ post) h) (l : j < f.len) where
  front : List Fact
  front = facts_of (runs pre) ++ alike f.stamp f.offset j f.visible f.deletions

  rest : List Fact
  rest = alike f.stamp (suc (f.offset + j)) (f.len - suc j) f.visible f.deletions ++ facts_of (runs post)

  told_is : cell_facts h ≡ front ++ fact_at f.stamp (f.offset + j) f.visible f.deletions ∷ rest
  unfolding front rest
  told_is =
      let own : List Fact = alike f.stamp f.offset j f.visible f.deletions in
      let q : Fact = fact_at f.stamp (f.offset + j) f.visible f.deletions in
      let more : List Fact = alike f.stamp (suc (f.offset + j)) (f.len - suc j) f.visible f.deletions in
      sym tell ∙ facts_append pre (f ∷ post)
      ∙ ap (λ z. facts_of (runs pre) ++ (z ++ facts_of (runs post))) (alike_split f.stamp f.offset f.len j (f.offset + j) f.visible f.deletions l refl (f.len - suc j) (omega (arith, l)))
      ∙ ap (λ z. facts_of (runs pre) ++ z) (append_assoc own (q ∷ more) (facts_of (runs post)))
      ∙ sym (append_assoc (facts_of (runs pre)) own (q ∷ (more ++ facts_of (runs post))))

  pub before : List Cell
  before = cells_in front

  pub behind : List Cell
  behind = cells_in rest

  pub cells_split : cells (seq h) ≡ before ++ cell_at f.stamp (f.offset + j) ∷ behind
  unfolding before behind
  cells_split = sym (told_cells h (cells (seq h))) ∙ ap cells_in told_is ∙ map-append (λ (q : Fact). q.cell) front (fact_at f.stamp (f.offset + j) f.visible f.deletions ∷ rest)

  all_shown : AllByRecursion (λ (q : Fact). q.visible ≡ shows h q.cell) (front ++ fact_at f.stamp (f.offset + j) f.visible f.deletions ∷ rest)
  all_shown = subst (AllByRecursion (λ (q : Fact). q.visible ≡ shows h q.cell)) told_is (told_shown h (cells (seq h)))

  pub is_shown : f.visible ≡ shows h (cell_at f.stamp (f.offset + j))
  is_shown = (each_right (λ (q : Fact). q.visible ≡ shows h q.cell) front (fact_at f.stamp (f.offset + j) f.visible f.deletions ∷ rest) all_shown).0

  pub shown_before : shown_count h before ≡ shown_len pre + cond f.visible j 0
  unfolding before front
  shown_before = visible_shown h front (each_left (λ (q : Fact). q.visible ≡ shows h q.cell) front (fact_at f.stamp (f.offset + j) f.visible f.deletions ∷ rest) all_shown)
      ∙ visible_append (facts_of (runs pre)) (alike f.stamp f.offset j f.visible f.deletions)
      ∙ ap (λ n. n + visible_in (alike f.stamp f.offset j f.visible f.deletions)) (visible_runs pre)
      ∙ ap (λ n. shown_len pre + n) (visible_alike f.stamp f.offset j f.visible f.deletions)

  pub length_before : length before ≡ cells_len pre + j
  unfolding before front
  length_before = length-map front (λ (q : Fact). q.cell) ∙ length-append (facts_of (runs pre)) (alike f.stamp f.offset j f.visible f.deletions)
      ∙ (let a = length_facts pre in let b = length_alike f.stamp f.offset j f.visible f.deletions in omega (arith, a, b))
