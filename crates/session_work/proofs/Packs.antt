-- Operations with their lines, in the order of their numbers.
use Rattle.std.proofs.Common.{◌≡◌, ℕ, suc, ◌+◌, ◌-◌, ◌<◌, ◌≤◌, List, [], ◌∷◌, ◌++◌, append_assoc, append-nil, drop, drop-cons, get_or, length, Option, None, Some, refl, sym, ap, ap₂, ◌∙◌, arith}
use Rattle.std.specs.Prelude.{replicate}
use Rattle.op_model.specs.declared.operation.Operation.{Operation}
use Rattle.session_more.specs.Lines.{number_count}
use Rattle.session_more.specs.declared.session.MoreLine.{MoreLine}
use Rattle.session_more.specs.declared.session.MoreSession.{MoreSession}
use Rattle.session_work.specs.MoreWork.{MoreState, after_all_more, more_opening}
use Rattle.session_work.specs.Packing.{lines_from, made_operations, with_line, with_lines}
use Rattle.session_work.specs.Work.{operation_of}

-- ---- operations by number

with-line : (n : ℕ) (o : Option Operation) (ops : List (ℕ × Operation)) → with_line n o [] ++ ops ≡ with_line n o ops
with-line n None ops = refl
with-line n (Some op) ops = refl

module _ (k i : ℕ) (ns : List ℕ) (n : ℕ) (ops : List (Option Operation)) (lt : i < length ns) (is : n ≡ get_or ns i n) where
  abbrev after : List (ℕ × Operation)
  after = with_lines (k + 1) (drop (i + 1) ns) ops

  lines-next : with_lines k (drop i ns) ops ≡ with_line n (operation_of (k + 1) ops) after
  lines-next =
      let e : suc i ≡ i + 1 = omega arith in
      ap (λ (xs : List ℕ). with_lines k xs ops) (drop-cons ns i n lt ∙ ap₂ (λ (y j : ℕ). y ∷ drop j ns) (sym is) e)

  pub made-next : (front all : List (ℕ × Operation)) (o : Option Operation) → o ≡ operation_of (k + 1) ops → front ++ with_lines k (drop i ns) ops ≡ all → (front ++ with_line n o []) ++ after ≡ all
  made-next front all o found made =
      append_assoc front (with_line n o []) after
      ∙ (ap (λ xs. front ++ xs) (with-line n o after ∙ (ap (λ (x : Option Operation). with_line n x after) found ∙ sym lines-next)) ∙ made)

-- ---- the lines of the numbers

pub numbered : (replicas end : ℕ) (line : MoreLine) (rest lines : List MoreLine) (numbers new all : List ℕ) → lines ≡ line ∷ rest → length lines + 2 ≤ end
    → numbers ++ lines_from replicas (end - length lines) lines ≡ all → new ≡ numbers ++ replicate (number_count replicas line) (end - length rest - 1) → new ++ lines_from replicas (end - length rest) rest ≡ all
numbered replicas end line rest lines numbers new all begins within whole pushed =
    let n : ℕ = end - length lines in
    let next : end - length rest ≡ n + 1 = omega (arith, ap length begins, within) in
    let here : end - length rest - 1 ≡ n = omega (arith, ap length begins, within) in
    let taken : ℕ → List ℕ = λ m. replicate (number_count replicas line) m in
    ap (λ (x : List ℕ). x ++ lines_from replicas (end - length rest) rest) pushed
    ∙ (append_assoc numbers (taken (end - length rest - 1)) (lines_from replicas (end - length rest) rest)
    ∙ (ap₂ (λ (m j : ℕ). numbers ++ (taken m ++ lines_from replicas j rest)) here next
    ∙ (ap (λ (ls : List MoreLine). numbers ++ lines_from replicas n ls) (sym begins) ∙ whole)))

-- before the first line, and after the last one
pub numbered_at_first : (replicas end : ℕ) (lines : List MoreLine) (numbers : List ℕ) → end ≡ length lines + 2 → numbers ++ lines_from replicas (end - length lines) lines ≡ numbers ++ lines_from replicas 2 lines
numbered_at_first replicas end lines numbers is =
    let two : end - length lines ≡ 2 = omega (arith, is) in
    ap (λ (n : ℕ). numbers ++ lines_from replicas n lines) two

pub numbered_all : (replicas n : ℕ) (left : List MoreLine) (numbers all : List ℕ) → left ≡ [] → numbers ++ lines_from replicas n left ≡ all → numbers ≡ all
numbered_all replicas n left numbers all none whole =
    sym (append-nil numbers) ∙ (ap (λ (ls : List MoreLine). numbers ++ lines_from replicas n ls) (sym none) ∙ whole)

-- what is made of a session
module _ (s : MoreSession) (replicas : ℕ) (ls : List MoreLine) (first last : MoreState) (none numbers : List ℕ) (ops : List (ℕ × Operation)) where
  pub are-made : replicas ≡ length s.replicas → ls ≡ s.lines → first ≡ more_opening s → none ≡ [] → numbers ≡ none ++ lines_from replicas 2 ls → last ≡ after_all_more ls first → ops ≡ with_lines 0 numbers last.plain.operations
      → ops ≡ made_operations s
  are-made count lines begins empty n ends is =
      let taken : numbers ≡ lines_from (length s.replicas) 2 s.lines = n ∙ (ap (λ (x : List ℕ). x ++ lines_from replicas 2 ls) empty ∙ ap₂ (λ (r : ℕ) (l : List MoreLine). lines_from r 2 l) count lines) in
      let at_end : last ≡ after_all_more s.lines (more_opening s) = ends ∙ ap₂ (λ (l : List MoreLine) (t : MoreState). after_all_more l t) lines begins in
      is ∙ ap₂ (λ (ns : List ℕ) (t : MoreState). with_lines 0 ns t.plain.operations) taken at_end
