-- The summary of two texts, one after the other, is the sum of their summaries.
use Rattle.std.specs.Prelude.{map}
use Rattle.std.proofs.Common.{◌≡◌, ℕ, ◌+◌, Bool, true, false, cond, eqb, List, [], ◌∷◌, ◌++◌, length, refl, ap, sym, ◌∙◌, arith, length-append}
use Rattle.std.proofs.lemmas.List.{length-map, map-append}
use Rattle.std.proofs.lemmas.Bool.{eq-eqb, ne_eqb, eqb-true}
use Rattle.std.proofs.lemmas.List.Sums.{sum_by-append}
use Rattle.text_dims.specs.declared.points.Point.{Point}
use Rattle.text_dims.specs.declared.summary.Row.{Row}
use Rattle.text_dims.specs.Points.{point_sum}
use Rattle.text_dims.specs.Counts.{begins_char, byte_units, is_newline, char_count, utf16_count, newline_count, rows, first_of_rows, last_of_rows, first_row, last_row, greatest, first_greatest}
use Rattle.text_dims.specs.Summaries.{end_point, row_chars, summary_of, longer, text_sum}
use Rattle.text_dims.specs.Rows.{rows_begun, rows_ended, rows-append, last_of_rows-append, length-rows}
use Rattle.text_dims.specs.Greatest.{number-seam, chars-seam}

pub char_count-append : (xs ys : List ℕ) → char_count (xs ++ ys) ≡ char_count xs + char_count ys
unfolding char_count
char_count-append xs ys = sum_by-append (λ b. cond (begins_char b) 1 0) xs ys

pub utf16_count-append : (xs ys : List ℕ) → utf16_count (xs ++ ys) ≡ utf16_count xs + utf16_count ys
unfolding utf16_count
utf16_count-append xs ys = sum_by-append byte_units xs ys

pub newline_count-append : (xs ys : List ℕ) → newline_count (xs ++ ys) ≡ newline_count xs + newline_count ys
unfolding newline_count
newline_count-append xs ys = sum_by-append (λ b. cond (is_newline b) 1 0) xs ys

-- a count of bytes: of two texts it is the sum
pub record Adds (q : List ℕ → ℕ) : Type 0 where
  pub adds : (xs ys : List ℕ) → q (xs ++ ys) ≡ q xs + q ys

last_seam : (q : List ℕ → ℕ) → Adds q → (n : ℕ) (l s : List ℕ) (ss : List (List ℕ)) → n + 1 ≡ length (s ∷ ss) →
    q (last_of_rows ((l ++ s) ∷ ss)) ≡ cond (eqb n 0) (q l + q (last_of_rows (s ∷ ss))) (q (last_of_rows (s ∷ ss)))
last_seam q a n l s [] e = let none : n ≡ 0 = omega arith in rw (eq-eqb n 0 none) (a.adds l s)
last_seam q a n l s (t ∷ ss) e = let some : eqb n 0 ≡ false = ne_eqb n 0 (λ z. omega arith) in rw some refl

first_seam : (q : List ℕ → ℕ) → Adds q → (n : ℕ) (f : List (List ℕ)) (l s : List ℕ) (ss : List (List ℕ)) → n ≡ length f →
    q (first_of_rows (f ++ (l ++ s) ∷ ss)) ≡ cond (eqb n 0) (q (first_of_rows (f ++ l ∷ [])) + q s) (q (first_of_rows (f ++ l ∷ [])))
first_seam q a n [] l s ss e = rw (eq-eqb n 0 e) (a.adds l s)
first_seam q a n (g ∷ f) l s ss e = let some : eqb n 0 ≡ false = ne_eqb n 0 (λ z. omega arith) in rw some refl

-- two texts, by their rows
record Seam (xs ys : List ℕ) : Type 0 where
  f : List (List ℕ)
  l : List ℕ
  s : List ℕ
  ss : List (List ℕ)
  before : rows xs ≡ f ++ l ∷ []
  after : rows ys ≡ s ∷ ss
  both : rows (xs ++ ys) ≡ f ++ (l ++ s) ∷ ss
  many : newline_count xs ≡ length f
  more : newline_count ys + 1 ≡ length (s ∷ ss)

seam : (xs ys : List ℕ) → Seam xs ys
seam xs ys =
    let e = rows_ended xs in
    let b = rows_begun ys in
    record {
      f = e.front;
      l = e.last;
      s = b.first;
      ss = b.rest;
      before = e.is;
      after = b.is;
      both = rows-append xs ys e.front e.last b.first b.rest e.is b.is;
      many = omega (arith, length-rows xs, ap length e.is, length-append e.front (e.last ∷ []));
      more = omega (arith, length-rows ys, ap length b.is);
    }

pub last_row-append : (q : List ℕ → ℕ) → Adds q → (xs ys : List ℕ) →
    q (last_row (xs ++ ys)) ≡ cond (eqb (newline_count ys) 0) (q (last_row xs) + q (last_row ys)) (q (last_row ys))
unfolding last_row
last_row-append q a xs ys =
    let m = seam xs ys in
    rw (m.both, m.before, m.after, last_of_rows-append m.f (m.l ++ m.s) m.ss, last_of_rows-append m.f m.l []) (last_seam q a (newline_count ys) m.l m.s m.ss m.more)

pub first_row-append : (q : List ℕ → ℕ) → Adds q → (xs ys : List ℕ) →
    q (first_row (xs ++ ys)) ≡ cond (eqb (newline_count xs) 0) (q (first_row xs) + q (first_row ys)) (q (first_row xs))
unfolding first_row
first_row-append q a xs ys =
    let m = seam xs ys in rw (m.both, m.before, m.after) (first_seam q a (newline_count xs) m.f m.l m.s m.ss m.many)

pub length_adds : Adds (λ bs. length bs)
length_adds = record { adds = λ xs ys. length-append xs ys }

pub chars_add : Adds char_count
chars_add = record { adds = char_count-append }

pub units_add : Adds utf16_count
units_add = record { adds = utf16_count-append }

point_by : (t : Bool) (n m c d e : ℕ) → e ≡ cond t (c + d) d → (t ≡ true → m ≡ 0) →
    record { row = n + m; column = e } ≡ cond {A = Point} t (record { row = n; column = c + d }) (record { row = n + m; column = d })
point_by true n m c d e h z = let none : n + m ≡ n = omega (arith, z refl) in rw (none, h) refl
point_by false n m c d e h z = rw h refl

pub end_point-append : (xs ys : List ℕ) → end_point (xs ++ ys) ≡ point_sum (end_point xs) (end_point ys)
unfolding end_point
end_point-append xs ys =
    rw (newline_count-append xs ys)
    (point_by (eqb (newline_count ys) 0) (newline_count xs) (newline_count ys) (length (last_row xs)) (length (last_row ys)) (length (last_row (xs ++ ys))) (last_row-append (λ bs. length bs) length_adds xs ys) (eqb-true (newline_count ys) 0))

-- the longest row of two texts, by the rows of each
abbrev longest_row_of : List ℕ → List ℕ → Row
longest_row_of xs ys =
    longer
    (longer (record { number = first_greatest (row_chars xs); chars = greatest (row_chars xs) }) (record { number = newline_count xs; chars = char_count (last_row xs) + char_count (first_row ys) }))
    (record { number = newline_count xs + first_greatest (row_chars ys); chars = greatest (row_chars ys) })

-- the characters of the rows of two texts
record CharsSeam (xs ys : List ℕ) : Type 0 where
  ms : List ℕ
  l : ℕ
  s : ℕ
  ns : List ℕ
  before : row_chars xs ≡ ms ++ l ∷ []
  after : row_chars ys ≡ s ∷ ns
  both : row_chars (xs ++ ys) ≡ ms ++ (l + s) ∷ ns
  last : char_count (last_row xs) ≡ l
  first : char_count (first_row ys) ≡ s
  many : newline_count xs ≡ length ms

chars_seam : (xs ys : List ℕ) → CharsSeam xs ys
unfolding row_chars last_row first_row
chars_seam xs ys =
    let m = seam xs ys in
    record {
      ms = map char_count m.f;
      l = char_count m.l;
      s = char_count m.s;
      ns = map char_count m.ss;
      before = rw m.before (map-append char_count m.f (m.l ∷ []));
      after = rw m.after refl;
      both = rw m.both (map-append char_count m.f ((m.l ++ m.s) ∷ m.ss) ∙ rw (char_count-append m.l m.s) refl);
      last = rw (m.before, last_of_rows-append m.f m.l []) refl;
      first = rw m.after refl;
      many = m.many ∙ sym (length-map m.f char_count);
    }

longest_number-append : (xs ys : List ℕ) → first_greatest (row_chars (xs ++ ys)) ≡ (longest_row_of xs ys).number
longest_number-append xs ys =
    let c = chars_seam xs ys in rw (c.both, c.before, c.after, c.last, c.first, c.many) (number-seam c.ms c.l c.s c.ns)

longest_chars-append : (xs ys : List ℕ) → greatest (row_chars (xs ++ ys)) ≡ (longest_row_of xs ys).chars
longest_chars-append xs ys =
    let c = chars_seam xs ys in rw (c.both, c.before, c.after, c.last, c.first, c.many) (chars-seam c.ms c.l c.s c.ns)

end_row : (bs : List ℕ) → (end_point bs).row ≡ newline_count bs
unfolding end_point
end_row bs = refl

pub summary-append : (xs ys : List ℕ) → summary_of (xs ++ ys) ≡ text_sum (summary_of xs) (summary_of ys)
unfolding summary_of
summary-append xs ys =
    rw (length-append xs ys, utf16_count-append xs ys, char_count-append xs ys, end_point-append xs ys, first_row-append char_count chars_add xs ys, last_row-append char_count chars_add xs ys, last_row-append utf16_count units_add xs ys, longest_number-append xs ys, longest_chars-append xs ys, end_row xs, end_row ys)
    refl
