-- The laws of lengths as sums and as places.
use Rattle.std.specs.Prelude.{◌≡◌, ℕ, Some, refl, true}
use Rattle.std.proofs.Common.{ap, sym, ◌∙◌, arith}
use Rattle.std.proofs.lemmas.Option.{same_Some}
use Rattle.sum_tree.specs.Laws.{SummaryLaws}
use Rattle.tree_cursor.specs.Counting.{number_passes}
use Rattle.tree_cursor.specs.CountingLaws.{number_stays}
use Rattle.tree_cursor.specs.Places.{DimensionLaws}
use Rattle.tree_cursor.specs.declared.traits.Bias.{Bias}
use Rattle.multi_buffer.specs.Lengths.{no_lengths, add_lengths, offset_after, AnyLengths, LengthsFit, move_place, IsLater, PlaceFits}
use Rattle.multi_buffer.specs.declared.lengths.Lengths.{Lengths}

abbrev as_lengths : ℕ → ℕ → Lengths
as_lengths n b = record { excerpts = n; bytes = b }

pub same_lengths : (a b : Lengths) → a.excerpts ≡ b.excerpts → a.bytes ≡ b.bytes → a ≡ b
same_lengths a b e f = ap (λ (n : ℕ). as_lengths n a.bytes) e ∙ ap (λ (n : ℕ). as_lengths b.excerpts n) f

pub add_lengths-assoc : (a b c : Lengths) → add_lengths (add_lengths a b) c ≡ add_lengths a (add_lengths b c)
add_lengths-assoc a b c = same_lengths (add_lengths (add_lengths a b) c) (add_lengths a (add_lengths b c)) (omega arith) (omega arith)

pub add_lengths-none : (a : Lengths) → add_lengths a no_lengths ≡ a
add_lengths-none a = same_lengths (add_lengths a no_lengths) a (omega arith) (omega arith)

pub none-add_lengths : (a : Lengths) → add_lengths no_lengths a ≡ a
none-add_lengths a = same_lengths (add_lengths no_lengths a) a (omega arith) (omega arith)

part_fits : (a b c : Lengths) → LengthsFit (add_lengths a (add_lengths b c)) → LengthsFit (add_lengths a c)
part_fits a b c f = record { excerpts = omega (arith, f.excerpts); bytes = omega (arith, f.bytes) }

pub length_laws : SummaryLaws no_lengths add_lengths AnyLengths LengthsFit
length_laws = record {
  empty_admitted = tt;
  op_admitted = λ a b p q. tt;
  left_identity = λ a p. none-add_lengths a;
  right_identity = λ a p. add_lengths-none a;
  assoc = λ a b c p q r. add_lengths-assoc a b c;
  empty_fits = record { excerpts = omega arith; bytes = omega arith };
  fits_parts = λ a b c p q r f. part_fits a b c f;
}

moved_later : (p q a : Lengths) → add_lengths p a ≡ q → IsLater p q
moved_later p q a e = record {
  excerpts = let f = ap (λ (x : Lengths). x.excerpts) e in omega arith;
  bytes = let f = ap (λ (x : Lengths). x.bytes) e in omega arith;
}

front_fits : (p a b : Lengths) → PlaceFits p (add_lengths a b) → PlaceFits p a
front_fits p a b f = record { excerpts = omega (arith, f.excerpts); bytes = omega (arith, f.bytes) }

back_fits : (p r a b : Lengths) → PlaceFits p (add_lengths a b) → add_lengths p a ≡ r → PlaceFits r b
back_fits p r a b f e = record {
  excerpts = let g = ap (λ (x : Lengths). x.excerpts) e in omega (arith, f.excerpts);
  bytes = let g = ap (λ (x : Lengths). x.bytes) e in omega (arith, f.bytes);
}

pub place_laws : DimensionLaws {P = Lengths} {S = Lengths} no_lengths add_lengths AnyLengths AnyLengths IsLater move_place PlaceFits
place_laws = record {
  nothing = λ p q e. sym (same_Some (add_lengths p no_lengths) q e) ∙ add_lengths-none p;
  parts = λ p q a b f g e. (add_lengths p a, refl, ap (λ (x : Lengths). Some x) (add_lengths-assoc p a b) ∙ e);
  one = λ p a f s r. (add_lengths p a, refl);
  forward = λ p q a f e. moved_later p q a (same_Some (add_lengths p a) q e);
  fits_front = λ p a b f g h. front_fits p a b h;
  fits_back = λ p r a b f g h e. back_fits p r a b h (same_Some (add_lengths p a) r e);
}

-- an offset that a place has passed is passed by all later places
pub offset_stays : (o : ℕ) (p q : Lengths) (b : Bias) → number_passes o (offset_after p) b ≡ true → IsLater p q → number_passes o (offset_after q) b ≡ true
offset_stays o p q b h l = number_stays o (offset_after p) (offset_after q) b h (omega (arith, l.excerpts, l.bytes))
