-- Where clips of offsets go.
use Rattle.std.specs.Prelude.{find, filter, not, nat_le, nat_lt, ◌+◌, ◌≤◌}
use Rattle.std.proofs.Common.{◌≡◌, ℕ, Bool, true, false, cond, Some, List, [], ◌∷◌, refl, sym, ◌∙◌, arith}
use Rattle.std.specs.Option.{unwrap_or}
use Rattle.std.specs.Str.{IsUtf8}
use Rattle.std.proofs.lemmas.Bool.Decides.{nat_tests}
use Rattle.tree_cursor.specs.declared.traits.Bias.TheVariants.{Left, Right}
use Rattle.text_dims.specs.declared.places.Place.{Place}
use Rattle.text_dims.specs.Counts.{begins_char}
use Rattle.text_dims.specs.Places.{end_place, places, place_after, walk, last_place, offset_clip_back, offset_clip_on}
use Rattle.text_dims.proofs.Walks.{places-walk}
use Rattle.text_dims.proofs.Clipping.{last-walk, none_step, after_offset, at_zero}
use Rattle.rope_chunks.specs.declared.look.Stop.{Stop}
use Rattle.rope_chunks.specs.Stops.{stop, stop_place}
use Rattle.rope_chunks.specs.Targets.{passes_offset}
use Rattle.rope_chunks.proofs.Stops.{after-later, Begins, Begins-utf8, Stays}
use Rattle.rope_chunks.specs.TargetLaws.{offset_stays}

-- what is found by a search is where a look-up stops
find-stop : (p : Place → Bool) (d : Place) (ks : List Place) → unwrap_or (find p ks) (last_place d ks) ≡ unwrap_or (stop p d ks).here (stop p d ks).before
find-stop p d [] = refl
find-stop p d (k ∷ ks) = elim (p k) as (λ t. unwrap_or (cond t (Some k) (find p ks)) (last_place k ks) ≡ unwrap_or (cond t (record { before = d; here = Some k }) (stop p k ks)).here (cond t (record { before = d; here = Some k }) (stop p k ks)).before) [
  | true ↦ refl
  | false ↦ find-stop p k ks
]

pub clipped_on : (bs : List ℕ) (o : ℕ) (s : Stop) → s ≡ stop (λ k. passes_offset o k Left) (end_place []) (places bs) → unwrap_or s.here s.before ≡ offset_clip_on bs o
clipped_on bs o s e =
    let p : Place → Bool = λ k. passes_offset o k Left in
    rw (e, places-walk bs, last-walk (end_place bs) (end_place []) (end_place []) bs) (sym (find-stop p (end_place []) (walk (end_place []) bs)))

-- From a row on, q says which places are not strictly past a target. One that is at it is followed by places strictly past.
pub record Upto (pl pr q : Place → Bool) (low : ℕ) : Type 0 where
  pub stays : Stays pr
  pub past : (k : Place) → pr k ≡ true → pl k ≡ true
  pub is : (k : Place) → low ≤ k.row → q k ≡ not (pr k)
  pub alone : (k : Place) (b : ℕ) → pl k ≡ true → pr k ≡ false → pr (place_after k b) ≡ true

none_upto : (pl pr q : Place → Bool) (low : ℕ) → Upto pl pr q low → (d a : Place) (bs : List ℕ) → low ≤ a.row → pr a ≡ true → last_place d (filter q (walk a bs)) ≡ d
none_upto pl pr q low u d a [] l h = let f : q a ≡ false = u.is a l ∙ rw h refl in rw f refl
none_upto pl pr q low u d a (b ∷ bs) l h =
    let later = after-later a b in
    none_step q d a (walk (place_after a b) bs) (begins_char b) (u.is a l ∙ rw h refl)
    (none_upto pl pr q low u d (place_after a b) bs (omega (arith, later.point.0)) (u.stays.stays a (place_after a b) h later))

-- at one place, before those that follow it
here : (pl pr q : Place → Bool) (low : ℕ) → Upto pl pr q low → (d a : Place) (us : List Place) (x y : Bool) → pl a ≡ x → pr a ≡ y → low ≤ a.row →
    (pr a ≡ true → last_place d (filter q us) ≡ d) → (pl a ≡ true → pr a ≡ false → last_place a (filter q us) ≡ a) →
    last_place a (filter q us) ≡ stop_place pr (stop pl a us) →
    last_place d (filter q (a ∷ us)) ≡ stop_place pr (stop pl d (a ∷ us))
here pl pr q low u d a us true true e f l h k r = let no : q a ≡ false = u.is a l ∙ rw f refl in rw (e, f, no) (h f)
here pl pr q low u d a us true false e f l h k r = let yes : q a ≡ true = u.is a l ∙ rw f refl in rw (e, f, yes) (k e f)
here pl pr q low u d a us false true e f l h k r = let g = u.past a f in cc
here pl pr q low u d a us false false e f l h k r = let yes : q a ≡ true = u.is a l ∙ rw f refl in rw (e, yes) r

clip_step : (pl pr q : Place → Bool) (d a : Place) (us : List Place) (t : Bool) →
    last_place d (filter q (a ∷ us)) ≡ stop_place pr (stop pl d (a ∷ us)) →
    last_place d (filter q us) ≡ stop_place pr (stop pl d us) →
    last_place d (filter q (cond t (a ∷ us) us)) ≡ stop_place pr (stop pl d (cond t (a ∷ us) us))
clip_step pl pr q d a us true h k = h
clip_step pl pr q d a us false h k = k

-- where a target is clipped back to, along a walk that has a place before its target
pub clip-walk : (pl pr q : Place → Bool) (low : ℕ) → Upto pl pr q low → (d a : Place) (bs : List ℕ) → low ≤ a.row →
    last_place d (filter q (walk a bs)) ≡ stop_place pr (stop pl d (walk a bs))
clip-walk pl pr q low u d a [] l = here pl pr q low u d a [] (pl a) (pr a) refl refl l (λ h. refl) (λ h k. refl) refl
clip-walk pl pr q low u d a (b ∷ bs) l =
    let later = after-later a b in
    let us = walk (place_after a b) bs in
    let low_next : low ≤ (place_after a b).row = omega (arith, later.point.0) in
    clip_step pl pr q d a us (begins_char b)
    (here pl pr q low u d a us (pl a) (pr a) refl refl l
    (λ h. none_upto pl pr q low u d (place_after a b) bs low_next (u.stays.stays a (place_after a b) h later))
    (λ h k. none_upto pl pr q low u a (place_after a b) bs low_next (u.alone a b h k))
    (clip-walk pl pr q low u a (place_after a b) bs low_next))
    (clip-walk pl pr q low u d (place_after a b) bs low_next)

-- a walk that begins with a place that passes does not ask what stands before
pub either : (q : Place → Bool) (d e a : Place) (bs : List ℕ) → Begins bs → q a ≡ true → last_place d (filter q (walk a bs)) ≡ last_place e (filter q (walk a bs))
either q d e a [] h t = rw t refl
either q d e a (b ∷ bs) h t = rw (h, t) refl

past_at : (o n : ℕ) → nat_lt o n ≡ true → nat_le o n ≡ true
past_at o n h = grind (arith, nat_tests)

upto_is : (o n : ℕ) → nat_le n o ≡ not (nat_lt o n)
upto_is o n = grind (arith, nat_tests)

past_next : (o n m : ℕ) → nat_le o n ≡ true → m ≡ n + 1 → nat_lt o m ≡ true
past_next o n m h e = grind (arith, nat_tests)

offset_upto : (o : ℕ) → Upto (λ k. passes_offset o k Left) (λ k. passes_offset o k Right) (λ k. nat_le k.offset o) 0
offset_upto o = record {
  stays = record { stays = λ a b e l. offset_stays o a b Right e l };
  past = λ k h. past_at o k.offset h;
  is = λ k l. upto_is o k.offset;
  alone = λ k b h f. past_next o k.offset (place_after k b).offset h (after_offset k b);
}

pub clipped_back : (bs : List ℕ) (o : ℕ) → IsUtf8 bs → stop_place (λ k. passes_offset o k Right) (stop (λ k. passes_offset o k Left) (end_place []) (places bs)) ≡ offset_clip_back bs o
clipped_back bs o u =
    let q : Place → Bool = λ k. nat_le k.offset o in
    rw (places-walk bs)
    (sym (either q (end_place bs) (end_place []) (end_place []) bs (Begins-utf8 bs u) (at_zero o)
    ∙ clip-walk (λ k. passes_offset o k Left) (λ k. passes_offset o k Right) q 0 (offset_upto o) (end_place []) (end_place []) bs (omega arith)))
