-- Where look-ups stop along the places of a text that is cut into chunks.
use Rattle.std.specs.Prelude.{find, not, ◌&&◌, slice_get, ◌+◌, ◌^◌, ◌≤◌}
use Rattle.std.proofs.Common.{◌≡◌, ℕ, suc, Bool, true, false, cond, Option, Some, None, List, [], ◌∷◌, ◌++◌, length, take, refl, ap, sym, subst, ◌∙◌, arith, append_assoc, length-append, zero}
use Rattle.std.specs.List.{All, concat}
use Rattle.std.specs.Str.{IsUtf8}
use Rattle.std.proofs.lemmas.Bool.{and_right}
use Rattle.std.proofs.lemmas.List.{append-nil}
use Rattle.std.proofs.lemmas.List.Elements.{All-tail}
use Rattle.std.proofs.lemmas.Str.{IsCharBoundary-start}
use Rattle.tree_cursor.specs.Places.{place_behind, seek_count}
use Rattle.text_dims.specs.declared.places.Place.{Place}
use Rattle.text_dims.specs.Counts.{begins_char, is_newline, utf16_count}
use Rattle.text_dims.specs.Summaries.{summary_of, end_point, text_sum, no_text}
use Rattle.text_dims.specs.Concat.{length_adds, units_add}
use Rattle.text_dims.specs.Bounds.{last_row-le, newline_count-le}
use Rattle.text_dims.proofs.Characters.{utf16_count-le_twice}
use Rattle.sum_tree.specs.Laws.{fold}
use Rattle.text_dims.specs.Places.{end_place, places, place_sum, place_after, summary_end, walk}
use Rattle.text_dims.proofs.Walks.{by_byte, end_place-append, summary_end-is, places-walk, lead, walk_end, none_step}
use Rattle.rope_chunks.specs.At.{IsLater, IsWithin, RowAndColumn, PlaceAndTextFit, move_place}
use Rattle.text_dims.proofs.Sums.{fold_is}
use Rattle.text_dims.proofs.PlaceSums.{chunk_end}
use Rattle.rope_chunks.specs.Chunks.{IsChunk, AreChunks}
use Rattle.rope_chunks.specs.Stops.{stop, pick_place, HasRoom}
use Rattle.rope_chunks.proofs.Texts.{concat-utf8}
use Rattle.rope_chunks.specs.PlaceLaws.{past_later}

-- the text is empty, or begins with a character
abbrev pub Begins : List ℕ → Type 0
Begins [] = Unit {0}
Begins (b ∷ bs) = begins_char b ≡ true

pub Begins-utf8 : (bs : List ℕ) → IsUtf8 bs → Begins bs
Begins-utf8 [] u = tt
Begins-utf8 (b ∷ bs) u = lead b ((IsCharBoundary-start (b ∷ bs) u).1 (omega arith))

pub after-later : (a : Place) (b : ℕ) → IsLater a (place_after a b)
after-later a b = subst (λ k. IsLater a k) (by_byte a b (is_newline b) refl) (past_later a (end_place (b ∷ [])))

later-refl : (a : Place) → IsLater a a
later-refl a = record { offset = omega arith; utf16 = omega arith; point = (omega arith, λ e. omega arith); point_utf16 = (omega arith, λ e. omega arith) }

pair-trans : (r c s d t e : ℕ) → RowAndColumn r c s d → RowAndColumn s d t e → RowAndColumn r c t e
pair-trans r c s d t e h k = (omega (arith, h.0, k.0), λ q. grind (arith, h.0, h.1, k.0, k.1))

later-trans : (a b c : Place) → IsLater a b → IsLater b c → IsLater a c
later-trans a b c h k = record {
  offset = omega (arith, h.offset, k.offset);
  utf16 = omega (arith, h.utf16, k.utf16);
  point = pair-trans a.row a.column b.row b.column c.row c.column h.point k.point;
  point_utf16 = pair-trans a.row a.column_utf16 b.row b.column_utf16 c.row c.column_utf16 h.point_utf16 k.point_utf16;
}

walk_end-later : (a : Place) (bs : List ℕ) → IsLater a (walk_end a bs)
unfolding walk_end
walk_end-later a [] = later-refl a
walk_end-later a (b ∷ bs) = later-trans a (place_after a b) (walk_end (place_after a b) bs) (after-later a b) (walk_end-later (place_after a b) bs)

-- a target: a later place passes it where an earlier one does
pub record Stays (passes : Place → Bool) : Type 0 where
  pub stays : (a b : Place) → passes a ≡ true → IsLater a b → passes b ≡ true

not_before : (p : Place → Bool) → Stays p → (a b : Place) → IsLater a b → p b ≡ false → (t : Bool) → p a ≡ t → p a ≡ false
not_before p s a b l f true e = let g = s.stays a b e l in cc
not_before p s a b l f false e = e

-- a walk whose text begins a character, or is empty, meets its begin first
walk-begins : (p : Place → Bool) (before a : Place) (bs : List ℕ) → Begins bs → p a ≡ false → stop p before (walk a bs) ≡ stop p a (walk a bs)
walk-begins p before a [] h f = rw f refl
walk-begins p before a (b ∷ bs) h f = rw (h, f) refl

walk-stops : (p : Place → Bool) (before a : Place) (bs : List ℕ) → Begins bs → p a ≡ true → stop p before (walk a bs) ≡ record { before = before; here = Some a }
walk-stops p before a [] h t = rw t refl
walk-stops p before a (b ∷ bs) h t = rw (h, t) refl

-- a text whose end does not pass the target is gone over
past_step : (p : Place → Bool) (before a e : Place) (us vs : List Place) (t : Bool) → p a ≡ false → stop p before us ≡ stop p e vs → stop p a us ≡ stop p e vs →
    stop p before (cond t (a ∷ us) us) ≡ stop p e vs
past_step p before a e us vs true f h k = rw f k
past_step p before a e us vs false f h k = h

pub stop-past : (p : Place → Bool) → Stays p → (before a : Place) (cs rest : List ℕ) → Begins rest → p (walk_end a cs) ≡ false →
    stop p before (walk a (cs ++ rest)) ≡ stop p (walk_end a cs) (walk (walk_end a cs) rest)
unfolding walk_end
stop-past p s before a [] rest h f = walk-begins p before a rest h f
stop-past p s before a (b ∷ cs) rest h f =
    let e = walk_end (place_after a b) cs in
    past_step p before a e (walk (place_after a b) (cs ++ rest)) (walk e rest) (begins_char b)
    (not_before p s a e (walk_end-later a (b ∷ cs)) f (p a) refl)
    (stop-past p s before (place_after a b) cs rest h f) (stop-past p s a (place_after a b) cs rest h f)

-- a text whose end passes the target is all that is looked at
front_step : (p : Place → Bool) (before a : Place) (us vs : List Place) (t : Bool) → stop p before us ≡ stop p before vs → stop p a us ≡ stop p a vs →
    stop p before (cond t (a ∷ us) us) ≡ stop p before (cond t (a ∷ vs) vs)
front_step p before a us vs false h k = h
front_step p before a us vs true h k = elim (p a) as (λ q. cond q (record { before = before; here = Some a }) (stop p a us) ≡ cond q (record { before = before; here = Some a }) (stop p a vs)) [ true ↦ refl | false ↦ k ]

stop-front : (p : Place → Bool) (before a : Place) (cs rest : List ℕ) → Begins rest → p (walk_end a cs) ≡ true →
    stop p before (walk a (cs ++ rest)) ≡ stop p before (walk a cs)
unfolding walk_end
stop-front p before a [] rest h f = walk-stops p before a rest h f ∙ sym (walk-stops p before a [] tt f)
stop-front p before a (b ∷ cs) rest h f =
    front_step p before a (walk (place_after a b) (cs ++ rest)) (walk (place_after a b) cs) (begins_char b)
    (stop-front p before (place_after a b) cs rest h f) (stop-front p a (place_after a b) cs rest h f)

-- the text of a chunk, or nothing past the last
abbrev pub chunk_text : Option (List ℕ) → List ℕ
chunk_text None = []
chunk_text (Some c) = c

behind-cons : (a : Place) (c : List ℕ) (cs : List (List ℕ)) (n : ℕ) → place_behind move_place summary_of a (take (suc n) (c ∷ cs)) ≡ place_behind move_place summary_of (place_sum a (summary_end (summary_of c))) (take n cs)
behind-cons a c cs n = refl

get-cons : (c : List ℕ) (cs : List (List ℕ)) (n : ℕ) → slice_get (c ∷ cs) (suc n) ≡ slice_get cs n
get-cons c cs n = refl

found_by : (p : Place → Bool) → Stays p → (a : Place) (c : List ℕ) (cs : List (List ℕ)) → Begins (concat cs) → (e : Place) → place_sum a (summary_end (summary_of c)) ≡ e → e ≡ walk_end a c → (t : Bool) → p e ≡ t →
    stop p e (walk e (concat cs)) ≡ stop p (place_behind move_place summary_of e (take (seek_count move_place summary_of p e cs) cs)) (walk (place_behind move_place summary_of e (take (seek_count move_place summary_of p e cs) cs)) (chunk_text (slice_get cs (seek_count move_place summary_of p e cs)))) →
    (let n = cond t 0 (1 + seek_count move_place summary_of p e cs) in
    stop p a (walk a (c ++ concat cs)) ≡ stop p (place_behind move_place summary_of a (take n (c ∷ cs))) (walk (place_behind move_place summary_of a (take n (c ∷ cs))) (chunk_text (slice_get (c ∷ cs) n))))
found_by p s a c cs h e q d true f ih = stop-front p a a c (concat cs) h (rw (← d) f)
found_by p s a c cs h e q d false f ih =
    let n = seek_count move_place summary_of p e cs in
    let more : 1 + n ≡ suc n = omega arith in
    rw (more, behind-cons a c cs n, get-cons c cs n, q)
    (stop-past p s a a c (concat cs) h (rw (← d) f) ∙ ap (λ k. stop p k (walk k (concat cs))) (sym d) ∙ ih)

pub stop-chunks : (p : Place → Bool) → Stays p → (a : Place) (cs : List (List ℕ)) → All IsChunk cs →
    (let n = seek_count move_place summary_of p a cs in
    let k = place_behind move_place summary_of a (take n cs) in
    stop p a (walk a (concat cs)) ≡ stop p k (walk k (chunk_text (slice_get cs n))))
stop-chunks p s a [] h = refl
stop-chunks p s a (c ∷ cs) h =
    let e = place_sum a (summary_end (summary_of c)) in
    let tail = All-tail IsChunk c cs h in
    found_by p s a c cs (Begins-utf8 (concat cs) (concat-utf8 cs tail)) e refl (chunk_end a c) (p e) refl (stop-chunks p s e cs tail)

behind-is : (bs : List ℕ) (cs : List (List ℕ)) → place_behind move_place summary_of (end_place bs) cs ≡ end_place (bs ++ concat cs)
behind-is bs [] = ap end_place (sym (append-nil bs))
behind-is bs (c ∷ cs) =
    ap (λ k. place_behind move_place summary_of k cs) (ap (place_sum (end_place bs)) (summary_end-is c) ∙ sym (end_place-append bs c))
    ∙ behind-is (bs ++ c) cs
    ∙ ap end_place (append_assoc bs c (concat cs))

pub stop-found : (p : Place → Bool) → Stays p → (cs : List (List ℕ)) → All IsChunk cs → (begin : Place) → begin ≡ end_place [] → (text : List ℕ) → concat cs ≡ text →
    (k : Place) → k ≡ place_behind move_place summary_of begin (take (seek_count move_place summary_of p begin cs) cs) →
    (o : Option (List ℕ)) → o ≡ slice_get cs (seek_count move_place summary_of p begin cs) →
    stop p k (walk k (chunk_text o)) ≡ stop p (end_place []) (places text)
stop-found p s cs each begin z text w k e o d =
    rw (e, d, ← w, places-walk (concat cs), ← z) (sym (stop-chunks p s begin cs each))

pub front-short : (n : ℕ) (cs : List (List ℕ)) → length (concat (take n cs)) ≤ length (concat cs)
front-short zero cs = omega arith
front-short (suc n) [] = omega arith
front-short (suc n) (c ∷ cs) =
    omega (arith, front-short n cs, length-append c (concat cs), length-append c (concat (take n cs)))

has_room : (bs : List ℕ) (n : ℕ) → length bs ≤ 2 ^ 40 → n ≤ 128 → HasRoom (end_place bs) n
unfolding end_place
has_room bs n few small = record {
  within = record { column = last_row-le (λ cs. length cs) length_adds bs; column_utf16 = last_row-le utf16_count units_add bs };
  offset = omega arith;
  utf16 = omega (arith, utf16_count-le_twice bs);
  row = omega (arith, newline_count-le bs);
}

-- there is room for a chunk at the place that a look-up finds
pub found-room : (cs : List (List ℕ)) → AreChunks cs → (begin : Place) → begin ≡ end_place [] → (n : ℕ) (k : Place) → k ≡ place_behind move_place summary_of begin (take n cs) → (m : ℕ) → m ≤ 128 → HasRoom k m
found-room cs are begin z n k e m small =
    let is : k ≡ end_place (concat (take n cs)) = e ∙ rw z (behind-is [] (take n cs)) in
    rw is (has_room (concat (take n cs)) m (omega (arith, front-short n cs, are.few)) small)

zero_within : IsWithin (end_place [])
unfolding end_place
zero_within = record { column = last_row-le (λ cs. length cs) length_adds []; column_utf16 = last_row-le utf16_count units_add [] }

text_fits_at : (bs : List ℕ) (begin : Place) → begin ≡ end_place [] → length bs ≤ 2 ^ 40 → PlaceAndTextFit begin (summary_of bs)
unfolding end_place summary_of end_point
text_fits_at bs begin z few =
    rw z (record {
      place = zero_within;
      text = record { column = last_row-le (λ cs. length cs) length_adds bs; column_utf16 = last_row-le utf16_count units_add bs };
      offset = omega arith;
      utf16 = omega (arith, utf16_count-le_twice bs, utf16_count-le_twice []);
      row = omega (arith, newline_count-le bs, newline_count-le []);
    })

pub chunks_fit : (cs : List (List ℕ)) → AreChunks cs → (begin : Place) → begin ≡ end_place [] → PlaceAndTextFit begin (fold no_text text_sum summary_of cs)
chunks_fit cs are begin z = rw (fold_is cs) (text_fits_at (concat cs) begin z are.few)

-- what is looked for: what passes the target and is not strictly past it
pub record Sought (pl pr eq : Place → Bool) : Type 0 where
  pub stays : Stays pr
  pub is : (k : Place) → eq k ≡ (pl k && not (pr k))

off : (pl pr eq : Place → Bool) → Sought pl pr eq → (k : Place) → pr k ≡ true → eq k ≡ false
off pl pr eq s k t = s.is k ∙ rw t (and_right (pl k) false refl)

none_past : (pl pr eq : Place → Bool) → Sought pl pr eq → (a : Place) (bs : List ℕ) → pr a ≡ true → find eq (walk a bs) ≡ None
none_past pl pr eq s a [] t = rw (off pl pr eq s a t) refl
none_past pl pr eq s a (b ∷ bs) t =
    none_step eq a (walk (place_after a b) bs) (begins_char b) (off pl pr eq s a t)
    (none_past pl pr eq s (place_after a b) bs (s.stays.stays a (place_after a b) t (after-later a b)))

found_here : (pl pr eq : Place → Bool) → Sought pl pr eq → (before a : Place) (us : List Place) (x y : Bool) → pl a ≡ x → pr a ≡ y →
    (pr a ≡ true → find eq us ≡ None) → find eq us ≡ pick_place pr (stop pl a us).here →
    find eq (a ∷ us) ≡ pick_place pr (stop pl before (a ∷ us)).here
found_here pl pr eq s before a us true true e f h k = rw (s.is a, e, f) (h f)
found_here pl pr eq s before a us true false e f h k = rw (s.is a, e, f) refl
found_here pl pr eq s before a us false y e f h k = rw (s.is a, e) k

found_step : (pl pr eq : Place → Bool) (before a : Place) (us : List Place) (t : Bool) →
    find eq (a ∷ us) ≡ pick_place pr (stop pl before (a ∷ us)).here → find eq us ≡ pick_place pr (stop pl before us).here →
    find eq (cond t (a ∷ us) us) ≡ pick_place pr (stop pl before (cond t (a ∷ us) us)).here
found_step pl pr eq before a us true h k = h
found_step pl pr eq before a us false h k = k

pub found : (pl pr eq : Place → Bool) → Sought pl pr eq → (before a : Place) (bs : List ℕ) → find eq (walk a bs) ≡ pick_place pr (stop pl before (walk a bs)).here
found pl pr eq s before a [] = found_here pl pr eq s before a [] (pl a) (pr a) refl refl (λ t. refl) refl
found pl pr eq s before a (b ∷ bs) =
    let us = walk (place_after a b) bs in
    found_step pl pr eq before a us (begins_char b)
    (found_here pl pr eq s before a us (pl a) (pr a) refl refl
    (λ t. none_past pl pr eq s (place_after a b) bs (s.stays.stays a (place_after a b) t (after-later a b)))
    (found pl pr eq s a (place_after a b) bs))
    (found pl pr eq s before (place_after a b) bs)
