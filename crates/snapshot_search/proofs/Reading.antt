-- What becomes of the places that were found as more of a text is read.
use Rattle.std.proofs.Common.{◌≡◌, ℕ, ◌+◌, ◌-◌, ◌<◌, ◌≤◌, Result, Ok, Err, OnOk, List, [], ◌∷◌, ◌++◌, length, take, drop, slice_range, slice_index, sym, ap, subst, ◌∙◌, arith, length-append, append_assoc}
use Rattle.std.proofs.lemmas.List.{append-nil, take_all, get_or_append_left, get_or-append-add, length-take-le, take-append-drop}
use Rattle.std.proofs.Common.{length-drop}
use Rattle.memchr.specs.Find.{OccursAt, Nowhere, NoneBefore}
use Rattle.snapshot_search.specs.Starts.{starts_between}
use Rattle.snapshot_search.specs.Shifts.{Agrees, IsFallback, Moves}
use Rattle.snapshot_search.specs.declared.progress.Progress.{Progress}
use Rattle.snapshot_search.specs.Progress.{Follows, Reads, Holds, Gathers, place_of}
use Rattle.snapshot_search.proofs.Sliding.{Agrees-fewer, moved_on, none_passed}
use Rattle.snapshot_search.proofs.Places.{in_front, from_front, starts-passed, starts-hit}

occurs_front : (text a b : List ℕ) (e : ℕ) → OccursAt text (a ++ b) e → OccursAt text a e
occurs_front text a b e h =
    let fits = h.fits in
    let both = length-append a b in
    record {
      fits = omega arith;
      reads = λ j low. h.reads j (omega arith) ∙ get_or_append_left a b 0 j low;
    }

occurs_back : (text a b : List ℕ) (e f : ℕ) → f ≡ e + length a → OccursAt text (a ++ b) e → OccursAt text b f
occurs_back text a b e f at h =
    let fits = h.fits in
    let both = length-append a b in
    record {
      fits = omega arith;
      reads = λ j low.
          let place : f + j ≡ e + (length a + j) = omega arith in
          ap (slice_index text) place ∙ (h.reads (length a + j) (omega arith) ∙ get_or-append-add a b j 0);
    }

pub reads_none : (needle : List ℕ) (p : Progress) → p.matched < length needle → Reads needle [] p p
reads_none needle p h = record {
  place = omega arith;
  partial = h;
  follows = λ text from occurs was. was;
}

pub reads_append : (needle a b : List ℕ) (p q r : Progress) → Reads needle a p q → Reads needle b q r → Reads needle (a ++ b) p r
reads_append needle a b p q r x y =
    let one = x.place in
    let two = y.place in
    record {
      place = omega (arith, length-append a b);
      partial = y.partial;
      follows = λ text from occurs was.
          y.follows text from (occurs_back text a b (place_of p) (place_of q) one occurs) (x.follows text from (occurs_front text a b (place_of p) occurs) was);
    }

-- where the needle does not stand as far as was read, it does not stand
unlike : (text needle : List ℕ) (t n : ℕ) → n ≤ length needle → ¬ Agrees text needle t n → ¬ OccursAt text needle t
unlike text needle t n le other occurs = other (Agrees-fewer text needle t n (length needle) le occurs.reads)

pub follows_moved : (text needle : List ℕ) (from : ℕ) (p : Progress) (b r : ℕ) → p.matched < length needle → r ≤ p.matched + 1 → Moves needle p.matched b r
    → slice_index text (place_of p) ≡ b → Follows text needle from p
    → (from ≤ place_of p + 1 - r) × Agrees text needle (place_of p + 1 - r) r × (p.found.items ≡ starts_between text needle from (place_of p + 1 - r))
follows_moved text needle from p b r partial le moves here was =
    let begun = was.begun in
    let moved = moves text p.start was.stands here in (
      omega arith,
      moved.stands,
      was.found ∙ starts-passed text needle (omega arith) from p.start (place_of p + 1 - r) begun (omega arith)
          (λ t low high. unlike text needle t (place_of p + 1 - t) (omega arith) (moved.none t low high)),
    )

-- past a place where the whole needle stands
pub follows_hit : (text needle : List ℕ) (from s : ℕ) (found : List ℕ) (q : Progress) → 0 < length needle → from ≤ s → found ≡ starts_between text needle from s
    → OccursAt text needle s → IsFallback needle (length needle) q.matched → place_of q ≡ s + length needle → q.found.items ≡ found ++ s ∷ [] → Follows text needle from q
follows_hit text needle from s found q some low was occurs f place is =
    let fewer = f.fewer in
    let at : q.start ≡ s + length needle - q.matched = omega arith in
    let hit = is ∙ ap (λ l. l ++ s ∷ []) was ∙ starts-hit text needle some from s low occurs in
    record {
      begun = omega arith;
      stands = subst (λ i. Agrees text needle i q.matched) (sym at) (moved_on text needle s (length needle) q.matched f occurs.reads);
      found = hit ∙ starts-passed text needle some from (s + 1) q.start (omega arith) (omega arith)
          (λ t past high other. none_passed text needle s (length needle) q.matched f occurs.reads t (length needle) (omega arith) (omega arith) (omega arith) other.reads);
    }

byte_there : (text : List ℕ) (b e : ℕ) → OccursAt text (b ∷ []) e → slice_index text e ≡ b
byte_there text b e occurs = let at : e ≡ e + 0 = omega arith in ap (slice_index text) at ∙ occurs.reads 0 (omega arith)

-- one byte, and the needle does not stand there whole
pub reads_byte : (needle : List ℕ) (b r : ℕ) (p q : Progress) → p.matched < length needle → r ≤ p.matched + 1 → Moves needle p.matched b r → r < length needle
    → q.start ≡ place_of p + 1 - r → q.matched ≡ r → q.found.items ≡ p.found.items → Reads needle (b ∷ []) p q
reads_byte needle b r p q partial le moves less start matched found = record {
  place = omega arith;
  partial = omega arith;
  follows = λ text from occurs was.
      let next = follows_moved text needle from p b r partial le moves (byte_there text b (place_of p) occurs) was in
      record {
        begun = omega (arith, next.0);
        stands = subst (λ i. Agrees text needle i q.matched) (sym start) (subst (λ n. Agrees text needle (place_of p + 1 - r) n) (sym matched) next.1);
        found = found ∙ (next.2 ∙ ap (starts_between text needle from) (sym start));
      };
}

-- one byte, the needle's last, and it stands there whole
pub reads_last : (needle : List ℕ) (b r s : ℕ) (p q : Progress) → p.matched < length needle → r ≤ p.matched + 1 → Moves needle p.matched b r → r ≡ length needle
    → s ≡ place_of p + 1 - r → IsFallback needle (length needle) q.matched → place_of q ≡ s + length needle → q.found.items ≡ p.found.items ++ s ∷ [] → Reads needle (b ∷ []) p q
reads_last needle b r s p q partial le moves whole at f place found =
    let fewer = f.fewer in
    record {
      place = omega arith;
      partial = fewer;
      follows = λ text from occurs was.
          let next = follows_moved text needle from p b r partial le moves (byte_there text b (place_of p) occurs) was in
          let fits = occurs.fits in
          let there : OccursAt text needle s = record {
            fits = omega arith;
            reads = subst (λ n. Agrees text needle s n) whole (subst (λ i. Agrees text needle i r) (sym at) next.1);
          } in
          follows_hit text needle from s p.found.items q (omega arith) (omega (arith, next.0)) (next.2 ∙ ap (starts_between text needle from) (sym at)) there f place found;
    }

pub on_ok3 : {T E : Type 0} (r : Result T E) (A B C D : Type 0) → OnOk r A → OnOk r B → OnOk r C → (A → B → C → D) → OnOk r D
on_ok3 (Ok x) A B C D a b c f = f a b c
on_ok3 (Err e) A B C D a b c f = tt

-- a match in the text that ends within a piece is one in the piece
within_piece : (text piece needle : List ℕ) (e t : ℕ) → OccursAt text piece e → e ≤ t → t + length needle ≤ e + length piece → OccursAt text needle t → OccursAt piece needle (t - e)
within_piece text piece needle e t there low high occurs = record {
  fits = omega arith;
  reads = λ j h.
      let place : e + (t - e + j) ≡ t + j = omega arith in
      sym (there.reads (t - e + j) (omega arith)) ∙ (ap (slice_index text) place ∙ occurs.reads j h);
}

-- and the other way round
of_piece : (text piece needle : List ℕ) (e k : ℕ) → OccursAt text piece e → OccursAt piece needle k → OccursAt text needle (e + k)
of_piece text piece needle e k there occurs =
    let one = there.fits in
    let two = occurs.fits in
    record {
      fits = omega arith;
      reads = λ j h.
          let place : e + k + j ≡ e + (k + j) = omega arith in
          ap (slice_index text) place ∙ (there.reads (k + j) (omega arith) ∙ occurs.reads j h);
    }

-- up to the end of the first match of a piece
pub reads_jump : (needle piece : List ℕ) (k n : ℕ) (p q : Progress) → 0 < length needle → p.matched ≡ 0 → n ≡ k + length needle
    → NoneBefore (OccursAt piece needle) 0 (length piece + 1) k → OccursAt piece needle k
    → IsFallback needle (length needle) q.matched → place_of q ≡ p.start + k + length needle → q.found.items ≡ p.found.items ++ (p.start + k) ∷ []
    → Reads needle (take n piece) p q
reads_jump needle piece k n p q some none_matched count first occurs f place found =
    let fits = occurs.fits in
    let fewer = f.fewer in
    let le : n ≤ length piece = omega arith in
    let size = length-take-le n piece le in
    let before = first.before in
    record {
      place = omega arith;
      partial = fewer;
      follows = λ text from there was.
          let begun = was.begun in
          let at : place_of p + k ≡ p.start + k = omega arith in
          let whole = subst (OccursAt text needle) at (of_piece text (take n piece) needle (place_of p) k there (in_front piece needle k n (omega arith) le occurs)) in
          follows_hit text needle from (p.start + k) p.found.items q some (omega arith)
          (was.found ∙ starts-passed text needle some from p.start (p.start + k) begun (omega arith)
          (λ t low high other. before (t - place_of p) (omega arith) (omega arith)
          (from_front piece needle (t - place_of p) n le (within_piece text (take n piece) needle (place_of p) t there (omega arith) (omega arith) other))))
          whole f place found;
    }

-- to the end of a piece in which there is no match
pub reads_rest : (needle piece : List ℕ) (passed : ℕ) (p r q : Progress) → 0 < length needle → p.matched ≡ 0 → passed ≡ length piece - (length needle - 1)
    → Nowhere (OccursAt piece needle) 0 (length piece + 1)
    → r.start ≡ p.start + passed → r.matched ≡ 0 → r.found.items ≡ p.found.items → Reads needle (slice_range piece passed (length piece)) r q → Reads needle piece p q
reads_rest needle piece passed p r q some none_matched count nowhere start matched found reads =
    let size = length-drop passed piece in
    let all : slice_range piece passed (length piece) ≡ drop passed piece = take_all _ (drop passed piece) (omega arith) in
    let behind = subst (λ xs. Reads needle xs r q) all reads in
    let place = behind.place in
    record {
      place = omega arith;
      partial = behind.partial;
      follows = λ text from there was.
          let begun = was.begun in
          let split = subst (λ l. OccursAt text l (place_of p)) (sym (take-append-drop passed piece)) there in
          let front : length (take passed piece) ≡ passed = length-take-le passed piece (omega arith) in
          behind.follows text from (occurs_back text (take passed piece) (drop passed piece) (place_of p) (place_of r) (omega arith) split)
          record {
            begun = omega arith;
            stands = λ j h. absurd (omega arith);
            found = found ∙ (was.found ∙ (starts-passed text needle some from p.start (p.start + passed) begun (omega arith)
                (λ t low high other. nowhere (t - place_of p) (omega arith) (omega arith) (within_piece text piece needle (place_of p) t there (omega arith) (omega arith) other))
                ∙ ap (starts_between text needle from) (sym start)));
          };
    }

-- windows

-- how far what is held reaches
pub held_place : (needle front : List ℕ) (p q : Progress) (window : List ℕ) → Holds needle front p q window → place_of q + length window ≡ place_of p + length front
held_place needle front p q window h =
    let place = h.reads.place in
    omega (arith, length-append h.read window, ap length h.joined)

-- where the window is read
pub held_read : (needle front : List ℕ) (p q r : Progress) (window : List ℕ) → Holds needle front p q window → Reads needle window q r → Reads needle front p r
held_read needle front p q r window h reads = subst (λ l. Reads needle l p r) h.joined (reads_append needle h.read window p q r h.reads reads)

pub gathers_more : (needle piece : List ℕ) (p : Progress) (v w : List ℕ) → w ≡ v ++ piece → Gathers needle piece p v p w
gathers_more needle piece p v w is begin front h = record {
  read = h.read;
  joined = ap (λ l. h.read ++ l) is ∙ (sym (append_assoc h.read v piece) ∙ ap (λ l. l ++ piece) h.joined);
  reads = h.reads;
}

pub gathers_all : (needle piece : List ℕ) (p q : Progress) (v w : List ℕ) → w ≡ v ++ piece → Reads needle w p q → Gathers needle piece p v q []
gathers_all needle piece p q v w is reads begin front h = record {
  read = front ++ piece;
  joined = append-nil (front ++ piece);
  reads = held_read needle (front ++ piece) begin p q w (gathers_more needle piece p v w is begin front h) reads;
}

pub holds_begin : (needle text window : List ℕ) (n : ℕ) (p : Progress) → p.matched < length needle → n ≡ 0 → window ≡ [] → Holds needle (take n text) p p window
holds_begin needle text window n p h none empty =
    let front : take n text ≡ [] = ap (λ k. take k text) none in record {
      read = [];
      joined = empty ∙ sym front;
      reads = reads_none needle p h;
    }
