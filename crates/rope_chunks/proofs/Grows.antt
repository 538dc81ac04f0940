-- A text put after a rope's chunks.
use Rattle.std.specs.Prelude.{slice_get}
use Rattle.std.proofs.Common.{◌≡◌, ℕ, zero, suc, ◌+◌, ◌-◌, ◌^◌, ◌<◌, ◌≤◌, Option, Some, None, List, [], ◌∷◌, ◌++◌, length, take, drop, refl, ap, sym, subst, ◌∙◌, arith, append_assoc, length-append}
use Rattle.std.specs.List.{All, concat}
use Rattle.std.proofs.lemmas.List.{append-nil, drop_all, take_all, take_more}
use Rattle.std.proofs.lemmas.List.Elements.{All-append, All-drop, All-head, All-nil, All-push, All-tail, All-take}
use Rattle.std.proofs.lemmas.Str.{IsUtf8-append}
use Rattle.std.proofs.lemmas.Option.{slice_get_within, get_or_from_slice_get, slice_get-get_or}
use Rattle.sum_tree.specs.Laws.{fold}
use Rattle.sum_tree.specs.Spliced.{splice_list}
use Rattle.text_dims.specs.Summaries.{summary_of, text_sum, no_text, TextFits}
use Rattle.text_dims.proofs.Characters.{text_fits}
use Rattle.text_dims.proofs.Sums.{fold_is}
use Rattle.rope_chunks.specs.Chunks.{IsChunk, AreChunks}
use Rattle.std.proofs.lemmas.List.Folds.{concat-append}
use Rattle.rope_chunks.proofs.Texts.{concat-push}

few_chunks : (cs : List (List ℕ)) → All IsChunk cs → length cs ≤ length (concat cs)
few_chunks [] a = omega arith
few_chunks (c ∷ cs) a =
    omega (arith, few_chunks cs (All-tail IsChunk c cs a), (All-head IsChunk c cs a).some, length-append c (concat cs))

pub are_short : (cs : List (List ℕ)) → AreChunks cs → length cs ≤ 2 ^ 40
are_short cs a = omega (arith, few_chunks cs a.each, a.few)

pub are_fit : (cs : List (List ℕ)) → AreChunks cs → TextFits (fold no_text text_sum summary_of cs)
are_fit cs a = rw (fold_is cs) (text_fits (concat cs) a.few)

-- the chunks but the last, and the last
pub concat-last : (cs : List (List ℕ)) (n : ℕ) (c : List ℕ) → n ≡ length cs → slice_get cs (n - 1) ≡ Some c → concat (take (n - 1) cs) ++ c ≡ concat cs
concat-last cs n c e h =
    let within : n - 1 < length cs = slice_get_within cs (n - 1) c h in
    let is : take (n - 1 + 1) cs ≡ take (n - 1) cs ++ c ∷ [] = take_more cs (n - 1) c within ∙ ap (λ d. take (n - 1) cs ++ d ∷ []) (get_or_from_slice_get cs (n - 1) c c h) in
    sym (concat-push (take (n - 1) cs) c) ∙ ap concat (sym is ∙ take_all (n - 1 + 1) cs (omega arith))

some_none : {X : Type 0} (x : X) (o : Option X) → o ≡ Some x → o ≡ None → ⊥
some_none x o e f = let g : Some x ≡ None = sym e ∙ f in cc

pub no_last : (cs : List (List ℕ)) → slice_get cs (length cs - 1) ≡ None → cs ≡ []
no_last [] h = refl
no_last (c ∷ cs) h =
    absurd (some_none _ (slice_get (c ∷ cs) (length (c ∷ cs) - 1)) (slice_get-get_or (c ∷ cs) (length (c ∷ cs) - 1) c (omega arith)) h)

-- chunks in the place of the last ones
spliced-end : (from n : ℕ) (ys xs : List (List ℕ)) → n ≡ length xs → splice_list from n ys xs ≡ take from xs ++ ys
spliced-end from n ys xs e = rw (drop_all n xs (omega arith)) (append-nil (take from xs ++ ys))

-- ys in the place of the chunks from from on makes the text all
pub record Grown (from n : ℕ) (ys xs : List (List ℕ)) (all : List ℕ) : Type 0 where
  pub end : n ≡ length xs
  pub new : All IsChunk ys
  pub old : All IsChunk xs
  pub text : concat (take from xs) ++ concat ys ≡ all
  pub few : length all ≤ 2 ^ 40

pub concat-grown : (from n : ℕ) (ys xs : List (List ℕ)) (all : List ℕ) → Grown from n ys xs all → concat (splice_list from n ys xs) ≡ all
concat-grown from n ys xs all g = ap concat (spliced-end from n ys xs g.end) ∙ concat-append (take from xs) ys ∙ g.text

pub are_grown : (from n : ℕ) (ys xs : List (List ℕ)) (all : List ℕ) → Grown from n ys xs all → AreChunks (splice_list from n ys xs)
are_grown from n ys xs all g = record {
  each = rw (spliced-end from n ys xs g.end) (All-append IsChunk (take from xs) ys (All-take IsChunk from xs g.old) g.new);
  few = rw (concat-grown from n ys xs all g) g.few;
}

pub grown_is : (from n : ℕ) (ys xs : List (List ℕ)) (old text : List ℕ) → concat xs ≡ old → AreChunks xs → n ≡ length xs → All IsChunk ys → concat (take from xs) ++ concat ys ≡ concat xs ++ text → length old + length text ≤ 2 ^ 40 → Grown from n ys xs (old ++ text)
grown_is from n ys xs old text v a e h t f = record {
  end = e;
  new = h;
  old = a.each;
  text = t ∙ ap (λ bs. bs ++ text) v;
  few = omega (arith, length-append old text);
}

-- a rope after another
pub are_beside : (cs ds : List (List ℕ)) → All IsChunk cs → All IsChunk ds → length (concat cs) + length (concat ds) ≤ 2 ^ 40 → AreChunks (cs ++ ds)
are_beside cs ds a b f = record {
  each = All-append IsChunk cs ds a b;
  few = rw (concat-append cs ds) (omega (arith, length-append (concat cs) (concat ds)));
}

first_is : (ds : List (List ℕ)) (c : List ℕ) → slice_get ds 0 ≡ Some c → concat ds ≡ c ++ concat (drop 1 ds)
first_is [] c h = absurd (let g : None ≡ Some c = h in cc)
first_is (d ∷ ds) c h = let e : d ≡ c = cc in rw e refl

pub chunk_at : (cs : List (List ℕ)) (i : ℕ) (c : List ℕ) → All IsChunk cs → slice_get cs i ≡ Some c → IsChunk c
chunk_at cs i c a h =
    subst (λ d. IsChunk d) (get_or_from_slice_get cs i c c h) (a i c (slice_get_within cs i c h))

-- one chunk more, made one with the last
pub seam_grown : (n : ℕ) (ys cs : List (List ℕ)) (last next new : List ℕ) → n ≡ length cs → AreChunks cs → slice_get cs (length cs - 1) ≡ Some last → IsChunk next → length last + length next ≤ 128 → length (concat cs) + length next ≤ 2 ^ 40
    → new ≡ last ++ next → ys ≡ new ∷ [] → Grown (n - 1) n ys cs (concat cs ++ next)
seam_grown n ys cs last next new end front at_last more small few is only =
    let at : slice_get cs (n - 1) ≡ Some last = rw end at_last in
    let a : IsChunk last = chunk_at cs (n - 1) last front.each at in
    let one : IsChunk (last ++ next) = record {
      text = IsUtf8-append last next a.text more.text;
      some = omega (arith, length-append last next, a.some);
      few = omega (arith, length-append last next, small);
    } in
    let ys_are : ys ≡ (last ++ next) ∷ [] = only ∙ ap (λ x. x ∷ []) is in
    record {
      end = end;
      new = subst (λ zs. All IsChunk zs) (sym ys_are) (All-push IsChunk [] (last ++ next) (All-nil IsChunk) one);
      old = front.each;
      text =
          ap (λ zs. concat (take (n - 1) cs) ++ concat zs) ys_are
          ∙ ap (λ t. concat (take (n - 1) cs) ++ t) (append-nil (last ++ next))
          ∙ sym (append_assoc (concat (take (n - 1) cs)) last next)
          ∙ ap (λ t. t ++ next) (concat-last cs n last end at);
      few = omega (arith, length-append (concat cs) next, few);
    }

-- the first chunk of some is no longer than all
pub first_few : (cs ds : List (List ℕ)) (first : List ℕ) → slice_get ds 0 ≡ Some first → length (concat cs) + length (concat ds) ≤ 2 ^ 40 → length (concat cs) + length first ≤ 2 ^ 40
first_few cs ds first e f = omega (arith, ap length (first_is ds first e), length-append first (concat (drop 1 ds)), f)

-- the other chunks after a text that has the first
pub rest_text : (cs ds es : List (List ℕ)) (first : List ℕ) → slice_get ds 0 ≡ Some first → concat es ≡ concat cs ++ first → concat (es ++ drop 1 ds) ≡ concat cs ++ concat ds
rest_text cs ds es first e t =
    concat-append es (drop 1 ds) ∙ ap (λ x. x ++ concat (drop 1 ds)) t ∙ append_assoc (concat cs) first (concat (drop 1 ds)) ∙ ap (λ x. concat cs ++ x) (sym (first_is ds first e))

pub rest_are : (cs ds es : List (List ℕ)) (first : List ℕ) → slice_get ds 0 ≡ Some first → concat es ≡ concat cs ++ first → All IsChunk es → All IsChunk ds → length (concat cs) + length (concat ds) ≤ 2 ^ 40 → AreChunks (es ++ drop 1 ds)
rest_are cs ds es first e t a b f = record {
  each = All-append IsChunk es (drop 1 ds) a (All-drop IsChunk 1 ds b);
  few = rw (rest_text cs ds es first e t) (omega (arith, length-append (concat cs) (concat ds), f));
}

pub are_chained : (cs ds es : List (List ℕ)) → All IsChunk es → concat es ≡ concat cs ++ concat ds → length (concat cs) + length (concat ds) ≤ 2 ^ 40 → AreChunks es
are_chained cs ds es a t f = record { each = a; few = rw t (omega (arith, length-append (concat cs) (concat ds))) }

pub concat-more : (cs : List (List ℕ)) (i : ℕ) (c : List ℕ) → slice_get cs i ≡ Some c → concat (take (i + 1) cs) ≡ concat (take i cs) ++ c
concat-more cs i c h =
    ap concat (take_more cs i c (slice_get_within cs i c h) ∙ ap (λ d. take i cs ++ d ∷ []) (get_or_from_slice_get cs i c c h)) ∙ concat-push (take i cs) c

pub get_drop : (cs : List (List ℕ)) (i : ℕ) (c : List ℕ) → slice_get cs i ≡ Some c → drop i cs ≡ c ∷ drop (i + 1) cs
get_drop [] i c h = absurd (let g : None ≡ Some c = h in cc)
get_drop (d ∷ cs) zero c h = let e : d ≡ c = cc in ap (λ x. x ∷ cs) e
get_drop (d ∷ cs) (suc i) c h = let more : suc i + 1 ≡ suc (i + 1) = omega arith in rw more (get_drop cs i c h)

-- a block of chunks, put after others, and the rest of the text
pub block_beside : (cs ds : List (List ℕ)) (text rest : List ℕ) → concat ds ++ rest ≡ text → length (concat cs) + length text ≤ 2 ^ 40 → All IsChunk cs → All IsChunk ds → AreChunks (cs ++ ds)
block_beside cs ds text rest e few front back =
    are_beside cs ds front back (omega (arith, few, ap length e, length-append (concat ds) rest))

pub block_text : (cs ds : List (List ℕ)) (text rest : List ℕ) → concat ds ++ rest ≡ text → concat (cs ++ ds) ++ rest ≡ concat cs ++ text
block_text cs ds text rest e = rw (concat-append cs ds, append_assoc (concat cs) (concat ds) rest, e) refl
