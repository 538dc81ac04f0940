-- The chunks before and after an offset.
use Rattle.std.specs.Prelude.{slice_get}
use Rattle.std.proofs.Common.{◌≡◌, ℕ, ◌+◌, ◌-◌, ◌<◌, ◌≤◌, Some, List, [], ◌∷◌, ◌++◌, length, get_or, take, drop, refl, ap, sym, subst, ◌∙◌, arith, append_assoc, length-append, length-drop, take-append-drop}
use Rattle.std.specs.List.{All, concat, slice_range}
use Rattle.std.specs.Str.{IsCharBoundary}
use Rattle.std.proofs.lemmas.List.{append-nil, take_more, take_all, take-append-le, drop-append-le, get_or-append-add, get_or_append_left}
use Rattle.std.proofs.lemmas.Option.{slice_get_read, slice_get-get_or, get_or_from_slice_get}
use Rattle.std.proofs.Math.Seq.{take-append-add, drop-append-add, drop-append_seam}
use Rattle.sum_tree.specs.Seen.{Seen}
use Rattle.sum_tree.specs.Shape.{join_items}
use Rattle.sum_tree.proofs.Children.{joined-take_more, joined_around}
use Rattle.std.proofs.lemmas.List.Elements.{All-drop}
use Rattle.std.proofs.lemmas.Str.{IsCharBoundary-from_drop, IsUtf8-append, IsUtf8-drop}
use Rattle.rope_chunks.specs.Chunks.{IsChunk}
use Rattle.rope_chunks.specs.Spots.{IsSpot}
use Rattle.std.proofs.lemmas.List.Folds.{concat-append}
use Rattle.rope_chunks.proofs.Texts.{concat-push, concat-utf8}
use Rattle.rope_chunks.proofs.Grows.{get_drop, chunk_at}

module _ {X : Type 0} where
  -- an element is read alike with every default
  pub read_any : (xs : List X) (i : ℕ) (x d : X) → i < length xs → x ≡ get_or xs i x → get_or xs i d ≡ x
  read_any xs i x d within read = get_or_from_slice_get xs i x d (slice_get_read xs (length xs) i x refl within read)

  pub read_again : (xs : List X) (i : ℕ) (d : X) → i < length xs → get_or xs i d ≡ get_or xs i (get_or xs i d)
  read_again xs i d within = sym (get_or_from_slice_get xs i (get_or xs i d) (get_or xs i d) (slice_get-get_or xs i d within))

-- one chunk further
pub entry_step : (cs : List (List ℕ)) (k : ℕ) (c : List ℕ) → k < length cs → c ≡ get_or cs k c → concat (take (k + 1) cs) ≡ concat (take k cs) ++ c
entry_step cs k c within read =
    ap concat (take_more cs k c within ∙ ap (λ d. take k cs ++ d ∷ []) (sym read)) ∙ concat-push (take k cs) c

pub last_entry : (cs : List (List ℕ)) (k r o : ℕ) (d : List ℕ) → k + 1 ≡ length cs → length (concat (take k cs)) + r ≡ o → o ≤ length (concat cs) → r ≤ length (get_or cs k d)
last_entry cs k r o d end before within =
    let here : k < length cs = omega (arith, end) in
    omega (arith, before, within, ap length (entry_step cs k (get_or cs k d) here (read_again cs k d here)), ap (λ xs. length (concat xs)) (take_all (k + 1) cs (omega (arith, end))), length-append (concat (take k cs)) (get_or cs k d))

-- one child further
pub child_step : (ts : List (Seen (List ℕ))) (k : ℕ) (t : Seen (List ℕ)) → k < length ts → t ≡ get_or ts k t → concat (join_items (take (k + 1) ts)) ≡ concat (join_items (take k ts)) ++ concat t.items
child_step ts k t within read =
    ap concat (joined-take_more ts k t within read) ∙ concat-append (join_items (take k ts)) t.items

pub last_child : (ts : List (Seen (List ℕ))) (k r o : ℕ) (d : Seen (List ℕ)) → k + 1 ≡ length ts → length (concat (join_items (take k ts))) + r ≡ o → o ≤ length (concat (join_items ts)) → r ≤ length (concat (get_or ts k d).items)
last_child ts k r o d end before within =
    let here : k < length ts = omega (arith, end) in
    omega (arith, before, within, ap length (child_step ts k (get_or ts k d) here (read_again ts k d here)), ap (λ us. length (concat (join_items us))) (take_all (k + 1) ts (omega (arith, end))), length-append (concat (join_items (take k ts))) (concat (get_or ts k d).items))

-- the chunks ds stand after b chunks of cs, and byte r of them is byte o of all
pub record IsPart (cs ds : List (List ℕ)) (b r o : ℕ) : Type 0 where
  pub front : List (List ℕ)
  pub back : List (List ℕ)
  pub all : cs ≡ front ++ (ds ++ back)
  pub count : length front ≡ b
  pub offset : length (concat front) + r ≡ o
  pub within : r ≤ length (concat ds)
  pub some : 1 ≤ length ds

pub part_whole : (cs : List (List ℕ)) (o : ℕ) → 1 ≤ length cs → o ≤ length (concat cs) → IsPart cs cs 0 o o
part_whole cs o some within = record {
  front = [];
  back = [];
  all = sym (append-nil cs);
  count = refl;
  offset = omega arith;
  within = within;
  some = some;
}

regroup : (a j t k b : List (List ℕ)) → a ++ ((j ++ (t ++ k)) ++ b) ≡ (a ++ j) ++ (t ++ (k ++ b))
regroup a j t k b = rw (append_assoc j (t ++ k) b, append_assoc t k b, append_assoc a j (t ++ (k ++ b))) refl

pub part_child : (cs ds : List (List ℕ)) (ts : List (Seen (List ℕ))) (b r o k m q : ℕ) (t : Seen (List ℕ)) → IsPart cs ds b r o → ds ≡ join_items ts → k < length ts → t ≡ get_or ts k t → m ≡ length (join_items (take k ts)) → length (concat (join_items (take k ts))) + q ≡ r → q ≤ length (concat t.items) → 1 ≤ length t.items → IsPart cs t.items (b + m) q o
part_child cs ds ts b r o k m q t p e within read count before fits some =
    let j : List (List ℕ) = join_items (take k ts) in
    let rest : List (List ℕ) = join_items (drop (k + 1) ts) in
    record {
      front = p.front ++ j;
      back = rest ++ p.back;
      all = p.all ∙ ap (λ xs. p.front ++ (xs ++ p.back)) (e ∙ joined_around ts k t within read) ∙ regroup p.front j t.items rest p.back;
      count = omega (arith, length-append p.front j, p.count, count);
      offset = omega (arith, ap length (concat-append p.front j), length-append (concat p.front) (concat j), p.offset, before);
      within = fits;
      some = some;
    }

pub part_entry : (cs ds es : List (List ℕ)) (b r o k q : ℕ) (c : List ℕ) → IsPart cs es b r o → es ≡ ds → k < length ds → c ≡ get_or ds k c → length (concat (take k ds)) + q ≡ r → q ≤ length c → IsSpot cs o (b + k) c q
part_entry cs ds es b r o k q c part e within read before fits =
    let p : IsPart cs ds b r o = subst (λ xs. IsPart cs xs b r o) e part in
    let here : b + k ≡ length p.front + k = omega (arith, p.count) in
    let read_all : get_or cs (b + k) c ≡ c =
    rw (p.all, here) (get_or-append-add p.front (ds ++ p.back) k c ∙ get_or_append_left ds p.back c k within ∙ sym read) in
    let front : take (b + k) cs ≡ p.front ++ take k ds =
    rw (p.all, here) (take-append-add p.front (ds ++ p.back) k ∙ ap (λ xs. p.front ++ xs) (take-append-le k ds p.back (omega (arith, within)))) in
    record {
      at = slice_get_read cs (length cs) (b + k) c refl (omega (arith, ap length p.all, length-append p.front (ds ++ p.back), length-append ds p.back, p.count, within)) (sym read_all);
      offset = omega (arith, ap (λ xs. length (concat xs)) front, ap length (concat-append p.front (take k ds)), length-append (concat p.front) (concat (take k ds)), p.offset, before);
      within = fits;
    }

-- the chunks of the run after one of them, and those after the run
pub part_rest : (cs ds es : List (List ℕ)) (b r o k : ℕ) → IsPart cs es b r o → es ≡ ds → k < length ds → drop (k + 1) ds ++ drop (b + length ds) cs ≡ drop (b + k + 1) cs
part_rest cs ds es b r o k part e within =
    let p : IsPart cs ds b r o = subst (λ xs. IsPart cs xs b r o) e part in
    let here : b + k + 1 ≡ length p.front + (k + 1) = omega (arith, p.count) in
    let end : b + length ds ≡ length p.front + length ds = omega (arith, p.count) in
    let rest : drop (b + k + 1) cs ≡ drop (k + 1) ds ++ p.back =
    rw (p.all, here) (drop-append-add p.front (ds ++ p.back) (k + 1) ∙ drop-append-le (k + 1) ds p.back (omega (arith, within))) in
    let back : drop (b + length ds) cs ≡ p.back =
    rw (p.all, end) (drop-append-add p.front (ds ++ p.back) (length ds) ∙ drop-append_seam ds p.back) in
    ap (λ xs. drop (k + 1) ds ++ xs) back ∙ sym rest

-- a run of the chunks is not longer than all
pub part_short : (cs ds : List (List ℕ)) (b r o : ℕ) → IsPart cs ds b r o → b + length ds ≤ length cs
part_short cs ds b r o p =
    omega (arith, ap length p.all, length-append p.front (ds ++ p.back), length-append ds p.back, p.count)

-- the text around a chunk
pub whole_at : (cs : List (List ℕ)) (i : ℕ) (c : List ℕ) → slice_get cs i ≡ Some c → concat cs ≡ concat (take i cs) ++ (c ++ concat (drop (i + 1) cs))
whole_at cs i c h =
    ap concat (sym (take-append-drop i cs)) ∙ concat-append (take i cs) (drop i cs) ∙ ap (λ xs. concat (take i cs) ++ concat xs) (get_drop cs i c h)

pub spot_front : (cs : List (List ℕ)) (o i : ℕ) (c : List ℕ) (r : ℕ) → IsSpot cs o i c r → take o (concat cs) ≡ concat (take i cs) ++ take r c
spot_front cs o i c r s =
    let before : List ℕ = concat (take i cs) in
    let behind : List ℕ = concat (drop (i + 1) cs) in
    ap (λ n. take n (concat cs)) (sym s.offset)
    ∙ ap (λ bs. take (length before + r) bs) (whole_at cs i c s.at)
    ∙ take-append-add before (c ++ behind) r
    ∙ ap (λ bs. before ++ bs) (take-append-le r c behind s.within)

pub spot_back : (cs : List (List ℕ)) (o i : ℕ) (c : List ℕ) (r : ℕ) → IsSpot cs o i c r → drop o (concat cs) ≡ drop r c ++ concat (drop (i + 1) cs)
spot_back cs o i c r s =
    let before : List ℕ = concat (take i cs) in
    let behind : List ℕ = concat (drop (i + 1) cs) in
    ap (λ n. drop n (concat cs)) (sym s.offset)
    ∙ ap (λ bs. drop (length before + r) bs) (whole_at cs i c s.at)
    ∙ drop-append-add before (c ++ behind) r
    ∙ drop-append-le r c behind s.within

-- where the text may be cut, so may the chunk
pub spot_boundary : (cs : List (List ℕ)) (o i : ℕ) (c : List ℕ) (r : ℕ) → IsSpot cs o i c r → IsCharBoundary (concat cs) o → IsCharBoundary c r
spot_boundary cs o i c r s b =
    let before : List ℕ = concat (take i cs) in
    let behind : List ℕ = concat (drop (i + 1) cs) in (
      s.within,
      λ l high.
          let same : get_or (concat cs) o 0 ≡ get_or c r 0 =
          ap (λ n. get_or (concat cs) n 0) (sym s.offset)
          ∙ ap (λ bs. get_or bs (length before + r) 0) (whole_at cs i c s.at)
          ∙ get_or-append-add before (c ++ behind) r 0
          ∙ get_or_append_left c behind 0 r l in
          let more : o < length (concat cs) = omega (arith, s.offset, ap length (whole_at cs i c s.at), length-append before (c ++ behind), length-append c behind, l) in
          subst (λ x. 192 ≤ x) same (b.1 more (subst (λ x. 128 ≤ x) (sym same) high)),
    )

-- and where the chunk may be cut, so may the text
pub spot_bound : (cs : List (List ℕ)) (o i : ℕ) (c : List ℕ) (r : ℕ) → All IsChunk cs → IsSpot cs o i c r → IsCharBoundary c r → IsCharBoundary (concat cs) o
spot_bound cs o i c r each s b =
    let before : List ℕ = concat (take i cs) in
    let behind : List ℕ = concat (drop (i + 1) cs) in
    let within : o ≤ length (concat cs) = omega (arith, s.offset, s.within, ap length (whole_at cs i c s.at), length-append before (c ++ behind), length-append c behind) in
    IsCharBoundary-from_drop (concat cs) o within
    (rw (spot_back cs o i c r s) (IsUtf8-append (drop r c) behind (IsUtf8-drop c r (chunk_at cs i c each s.at).text b) (concat-utf8 (drop (i + 1) cs) (All-drop IsChunk (i + 1) cs each))))

-- as far before a spot as a chunk has bytes there
pub spot_before : (cs : List (List ℕ)) (start end i : ℕ) (c : List ℕ) (r : ℕ) → IsSpot cs end i c r → start ≤ end → end - start ≤ r → IsSpot cs start i c (r - (end - start))
spot_before cs start end i c r s order room = record {
  at = s.at;
  offset = omega (arith, s.offset, order, room);
  within = omega (arith, s.within);
}

-- the text between two spots of one chunk
pub part_between : (cs : List (List ℕ)) (start end i : ℕ) (c : List ℕ) (p q : ℕ) → IsSpot cs start i c p → IsSpot cs end i c q → start ≤ end → slice_range c p q ≡ slice_range (concat cs) start end
part_between cs start end i c p q s t order =
    let len : end - start ≡ q - p = omega (arith, s.offset, t.offset, order) in
    let behind : List ℕ = concat (drop (i + 1) cs) in
    sym (ap (λ (n : ℕ). take n (drop start (concat cs))) len ∙ ap (take (q - p)) (spot_back cs start i c p s)
    ∙ take-append-le (q - p) (drop p c) behind (omega (arith, length-drop p c, t.within)))
