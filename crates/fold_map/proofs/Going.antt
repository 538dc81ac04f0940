-- Going on to a later history: windows of edits are made again, from the last one to the first, and the spans between them stay.
use Rattle.std.proofs.Common.{◌≡◌, inl, inr, ℕ, zero, suc, ◌+◌, ◌-◌, ◌≤◌, ◌<◌, ◌^◌, List, [], ◌∷◌, ◌++◌, length, map, take, drop, Some, refl, sym, ap, ◌∙◌, subst, arith, append_assoc}
use Rattle.std.specs.Prelude.{◌⊎◌, slice_range}
use Rattle.std.specs.List.{All}
use Rattle.std.proofs.lemmas.Bool.{cases_lt}
use Rattle.std.proofs.lemmas.List.{append-nil, take_all, take_at, drop_at, length-take-le, length-append, map-append, take-append-drop}
use Rattle.std.proofs.lemmas.Option.{slice_get_cases}
use Rattle.op_model.specs.declared.anchor.TextEdit.{TextEdit}
use Rattle.op_model.specs.Histories.{History, version}
use Rattle.op_model.specs.Shown.{text}
use Rattle.op_model.specs.Since.{since}
use Rattle.text_buffer.specs.Document.{IsBufferHistory}
use Rattle.fold_spans.specs.Marks.{Range, marks}
use Rattle.fold_spans.specs.Spans.{marks_of, text_sum, folds_of}
use Rattle.fold_spans.specs.Found.{start_of, IsTouching}
use Rattle.fold_spans.specs.Sweep.{range_of, HaveFolds, IsWithin as IsRangeWithin}
use Rattle.fold_spans.specs.Parts.{AreKept, Edit, LieBetween, last_end}
use Rattle.fold_spans.specs.declared.span.Span.{Span}
use Rattle.fold_spans.specs.declared.sweep.FoldRange.{FoldRange}
use Rattle.fold_spans.specs.declared.touching.Touching.{Touching}
use Rattle.fold_spans.proofs.Sums.{text_sum-append, take_sum}
use Rattle.fold_map.specs.declared.fold.NumberedFold.{NumberedFold}
use Rattle.fold_map.specs.Calls.{IsWithin}
use Rattle.fold_map.specs.Numbered.{AreNumbered, AreFolds, AreSpansOf, numbered_ranges}
use Rattle.fold_map.specs.Windows.{named_ranges, last_of, run_after, AreInOrder, IsMadeAgain, IsLastWindow}
use Rattle.fold_map.proofs.Followed.{ranges_same}
use Rattle.fold_map.proofs.Fates.{as_edit, AreOrdered, IsEnd}
use Rattle.fold_map.proofs.Runs.{Stand, have_numbers, spliced, starts_before, ends_past}
use Rattle.fold_map.proofs.KeptRuns.{Bounds, starts_after, ends_before}
use Rattle.fold_map.proofs.Many.{IsDone, none_done, all_done, fronts, here, here_within, made_more, kept_more, of_here, cut, total}
use Rattle.fold_map.proofs.Later.{renew, renews_all, all_own, named_renewed, IsOwn, lie, all_bound}
use Rattle.fold_map.proofs.Groups.{between_parts, last_kept, old_ends, new_ends, last_end_of, ordered_part, is_less, is_before, all_parts, ends_there, ends_before_it}

-- a run of touched spans ends where spans begin past the range
run_ends_by : (ss : List Span) (s e : ℕ) (t : Touching) → IsTouching ss s e t → s ≤ e → (k : ℕ) → (k < t.to → e < start_of ss k) → t.to ≤ k
run_ends_by ss s e t i o k past = elim (cases_lt k t.to) [
  | inr l ↦ l
  | inl l ↦ elim (cases_lt k t.from) [
    | inl u ↦ let a = i.before k u in let b = take_sum ss k (suc k) (omega arith) in let c = past l in absurd (omega (arith, a, b, c, o))
    | inr u ↦ let a = (i.meets k u l).0 in let c = past l in absurd (omega (arith, a, c))
  ]
]

module _ (h g : History) (b : IsBufferHistory h) (d : IsBufferHistory g) (w : IsWithin h g) (fs : List NumberedFold) (nn : ℕ) (k : AreNumbered nn fs) (a : AreFolds h fs) (ss : List Span) (sp : AreSpansOf h fs ss) where
  abbrev n : ℕ
  n = length (text h)

  abbrev m : ℕ
  m = length (text g)

  abbrev rs : List FoldRange
  rs = numbered_ranges h fs

  abbrev f : FoldRange → FoldRange
  f = renew g fs

  abbrev now : List Range
  now = map range_of (map f rs)

  abbrev es : List TextEdit
  es = since g (version h)

  pub stand : Stand ss rs n
  stand = record { marks = sp.marks ∙ ap (λ (qs : List Range). marks qs 0 n) (sym (ranges_same h fs)); homes = sp.homes }

  later_ranges : map f rs ≡ numbered_ranges g fs
  later_ranges = renews_all h g fs k.ascending

  -- spans that stand for the ranges of the later history
  of_later : (new : List Span) → Stand new (map f rs) m → AreSpansOf g fs new
  of_later new s =
      let t : Stand new (numbered_ranges g fs) m = subst (λ (qs : List FoldRange). Stand new qs m) later_ranges s in
      record { marks = t.marks ∙ ap (λ (qs : List Range). marks qs 0 m) (ranges_same g fs); homes = t.homes }

  between : LieBetween (map range_of rs) now n 0 0 (map as_edit es)
  between = subst (λ (qs : List FoldRange). LieBetween (map range_of rs) (map range_of qs) n 0 0 (map as_edit es)) (sym later_ranges) (lie h g b d w fs a).0

  ending : IsEnd n m 0 0 (map as_edit es)
  ending = (lie h g b d w fs a).1

  bounds : All (λ r. Bounds n m r (f r)) rs
  bounds = all_bound h g b d w fs k.ascending a

  all_spans : text_sum ss ≡ n
  all_spans = total f ss rs n m stand

  abbrev end_of : ℕ → ℕ × ℕ
  end_of l = last_end (0, 0) (map as_edit (take l es))

  -- the first `left` edits are not done, and `made` are the spans so far: those from some index on are done, after bytes that are kept
  -- since the last of these edits
  pub record Going (left : ℕ) (made : List Span) : Type 0 where
    pub within : left ≤ length es
    pub index : ℕ
    pub place : ℕ
    pub rest : List Span
    pub spans : made ≡ take index ss ++ rest
    pub in_spans : index ≤ length ss
    pub done : IsDone f ss rs n m stand index place rest
    pub kept_to : ℕ
    pub kept : AreKept (map range_of rs) now (end_of left).0 (end_of left).1 (kept_to - (end_of left).0)
    pub low : (end_of left).0 ≤ start_of ss index
    pub high : start_of ss index ≤ kept_to
    pub there : place ≡ (end_of left).1 + (start_of ss index - (end_of left).0)
    pub last : ((index ≡ 0) × (left ≡ 0)) ⊎ ((start_of ss index < kept_to) ⊎ ((n ≤ start_of ss index) × (place ≡ m)))
    pub apart : (left ≡ 0) ⊎ ((index ≡ length ss) ⊎ ((end_of left).0 < start_of ss index))

  -- ---- before the first window

  module _ (l : ℕ) (q : l ≡ length es) where
    all_edits : end_of l ≡ last_end (0, 0) (map as_edit es)
    all_edits = ap (λ (xs : List TextEdit). last_end (0, 0) (map as_edit xs)) (take_all l es (omega (arith, q)))

    all_start : start_of ss (length ss) ≡ n
    all_start = ap text_sum (take_all (length ss) ss (omega arith)) ∙ all_spans

    pub begins : Going l ss
    begins =
        let e0 : (end_of l).0 ≡ (last_end (0, 0) (map as_edit es)).0 = ap (λ (p : ℕ × ℕ). p.0) all_edits in
        let e1 : (end_of l).1 ≡ (last_end (0, 0) (map as_edit es)).1 = ap (λ (p : ℕ × ℕ). p.1) all_edits in
        let at = all_start in
        let low = ending.within in
        let len = ending.length in
        record {
          within = omega (arith, q);
          index = length ss;
          place = m;
          rest = [];
          spans = sym (append-nil (take (length ss) ss) ∙ take_all (length ss) ss (omega arith));
          in_spans = omega arith;
          done = none_done f ss rs n m stand;
          kept_to = n;
          kept = subst (λ (p : ℕ × ℕ). AreKept (map range_of rs) now p.0 p.1 (n - p.0)) (sym all_edits) (last_kept (map range_of rs) now n 0 0 (map as_edit es) between);
          low = omega (arith, e0, at, low);
          high = omega (arith, at);
          there = omega (arith, e0, e1, at, len);
          last = inr (inr (omega (arith, at), refl));
          apart = inr (inl refl);
        }

  -- ---- the edits in order

  pub in_order : (l : ℕ) → AreInOrder (take l es)
  in_order l before e others q =
      let parts : map as_edit es ≡ map as_edit before ++ (as_edit e ∷ (map as_edit others ++ map as_edit (drop l es))) =
      ap (map as_edit) (sym (take-append-drop l es)) ∙ map-append as_edit (take l es) (drop l es)
      ∙ ap (λ (xs : List TextEdit). map as_edit xs ++ map as_edit (drop l es)) q
      ∙ ap (λ (xs : List Edit). xs ++ map as_edit (drop l es)) (map-append as_edit before (e ∷ others))
      ∙ append_assoc (map as_edit before) (as_edit e ∷ map as_edit others) (map as_edit (drop l es)) in
      let x = (last_end (0, 0) (map as_edit before)).0 in
      let y = (last_end (0, 0) (map as_edit before)).1 in
      let at = between_parts (map range_of rs) now n 0 0 (map as_edit before) (as_edit e ∷ (map as_edit others ++ map as_edit (drop l es)))
      (subst (LieBetween (map range_of rs) now n 0 0) parts between) in
      let o = at.3 in
      let z = old_ends (map range_of rs) now n e.old.1 e.new.1 (map as_edit others) (map as_edit (drop l es)) at.4 in
      let r : (last_end (e.old.1, e.new.1) (map as_edit others)).0 ≡ (last_of e others).old.1 = ap (λ (p : ℕ × ℕ). p.0) (last_end_of e others) in
      omega (arith, o, z, r)

  -- ---- after the last window

  pub ends : (made : List Span) → Going 0 made → AreSpansOf g fs made
  ends made v = elim (cases_lt 0 v.index) [
    | inl l ↦
        let x : (end_of 0).0 + (v.kept_to - (end_of 0).0) ≡ v.kept_to = omega arith in
        let hi = v.high in
        let o : 0 ≤ v.index = omega arith in
        let z : take v.index ss ≡ slice_range ss 0 v.index = fronts f ss rs n m stand 0 v.index o v.in_spans v.place v.rest v.done in
        let s : Stand (slice_range ss 0 v.index ++ v.rest) (map f rs) m = all_done f ss rs n m stand 0 (slice_range ss 0 v.index ++ v.rest) refl
        (kept_more f ss rs n m stand 0 v.index o v.in_spans v.place v.rest v.done bounds 0 0 (v.kept_to - 0) v.kept (omega arith) (omega (arith, hi)) v.there
        (inr (refl, refl)) (last_of_all v l)) in
        of_later made (subst (λ (xs : List Span). Stand xs (map f rs) m) (sym (v.spans ∙ ap (λ (xs : List Span). xs ++ v.rest) z)) s)
    | inr l ↦
        let e : v.index ≡ 0 = omega (arith, l) in
        let z : start_of ss v.index ≡ 0 = ap (start_of ss) e in
        let t = v.there in
        let s : Stand v.rest (map f rs) m = all_done f ss rs n m stand v.place v.rest (omega (arith, t, z)) (subst (λ (i : ℕ). IsDone f ss rs n m stand i v.place v.rest) e v.done) in
        of_later made (subst (λ (xs : List Span). Stand xs (map f rs) m) (sym (v.spans ∙ ap (λ (i : ℕ). take i ss ++ v.rest) e)) s)
  ]
    where
      last_of_all : (v : Going 0 made) → 0 < v.index → (start_of ss v.index < 0 + (v.kept_to - 0)) ⊎ ((n ≤ start_of ss v.index) × (0 + (start_of ss v.index - 0) ≡ m))
      last_of_all v l = elim v.last [
        | inl t ↦ let e = t.0 in absurd (omega (arith, e, l))
        | inr t ↦ elim t [
          | inl u ↦ inl (omega (arith, u))
          | inr u ↦ let p = u.1 in let q = v.there in inr (u.0, omega (arith, p, q))
        ]
      ]

  -- ---- one window more

  module _ (left : ℕ) (made : List Span) (v : Going left made) (first : ℕ) (t : Touching) (l : IsLastWindow ss (take left es) (Some (first, t))) where
    abbrev e : TextEdit
    e = l.0.first

    abbrev others : List TextEdit
    others = l.0.others

    abbrev last_edit : TextEdit
    last_edit = last_of e others

    abbrev x : ℕ
    x = (end_of left).0

    abbrev y : ℕ
    y = (end_of left).1

    abbrev x0 : ℕ
    x0 = (end_of first).0

    abbrev y0 : ℕ
    y0 = (end_of first).1

    pub fewer_left : first < left
    fewer_left = is_before es left first e others l.0.edits

    old_end : x ≡ last_edit.old.1
    old_end = ap (λ (p : ℕ × ℕ). p.0) (ends_there es left first e others l.0.edits)

    new_end : y ≡ last_edit.new.1
    new_end = ap (λ (p : ℕ × ℕ). p.1) (ends_there es left first e others l.0.edits)

    abbrev after_first : List Edit
    after_first = map as_edit others ++ map as_edit (drop left es)

    parts : map as_edit es ≡ map as_edit (take first es) ++ (as_edit e ∷ after_first)
    parts = all_parts es left first e others l.0.edits

    from_first : LieBetween (map range_of rs) now n x0 y0 (as_edit e ∷ after_first)
    from_first = between_parts (map range_of rs) now n 0 0 (map as_edit (take first es)) (as_edit e ∷ after_first) (subst (LieBetween (map range_of rs) now n 0 0) parts between)

    ordered : AreOrdered (as_edit e ∷ after_first)
    ordered = ordered_part (map as_edit (take first es)) (as_edit e ∷ after_first) (subst AreOrdered parts ending.ordered)

    order : e.old.0 ≤ last_edit.old.1
    order =
        let o = from_first.3 in
        let z = old_ends (map range_of rs) now n e.old.1 e.new.1 (map as_edit others) (map as_edit (drop left es)) from_first.4 in
        let r : (last_end (e.old.1, e.new.1) (map as_edit others)).0 ≡ last_edit.old.1 = ap (λ (p : ℕ × ℕ). p.0) (last_end_of e others) in
        omega (arith, o, z, r)

    new_order : e.new.0 ≤ last_edit.new.1
    new_order =
        let o = ordered.0 in
        let z = new_ends (map range_of rs) now n e.old.1 e.new.1 (map as_edit others) (map as_edit (drop left es)) from_first.4 ordered.1 in
        let r : (last_end (e.old.1, e.new.1) (map as_edit others)).1 ≡ last_edit.new.1 = ap (λ (p : ℕ × ℕ). p.1) (last_end_of e others) in
        omega (arith, o, z, r)

    -- ---- where the window begins

    abbrev begin : ℕ
    begin = start_of ss t.from

    abbrev end : ℕ
    end = start_of ss t.to

    starts : begin ≤ e.old.0
    starts = let p = starts_before ss e.old.0 last_edit.old.1 t l.0.run in let q = l.0.run.start in omega (arith, p, q)

    -- the edits before it end before it
    clear : (first ≡ 0) ⊎ (x0 < begin)
    clear = go first refl
      where
        go : (i : ℕ) → i ≡ first → (first ≡ 0) ⊎ (x0 < begin)
        go zero z = inl (sym z)
        go (suc i) z = elim (slice_get_cases (take left es) i).1 [
          | inl u ↦
              let p = l.1 i u.0 z u.2 in
              let q : x0 ≡ u.0.old.1 = ap (λ (p : ℕ × ℕ). p.0) (ends_before_it es left first e others l.0.edits i u.0 z u.2) in
              let r = l.0.run.start in inr (omega (arith, p, q, r))
          | inr u ↦ let p = u.0 in let q = is_less es left first e others l.0.edits in absurd (omega (arith, p, q, z))
        ]

    none_first : first ≡ 0 → (x0 ≡ 0) × (y0 ≡ 0)
    none_first z = (ap (λ (i : ℕ). (end_of i).0) z, ap (λ (i : ℕ). (end_of i).1) z)

    first_low : x0 ≤ begin
    first_low = elim clear [
      | inl z ↦ let p = (none_first z).0 in omega (arith, p)
      | inr u ↦ omega (arith, u)
    ]

    lowest : (x0 < begin) ⊎ ((begin ≡ 0) × (y0 + (begin - x0) ≡ 0))
    lowest = elim clear [
      | inr u ↦ inl u
      | inl z ↦
          let p = (none_first z).0 in
          let q = (none_first z).1 in
          elim (cases_lt 0 begin) [
            | inl u ↦ inl (omega (arith, p, u))
            | inr u ↦ inr (omega (arith, u), omega (arith, p, q, u))
          ]
    ]

    at_zero : (i : ℕ) → t.from ≡ i → (t.from ≡ 0) ⊎ (begin < e.old.0)
    at_zero zero z = inl z
    at_zero (suc i) z = let p = l.0.run.before i (omega (arith, z)) in let q : begin ≡ start_of ss (suc i) = ap (start_of ss) z in inr (omega (arith, p, q))

    -- ---- where it ends

    short : x ≤ n
    short = let p = v.low in let q = all_spans in let r = take_sum ss v.index (length ss) v.in_spans in let s = ap text_sum (take_all (length ss) ss (omega arith)) in omega (arith, p, q, r, s)

    stops : x ≤ end
    stops =
        let s = short in
        let o = old_end in
        let q = all_spans in
        let p = ends_past ss e.old.0 last_edit.old.1 t l.0.run (omega (arith, s, o, q)) in
        let r = l.0.run.end in omega (arith, p, r, o)

    by_index : t.to ≤ v.index
    by_index = run_ends_by ss e.old.0 last_edit.old.1 t l.0.run order v.index (λ z. past z v.apart)
      where
        past : v.index < t.to → (left ≡ 0) ⊎ ((v.index ≡ length ss) ⊎ (x < start_of ss v.index)) → last_edit.old.1 < start_of ss v.index
        past z (inl u) = let p = fewer_left in absurd (omega (arith, u, p))
        past z (inr (inl u)) = let p = l.0.run.within in absurd (omega (arith, u, z, p))
        past z (inr (inr u)) = let p = old_end in omega (arith, u, p)

    in_run : end ≤ start_of ss v.index
    in_run = take_sum ss t.to v.index by_index

    abbrev c : ℕ
    c = v.kept_to - x

    reach : x + c ≡ v.kept_to
    reach = let p = v.low in let q = v.high in omega (arith, p, q)

    highest : (start_of ss v.index < x + c) ⊎ ((n ≤ start_of ss v.index) × (y + (start_of ss v.index - x) ≡ m))
    highest = go v.last
      where
        go : ((v.index ≡ 0) × (left ≡ 0)) ⊎ ((start_of ss v.index < v.kept_to) ⊎ ((n ≤ start_of ss v.index) × (v.place ≡ m)))
            → (start_of ss v.index < x + c) ⊎ ((n ≤ start_of ss v.index) × (y + (start_of ss v.index - x) ≡ m))
        go (inl u) = let p = fewer_left in let q = u.1 in absurd (omega (arith, p, q))
        go (inr (inl u)) = let p = reach in inl (omega (arith, u, p))
        go (inr (inr u)) = let p = v.there in let q = u.1 in inr (u.0, omega (arith, p, q))

    end_highest : (end < x + c) ⊎ ((n ≤ end) × (y + (end - x) ≡ m))
    end_highest = elim (cases_lt end (x + c)) [
      | inl u ↦ inl u
      | inr u ↦ elim highest [
        | inl z ↦ let p = in_run in absurd (omega (arith, p, z, u))
        | inr z ↦
            let p = in_run in
            let q = v.high in
            let r = reach in
            let s : start_of ss v.index ≡ end = omega (arith, p, q, r, u) in
            let z0 = z.0 in
            let z1 = z.1 in inr (omega (arith, z0, s), omega (arith, z1, s))
      ]
    ]

    -- spans of kept bytes up to those that are done
    abbrev kept_rest : List Span
    kept_rest = slice_range ss t.to v.index ++ v.rest

    abbrev new_stop : ℕ
    new_stop = y + (end - x)

    done_there : IsDone f ss rs n m stand t.to new_stop kept_rest
    done_there = elim (cases_lt t.to v.index) [
      | inl u ↦
          let p = v.high in
          let q = reach in
          kept_more f ss rs n m stand t.to v.index by_index v.in_spans v.place v.rest v.done bounds x y c v.kept stops (omega (arith, p, q)) v.there
          (inl (let i = v.in_spans in let z = l.0.run.after t.to (omega arith) (omega (arith, u, i)) in let o = old_end in omega (arith, z, o))) highest
      | inr u ↦
          let i = by_index in
          let z : v.index ≡ t.to = omega (arith, u, i) in
          let r = v.there in
          let s : start_of ss v.index ≡ end = ap (start_of ss) z in
          let none : kept_rest ≡ v.rest = ap (λ (j : ℕ). take j (drop t.to ss) ++ v.rest) (let q : v.index - t.to ≡ 0 = omega (arith, z) in q) in
          subst (λ (j : ℕ). IsDone f ss rs n m stand t.to j kept_rest) (let q : v.place ≡ new_stop = omega (arith, r, s) in q)
          (subst (λ (xs : List Span). IsDone f ss rs n m stand t.to v.place xs) (sym none) (subst (λ (j : ℕ). IsDone f ss rs n m stand j v.place v.rest) z v.done))
    ]

    -- ---- the window

    abbrev new_start : ℕ
    new_start = y0 + (begin - x0)

    forward : new_start ≤ new_stop
    forward =
        let p = starts in
        let q = first_low in
        let r = from_first.1 in
        let s = new_order in
        let o = new_end in omega (arith, p, q, r, s, o)

    first_reach : begin ≤ x0 + (e.old.0 - x0)
    first_reach = let p = starts in let q = first_low in omega (arith, p, q)

    start_after : All (λ r. begin ≤ r.start → new_start ≤ (f r).start) rs
    start_after = starts_after f rs n m bounds x0 y0 (e.old.0 - x0) from_first.2 begin first_low first_reach lowest

    start_before : (t.from ≡ 0) ⊎ All (λ r. r.end ≤ begin → (f r).end ≤ new_start) rs
    start_before = elim (at_zero t.from refl) [
      | inl u ↦ inl u
      | inr u ↦ inr (ends_before f rs n m bounds x0 y0 (e.old.0 - x0) from_first.2 begin first_low first_reach (inl (let p = first_low in omega (arith, u, p))))
    ]

    end_reach : end ≤ x + c
    end_reach = let p = in_run in let q = v.high in let r = reach in omega (arith, p, q, r)

    end_before : All (λ r. r.end ≤ end → (f r).end ≤ new_stop) rs
    end_before = ends_before f rs n m bounds x y c v.kept end stops end_reach end_highest

    end_after : (t.to ≡ length ss) ⊎ All (λ r. end ≤ r.start → new_stop ≤ (f r).start) rs
    end_after = elim (cases_lt t.to (length ss)) [
      | inl u ↦ inr (starts_after f rs n m bounds x y c v.kept end stops end_reach (inl (let p = l.0.run.after t.to (omega arith) u in let q = old_end in omega (arith, p, q))))
      | inr u ↦ let p = l.0.run.within in inl (omega (arith, u, p))
    ]

    abbrev window : List FoldRange
    window = map f (here f ss rs n m stand t.from t.to l.0.run.order l.0.run.within new_stop kept_rest done_there)

    named_in_window : named_ranges g fs (folds_of (slice_range ss t.from t.to)) ≡ window
    named_in_window =
        let mine = here f ss rs n m stand t.from t.to l.0.run.order l.0.run.within new_stop kept_rest done_there in
        ap (named_ranges g fs) (have_numbers (0 + text_sum (take t.from ss)) (slice_range ss t.from t.to) mine (cut f ss rs n m stand t.from t.to l.0.run.order l.0.run.within new_stop kept_rest done_there).4)
        ∙ named_renewed h g fs k.ascending mine
        (of_here f ss rs n m stand t.from t.to l.0.run.order l.0.run.within new_stop kept_rest done_there (IsOwn h g fs k.ascending) (all_own h g fs k.ascending))

    window_lies : All (IsRangeWithin new_start new_stop) window
    window_lies = here_within f ss rs n m stand t.from t.to l.0.run.order l.0.run.within new_stop kept_rest done_there bounds new_start forward start_after start_before end_before end_after

    abbrev there : Touching
    there = run_after t e last_edit

    start_is : there.start ≡ new_start
    start_is = let p = starts in let q = first_low in let r = from_first.1 in let s = l.0.run.start in omega (arith, p, q, r, s)

    end_is : there.end ≡ new_stop
    end_is = let p = old_end in let q = new_end in let r = l.0.run.end in omega (arith, p, q, r)

    pub ranges_lie : (qs : List FoldRange) → qs ≡ named_ranges g fs (folds_of (slice_range ss t.from t.to)) → All (IsRangeWithin there.start there.end) qs
    ranges_lie qs q =
        subst (λ (xs : List FoldRange). All (IsRangeWithin there.start there.end) xs) (sym (q ∙ named_in_window))
        (subst (λ (i : ℕ). All (IsRangeWithin i there.end) window) (sym start_is) (subst (λ (i : ℕ). All (IsRangeWithin new_start i) window) (sym end_is) window_lies))

    -- no place wraps
    pub places_fit : (t.start ≤ e.old.0) × (e.old.0 - t.start ≤ e.new.0) × (last_edit.old.1 ≤ t.end) × (last_edit.new.1 + (t.end - last_edit.old.1) < 2 ^ 64)
    places_fit =
        let p = starts in
        let q = first_low in
        let r = from_first.1 in
        let s = l.0.run.start in
        let u = stops in
        let o = old_end in
        let z = l.0.run.end in
        let i = end_is in
        let j = done_there.room in
        let bg = d.bytes in
        let tg = d.text_bytes in
        (omega (arith, p, s), omega (arith, p, q, r, s), omega (arith, u, o, z), omega (arith, i, j, bg, tg))

    made_is : made ≡ take t.to ss ++ kept_rest
    made_is =
        v.spans ∙ ap (λ (xs : List Span). xs ++ v.rest) (fronts f ss rs n m stand t.to v.index by_index v.in_spans v.place v.rest v.done)
        ∙ append_assoc (take t.to ss) (slice_range ss t.to v.index) v.rest

    pub spans_fit : (t.to ≤ length made) × (text_sum made + (there.end - there.start) ≤ 2 ^ 42)
    spans_fit =
        let p = ap length made_is ∙ length-append (take t.to ss) kept_rest in
        let q = length-take-le t.to ss l.0.run.within in
        let r = ap text_sum made_is ∙ text_sum-append (take t.to ss) kept_rest in
        let s = done_there.len in
        let u = take_sum ss t.to (length ss) l.0.run.within in
        let z = ap text_sum (take_all (length ss) ss (omega arith)) in
        let o = all_spans in
        let i = end_is in
        let j = done_there.room in
        let bh = b.bytes in
        let th = b.text_bytes in
        let bg = d.bytes in
        let tg = d.text_bytes in
        (omega (arith, p, q), omega (arith, r, s, u, z, o, i, j, bh, th, bg, tg))

    module _ (qs : List FoldRange) (named : qs ≡ named_ranges g fs (folds_of (slice_range ss t.from t.to))) (new : List Span) (again : IsMadeAgain there qs made new) where
      abbrev list : List Span
      list = again.list

      same : qs ≡ window
      same = named ∙ named_in_window

      wide : there.end - there.start ≡ new_stop - new_start
      wide = let p = start_is in let q = end_is in omega (arith, p, q)

      list_marks : marks_of list ≡ marks (map range_of window) new_start (new_stop - new_start)
      list_marks =
          again.marks ∙ ap (λ (xs : List FoldRange). marks (map range_of xs) there.start (there.end - there.start)) same
          ∙ ap (λ (i : ℕ). marks (map range_of window) i (there.end - there.start)) start_is ∙ ap (λ (i : ℕ). marks (map range_of window) new_start i) wide

      list_folds : HaveFolds new_start list window
      list_folds = subst (λ (i : ℕ). HaveFolds i list window) start_is (subst (λ (xs : List FoldRange). HaveFolds there.start list xs) same again.folds)

      new_is : new ≡ take t.from ss ++ (list ++ kept_rest)
      new_is =
          let fits : t.to ≤ length made = spans_fit.0 in
          let fr : take t.to ss ≡ take t.from ss ++ slice_range ss t.from t.to = fronts f ss rs n m stand t.from t.to l.0.run.order l.0.run.within new_stop kept_rest done_there in
          let before : take t.from made ≡ take t.from ss =
          ap (take t.from) (made_is ∙ ap (λ (xs : List Span). xs ++ kept_rest) fr ∙ append_assoc (take t.from ss) (slice_range ss t.from t.to) kept_rest)
          ∙ take_at (take t.from ss) (slice_range ss t.from t.to ++ kept_rest) t.from (length-take-le t.from ss (let p = l.0.run.order in let q = l.0.run.within in omega (arith, p, q))) in
          let after : drop t.to made ≡ kept_rest = ap (drop t.to) made_is ∙ drop_at (take t.to ss) kept_rest t.to (length-take-le t.to ss l.0.run.within) in
          again.spans ∙ spliced made t.from t.to l.0.run.order fits list
          ∙ ap (λ (xs : List Span). xs ++ (list ++ drop t.to made)) before ∙ ap (λ (xs : List Span). take t.from ss ++ (list ++ xs)) after

      done_now : IsDone f ss rs n m stand t.from new_start (list ++ kept_rest)
      done_now = made_more f ss rs n m stand t.from t.to l.0.run.order l.0.run.within new_stop kept_rest done_there bounds new_start forward start_after start_before end_before end_after
          list list_folds list_marks (again.len ∙ wide)

      pub goes_on : Going first new
      goes_on = record {
        within = let p = fewer_left in let q = v.within in omega (arith, p, q);
        index = t.from;
        place = new_start;
        rest = list ++ kept_rest;
        spans = new_is;
        in_spans = let p = l.0.run.order in let q = l.0.run.within in omega (arith, p, q);
        done = done_now;
        kept_to = e.old.0;
        kept = from_first.2;
        low = first_low;
        high = starts;
        there = refl;
        last = elim (at_zero t.from refl) [
          | inr u ↦ inr (inl u)
          | inl u ↦ inl (
            u,
            elim clear [
              | inl z ↦ z
              | inr z ↦ let p : begin ≡ 0 = ap (start_of ss) u in absurd (omega (arith, p, z))
            ],
          )
        ];
        apart = elim clear [
          | inl z ↦ inl z
          | inr z ↦ inr (inr z)
        ];
      }
