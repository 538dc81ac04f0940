-- One walk over fragments, which goes over those of which the version has seen all in one step.
use Rattle.std.proofs.Common.{◌≡◌, ℕ, zero, suc, ◌+◌, ◌-◌, ◌<◌, ◌≤◌, ◌^◌, Bool, true, false, cond, List, [], ◌∷◌, ◌++◌, length, refl, sym, ap, ◌∙◌, arith, subst, Some, None, append_assoc, append-nil, ne_eqb}
use Rattle.std.specs.List.{AllByRecursion, slice_get}
use Rattle.sum_tree.specs.Laws.{fold}
use Rattle.lamport_clock.specs.Versions.{Entries}
use Rattle.op_model.specs.declared.anchor.TextEdit.{TextEdit}
use Rattle.op_model.proofs.Elements.{each_left, each_right}
use Rattle.op_model.specs.Since.{Fate, fate, runs, edits_of}
use Rattle.op_model.specs.Since.Fate.{Kept}
use Rattle.undo_map.specs.declared.entry.UndoEntry.{UndoEntry}
use Rattle.fragments.specs.declared.fragment.Fragment.{Fragment}
use Rattle.fragments.specs.declared.fragment.FragmentSummary.{FragmentSummary}
use Rattle.fragments.specs.Summaries.{no_fragments, summaries, summary_of, SummaryFits}
use Rattle.fragments.specs.Laws.{shown_len}
use Rattle.fragments.proofs.Cells.{one_shown, shown_append_len}
use Rattle.remote_edit.specs.declared.passed.Passed.{Passed}
use Rattle.remote_edit.specs.Carried.{hidden_len}
use Rattle.remote_edit.proofs.PassedPlaces.{hidden_append_len, whole_sum}
use Rattle.remote_edit.proofs.Finding.{Cursor, IsNext, IsPast, Stands, Unkept, find, find_end, nothing_passed, over, place_at, stands_first}
use Rattle.edits_since.specs.declared.open_run.OpenRun.{OpenRun}
use Rattle.edits_since.specs.Fates.{was_in_text, alike, fates_of}
use Rattle.edits_since.specs.Differs.{may_differ}
use Rattle.edits_since.specs.Opened.{at_start, all_edits, old_end, new_end, with_kept, with_bytes}
use Rattle.edits_since.proofs.Runs.{edits_on, with_fates, over_kept, over_bytes, from_start, at_end, Same, same_after, alike_more, never_on}

-- a fragment of which v has seen all was in its text where it is shown now
abbrev pub IsSettled : List UndoEntry → Entries → Fragment → Type 0
IsSettled u v f = may_differ v (summary_of f) ≡ false → was_in_text u v f ≡ f.visible

abbrev pub total : List Fragment → ℕ
total fs = shown_len fs + hidden_len fs

total_append : (xs ys : List Fragment) → total (xs ++ ys) ≡ total xs + total ys
total_append xs ys = let a = shown_append_len xs ys in let b = hidden_append_len xs ys in omega (arith, a, b)

one_len : (x : Fragment) (ys : List Fragment) → total (x ∷ ys) ≡ x.len + total ys
one_len x ys = go x.visible
  where
    go : (b : Bool) → cond b (x.len + shown_len ys) (shown_len ys) + cond b (hidden_len ys) (x.len + hidden_len ys) ≡ x.len + total ys
    go true = omega arith
    go false = omega arith

pub total_fits : (fs : List Fragment) → SummaryFits (fold no_fragments summaries summary_of fs) → total fs < 2 ^ 64
total_fits fs f = let k = whole_sum fs in let a = k.0 in let b = k.1 in omega (arith, a, b, f)

-- where the ends of a run are, a step on
kept_ends : (n : ℕ) (r : OpenRun) → (old_end (with_kept n r) ≡ old_end r + n) × (new_end (with_kept n r) ≡ new_end r + n)
kept_ends zero r = (omega arith, omega arith)
kept_ends (suc n) r = rw (ne_eqb (suc n) 0 (λ q. absurd (omega arith))) (omega arith, omega arith)

passed_ends : (n : ℕ) (was is : Bool) (r : OpenRun) → (old_end (with_bytes n was is r) ≤ old_end r + n) × (new_end (with_bytes n was is r) ≡ new_end r + cond is n 0)
passed_ends n true true r = let k = kept_ends n r in let a = k.0 in let b = k.1 in (omega (arith, a), b)
passed_ends n true false r = (omega arith, omega arith)
passed_ends n false true r = (omega arith, omega arith)
passed_ends n false false r = (omega arith, omega arith)

module _ (u : List UndoEntry) (v : Entries) where
  abbrev f_of : List Fragment → List Fate
  f_of fs = fates_of u v fs

  fates_append : (xs ys : List Fragment) → f_of (xs ++ ys) ≡ f_of xs ++ f_of ys
  fates_append [] ys = refl
  fates_append (x ∷ xs) ys = ap (λ (z : List Fate). alike x.len (fate (was_in_text u v x) x.visible) ++ z) (fates_append xs ys)
      ∙ sym (append_assoc (alike x.len (fate (was_in_text u v x) x.visible)) (f_of xs) (f_of ys))

  -- what is gone over in one step counts as its shown cells, all kept
  same_over : (xs : List Fragment) (s : List Fate) → AllByRecursion (Unkept (may_differ v) summary_of) xs → AllByRecursion (IsSettled u v) xs → Same (f_of xs ++ s) (alike (shown_len xs) Kept ++ s)
  same_over [] s n e = λ old new g m. refl
  same_over (x ∷ xs) s n e = λ old new g m.
      ap (λ (z : List Fate). edits_on old new g m z) (append_assoc (alike x.len (fate (was_in_text u v x) x.visible)) (f_of xs) s)
      ∙ ap (λ (b : Bool). edits_on old new g m (alike x.len (fate b x.visible) ++ (f_of xs ++ s))) (e.0 n.0)
      ∙ go x.visible (same_over xs s n.1 e.1) old new g m
    where
      go : (b : Bool) → Same (f_of xs ++ s) (alike (shown_len xs) Kept ++ s) → Same (alike x.len (fate b b) ++ (f_of xs ++ s)) (alike (cond b (x.len + shown_len xs) (shown_len xs)) Kept ++ s)
      go true ih old new g m = same_after x.len Kept (f_of xs ++ s) (alike (shown_len xs) Kept ++ s) ih old new g m
          ∙ ap (λ (z : List Fate). edits_on old new g m z) (alike_more x.len (shown_len xs) Kept s)
      go false ih old new g m = never_on x.len old new g m (f_of xs ++ s) ∙ ih old new g m

-- ---- the walk

module _ {K : Type 0} (keeps : K → FragmentSummary → Bool) (u : List UndoEntry) (v : Entries) (fs : List Fragment) where
  -- the edits of the fragments before the cursor's place, and those to come
  pub record Walking (r : OpenRun) (a : Cursor K) (at : Passed) : Type 0 where
    pub pre : List Fragment
    pub rest : List Fragment
    pub stands : Stands keeps (may_differ v) fs pre rest a at
    pub old_low : old_end r ≤ total pre
    pub new_low : new_end r ≡ shown_len pre
    pub edits : AllByRecursion (IsSettled u v) fs → with_fates r (fates_of u v rest) ≡ edits_of 0 0 (runs (fates_of u v fs))

  pub begin : (k : K) (r : OpenRun) (a : Cursor K) → keeps k ≡ may_differ v → r ≡ at_start → a ≡ record { items = fs; from = nothing_passed; keep = k; given = 0; next = 0 } → Walking r a nothing_passed
  begin k r a w e f = record {
    pre = [];
    rest = fs;
    stands = stands_first keeps (may_differ v) fs k a w f;
    old_low = let q = ap old_end e in omega (arith, q);
    new_low = let q = ap new_end e in omega (arith, q);
    edits = λ z. ap (λ (x : OpenRun). with_fates x (fates_of u v fs)) e ∙ from_start (fates_of u v fs);
  }

  module _ (fits : SummaryFits (fold no_fragments summaries summary_of fs)) (r : OpenRun) (a b : Cursor K) (at s : Passed) (p : Walking r a at) (m : IsNext keeps a b) (e : (s.visible, s.hidden) ≡ place_at b b.given) where
    abbrev kept : ℕ
    kept = s.visible - at.visible

    -- a stretch that is gone over: the bytes up to s are kept
    record Over (xs ys : List Fragment) : Type 0 where
      old_room : old_end r + kept + total ys < 2 ^ 64
      new_room : new_end r + kept + total ys < 2 ^ 64
      old_low : old_end r + kept ≤ total (p.pre ++ xs)
      new_low : new_end r + kept ≡ shown_len (p.pre ++ xs)
      edits : AllByRecursion (IsSettled u v) fs → with_fates (with_kept kept r) (fates_of u v ys) ≡ edits_of 0 0 (runs (fates_of u v fs))

    stretch : (xs ys : List Fragment) → p.rest ≡ xs ++ ys → AllByRecursion (Unkept (may_differ v) summary_of) xs → IsPast at s xs → Over xs ys
    stretch xs ys w n o =
        let q = shown_append_len p.pre xs in let l = hidden_append_len p.pre xs in
        let t = total_fits fs fits in
        let z : total fs ≡ total p.pre + total (xs ++ ys) = ap total p.stands.whole ∙ total_append p.pre p.rest ∙ ap (λ (k : List Fragment). total p.pre + total k) w in
        let y = total_append xs ys in
        let i = p.old_low in let j = p.new_low in
        let x : kept ≡ shown_len xs = o.shown_is in
        record {
          old_room = omega (arith, t, z, y, i, x);
          new_room = omega (arith, t, z, y, j, x);
          old_low = omega (arith, i, x, q, l);
          new_low = omega (arith, j, x, q);
          edits = λ k.
              let m : AllByRecursion (IsSettled u v) xs = each_left (IsSettled u v) xs ys (subst (AllByRecursion (IsSettled u v)) w (each_right (IsSettled u v) p.pre p.rest (subst (AllByRecursion (IsSettled u v)) p.stands.whole k))) in
              over_kept kept r (fates_of u v ys)
              ∙ ap (λ (c : ℕ). with_fates r (alike c Kept ++ fates_of u v ys)) x
              ∙ ap (λ (c : List TextEdit). r.edits ++ c) (sym (same_over u v xs (fates_of u v ys) n m r.old_start r.new_start r.gone r.fresh))
              ∙ ap (with_fates r) (sym (fates_append u v xs ys) ∙ ap (fates_of u v) (sym w)) ∙ p.edits k;
        }

    -- the fragment x comes next, and starts at s
    pub record Step (x : Fragment) : Type 0 where
      pub low : at.visible ≤ s.visible
      pub old_room : old_end r + kept + x.len < 2 ^ 64
      pub new_room : new_end r + kept + x.len < 2 ^ 64
      pub smaller : length fs - b.next < length fs - a.next
      pub on : (r2 : OpenRun) (q : Passed) → r2 ≡ with_bytes x.len (was_in_text u v x) x.visible (with_kept kept r) → (q.visible, q.hidden) ≡ place_at b b.next → Walking r2 b q

    pub step : (x : Fragment) → slice_get a.items (a.next + over keeps a) ≡ Some x → Step x
    step x g =
        let k = find keeps (may_differ v) fs p.pre p.rest a b at p.stands m x s g e in
        let before : List Fragment = p.pre ++ k.xs in
        let y = stretch k.xs (x ∷ k.ahead) k.parts k.unkept k.skipped in
        let first = kept_ends kept r in
        let ends = passed_ends x.len (was_in_text u v x) x.visible (with_kept kept r) in
        let long = one_len x k.ahead in let c = y.old_room in let d = y.new_room in
        record {
          low = k.skipped.low;
          old_room = omega (arith, c, long);
          new_room = omega (arith, d, long);
          smaller = k.smaller;
          on = λ r2 q f o. record {
            pre = before ++ x ∷ [];
            rest = k.ahead;
            stands = k.on q o;
            old_low = let i = ap old_end f in let n = ends.0 in let j = first.0 in let l = y.old_low in let g1 = total_append before (x ∷ []) in let g2 = one_len x [] in omega (arith, i, n, j, l, g1, g2);
            new_low = let i = ap new_end f in let n = ends.1 in let j = first.1 in let l = y.new_low in let g1 = shown_append_len before (x ∷ []) in let g2 = one_shown x in omega (arith, i, n, j, l, g1, g2);
            edits = λ n. ap (λ (c : OpenRun). with_fates c (fates_of u v k.ahead)) f ∙ over_bytes x.len (was_in_text u v x) x.visible (with_kept kept r) (fates_of u v k.ahead) ∙ y.edits n;
          };
        }

    -- no further one comes, and all end at s
    pub record End : Type 0 where
      pub low : at.visible ≤ s.visible
      pub old_room : old_end r + kept < 2 ^ 64
      pub new_room : new_end r + kept < 2 ^ 64
      pub edits : (r1 : OpenRun) → r1 ≡ with_kept kept r → AllByRecursion (IsSettled u v) fs → all_edits r1 ≡ edits_of 0 0 (runs (fates_of u v fs))

    pub end : slice_get a.items (a.next + over keeps a) ≡ None → End
    end g =
        let k = find_end keeps (may_differ v) fs p.pre p.rest a b at p.stands m s g e in
        let y = stretch p.rest [] (sym (append-nil p.rest)) k.unkept k.skipped in
        let c = y.old_room in let d = y.new_room in
        record {
          low = k.skipped.low;
          old_room = omega (arith, c);
          new_room = omega (arith, d);
          edits = λ r1 f z. ap all_edits f ∙ at_end (with_kept kept r) ∙ y.edits z;
        }
