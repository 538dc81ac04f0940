-- A character begins with a byte that a version sees where it does in the text in which the byte lies.
use Rattle.std.proofs.Common.{◌≡◌, ℕ, suc, ◌+◌, ◌-◌, ◌<◌, ◌≤◌, ◌^◌, ◌↔◌, IsTrue, ◌==◌, List, ◌∷◌, ◌++◌, length, take, drop, take-append-drop, get_or, refl, sym, ap, ◌∙◌, subst, arith, true, false, ◌||◌, ◌&&◌, Bool, ltb, leb, Option, Some, None}
use Rattle.std.specs.List.{AllByRecursion, slice_get}
use Rattle.std.specs.Str.{IsCharBoundary}
use Rattle.std.proofs.lemmas.Bool.{le-leb}
use Rattle.std.proofs.lemmas.Bool.Decides.{nat_tests}
use Rattle.std.proofs.lemmas.List.{map-append}
use Rattle.sum_tree.specs.Laws.{fold}
use Rattle.tree_cursor.specs.Places.{place_behind, seek_count}
use Rattle.tree_cursor.specs.Counting.{number_passes}
use Rattle.tree_cursor.specs.declared.traits.Bias.TheVariants.{Right}
use Rattle.lamport_clock.specs.Versions.{Entries}
use Rattle.op_model.specs.Histories.{History, seen_history}
use Rattle.op_model.specs.Shown.{full, text, hidden_text, new_bytes}
use Rattle.op_model.specs.Walked.{IsWhole}
use Rattle.op_model.specs.Edits.{is_boundary}
use Rattle.op_model.specs.Lawful.{Lawful, IsClosed}
use Rattle.op_model.proofs.answers.Good.{lawful_ready}
use Rattle.op_model.proofs.Elements.{each_right}
use Rattle.op_model.proofs.texts.WholeRuns.{byte_new}
use Rattle.op_model.proofs.texts.WholeTexts.{byte_of, boundary_is, boundary_of, same_byte}
use Rattle.fragments.specs.declared.fragment.Fragment.{Fragment}
use Rattle.fragments.specs.Summaries.{no_fragments, summaries, summary_of, SummaryFits}
use Rattle.fragments.specs.Stand.{Tell, runs, run_of}
use Rattle.fragments.specs.Laws.{shown_len, cells_len}
use Rattle.fragments.proofs.Cells.{shown_append_len, seen_full}
use Rattle.fragments.proofs.Counts.{cells_len-append}
use Rattle.remote_edit.specs.Walk.{seen_bytes}
use Rattle.remote_edit.specs.Passed.{SeenPlace, move_passed, move_seen}
use Rattle.remote_edit.specs.Starts.{AllSeen}
use Rattle.remote_edit.specs.Carried.{shown_bytes, hidden_bytes, hidden_len}
use Rattle.remote_edit.proofs.Passing.{seen_cons, seen_append, seen_own, seen_within}
use Rattle.remote_edit.proofs.PassedPlaces.{seek_seen, seen_behind, passed_behind, hidden_append_len, whole_sum, all_cells}
use Rattle.remote_edit.proofs.Starts.{seen_all}
use Rattle.remote_edit.proofs.Unasked.{stop_unasked, stop_passed}
use Rattle.remote_edit.proofs.Texts.{text_bytes, hidden_text_bytes}
use Rattle.remote_edit.proofs.Carrying.{shown_long, hidden_long}
use Rattle.seen_text.specs.Lies.{Lies, IsFound}
use Rattle.seen_text.proofs.Found.{sought, Found, found, Ended, ended}
use Rattle.seen_text.proofs.Bytes.{cell_at, seen_in, seen_long, seen_at, shown_at, hidden_at}

abbrev pub start : Entries → SeenPlace
start v = (((v, 0), 0), 0)

abbrev pub count : Entries → List Fragment → ℕ → ℕ
count v fs place = seek_count move_seen summary_of (λ p. number_passes place p.0.0.1 Right) (start v) fs

module _ (v : Entries) (fs : List Fragment) (place : ℕ) where
  abbrev gone : List Fragment
  gone = take (sought v place 0 fs) fs

  -- what a seek tells that stops where one by the cells that the version sees does
  told : (o : Option Fragment) (b a d : ℕ) → o ≡ slice_get fs (sought v place 0 fs) → b ≡ seen_bytes v gone → a ≡ shown_len gone → d ≡ hidden_len gone → IsFound v fs place o b a d
  told (Some f) b a d i x y z =
      let o : Found v place 0 fs f (sought v place 0 fs) = found v place 0 fs f (omega arith) (sym i) in
      let l = o.low in
      let h = o.high in
      record {
        pre = gone;
        post = drop (suc (sought v place 0 fs)) fs;
        parts = o.parts;
        seen = o.seen;
        low = omega (arith, x, l);
        high = omega (arith, x, h);
        bytes_before = x;
        shown_before = y;
        hidden_before = z;
      }
  told None b a d i x y z =
      let o : Ended v place 0 fs (sought v place 0 fs) = ended v place 0 fs (omega arith) (sym i) in
      let q : b ≡ seen_bytes v fs = x ∙ ap (seen_bytes v) o.all in
      let l = o.low in
      (q, omega (arith, q, l))

  drop_zero : (m n : ℕ) → m ≡ 0 + n → m ≡ n
  drop_zero m n e = omega (arith, e)

  same_count : count v fs place ≡ sought v place 0 fs
  same_count = seek_seen (λ p. number_passes place p.1 Right) (v, 0) 0 0 fs

  -- one that asks the version at each sum
  pub found_asked : (o : Option Fragment) (w : Entries) (b a d : ℕ) → o ≡ slice_get fs (count v fs place)
      → (((w, b), a), d) ≡ place_behind move_seen summary_of (start v) (take (count v fs place) fs) → IsFound v fs place o b a d
  found_asked o w b a d i e =
      let g : (((w, b), a), d) ≡ (((v, 0 + seen_bytes v gone), 0 + shown_len gone), 0 + hidden_len gone) = e ∙ ap (λ (k : ℕ). place_behind move_seen summary_of (start v) (take k fs)) same_count ∙ seen_behind v 0 0 0 gone in
      told o b a d (i ∙ ap (slice_get fs) same_count)
      (drop_zero b (seen_bytes v gone) (ap (λ (q : SeenPlace). q.0.0.1) g))
      (drop_zero a (shown_len gone) (ap (λ (q : SeenPlace). q.0.1) g))
      (drop_zero d (hidden_len gone) (ap (λ (q : SeenPlace). q.1) g))

  abbrev pub plain_count : ℕ
  plain_count = seek_count move_passed summary_of (λ p. number_passes place (p.0 + p.1) Right) (0, 0) fs

  passed_cells : (a d k : ℕ) → (a, d) ≡ place_behind move_passed summary_of (0, 0) (take k fs) → (a ≡ shown_len (take k fs)) × (d ≡ hidden_len (take k fs))
  passed_cells a d k e =
      let g : (a, d) ≡ (0 + shown_len (take k fs), 0 + hidden_len (take k fs)) = e ∙ passed_behind 0 0 (take k fs) in
      (drop_zero a (shown_len (take k fs)) (ap (λ (q : ℕ × ℕ). q.0) g), drop_zero d (hidden_len (take k fs)) (ap (λ (q : ℕ × ℕ). q.1) g))

  -- one that counts all cells, where the version sees them all
  pub found_unasked : AllSeen v fs → (o : Option Fragment) (a d : ℕ) → o ≡ slice_get fs plain_count → (a, d) ≡ place_behind move_passed summary_of (0, 0) (take plain_count fs) → IsFound v fs place o (a + d) a d
  found_unasked h o a d i e =
      let stops : ℕ → Bool = λ (n : ℕ). number_passes place n Right in
      let k : plain_count ≡ sought v place 0 fs = stop_passed stops 0 0 fs ∙ stop_unasked v stops 0 fs h in
      let g = passed_cells a d (sought v place 0 fs) (e ∙ ap (λ (m : ℕ). place_behind move_passed summary_of (0, 0) (take m fs)) k) in
      let x = g.0 in
      let y = g.1 in
      let c = all_cells gone in
      let s = seen_all v (sought v place 0 fs) fs h in
      told o (a + d) a d (i ∙ ap (slice_get fs) k) (omega (arith, x, y, c, s)) x y

  -- which are counted in a u64
  pub passed_room : SummaryFits (fold no_fragments summaries summary_of fs) → (a d : ℕ) → (a, d) ≡ place_behind move_passed summary_of (0, 0) (take plain_count fs) → a + d < 2 ^ 64
  passed_room h a d e =
      let g = passed_cells a d plain_count e in
      let x = g.0 in
      let y = g.1 in
      let c = all_cells (take plain_count fs) in
      let t : cells_len fs ≡ cells_len (take plain_count fs) + cells_len (drop plain_count fs) = ap cells_len (sym (take-append-drop plain_count fs)) ∙ cells_len-append (take plain_count fs) (drop plain_count fs) in
      let w = whole_sum fs in
      let m = w.0 in
      let n = w.1 in
      let q = all_cells fs in
      omega (arith, x, y, c, t, m, n, q, h)

-- ---- sums

pub fewer : (v : Entries) (fs : List Fragment) → SummaryFits (fold no_fragments summaries summary_of fs) → seen_bytes v fs < 2 ^ 64
fewer v fs h = let a = (whole_sum fs).0 in let b = (whole_sum fs).1 in let c = all_cells fs in let d = seen_within v fs in omega (arith, a, b, c, d, h)

module _ (v : Entries) (fs : List Fragment) (place : ℕ) (f : Fragment) (b a d : ℕ) (w : Lies v fs place f b a d) where
  pub shown_more : f.visible ≡ true → a + (place - b) < shown_len fs
  shown_more u =
      let x = w.shown_before in
      let y = w.low in
      let z = w.high in
      let n : shown_len fs ≡ shown_len w.pre + shown_len (f ∷ w.post) = ap shown_len w.parts ∙ shown_append_len w.pre (f ∷ w.post) in
      let m : shown_len (f ∷ w.post) ≡ f.len + shown_len w.post = rw u refl in
      omega (arith, x, y, z, n, m)

  pub hidden_more : f.visible ≡ false → d + (place - b) < hidden_len fs
  hidden_more u =
      let x = w.hidden_before in
      let y = w.low in
      let z = w.high in
      let n : hidden_len fs ≡ hidden_len w.pre + hidden_len (f ∷ w.post) = ap hidden_len w.parts ∙ hidden_append_len w.pre (f ∷ w.post) in
      let m : hidden_len (f ∷ w.post) ≡ f.len + hidden_len w.post = rw u refl in
      omega (arith, x, y, z, n, m)

pub shown_fits : (fs : List Fragment) → SummaryFits (fold no_fragments summaries summary_of fs) → (n : ℕ) → n < shown_len fs → n < 2 ^ 64
shown_fits fs h n l = let e = (whole_sum fs).0 in omega (arith, e, h, l)

pub hidden_fits : (fs : List Fragment) → SummaryFits (fold no_fragments summaries summary_of fs) → (n : ℕ) → n < hidden_len fs → n < 2 ^ 64
hidden_fits fs h n l = let e = (whole_sum fs).1 in omega (arith, e, h, l)

-- ---- the answer

module _ (h : History) (v : Entries) (fs : List Fragment) (t : Tell fs h) (l : Lawful h) (c : IsClosed h v) where
  pub seen_len_is : seen_bytes v fs ≡ length (full (seen_history h v))
  seen_len_is = seen_long (byte_of h) v fs ∙ ap length (seen_full h v fs t l c)

  module _ (place : ℕ) (f : Fragment) (b a d : ℕ) (w : Lies v fs place f b a d) where
    in_seen : (seen_bytes v w.pre + (place - b) < length (seen_in (byte_of h) v fs)) × (seen_bytes v w.pre + (place - b) ≡ place) × (place - b < f.len)
    in_seen =
        let x = w.bytes_before in
        let y = w.low in
        let z = w.high in
        let n : seen_bytes v fs ≡ seen_bytes v w.pre + seen_bytes v (f ∷ w.post) = ap (seen_bytes v) w.parts ∙ seen_append v w.pre (f ∷ w.post) in
        let m = seen_cons v f w.post in
        let o = seen_own v f w.seen in
        let k = seen_long (byte_of h) v fs in
        (omega (arith, x, y, z, n, m, o, k), omega (arith, x, y), omega (arith, y, z))

    -- from a text with the same byte
    from_text : (xs : List ℕ) (i : ℕ) → i < length xs → get_or xs i 0 ≡ get_or (seen_in (byte_of h) v fs) (seen_bytes v w.pre + (place - b)) 0 → is_boundary xs i ≡ is_boundary (full (seen_history h v)) place
    from_text xs i r e =
        let k = in_seen in
        same_byte xs (seen_in (byte_of h) v fs) i (seen_bytes v w.pre + (place - b)) r k.0 e
        ∙ ap (λ (z : List ℕ). is_boundary z (seen_bytes v w.pre + (place - b))) (seen_full h v fs t l c)
        ∙ ap (is_boundary (full (seen_history h v))) k.1

    -- a character begins with a fragment that begins and ends between characters
    pub at_first : AllByRecursion (IsWhole h) (runs fs) → b ≡ place → true ≡ is_boundary (full (seen_history h v)) place
    unfolding cell_at
    at_first u e =
        let k = in_seen in
        let i : ℕ = place - b in
        let q : f.offset ≡ f.offset + i = omega (arith, e) in
        let x : IsWhole h (run_of f) = (each_right (IsWhole h) (runs w.pre) (runs (f ∷ w.post))
        (subst (AllByRecursion (IsWhole h)) (ap runs w.parts ∙ map-append run_of w.pre (f ∷ w.post)) u)).0 in
        let n = (boundary_of (new_bytes h f.stamp) (f.offset + f.len) x.1).0 in
        let z = w.high in
        let r : get_or (new_bytes h f.stamp) f.offset 0 ≡ get_or (seen_in (byte_of h) v fs) (seen_bytes v w.pre + i) 0 =
        sym (byte_new h (lawful_ready h l).0.distinct f.stamp f.offset) ∙ ap (λ (m : ℕ). byte_of h (record { stamp = f.stamp; k = m })) q
        ∙ sym (seen_at (byte_of h) v w.pre w.post f i k.2 w.seen)
        ∙ sym (ap (λ (z : List Fragment). get_or (seen_in (byte_of h) v z) (seen_bytes v w.pre + i) 0) w.parts) in
        sym x.0 ∙ from_text (new_bytes h f.stamp) f.offset (omega (arith, n, z, e)) r

    pub in_shown : (s : List ℕ) (r : Bool) → s ≡ text h → f.visible ≡ true → (IsTrue r ↔ IsCharBoundary s (a + (place - b))) → r ≡ is_boundary (full (seen_history h v)) place
    in_shown s r e u q =
        let k = in_seen in
        let i : ℕ = place - b in
        let x = w.shown_before in
        let e2 : shown_bytes (byte_of h) fs ≡ s = text_bytes h fs t ∙ sym e in
        let n = shown_more v fs place f b a d w u in
        let j = shown_long (byte_of h) fs in
        let g : length (shown_bytes (byte_of h) fs) ≡ length s = ap length e2 in
        let o : a + i ≡ shown_len w.pre + i = omega (arith, x) in
        let r1 : get_or s (a + i) 0 ≡ get_or (seen_in (byte_of h) v fs) (seen_bytes v w.pre + i) 0 =
        ap (λ (z : List ℕ). get_or z (a + i) 0) (sym e2) ∙ ap (λ (n : ℕ). get_or (shown_bytes (byte_of h) fs) n 0) o
        ∙ ap (λ (z : List Fragment). get_or (shown_bytes (byte_of h) z) (shown_len w.pre + i) 0) w.parts
        ∙ shown_at (byte_of h) v w.pre w.post f i k.2 u ∙ sym (seen_at (byte_of h) v w.pre w.post f i k.2 w.seen)
        ∙ sym (ap (λ (z : List Fragment). get_or (seen_in (byte_of h) v z) (seen_bytes v w.pre + i) 0) w.parts) in
        boundary_is s (a + i) r q ∙ from_text s (a + i) (omega (arith, n, j, g)) r1

    pub in_hidden : (s : List ℕ) (r : Bool) → s ≡ hidden_text h → f.visible ≡ false → (IsTrue r ↔ IsCharBoundary s (d + (place - b))) → r ≡ is_boundary (full (seen_history h v)) place
    in_hidden s r e u q =
        let k = in_seen in
        let i : ℕ = place - b in
        let x = w.hidden_before in
        let e2 : hidden_bytes (byte_of h) fs ≡ s = hidden_text_bytes h fs (lawful_ready h l).0.distinct t ∙ sym e in
        let n = hidden_more v fs place f b a d w u in
        let j = hidden_long (byte_of h) fs in
        let g : length (hidden_bytes (byte_of h) fs) ≡ length s = ap length e2 in
        let o : d + i ≡ hidden_len w.pre + i = omega (arith, x) in
        let r1 : get_or s (d + i) 0 ≡ get_or (seen_in (byte_of h) v fs) (seen_bytes v w.pre + i) 0 =
        ap (λ (z : List ℕ). get_or z (d + i) 0) (sym e2) ∙ ap (λ (n : ℕ). get_or (hidden_bytes (byte_of h) fs) n 0) o
        ∙ ap (λ (z : List Fragment). get_or (hidden_bytes (byte_of h) z) (hidden_len w.pre + i) 0) w.parts
        ∙ hidden_at (byte_of h) v w.pre w.post f i k.2 u ∙ sym (seen_at (byte_of h) v w.pre w.post f i k.2 w.seen)
        ∙ sym (ap (λ (z : List Fragment). get_or (seen_in (byte_of h) v z) (seen_bytes v w.pre + i) 0) w.parts) in
        boundary_is s (d + i) r q ∙ from_text s (d + i) (omega (arith, n, j, g)) r1

  pub at_end : (place n : ℕ) → n ≡ seen_bytes v fs → n ≤ place → (place == n) ≡ is_boundary (full (seen_history h v)) place
  at_end place n e o =
      let k : n ≡ length (full (seen_history h v)) = e ∙ seen_len_is in
      let g : leb (length (full (seen_history h v))) place ≡ true = le-leb (length (full (seen_history h v))) place (omega (arith, k, o)) in
      ap (λ (m : ℕ). place == m) k ∙ exact (length (full (seen_history h v))) (get_or (full (seen_history h v)) place 0) g
    where
      exact : (m y : ℕ) → leb m place ≡ true → (place == m) ≡ (leb place m && (leb m place || (ltb y 128 || leb 192 y)))
      exact m y g = grind (arith, nat_tests)
