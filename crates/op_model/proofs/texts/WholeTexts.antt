-- The cells of a lawful history with UTF-8 texts are runs of UTF-8.
use Rattle.std.proofs.Common.{◌≡◌, ℕ, zero, suc, ◌+◌, ◌<◌, ◌≤◌, ◌⊎◌, Bool, List, [], ◌∷◌, ◌++◌, length, map, get_or, refl, sym, ◌∙◌, ap, subst, inl, inr, true, false, cond, ◌&&◌, ◌||◌, leb, ltb, arith, append_assoc, IsTrue, ◌↔◌}
use Rattle.std.specs.Prelude.{IsUtf8, IsCharBoundary}
use Rattle.std.specs.List.{AllByRecursion, filter}
use Rattle.std.proofs.lemmas.Bool.{cases_Bool, leb-true, le-leb, ltb-true, or_cases, and_parts, lt-ltb, cases_lt, not-false, lt-leb, false_from_ne_true, false≢true, or_right}
use Rattle.std.proofs.lemmas.List.{length-append, append-nil}
use Rattle.lamport_clock.specs.declared.stamp.Lamport.{Lamport}
use Rattle.lamport_clock.specs.Stamps.{later}
use Rattle.lamport_clock.specs.Versions.{sees}
use Rattle.lamport_clock.proofs.Sees.{passed_unseen}
use Rattle.op_model.specs.declared.operation.Piece.{Piece}
use Rattle.op_model.specs.declared.operation.Operation.{Operation}
use Rattle.op_model.specs.Operations.{stamp_of, version_of, pieces_of, is_edit}
use Rattle.op_model.specs.Histories.{by_stamp, History, In, Distinct, base, newest_first, seen_history, kept_history}
use Rattle.op_model.specs.Edits.{is_boundary, is_inside}
use Rattle.op_model.specs.Cells.{Cell, PathCell, everything, seq_where, seq, cells, text_places}
use Rattle.op_model.specs.Laid.{only, lay}
use Rattle.op_model.specs.Shown.{deleters_where, texts, byte, shows, shows_where, text, text_where, full, full_where, visible_by}
use Rattle.op_model.specs.Facts.{Fact, fact, cell_facts, alike, Marking, edit_marking}
use Rattle.op_model.specs.Walked.{Run, run_facts, facts_of, walk}
use Rattle.op_model.specs.Answers.{answer}
use Rattle.op_model.specs.Answers.Answer.{Good}
use Rattle.op_model.specs.Lawful.{Lawful, LawfulFrom}
use Rattle.op_model.proofs.order.Restricted.{restrict}
use Rattle.op_model.proofs.order.SameSets.{Desc, newest_desc, newest_same}
use Rattle.op_model.proofs.histories.OneMore.{Fits, one_more, none_yet}
use Rattle.op_model.proofs.shown.Bytes.{full_seen}
use Rattle.op_model.proofs.answers.Passed.{passed, ranged}
use Rattle.op_model.proofs.answers.Good.{Ready, base_fits, ready_base, checked_of, fits_of, good_more}
use Rattle.op_model.proofs.order.Unique.{unlike}
use Rattle.op_model.proofs.order.CellsOnce.{From, all_from, bytes_of_one}
use Rattle.op_model.proofs.answers.Counted.{lawful_counted, Counted, counted_more, good_ordered}
use Rattle.op_model.proofs.shown.UndoTold.{fact_anew, undo_told}
use Rattle.op_model.proofs.shown.OnePass.{walk_told}
use Rattle.op_model.proofs.texts.Utf8Runs.{bytes_alike, bytes, kept_bytes, Utf8, NewUtf8, walk_utf8, facts_all, facts_shown, facts_kept, utf8_all, utf8_shown}
use Rattle.op_model.proofs.Elements.{each_left, each_right, each_map, member_left, member_right}

-- the bytes of a history's cells
abbrev pub byte_of : History → Cell → ℕ
byte_of h c = byte (newest_first h) c

pub full_told : (h : History) → full h ≡ bytes (byte_of h) (cell_facts h)
unfolding full full_where seq
full_told h = go (cells (seq_where everything (newest_first h)))
  where
    go : (s : List Cell) → map (byte (newest_first h)) s ≡ bytes (byte_of h) (map (fact h) s)
    go [] = refl
    go (c ∷ s) = ap (λ z. byte (newest_first h) c ∷ z) (go s)

pub text_told : (h : History) → text h ≡ bytes (byte_of h) (filter (λ (q : Fact). q.visible) (cell_facts h))
unfolding text text_where shows seq
text_told h = go (cells (seq_where everything (newest_first h)))
  where
    go : (s : List Cell) → map (byte (newest_first h)) (filter (shows_where everything (newest_first h)) s) ≡ bytes (byte_of h) (filter (λ (q : Fact). q.visible) (map (fact h) s))
    go [] = refl
    go (c ∷ s) = pick (shows_where everything (newest_first h) c) (go s)
      where
        pick : (b : Bool) → map (byte (newest_first h)) (filter (shows_where everything (newest_first h)) s) ≡ bytes (byte_of h) (filter (λ (q : Fact). q.visible) (map (fact h) s))
            → map (byte (newest_first h)) (cond b (c ∷ filter (shows_where everything (newest_first h)) s) (filter (shows_where everything (newest_first h)) s))
            ≡ bytes (byte_of h) (cond b (fact h c ∷ filter (λ (q : Fact). q.visible) (map (fact h) s)) (filter (λ (q : Fact). q.visible) (map (fact h) s)))
        pick true e = ap (λ z. byte (newest_first h) c ∷ z) e
        pick false e = e

pub kept_told : (h : History) (keep : Lamport → Bool) (s : List PathCell) → bytes (byte_of h) (filter (λ (q : Fact). keep q.cell.stamp) (map (fact h) (cells s))) ≡ map (byte_of h) (cells (only keep s))
kept_told h keep [] = refl
kept_told h keep (p ∷ s) = elim (cases_Bool (keep p.cell.stamp)) [
  | inl e ↦ rw e (ap (λ z. byte_of h p.cell ∷ z) (kept_told h keep s))
  | inr e ↦ rw e (kept_told h keep s)
]

pub desc_distinct : (h : History) → Desc h → Distinct h
desc_distinct [] d = tt
desc_distinct (o ∷ h) d = (unlike o h d.0, desc_distinct h d.1)

-- the byte of a cell of an operation of h
pub byte_is : (h : History) → Distinct h → (o : Operation) → In h o → (k : ℕ) → byte_of h (record { stamp = stamp_of o; k = k }) ≡ get_or (texts (pieces_of o)) k 0
byte_is h d o i k = ap (λ (x : List ℕ). get_or x k 0) (bytes_of_one (newest_first h) o (desc_distinct (newest_first h) (newest_desc h d)) ((newest_same h o).1 i))

pub in_last : (h : History) (op : Operation) → In (h ++ op ∷ []) op
in_last h op = member_right op h (op ∷ []) (inl refl)

-- the cells of h have the same bytes in a longer history
cells_agree : (h : History) (op : Operation) → Distinct h → Distinct (h ++ op ∷ []) → (s : List PathCell) → AllByRecursion (From (newest_first h)) s
    → AllByRecursion (λ (q : Fact). byte_of h q.cell ≡ byte_of (h ++ op ∷ []) q.cell) (map (fact h) (cells s))
cells_agree h op d e [] f = tt
cells_agree h op d e (p ∷ s) f = (one p.cell f.0, cells_agree h op d e s f.1)
  where
    one : (c : Cell) → (o : Operation) × In (newest_first h) o × (c.stamp ≡ stamp_of o) × (c.k < length (texts (pieces_of o))) → byte_of h c ≡ byte_of (h ++ op ∷ []) c
    one c w = let i = (newest_same h w.0).0 w.1 in
        subst (λ (t : Lamport). byte_of h (record { stamp = t; k = c.k }) ≡ byte_of (h ++ op ∷ []) (record { stamp = t; k = c.k })) (sym w.2)
        (byte_is h d w.0 i c.k ∙ sym (byte_is (h ++ op ∷ []) e w.0 (member_left w.0 h (op ∷ []) i) c.k))

pub bytes_told : (h : History) (op : Operation) → Distinct h → Distinct (h ++ op ∷ []) → AllByRecursion (λ (q : Fact). byte_of h q.cell ≡ byte_of (h ++ op ∷ []) q.cell) (cell_facts h)
unfolding seq
bytes_told h op d e = cells_agree h op d e (seq_where everything (newest_first h)) (all_from (newest_first h))

pub same_bytes : (f g : Cell → ℕ) (s : List Fact) → AllByRecursion (λ (q : Fact). f q.cell ≡ g q.cell) s → bytes f s ≡ bytes g s
same_bytes f g [] e = refl
same_bytes f g (q ∷ s) e = ap (λ x. x ∷ bytes f s) e.0 ∙ ap (λ z. g q.cell ∷ z) (same_bytes f g s e.1)

pub utf8_agree : (f g : Cell → ℕ) (rs : List Run) → AllByRecursion (λ (q : Fact). f q.cell ≡ g q.cell) (facts_of rs) → Utf8 f rs → Utf8 g rs
utf8_agree f g [] e u = tt
utf8_agree f g (r ∷ rs) e u = (
  subst IsUtf8 (same_bytes f g (run_facts r) (each_left (λ (q : Fact). f q.cell ≡ g q.cell) (run_facts r) (facts_of rs) e)) u.0,
  utf8_agree f g rs (each_right (λ (q : Fact). f q.cell ≡ g q.cell) (run_facts r) (facts_of rs) e) u.1,
)

-- runs of UTF-8 stand for the history
pub record Whole (h : History) : Type 0 where
  pub runs : List Run
  pub tell : facts_of runs ≡ cell_facts h
  pub utf8 : Utf8 (byte_of h) runs

pub whole_full : (h : History) → Whole h → IsUtf8 (full h)
whole_full h w = subst IsUtf8 (sym (full_told h ∙ ap (bytes (byte_of h)) (sym w.tell) ∙ facts_all (byte_of h) w.runs)) (utf8_all (byte_of h) w.runs w.utf8)

pub whole_text : (h : History) → Whole h → IsUtf8 (text h)
whole_text h w = subst IsUtf8 (sym (text_told h ∙ ap (λ (s : List Fact). bytes (byte_of h) (filter (λ (q : Fact). q.visible) s)) (sym w.tell) ∙ facts_shown (byte_of h) w.runs)) (utf8_shown (byte_of h) w.runs w.utf8)

-- runs without a cell are left out
abbrev pub some_runs : List Run → List Run
some_runs [] = []
some_runs (r ∷ rs) = cond (leb 1 r.len) (r ∷ some_runs rs) (some_runs rs)

empty_run : (r : Run) → leb 1 r.len ≡ false → run_facts r ≡ []
empty_run r e = go r.len e
  where
    go : (n : ℕ) → leb 1 n ≡ false → alike r.stamp r.offset n r.visible r.deletions ≡ []
    go zero i = refl
    go (suc n) i = let t : leb 1 (suc n) ≡ true = le-leb 1 (suc n) (omega arith) in cc

pub some_facts : (rs : List Run) → facts_of (some_runs rs) ≡ facts_of rs
some_facts [] = refl
some_facts (r ∷ rs) = elim (cases_Bool (leb 1 r.len)) [
  | inl e ↦ rw e (ap (λ z. run_facts r ++ z) (some_facts rs))
  | inr e ↦ rw e (some_facts rs ∙ ap (λ z. z ++ facts_of rs) (sym (empty_run r e)))
]

pub some_some : (rs : List Run) → AllByRecursion (λ (r : Run). 0 < r.len) (some_runs rs)
some_some [] = tt
some_some (r ∷ rs) = elim (cases_Bool (leb 1 r.len)) [ inl e ↦ rw e (leb-true 1 r.len e, some_some rs) | inr e ↦ rw e (some_some rs) ]

pub some_utf8 : (f : Cell → ℕ) (rs : List Run) → Utf8 f rs → Utf8 f (some_runs rs)
some_utf8 f [] u = tt
some_utf8 f (r ∷ rs) u = elim (cases_Bool (leb 1 r.len)) [ inl e ↦ rw e (u.0, some_utf8 f rs u.1) | inr e ↦ rw e (some_utf8 f rs u.1) ]

-- ---- the new texts

pub get_append : (xs : List ℕ) (b : ℕ) (ys : List ℕ) (k : ℕ) → k ≡ length xs → get_or (xs ++ b ∷ ys) k 0 ≡ b
get_append [] b ys k e = rw e refl
get_append (x ∷ xs) b ys zero e = absurd (omega arith)
get_append (x ∷ xs) b ys (suc k) e = get_append xs b ys k (omega arith)

pub new_text : (f : Cell → ℕ) (t : Lamport) (whole : List ℕ) → ((k : ℕ) → f (record { stamp = t; k = k }) ≡ get_or whole k 0)
    → (pre xs post : List ℕ) (k : ℕ) → whole ≡ pre ++ (xs ++ post) → k ≡ length pre → bytes f (alike t k (length xs) true []) ≡ xs
new_text f t whole g pre [] post k e l = refl
new_text f t whole g pre (x ∷ xs) post k e l =
    let one : f (record { stamp = t; k = k }) ≡ x = g k ∙ ap (λ (z : List ℕ). get_or z k 0) e ∙ get_append pre x (xs ++ post) k l in
    let n : length (pre ++ x ∷ []) ≡ length pre + 1 = length-append pre (x ∷ []) in
    let rest : bytes f (alike t (suc k) (length xs) true []) ≡ xs = new_text f t whole g (pre ++ x ∷ []) xs post (suc k) (e ∙ sym (append_assoc pre (x ∷ []) (xs ++ post))) (omega arith) in
    ap (λ z. z ∷ bytes f (alike t (suc k) (length xs) true [])) one ∙ ap (λ z. x ∷ z) rest

new_utf8 : (f : Cell → ℕ) (m : Marking) (keep : Lamport → Bool) (t : Lamport) (nu : (u : Lamport) → later u t ≡ true → keep u ≡ false) (whole : List ℕ)
    → ((k : ℕ) → f (record { stamp = t; k = k }) ≡ get_or whole k 0)
    → (pre : List ℕ) (ps : List Piece) (k : ℕ) → whole ≡ pre ++ texts ps → k ≡ length pre → AllByRecursion (λ (p : Piece). IsUtf8 p.text) ps → NewUtf8 f m keep t nu k ps
new_utf8 f m keep t nu whole g pre [] k e l u = tt
new_utf8 f m keep t nu whole g pre (p ∷ ps) k e l u =
    let n : length (pre ++ p.text) ≡ length pre + length p.text = length-append pre p.text in (
      subst IsUtf8 (sym (new_text f t whole g pre p.text (texts ps) k e l)) u.0,
      new_utf8 f m keep t nu whole g (pre ++ p.text) ps (k + length p.text) (e ∙ sym (append_assoc pre p.text (texts ps))) (omega arith) u.1,
    )

-- ---- boundaries

pub boundary_of : (bs : List ℕ) (i : ℕ) → is_boundary bs i ≡ true → IsCharBoundary bs i
boundary_of bs i e =
    let a = and_parts (leb i (length bs)) (leb (length bs) i || (ltb (get_or bs i 0) 128 || leb 192 (get_or bs i 0))) e in
    (leb-true i (length bs) a.0, λ l g. inside l g (or_cases (leb (length bs) i) (ltb (get_or bs i 0) 128 || leb 192 (get_or bs i 0)) a.1))
  where
    inside : i < length bs → 128 ≤ get_or bs i 0 → (leb (length bs) i ≡ true) ⊎ ((ltb (get_or bs i 0) 128 || leb 192 (get_or bs i 0)) ≡ true) → 192 ≤ get_or bs i 0
    inside l g (inl x) = let n = leb-true (length bs) i x in absurd (omega arith)
    inside l g (inr x) = elim (or_cases (ltb (get_or bs i 0) 128) (leb 192 (get_or bs i 0)) x) [
      | inl y ↦ (let n = ltb-true (get_or bs i 0) 128 y in absurd (omega arith))
      | inr y ↦ leb-true 192 (get_or bs i 0) y
    ]

pub of_boundary : (bs : List ℕ) (i : ℕ) → IsCharBoundary bs i → is_boundary bs i ≡ true
of_boundary bs i b = rw (le-leb i (length bs) b.0) (go (cases_lt i (length bs)))
  where
    go : (i < length bs) ⊎ (length bs ≤ i) → (leb (length bs) i || (ltb (get_or bs i 0) 128 || leb 192 (get_or bs i 0))) ≡ true
    go (inl l) = or_right (leb (length bs) i) (ltb (get_or bs i 0) 128 || leb 192 (get_or bs i 0)) (elim (cases_lt (get_or bs i 0) 128) [
      | inl x ↦ rw (lt-ltb (get_or bs i 0) 128 x) refl
      | inr x ↦ or_right (ltb (get_or bs i 0) 128) (leb 192 (get_or bs i 0)) (le-leb 192 (get_or bs i 0) (b.1 l x))
    ])
    go (inr l) = rw (le-leb (length bs) i l) refl

-- the test of a boundary is std's
pub boundary_is : (bs : List ℕ) (i : ℕ) (b : Bool) → (IsTrue b ↔ IsCharBoundary bs i) → b ≡ is_boundary bs i
boundary_is bs i true h = sym (of_boundary bs i (h.0 refl))
boundary_is bs i false h = sym (false_from_ne_true (is_boundary bs i) (λ e. false≢true (h.1 (boundary_of bs i e))))

boundary_within : (bs : List ℕ) (i : ℕ) → i < length bs → is_boundary bs i ≡ (ltb (get_or bs i 0) 128 || leb 192 (get_or bs i 0))
boundary_within bs i h = rw (le-leb i (length bs) (omega (arith, h)), lt-leb (length bs) i h) refl

-- two places with one byte
pub same_byte : (xs ys : List ℕ) (i j : ℕ) → i < length xs → j < length ys → get_or xs i 0 ≡ get_or ys j 0 → is_boundary xs i ≡ is_boundary ys j
same_byte xs ys i j h k e = boundary_within xs i h ∙ ap (λ (b : ℕ). ltb b 128 || leb 192 b) e ∙ sym (boundary_within ys j k)

pub bounds_of : (bs : List ℕ) (ps : List Piece) → AllByRecursion (λ (p : Piece). is_inside bs p ≡ false) ps → AllByRecursion (λ (p : Piece). IsCharBoundary bs p.start × IsCharBoundary bs p.end) ps
bounds_of bs ps e = each_map (λ (p : Piece). is_inside bs p ≡ false) (λ (p : Piece). IsCharBoundary bs p.start × IsCharBoundary bs p.end)
    (λ p n. let a = and_parts (is_boundary bs p.start) (is_boundary bs p.end) (not-false (is_boundary bs p.start && is_boundary bs p.end) n) in (boundary_of bs p.start a.0, boundary_of bs p.end a.1)) ps e

-- ---- one operation more

-- the bytes that a version sees are those of the runs that it sees
kept_full : (h : History) (op : Operation) → Fits h op → (rs : List Run) → facts_of rs ≡ cell_facts h → kept_bytes (byte_of h) (sees (version_of op)) rs ≡ full (seen_history h (version_of op))
unfolding seq full_where
kept_full h op f rs e =
    let v : Lamport → Bool = sees (version_of op) in
    sym (facts_kept (byte_of h) v rs) ∙ ap (λ (s : List Fact). bytes (byte_of h) (filter (λ (q : Fact). v q.cell.stamp) s)) e ∙ kept_told h v (seq h)
    ∙ ap (λ (s : List PathCell). map (byte_of h) (cells s)) (restrict v (newest_first h) f.closed) ∙ sym (full_seen h (version_of op))

-- a walk over runs of UTF-8 makes runs of UTF-8
pub walk_whole : (h : History) (op : Operation) (rs : List Run) → Ready h → answer h [] op ≡ Good → AllByRecursion (λ (p : Piece). IsUtf8 p.text) (pieces_of op) → facts_of rs ≡ cell_facts h → Utf8 (byte_of h) rs
    → Utf8 (byte_of (h ++ op ∷ [])) (walk (edit_marking (stamp_of op) (kept_history (sees (version_of op)) (newest_first h)) (version_of op)) (sees (version_of op)) (stamp_of op) 0 0 (pieces_of op) rs)
walk_whole h op rs r g u t w =
    let k = checked_of h op g in
    let f : Fits h op = fits_of h op r.0 k.0 k.1 in
    let h2 : History = h ++ op ∷ [] in
    let d2 : Distinct h2 = (good_more h op r g).0.0.distinct in
    let nu : (x : Lamport) → later x (stamp_of op) ≡ true → sees (version_of op) x ≡ false = λ x. passed_unseen (version_of op) (stamp_of op) x f.above in
    let m : Marking = edit_marking (stamp_of op) (kept_history (sees (version_of op)) (newest_first h)) (version_of op) in
    let kb : kept_bytes (byte_of h) (sees (version_of op)) rs ≡ full (seen_history h (version_of op)) = kept_full h op f rs t in
    let a = bytes_told h op r.0.distinct d2 in
    let ag : AllByRecursion (λ (q : Fact). byte_of h q.cell ≡ byte_of h2 q.cell) (facts_of rs) = subst (λ (s : List Fact). AllByRecursion (λ (q : Fact). byte_of h q.cell ≡ byte_of h2 q.cell) s) (sym t) a in
    let u2 : Utf8 (byte_of h2) rs = utf8_agree (byte_of h) (byte_of h2) rs ag w in
    let kb2 : kept_bytes (byte_of h2) (sees (version_of op)) rs ≡ full (seen_history h (version_of op)) = sym (kept_agree (byte_of h) (byte_of h2) (sees (version_of op)) rs ag) ∙ kb in
    let o = good_ordered h op g in
    walk_utf8 (byte_of h2) m (sees (version_of op)) (stamp_of op) nu (full (seen_history h (version_of op))) (length (seq_where (sees (version_of op)) (newest_first h))) 0 0 (pieces_of op) rs kb2 o
    (bounds_of (full (seen_history h (version_of op))) (pieces_of op) (ranged (full (seen_history h (version_of op))) (pieces_of op) (passed h [] op g).ranges).1)
    (new_utf8 (byte_of h2) m (sees (version_of op)) (stamp_of op) nu (texts (pieces_of op)) (λ n. byte_is h2 d2 op (in_last h op) n) [] (pieces_of op) 0 refl refl u) u2
  where
    kept_agree : (x y : Cell → ℕ) (keep : Lamport → Bool) (s : List Run) → AllByRecursion (λ (q : Fact). x q.cell ≡ y q.cell) (facts_of s) → kept_bytes x keep s ≡ kept_bytes y keep s
    kept_agree x y keep [] e = refl
    kept_agree x y keep (r ∷ s) e = rw (
      same_bytes x y (run_facts r) (each_left (λ (q : Fact). x q.cell ≡ y q.cell) (run_facts r) (facts_of s) e),
      kept_agree x y keep s (each_right (λ (q : Fact). x q.cell ≡ y q.cell) (run_facts r) (facts_of s) e),
    ) refl

whole_edit : (h : History) (op : Operation) → Ready h → Counted h → Whole h → answer h [] op ≡ Good → is_edit op ≡ true → AllByRecursion (λ (p : Piece). IsUtf8 p.text) (pieces_of op) → Whole (h ++ op ∷ [])
whole_edit h op r c w g e u =
    let rs : List Run = some_runs w.runs in
    let t : facts_of rs ≡ cell_facts h = some_facts w.runs ∙ w.tell in
    record {
      runs = walk (edit_marking (stamp_of op) (kept_history (sees (version_of op)) (newest_first h)) (version_of op)) (sees (version_of op)) (stamp_of op) 0 0 (pieces_of op) rs;
      tell = walk_told h op rs r c g e (some_some w.runs) t;
      utf8 = walk_whole h op rs r g u t (some_utf8 (byte_of h) w.runs w.utf8);
    }

set_anew : History → Run → Run
set_anew e r = record { stamp = r.stamp; offset = r.offset; len = r.len; visible = visible_by e r.stamp r.deletions; deletions = r.deletions }

run_anew : (e : History) (u : Lamport) (o n : ℕ) (v : Bool) (d : List Lamport) (s : List Fact)
    → map (fact_anew e) (alike u o n v d ++ s) ≡ alike u o n (visible_by e u d) d ++ map (fact_anew e) s
run_anew e u o zero v d s = refl
run_anew e u o (suc n) v d s = ap (λ (z : List Fact). record { cell = record { stamp = u; k = o }; visible = visible_by e u d; deletions = d } ∷ z) (run_anew e u (suc o) n v d s)

facts_anew : (e : History) (rs : List Run) → facts_of (map (set_anew e) rs) ≡ map (fact_anew e) (facts_of rs)
unfolding set_anew
facts_anew e [] = refl
facts_anew e (r ∷ rs) = ap (λ (z : List Fact). alike r.stamp r.offset r.len (visible_by e r.stamp r.deletions) r.deletions ++ z) (facts_anew e rs)
    ∙ sym (run_anew e r.stamp r.offset r.len r.visible r.deletions (facts_of rs))

utf8_anew : (f : Cell → ℕ) (e : History) (rs : List Run) → Utf8 f rs → Utf8 f (map (set_anew e) rs)
unfolding set_anew
utf8_anew f e [] u = tt
utf8_anew f e (r ∷ rs) u = (subst IsUtf8 (bytes_alike f r.stamp r.offset r.len r.visible (visible_by e r.stamp r.deletions) r.deletions r.deletions) u.0, utf8_anew f e rs u.1)

whole_undo : (h : History) (op : Operation) → Ready h → Whole h → answer h [] op ≡ Good → is_edit op ≡ false → Whole (h ++ op ∷ [])
whole_undo h op r w g e =
    let h2 : History = h ++ op ∷ [] in
    let d2 : Distinct h2 = (good_more h op r g).0.0.distinct in
    let n : History = by_stamp op (newest_first h) in
    let ag : AllByRecursion (λ (q : Fact). byte_of h q.cell ≡ byte_of h2 q.cell) (facts_of w.runs) =
    subst (λ (s : List Fact). AllByRecursion (λ (q : Fact). byte_of h q.cell ≡ byte_of h2 q.cell) s) (sym w.tell) (bytes_told h op r.0.distinct d2) in
    record {
      runs = map (set_anew n) w.runs;
      tell = facts_anew n w.runs ∙ ap (map (fact_anew n)) w.tell ∙ sym (undo_told h op r g e);
      utf8 = utf8_anew (byte_of h2) n w.runs (utf8_agree (byte_of h) (byte_of h2) w.runs ag w.utf8);
    }

whole_more : (h : History) (op : Operation) → Ready h → Counted h → Whole h → answer h [] op ≡ Good → AllByRecursion (λ (p : Piece). IsUtf8 p.text) (pieces_of op) → Whole (h ++ op ∷ [])
whole_more h op r c w g u = elim (cases_Bool (is_edit op)) [ inl e ↦ whole_edit h op r c w g e u | inr e ↦ whole_undo h op r w g e ]

-- the base alone
base_fact : (t : List ℕ) (c : Cell) → fact (base t ∷ []) c ≡ record { cell = c; visible = true; deletions = [] }
unfolding seq_where deleters_where shows_where shows
base_fact t c = refl

base_laid : (t : List ℕ) → lay (sees []) (record { value = 1; replica = 0 }) 0 (record { start = 0; end = 0; text = t } ∷ []) (seq []) ≡ text_places [] (record { value = 1; replica = 0 }) 0 t
unfolding seq seq_where
base_laid t = refl

base_seq : (t : List ℕ) → seq (base t ∷ []) ≡ text_places [] (record { value = 1; replica = 0 }) 0 t
base_seq t = (one_more [] (base t) (base_fits t) none_yet).1 ∙ base_laid t

base_facts : (f : Cell → Fact) → ((c : Cell) → f c ≡ record { cell = c; visible = true; deletions = [] }) → (u : List Cell) (s : Lamport) (k : ℕ) (bs : List ℕ)
    → map f (cells (text_places u s k bs)) ≡ alike s k (length bs) true []
base_facts f e u s k [] = refl
base_facts f e u s k (b ∷ bs) = ap (λ x. x ∷ map f (cells (text_places (u ++ record { stamp = s; k = k } ∷ []) s (suc k) bs))) (e (record { stamp = s; k = k }))
    ∙ ap (λ (z : List Fact). record { cell = record { stamp = s; k = k }; visible = true; deletions = [] } ∷ z) (base_facts f e (u ++ record { stamp = s; k = k } ∷ []) s (suc k) bs)

-- the facts of the base alone are of its bytes in order
pub base_told : (t : List ℕ) → cell_facts (base t ∷ []) ≡ alike (record { value = 1; replica = 0 }) 0 (length t) true []
base_told t =
    let h : History = base t ∷ [] in
    ap (λ (x : List PathCell). map (fact h) (cells x)) (base_seq t) ∙ base_facts (fact h) (base_fact t) [] (record { value = 1; replica = 0 }) 0 t

whole_base : (t : List ℕ) → IsUtf8 t → Whole (base t ∷ [])
whole_base t u =
    let h : History = base t ∷ [] in
    let s : Lamport = record { value = 1; replica = 0 } in
    let r : Run = record { stamp = s; offset = 0; len = length t; visible = true; deletions = [] } in
    let d : Distinct h = (tt, tt) in
    let w : texts (pieces_of (base t)) ≡ t = append-nil t in
    record {
      runs = r ∷ [];
      tell = append-nil (run_facts r) ∙ sym (base_told t);
      utf8 = (subst IsUtf8 (sym (new_text (byte_of h) s (t ++ []) (λ k. byte_is h d (base t) (inl refl) k) [] t [] 0 refl refl)) u, tt);
    }

whole_from : (h : History) (ops : List Operation) → Ready h → Counted h → Whole h → LawfulFrom h ops → AllByRecursion (λ (o : Operation). AllByRecursion (λ (p : Piece). IsUtf8 p.text) (pieces_of o)) ops → Whole (h ++ ops)
whole_from h [] r c w l u = subst Whole (sym (append-nil h)) w
whole_from h (op ∷ ops) r c w l u = subst Whole (append_assoc h (op ∷ []) ops)
    (whole_from (h ++ op ∷ []) ops (good_more h op r l.0).0 (counted_more h op c l.0) (whole_more h op r c w l.0 u.0) l.1 u.1)

pub lawful_whole : (h : History) → Lawful h → AllByRecursion (λ (o : Operation). AllByRecursion (λ (p : Piece). IsUtf8 p.text) (pieces_of o)) h → Whole h
lawful_whole [] l u = absurd l
lawful_whole (op ∷ ops) l u = whole_from (op ∷ []) ops
    (subst (λ (x : Operation). Ready (x ∷ [])) (sym l.0.1) (ready_base l.0.0))
    (lawful_counted (op ∷ []) (l.0, tt))
    (subst (λ (x : Operation). Whole (x ∷ [])) (sym l.0.1) (whole_base l.0.0 (subst (λ (x : Operation). AllByRecursion (λ (p : Piece). IsUtf8 p.text) (pieces_of x)) l.0.1 u.0).0))
    l.1 u.1
