-- The undo counts of a history, by the entries that are kept of them.
use Rattle.std.proofs.Common.{◌≡◌, ℕ, suc, ◌+◌, ◌<◌, ◌≤◌, ◌^◌, ◌%◌, max, Bool, true, false, cond, ◌&&◌, eqb, List, [], ◌∷◌, ◌++◌, length, get_or, drop, drop-cons, Option, None, Some, refl, sym, subst, ◌∙◌, ap, arith}
use Rattle.std.specs.List.{AllByRecursion}
use Rattle.std.proofs.lemmas.List.{drop_all}
use Rattle.lamport_clock.specs.declared.stamp.Lamport.{Lamport}
use Rattle.lamport_clock.specs.Stamps.{same_stamp}
use Rattle.lamport_clock.specs.Versions.{Entries, sees}
use Rattle.op_model.specs.declared.operation.UndoCount.{UndoCount}
use Rattle.op_model.specs.declared.operation.Operation.{Operation}
use Rattle.op_model.specs.declared.operation.Operation.TheVariants.{Undo}
use Rattle.op_model.specs.declared.operation.UndoOp.{UndoOp}
use Rattle.op_model.specs.Operations.{stamp_of, counts_of, is_edit}
use Rattle.op_model.specs.Histories.{History, kept_history, seen_history, base, entries_held}
use Rattle.op_model.specs.Shown.{greatest_given, count, is_undone}
use Rattle.op_model.specs.Lawful.{Lawful}
use Rattle.op_model.proofs.answers.Good.{stamp_parts}
use Rattle.op_model.proofs.histories.VersionLaws.{shaped_good, each_lawful}
use Rattle.op_model.proofs.shown.OnePass.{no_counts}
use Rattle.undo_map.specs.declared.entry.UndoEntry.{UndoEntry}
use Rattle.undo_map.specs.Counts.{with_count, greatest, counts_for, is_seen, count_of, count_seen, is_odd}
use Rattle.undo_map.specs.Laws.{CountsAreOfHistory}
use Rattle.undo_map.specs.Undos.{with_counts, with_undos, undo_entries, number_of_counts}
use Rattle.undo_map.proofs.Greatest.{adds}
use Rattle.undo_map.proofs.Setting.{counts_set, with_count_long}

module _ (t : Lamport) (at : Option Entries) where
  abbrev most : List UndoEntry → ℕ
  most w = greatest (counts_for t at) w

  one_adds : (e : UndoEntry) (cs : List UndoCount) → max (adds (counts_for t at) e) (cond (is_seen at e.by) (greatest_given cs t) 0)
      ≡ cond (is_seen at e.by) (greatest_given (record { edit = e.edit; count = e.count } ∷ cs) t) 0
  one_adds e cs = go at
    where
      pick : (x y : Bool) (n g : ℕ) → max (cond (x && y) n 0) (cond y g 0) ≡ cond y (cond x (max n g) g) 0
      pick true true n g = refl
      pick true false n g = refl
      pick false true n g = omega arith
      pick false false n g = refl

      pick_all : (x : Bool) (n g : ℕ) → max (cond x n 0) g ≡ cond x (max n g) g
      pick_all true n g = refl
      pick_all false n g = omega arith

      go : (o : Option Entries) → max (adds (counts_for t o) e) (cond (is_seen o e.by) (greatest_given cs t) 0) ≡ cond (is_seen o e.by) (greatest_given (record { edit = e.edit; count = e.count } ∷ cs) t) 0
      go None = pick_all (same_stamp e.edit t) e.count (greatest_given cs t)
      go (Some v) = pick (same_stamp e.edit t) (sees v e.by) e.count (greatest_given cs t)

  counts_kept : (by : Lamport) (cs : List UndoCount) (w : List UndoEntry) → most (with_counts by cs w) ≡ max (most w) (cond (is_seen at by) (greatest_given cs t) 0)
  counts_kept by [] w = zero_max (is_seen at by) (most w)
    where
      zero_max : (b : Bool) (n : ℕ) → n ≡ max n (cond b 0 0)
      zero_max true n = omega arith
      zero_max false n = omega arith
  counts_kept by (c ∷ cs) w =
      let e : UndoEntry = record { edit = c.edit; by = by; count = c.count } in
      let a = counts_kept by cs (with_count e w) in
      let b = counts_set e w (with_count e w) t at refl in
      let d = one_adds e cs in
      omega (arith, a, b, d)

  -- the greatest counts that are kept are those of the history
  undos_kept : (h : History) (w : List UndoEntry) → most (with_undos h w) ≡ max (most w) (count (kept_history (is_seen at) h) t)
  undos_kept [] w = omega arith
  undos_kept (op ∷ h) w =
      let a = undos_kept h (with_counts (stamp_of op) (counts_of op) w) in
      let b = counts_kept (stamp_of op) (counts_of op) w in
      let d = split (is_seen at (stamp_of op)) in
      omega (arith, a, b, d)
    where
      split : (b : Bool) → count (cond b (op ∷ kept_history (is_seen at) h) (kept_history (is_seen at) h)) t ≡ max (cond b (greatest_given (counts_of op) t) 0) (count (kept_history (is_seen at) h) t)
      split true = refl
      split false = omega arith

all_kept : (h : History) → kept_history (is_seen None) h ≡ h
all_kept [] = refl
all_kept (op ∷ h) = ap (λ (x : History). op ∷ x) (all_kept h)

pub count_kept : (h : History) (t : Lamport) → count_of (undo_entries h) t ≡ count h t
count_kept h t = let a = undos_kept t None h [] in let b = ap (λ (x : History). count x t) (all_kept h) in omega (arith, a, b)

pub count_seen_kept : (h : History) (t : Lamport) (v : Entries) → count_seen (undo_entries h) t v ≡ count (seen_history h v) t
count_seen_kept h t v = let a = undos_kept t (Some v) h [] in omega (arith, a)

pub undone_kept : (h : History) (t : Lamport) → is_odd (count_of (undo_entries h) t) ≡ is_undone h t
undone_kept h t = ap (λ (n : ℕ). eqb (n % 2) 1) (count_kept h t)

pub undone_seen : (h : History) (v : Entries) (t : Lamport) → is_odd (count_seen (undo_entries h) t v) ≡ is_undone (seen_history h v) t
undone_seen h v t = ap (λ (n : ℕ). eqb (n % 2) 1) (count_seen_kept h t v)

-- with one operation more
pub entries_more : (h : History) (op : Operation) → undo_entries (h ++ op ∷ []) ≡ with_counts (stamp_of op) (counts_of op) (undo_entries h)
entries_more h op = go h []
  where
    go : (h : History) (w : List UndoEntry) → with_undos (h ++ op ∷ []) w ≡ with_counts (stamp_of op) (counts_of op) (with_undos h w)
    go [] w = refl
    go (o ∷ h) w = go h (with_counts (stamp_of o) (counts_of o) w)

-- with one undo more
pub with_history : (h : History) (u : UndoOp) (w m : List UndoEntry) → m ≡ with_counts u.stamp u.counts w → w ≡ undo_entries h → m ≡ undo_entries (h ++ Undo u ∷ [])
with_history h u w m e q = e ∙ ap (with_counts u.stamp u.counts) q ∙ sym (entries_more h (Undo u))

-- ---- one count after another

-- from one count to the next
pub one_more : (by : Lamport) (cs : List UndoCount) (i : ℕ) (d : UndoCount) (m n r : List UndoEntry) → i < length cs
    → n ≡ with_count (record { edit = (get_or cs i d).edit; by = by; count = (get_or cs i d).count }) m → with_counts by (drop i cs) m ≡ r → with_counts by (drop (i + 1) cs) n ≡ r
one_more by cs i d m n r l q e =
    let k : i + 1 ≡ suc i = omega arith in
    ap (with_counts by (drop (i + 1) cs)) q
    ∙ ap (λ (j : ℕ). with_counts by (drop j cs) (with_count (record { edit = (get_or cs i d).edit; by = by; count = (get_or cs i d).count }) m)) k
    ∙ sym (ap (λ (z : List UndoCount). with_counts by z m) (drop-cons cs i d l)) ∙ e

-- no count is left
pub none_left : (by : Lamport) (cs ds : List UndoCount) (i : ℕ) (m w : List UndoEntry) → length cs ≤ i → cs ≡ ds → with_counts by (drop i cs) m ≡ with_counts by cs w → m ≡ with_counts by ds w
none_left by cs ds i m w l q e = sym (ap (λ (z : List UndoCount). with_counts by z m) (drop_all i cs l)) ∙ e ∙ ap (λ (z : List UndoCount). with_counts by z w) q

-- there is room for one more
pub has_room : (e : UndoEntry) (m w : List UndoEntry) (cs ds : List UndoCount) (i : ℕ) → cs ≡ ds → length m ≤ length w + i → i < length cs → length w + length ds ≤ 2 ^ 40 → length (with_count e m) ≤ 2 ^ 40
has_room e m w cs ds i q a b c = let k = with_count_long e m in let n : length cs ≡ length ds = ap length q in omega (arith, k, n, a, b, c)

-- ---- how many there are

pub counts_long : (by : Lamport) (cs : List UndoCount) (w : List UndoEntry) → length (with_counts by cs w) ≤ length w + length cs
counts_long by [] w = omega arith
counts_long by (c ∷ cs) w =
    let e : UndoEntry = record { edit = c.edit; by = by; count = c.count } in
    let a = counts_long by cs (with_count e w) in
    let b = with_count_long e w in
    omega (arith, a, b)

undos_long : (h : History) (w : List UndoEntry) → length (with_undos h w) ≤ length w + number_of_counts h
undos_long [] w = omega arith
undos_long (op ∷ h) w =
    let a = undos_long h (with_counts (stamp_of op) (counts_of op) w) in
    let b = counts_long (stamp_of op) (counts_of op) w in
    omega (arith, a, b)

pub entries_counted : (h : History) → length (undo_entries h) ≤ number_of_counts h
entries_counted h = let a = undos_long h [] in omega (arith, a)

-- operations but the base hold an entry for each of their counts
counts_held : (h : History) → AllByRecursion (λ (op : Operation). eqb (stamp_of op).replica 0 ≡ false) h → number_of_counts h ≤ entries_held h
counts_held [] e = omega arith
counts_held (op ∷ h) e = let r = e.0 in let a = counts_held h e.1 in rw r (omega (arith, a))

pub entries_within : (h : History) → Lawful h → length (undo_entries h) ≤ entries_held h
entries_within [] l = absurd l
entries_within (op ∷ ops) l =
    let a = entries_counted (op ∷ ops) in
    let b = counts_held ops (each_lawful (λ (o : Operation). eqb (stamp_of o).replica 0 ≡ false) (op ∷ []) ops (λ g o n. (stamp_parts o (shaped_good g o n)).2) l.1) in
    let f : number_of_counts (base l.0.0 ∷ ops) ≤ entries_held (base l.0.0 ∷ ops) = omega (arith, b) in
    let c : number_of_counts (op ∷ ops) ≤ entries_held (op ∷ ops) = subst (λ (x : Operation). number_of_counts (x ∷ ops) ≤ entries_held (x ∷ ops)) (sym l.0.1) f in
    omega (arith, a, c)

-- ---- the laws

pub of_history : CountsAreOfHistory
of_history h t = (count_kept h t, undone_kept h t, λ v. count_seen_kept h t v, λ v. undone_seen h v t)

-- an edit gives no counts
pub entries_edit : (h : History) (op : Operation) → is_edit op ≡ true → undo_entries (h ++ op ∷ []) ≡ undo_entries h
entries_edit h op e = entries_more h op ∙ ap (λ (cs : List UndoCount). with_counts (stamp_of op) cs (undo_entries h)) (no_counts op e)
