-- The steps that add to a log keep its rule.
use Rattle.std.proofs.Common.{◌≡◌, ℕ, ◌+◌, ◌<◌, ◌==◌, ◌≤◌, ◌⊎◌, if◌then◌else◌, zero, suc, Bool, true, false, List, [], ◌∷◌, ◌++◌, length, fold, set, get_or, refl, ap, sym, subst, ◌∙◌, arith, inl, inr, ⊎_elim, append_assoc, length-append, None}
use Rattle.std.proofs.lemmas.List.{append-nil, length-set}
use Rattle.std.proofs.lemmas.List.Sums.{fold-append}
use Rattle.std.proofs.lemmas.Bool.Decides.{nat_tests}
use prog.Atomic.{either}
use Rattle.logbook.specs.Pages.{Cell, Nib, View, adds, gives, may_make, may_write, nib, no_nib, step, Moves}
use Rattle.op_model.specs.declared.operation.Operation.{Operation}
use Rattle.snapshot_pub.specs.declared.entry.Entry.{Entry}
use Rattle.snapshot_pub.specs.Logs.{AreUsed, Adds, Begins, IsGrown, IsHome, Reserves, list_of, log_list, log_next, next_of, root_of}
use Rattle.snapshot_pub.proofs.Fronts.{list_of-append}

-- clients see nothing of a log
abbrev pub no_view : List Entry → List Entry
no_view log = []

-- and nothing that an update did
abbrev pub anyhow : List Entry → List Entry → ℕ → Type 0
anyhow before after answer = Unit {0}

-- a thread that has reached a log, with a right
abbrev pub reached_at : List Entry → Nib → View Entry ℕ
reached_at log p = (log, (p, None))

-- a word that is at home stays there
home_set : (cells : List Cell) (j x k : ℕ) → IsHome cells k → IsHome (set cells j (x, true)) k
home_set [] j x k h = h
home_set (c ∷ cells) zero x zero h = refl
home_set (c ∷ cells) zero x (suc k) h = h
home_set (c ∷ cells) (suc j) x zero h = h
home_set (c ∷ cells) (suc j) x (suc k) h = home_set cells j x k h

home_more : (cells : List Cell) (k : ℕ) → IsHome cells k → IsHome (cells ++ (0, false) ∷ []) k
home_more [] k h = absurd (cc h)
home_more (c ∷ cells) zero h = h
home_more (c ∷ cells) (suc k) h = home_more cells k h

-- a word comes home
home_here : (cells : List Cell) (j x : ℕ) → j < length cells → IsHome (set cells j (x, true)) j
home_here [] j x below = absurd (omega arith)
home_here (c ∷ cells) zero x below = refl
home_here (c ∷ cells) (suc j) x below = home_here cells j x (omega arith)

-- what an entry at the end changes
next_of-more : (root : ℕ) (log : List Entry) (e : Entry) → next_of root (log ++ e ∷ []) ≡ (if e.root == root then e.next else next_of root log)
next_of-more root log e = fold-append (λ (k : ℕ) (e : Entry). if e.root == root then e.next else k) 0 log (e ∷ [])

root_of-more : (log : List Entry) (e : Entry) → root_of (log ++ e ∷ []) ≡ e.root
root_of-more log e = fold-append (λ (k : ℕ) (e : Entry). e.root) 0 log (e ∷ [])

list_of-more : (root : ℕ) (log : List Entry) (e : Entry) → list_of root (log ++ e ∷ []) ≡ list_of root log ++ (if e.root == root then e.added else [])
list_of-more root log e = list_of-append root log (e ∷ []) ∙ ap (λ (l : List Operation). list_of root log ++ l) (append-nil (if e.root == root then e.added else []))

same_number : (n : ℕ) → (n == n) ≡ true
same_number n = grind (arith, nat_tests)

-- an entry of a longer list is the last one, or an entry of the list
at_end : (log before after : List Entry) (e last : Entry) → log ++ last ∷ [] ≡ before ++ e ∷ after → ((before ≡ log) × (e ≡ last)) ⊎ ((rest : List Entry) × (log ≡ before ++ e ∷ rest))
at_end [] [] after e last is = inl (refl, sym (cc is))
at_end [] (b ∷ []) after e last is = absurd (cc is)
at_end [] (b ∷ c ∷ before) after e last is = absurd (cc is)
at_end (l ∷ log) [] after e last is = inr (log, cc is)
at_end (l ∷ log) (b ∷ before) after e last is =
    ⊎_elim (λ (t : (before ≡ log) × (e ≡ last)). inl (cc (t.0, is), t.1)) (λ (t : (rest : List Entry) × (log ≡ before ++ e ∷ rest)). inr (t.0, cc (t.1, is)))
    (at_end log before after e last (cc is))

-- where words that are at home stay there, one more entry keeps the rule
used_more : (cells more : List Cell) (log : List Entry) (x : Entry) → AreUsed cells log → length cells ≤ length more → ((k : ℕ) → IsHome cells k → IsHome more k) → x.root < length more → IsHome more (next_of x.root log)
    → AreUsed more (log ++ x ∷ [])
used_more cells more log x used wide stays root home before e after is =
    ⊎_elim (λ (t : (before ≡ log) × (e ≡ x)). subst (λ (p : List Entry × Entry). (p.1.root < length more) × IsHome more (next_of p.1.root p.0)) (λ i. (sym t.0 i, sym t.1 i)) (root, home))
    (λ (t : (rest : List Entry) × (log ≡ before ++ e ∷ rest)). let u = used before e t.0 t.1 in (omega (arith, u.0, wide), stays (next_of e.root before) u.1))
    (at_end log before after e x is)

used_same : (cells more : List Cell) (log : List Entry) → AreUsed cells log → length cells ≤ length more → ((k : ℕ) → IsHome cells k → IsHome more k) → AreUsed more (log ++ [])
used_same cells more log used wide stays before e after is =
    let u = used before e after (sym (append-nil log) ∙ is) in (omega (arith, u.0, wide), stays (next_of e.root before) u.1)

-- while the next word of a pair is away, the pair has no other entries
quiet : (cells : List Cell) (root : ℕ) (v rest log : List Entry) → v ++ rest ≡ log → AreUsed cells log → (IsHome cells (next_of root v) → ⊥) → (list_of root log ≡ list_of root v) × (next_of root log ≡ next_of root v)
quiet cells root v [] log is used away =
    let same : log ≡ v = sym is ∙ append-nil v in (ap (list_of root) same, ap (next_of root) same)
quiet cells root v (e ∷ rest) log is used away = by_root (e.root == root) refl (quiet cells root (v ++ e ∷ []) rest log (append_assoc v (e ∷ []) rest ∙ is) used)
  where
    by_root : (b : Bool) → (e.root == root) ≡ b
        → ((IsHome cells (next_of root (v ++ e ∷ [])) → ⊥) → (list_of root log ≡ list_of root (v ++ e ∷ [])) × (next_of root log ≡ next_of root (v ++ e ∷ [])))
        → (list_of root log ≡ list_of root v) × (next_of root log ≡ next_of root v)
    by_root true own later =
        let same : e.root ≡ root = grind (arith, nat_tests) in
        absurd (away (subst (λ (k : ℕ). IsHome cells (next_of k v)) same (used v e rest (sym is)).1))
    by_root false other later =
        let next : next_of root (v ++ e ∷ []) ≡ next_of root v = next_of-more root v e ∙ ap (λ (b : Bool). if b then e.next else next_of root v) other in
        let list : list_of root (v ++ e ∷ []) ≡ list_of root v = list_of-more root v e ∙ (ap (λ (b : Bool). list_of root v ++ (if b then e.added else [])) other ∙ append-nil (list_of root v)) in
        let all = later (λ h. away (subst (IsHome cells) next h)) in (all.0 ∙ list, all.1 ∙ next)

-- a word that is new is the root of no entry
unnamed : (root : ℕ) (log : List Entry) → ((before : List Entry) (e : Entry) (after : List Entry) → log ≡ before ++ e ∷ after → e.root < root) → (list_of root log ≡ []) × ((k : ℕ) → fold (λ (k : ℕ) (e : Entry). if e.root == root then e.next else k) k log ≡ k)
unnamed root [] below = (refl, λ k. refl)
unnamed root (e ∷ log) below =
    let rest = unnamed root log (λ before x after is. below (e ∷ before) x after (ap (λ (l : List Entry). e ∷ l) is)) in
    let first : e.root < root = below [] e log refl in
    let other : (e.root == root) ≡ false = grind (arith, nat_tests) in
    (rw other rest.0, λ k. rw other (rest.1 k))

-- the root of the last entry is a word of the book
root_below : (n k : ℕ) (log : List Entry) → k < n → ((before : List Entry) (e : Entry) (after : List Entry) → log ≡ before ++ e ∷ after → e.root < n) → fold (λ (k : ℕ) (e : Entry). e.root) k log < n
root_below n k [] first below = first
root_below n k (e ∷ log) first below = root_below n e.root log (below [] e log refl) (λ before x after is. below (e ∷ before) x after (ap (λ (l : List Entry). e ∷ l) is))

-- what becomes of the first word
abbrev pub stays : ℕ → ℕ
stays n = either (n == 0) 0 n

none_used : (cells : List Cell) → AreUsed cells []
none_used cells [] e after is = absurd (cc is)
none_used cells (b ∷ before) e after is = absurd (cc is)

-- nothing was added yet
pub begins : IsGrown ((0, true) ∷ (0, true) ∷ []) []
begins = record { some = omega arith; first = refl; used = none_used ((0, true) ∷ (0, true) ∷ []) }

pub begins_moves : (v : List Entry) (ask : Entry) → Moves IsGrown no_view anyhow 0 (reached_at v no_nib) stays (Begins (step 0 0 0 ask) (reached_at v no_nib))
begins_moves v ask cells log grown pre away =
    let n : ℕ = length cells in
    let x : ℕ = stays (get_or cells 0 (0, false)).0 in
    let first : Entry = record { root = n; added = ask.added; next = n } in
    let old : List Cell = set cells 0 (x, true) in
    let more : List Cell = old ++ (0, false) ∷ [] in
    let later : List Entry = log ++ first ∷ [] in
    let wide : length more ≡ n + 1 = length-append old ((0, false) ∷ []) ∙ ap (λ (k : ℕ). k + 1) (length-set cells 0 (x, true)) in
    let home : (k : ℕ) → IsHome cells k → IsHome more k = λ k h. home_more old k (home_set cells 0 x k h) in
    let none = unnamed n log (λ before e after is. (grown.used before e after is).0) in
    let root : root_of later ≡ n = root_of-more log first in
    let list : list_of n later ≡ ask.added = list_of-more n log first ∙ (ap (λ (b : Bool). list_of n log ++ (if b then ask.added else [])) (same_number n) ∙ ap (λ (l : List Operation). l ++ ask.added) none.0) in
    let next : next_of n later ≡ n = next_of-more n log first ∙ ap (λ (b : Bool). if b then n else next_of n log) (same_number n) in
    let named : log_next later ≡ n = subst (λ (k : ℕ). next_of k later ≡ n) (sym root) next in (
      grown.some,
      grown.first,
      (
        adds,
        first ∷ [],
        None,
        tt,
        record {
          some = omega (arith, wide);
          first = home 0 grown.first;
          used = used_more cells more log first grown.used (omega (arith, wide)) home (omega (arith, wide)) (subst (IsHome more) (sym (none.1 0)) (home 0 grown.first));
        },
        inl (refl, refl),
        (subst (λ (k : ℕ). list_of k later ≡ ask.added) (sym root) list, ap (λ (k : ℕ). nib may_make k 0) (sym named)),
      ),
    )

pub reserves_moves : (v : List Entry) (ask : Entry) → Moves IsGrown no_view anyhow 0 (reached_at v no_nib) stays (Reserves (step 0 0 0 ask) (reached_at v no_nib))
reserves_moves v ask cells log grown pre away =
    let x : ℕ = stays (get_or cells 0 (0, false)).0 in
    let old : List Cell = set cells 0 (x, true) in
    let more : List Cell = old ++ (0, false) ∷ [] in
    let wide : length more ≡ length cells + 1 = length-append old ((0, false) ∷ []) ∙ ap (λ (k : ℕ). k + 1) (length-set cells 0 (x, true)) in
    let home : (k : ℕ) → IsHome cells k → IsHome more k = λ k h. home_more old k (home_set cells 0 x k h) in (
      grown.some,
      grown.first,
      (
        adds,
        [],
        None,
        tt,
        record {
          some = omega (arith, wide);
          first = home 0 grown.first;
          used = used_same cells more log grown.used (omega (arith, wide)) home;
        },
        inl (refl, refl),
        refl,
      ),
    )

-- p is the right to the next word of the pair
pub adds_moves : (v : List Entry) (ask : Entry) (p : Nib) → p.right ≡ may_write → p.key ≡ log_next v → ask.root ≡ root_of v
    → Moves IsGrown no_view anyhow 0 (reached_at v p) stays (Adds (step 0 0 0 ask) (reached_at v p))
adds_moves v ask p right key is cells log grown pre away =
    let x : ℕ = stays (get_or cells 0 (0, false)).0 in
    let root : ℕ = ask.root in
    let there = away right in
    let old : List Cell = set cells 0 (x, true) in
    let more : List Cell = set old p.key (p.value, true) in
    let later : List Entry = log ++ ask ∷ [] in
    let same : length old ≡ length cells = length-set cells 0 (x, true) in
    let wide : length more ≡ length cells = length-set old p.key (p.value, true) ∙ same in
    let home : (k : ℕ) → IsHome cells k → IsHome more k = λ k h. home_set old p.key p.value k (home_set cells 0 x k h) in
    let word : p.key ≡ next_of root v = subst (λ (k : ℕ). p.key ≡ next_of k v) (sym is) key in
    let mine = quiet cells root v pre.0 log pre.1 grown.used (λ h. absurd (cc (sym there.1 ∙ subst (IsHome cells) (sym word) h))) in
    let named : root_of v < length cells =
    root_below (length cells) 0 v grown.some (λ before e after d. (grown.used before e (after ++ pre.0) (sym pre.1 ∙ (ap (λ (l : List Entry). l ++ pre.0) d ∙ append_assoc before (e ∷ after) pre.0))).0) in
    let now : root_of later ≡ root = root_of-more log ask in
    let list : list_of root later ≡ list_of root v ++ ask.added = list_of-more root log ask ∙ (ap (λ (b : Bool). list_of root log ++ (if b then ask.added else [])) (same_number root) ∙ ap (λ (l : List Operation). l ++ ask.added) mine.0) in
    let next : next_of root later ≡ ask.next = next_of-more root log ask ∙ ap (λ (b : Bool). if b then ask.next else next_of root log) (same_number root) in
    let comes : IsHome more p.key = home_here old p.key p.value (omega (arith, there.0, same)) in (
      grown.some,
      grown.first,
      (
        gives,
        ask ∷ [],
        None,
        right,
        record {
          some = omega (arith, wide, grown.some);
          first = home 0 grown.first;
          used = used_more cells more log ask grown.used (omega (arith, wide)) home (omega (arith, wide, is, named)) (subst (IsHome more) (word ∙ sym mine.1) comes);
        },
        inl (refl, refl),
        (
          now ∙ is,
          subst (λ (k : ℕ). list_of k later ≡ log_list v ++ ask.added) (sym now) (subst (λ (k : ℕ). list_of root later ≡ list_of k v ++ ask.added) is list),
          subst (λ (k : ℕ). next_of k later ≡ ask.next) (sym now) next,
        ),
      ),
    )
