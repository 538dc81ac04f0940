-- The moves of a walk that passes some fragments, on the way; and what they carry along.
use Rattle.std.proofs.Common.{◌≡◌, ℕ, ◌+◌, ◌-◌, ◌<◌, length, Bool, true, false, cond, List, [], ◌∷◌, ◌++◌, map, refl, sym, ap, ◌∙◌, subst, arith, inl, inr, Some, None, append_assoc, append-nil}
use Rattle.std.specs.List.{AllByRecursion, slice_get}
use Rattle.std.proofs.lemmas.Bool.{cases_Bool}
use Rattle.lamport_clock.specs.declared.stamp.Lamport.{Lamport}
use Rattle.fragments.specs.declared.fragment.Fragment.{Fragment}
use Rattle.fragments.specs.declared.fragment.FragmentSummary.{FragmentSummary}
use Rattle.fragments.specs.Summaries.{summary_of}
use Rattle.fragments.specs.Laws.{shown_len}
use Rattle.fragments.proofs.Cells.{shown_append_len}
use Rattle.remote_edit.specs.declared.moves.Move.{Move}
use Rattle.remote_edit.specs.declared.moves.Move.TheVariants.{Visible, Hidden}
use Rattle.remote_edit.specs.declared.passed.Passed.{Passed}
use Rattle.remote_edit.specs.Moves.{with_move}
use Rattle.remote_edit.specs.Carried.{move_for, hidden_len, CarryOn}
use Rattle.remote_edit.specs.Among.{moves_on, moves_among}
use Rattle.remote_edit.proofs.Carrying.{SameCells, go_on, on_one, on_stretch, stay}
use Rattle.remote_edit.proofs.PassedPlaces.{hidden_append_len}
use Rattle.remote_edit.proofs.Finding.{Cursor, IsNext, IsPast, Stands, Unkept, find, find_end, nothing_passed, over, place_at, stands_first}

abbrev pub kept_moves : List Move → ℕ → ℕ → List Move
kept_moves ms s h = with_move (with_move ms (Visible s)) (Hidden h)

one_len : (x : Fragment) (s h : ℕ) (xs : List Fragment) → (cond x.visible (s + x.len) s + shown_len xs ≡ s + shown_len (x ∷ xs)) × (cond x.visible h (h + x.len) + hidden_len xs ≡ h + hidden_len (x ∷ xs))
one_len x s h xs = go x.visible
  where
    go : (b : Bool) → (cond b (s + x.len) s + shown_len xs ≡ s + cond b (x.len + shown_len xs) (shown_len xs)) × (cond b h (h + x.len) + hidden_len xs ≡ h + cond b (hidden_len xs) (x.len + hidden_len xs))
    go true = (omega arith, omega arith)
    go false = (omega arith, omega arith)

module _ (keeps : FragmentSummary → Bool) (does : Fragment → Move) where
  same_on : (ms : List Move) (s h s2 h2 : ℕ) (fs : List Fragment) → s ≡ s2 → h ≡ h2 → moves_on keeps does ms s h fs ≡ moves_on keeps does ms s2 h2 fs
  same_on ms s h s2 h2 fs e f = ap (λ (n : ℕ). moves_on keeps does ms n h fs) e ∙ ap (λ (n : ℕ). moves_on keeps does ms s2 n fs) f

  -- fragments that are passed
  passed_on : (ms : List Move) (s h : ℕ) (xs ys : List Fragment) → AllByRecursion (Unkept keeps summary_of) xs → moves_on keeps does ms s h (xs ++ ys) ≡ moves_on keeps does ms (s + shown_len xs) (h + hidden_len xs) ys
  passed_on ms s h [] ys u = same_on ms s h (s + 0) (h + 0) ys (omega arith) (omega arith)
  passed_on ms s h (x ∷ xs) ys u =
      let n = one_len x s h xs in
      rw (u.0) (passed_on ms (cond x.visible (s + x.len) s) (cond x.visible h (h + x.len)) xs ys u.1 ∙ same_on ms _ _ (s + shown_len (x ∷ xs)) (h + hidden_len (x ∷ xs)) ys n.0 n.1)

  pub passed_first : (ms : List Move) (xs ys : List Fragment) → AllByRecursion (Unkept keeps summary_of) xs → moves_on keeps does ms 0 0 (xs ++ ys) ≡ moves_on keeps does ms (shown_len xs) (hidden_len xs) ys
  passed_first ms xs ys u = passed_on ms 0 0 xs ys u ∙ same_on ms (0 + shown_len xs) (0 + hidden_len xs) (shown_len xs) (hidden_len xs) ys (omega arith) (omega arith)

  -- one more that is passed after others
  pub one_more : (ms : List Move) (xs : List Fragment) (x : Fragment) (rest : List Fragment) → moves_on keeps does ms (shown_len (xs ++ x ∷ [])) (hidden_len (xs ++ x ∷ [])) rest
      ≡ moves_on keeps does ms (cond x.visible (shown_len xs + x.len) (shown_len xs)) (cond x.visible (hidden_len xs) (hidden_len xs + x.len)) rest
  one_more ms xs x rest =
      let o = one_len x (shown_len xs) (hidden_len xs) [] in let v = o.0 in let w = o.1 in
      let a = shown_append_len xs (x ∷ []) in let b = hidden_append_len xs (x ∷ []) in
      same_on ms _ _ _ _ rest (omega (arith, v, a)) (omega (arith, w, b))

-- ---- the walk

module _ {K : Type 0} (keeps : K → FragmentSummary → Bool) (want : FragmentSummary → Bool) (does : Fragment → Move) (fs : List Fragment) where
  -- the moves of the fragments before the cursor's place, by those of the fragments to come
  pub record Walked (ms : List Move) (a : Cursor K) (at : Passed) : Type 0 where
    pub pre : List Fragment
    pub rest : List Fragment
    pub stands : Stands keeps want fs pre rest a at
    pub moves : moves_on want does ms 0 0 rest ≡ moves_among want does fs

  pub begin : (k : K) (ms : List Move) (a : Cursor K) → keeps k ≡ want → ms ≡ [] → a ≡ record { items = fs; from = nothing_passed; keep = k; given = 0; next = 0 } → Walked ms a nothing_passed
  begin k ms a w e f = record { pre = []; rest = fs; stands = stands_first keeps want fs k a w f; moves = ap (λ (z : List Move). moves_on want does z 0 0 fs) e }

  module _ (ms : List Move) (a b : Cursor K) (at s : Passed) (p : Walked ms a at) (m : IsNext keeps a b) (e : (s.visible, s.hidden) ≡ place_at b b.given) where
    -- the fragment x comes next, and starts at s
    pub record Step (x : Fragment) : Type 0 where
      pub xs : List Fragment
      pub skipped : IsPast at s xs
      pub smaller : length fs - b.next < length fs - a.next
      pub on : (mv : Move) (ms1 ms2 : List Move) (q : Passed) → mv ≡ does x → ms1 ≡ kept_moves ms (s.visible - at.visible) (s.hidden - at.hidden) → ms2 ≡ with_move ms1 mv → (q.visible, q.hidden) ≡ place_at b b.next → Walked ms2 b q

    pub step : (x : Fragment) → slice_get a.items (a.next + over keeps a) ≡ Some x → Step x
    step x g =
        let n = find keeps want fs p.pre p.rest a b at p.stands m x s g e in
        let v = n.skipped.shown_is in let w = n.skipped.hidden_is in
        record {
          xs = n.xs;
          skipped = n.skipped;
          smaller = n.smaller;
          on = λ mv ms1 ms2 q f i j o. record {
            pre = (p.pre ++ n.xs) ++ x ∷ [];
            rest = n.ahead;
            stands = n.on q o;
            moves =
                let put : ms2 ≡ with_move (kept_moves ms (shown_len n.xs) (hidden_len n.xs)) (does x) =
                j ∙ ap (with_move ms1) f ∙ ap (λ (z : List Move). with_move z (does x)) (i ∙ ap (λ (c : ℕ). kept_moves ms c (s.hidden - at.hidden)) v ∙ ap (kept_moves ms (shown_len n.xs)) w) in
                let one : moves_on want does ms (shown_len n.xs) (hidden_len n.xs) (x ∷ n.ahead) ≡ moves_on want does ms2 0 0 n.ahead = rw (n.kept, put) refl in
                sym one ∙ sym (passed_first want does ms n.xs (x ∷ n.ahead) n.unkept) ∙ ap (moves_on want does ms 0 0) (sym n.parts) ∙ p.moves;
          };
        }

    -- no further one comes, and all end at s
    pub record End : Type 0 where
      pub skipped : IsPast at s p.rest
      pub moves : (ms1 : List Move) → ms1 ≡ kept_moves ms (s.visible - at.visible) (s.hidden - at.hidden) → ms1 ≡ moves_among want does fs

    pub end : slice_get a.items (a.next + over keeps a) ≡ None → End
    end g =
        let n = find_end keeps want fs p.pre p.rest a b at p.stands m s g e in
        record {
          skipped = n.skipped;
          moves = λ ms1 i. i ∙ ap (λ (c : ℕ). kept_moves ms c (s.hidden - at.hidden)) n.skipped.shown_is ∙ ap (kept_moves ms (shown_len p.rest)) n.skipped.hidden_is
              ∙ sym (passed_first want does ms p.rest [] n.unkept) ∙ ap (moves_on want does ms 0 0) (append-nil p.rest) ∙ p.moves;
        }

-- ---- what the moves carry along

-- fragments become others with the same cells, as their moves say; those that are passed stay
pub record Becomes (keeps : FragmentSummary → Bool) (does : Fragment → Move) (m : Fragment → Fragment) (f : Fragment) : Type 0 where
  pub cells : SameCells f (m f)
  pub move : does f ≡ move_for f.visible (m f).visible f.len
  pub stays : keeps (summary_of f) ≡ false → m f ≡ f

module _ (keeps : FragmentSummary → Bool) (does : Fragment → Move) (m : Fragment → Fragment) (t : Lamport) (fs : List Fragment) where
  carried_on : (done xs rest : List Fragment) (ms : List Move) → AllByRecursion (Becomes keeps does m) rest → CarryOn t [] [] fs 0 ms done (xs ++ rest) 0
      → CarryOn t [] [] fs 0 (moves_on keeps does ms (shown_len xs) (hidden_len xs) rest) (done ++ (xs ++ map m rest)) [] 0
  carried_on done xs [] ms b c =
      subst (λ (z : List Fragment). CarryOn t [] [] fs 0 (kept_moves ms (shown_len xs) (hidden_len xs)) (done ++ z) [] 0) (sym (append-nil xs)) (go_on (omega arith) c (on_stretch xs []))
  carried_on done xs (x ∷ rest) ms b c = elim (cases_Bool (keeps (summary_of x))) [
    | inl e ↦ (let kept : List Move = kept_moves ms (shown_len xs) (hidden_len xs) in
        let before : List Fragment = (done ++ xs) ++ m x ∷ [] in
        let over : CarryOn t [] [] fs 0 kept (done ++ xs) (x ∷ rest) 0 = go_on (omega arith) c (on_stretch xs (x ∷ rest)) in
        let moved : CarryOn t [] [] fs 0 (with_move kept (does x)) before rest 0 =
        subst (λ (z : Move). CarryOn t [] [] fs 0 (with_move kept z) before rest 0) (sym b.0.move) (go_on (omega arith) over (on_one x (m x) rest b.0.cells)) in
        let all : before ++ map m rest ≡ done ++ (xs ++ m x ∷ map m rest) = append_assoc (done ++ xs) (m x ∷ []) (map m rest) ∙ append_assoc done xs (m x ∷ map m rest) in
        rw e (subst (λ (z : List Fragment). CarryOn t [] [] fs 0 (moves_on keeps does (with_move kept (does x)) 0 0 rest) z [] 0) all (carried_on before [] rest (with_move kept (does x)) b.1 moved)))
    | inr e ↦ (let more : List Fragment = xs ++ x ∷ [] in
        let on : CarryOn t [] [] fs 0 ms done (more ++ rest) 0 = subst (λ (z : List Fragment). CarryOn t [] [] fs 0 ms done z 0) (sym (append_assoc xs (x ∷ []) rest)) c in
        let all : more ++ map m rest ≡ xs ++ m x ∷ map m rest = append_assoc xs (x ∷ []) (map m rest) ∙ ap (λ (z : Fragment). xs ++ z ∷ map m rest) (sym (b.0.stays e)) in
        rw e (subst (λ (z : List Move). CarryOn t [] [] fs 0 z (done ++ (xs ++ m x ∷ map m rest)) [] 0) (one_more keeps does ms xs x rest)
        (subst (λ (z : List Fragment). CarryOn t [] [] fs 0 (moves_on keeps does ms (shown_len more) (hidden_len more) rest) (done ++ z) [] 0) all (carried_on done more rest ms b.1 on))))
  ]

  pub carried : AllByRecursion (Becomes keeps does m) fs → CarryOn t [] [] fs 0 (moves_among keeps does fs) (map m fs) [] 0
  carried b = carried_on [] [] fs [] b stay

-- fragments that became others with the same cells, as the moves of these say; those that are passed stayed
pub record Became (keeps : FragmentSummary → Bool) (does : Fragment → Move) (m : Fragment → Fragment) (f : Fragment) : Type 0 where
  pub cells : SameCells f (m f)
  pub move : does (m f) ≡ move_for f.visible (m f).visible f.len
  pub stays : keeps (summary_of (m f)) ≡ false → m f ≡ f

module _ (keeps : FragmentSummary → Bool) (does : Fragment → Move) (m : Fragment → Fragment) (t : Lamport) (fs : List Fragment) where
  read_on : (done xs rest : List Fragment) (ms : List Move) → AllByRecursion (Became keeps does m) rest → CarryOn t [] [] fs 0 ms done (xs ++ rest) 0
      → CarryOn t [] [] fs 0 (moves_on keeps does ms (shown_len xs) (hidden_len xs) (map m rest)) (done ++ (xs ++ map m rest)) [] 0
  read_on done xs [] ms b c =
      subst (λ (z : List Fragment). CarryOn t [] [] fs 0 (kept_moves ms (shown_len xs) (hidden_len xs)) (done ++ z) [] 0) (sym (append-nil xs)) (go_on (omega arith) c (on_stretch xs []))
  read_on done xs (x ∷ rest) ms b c = elim (cases_Bool (keeps (summary_of (m x)))) [
    | inl e ↦ (let kept : List Move = kept_moves ms (shown_len xs) (hidden_len xs) in
        let before : List Fragment = (done ++ xs) ++ m x ∷ [] in
        let over : CarryOn t [] [] fs 0 kept (done ++ xs) (x ∷ rest) 0 = go_on (omega arith) c (on_stretch xs (x ∷ rest)) in
        let moved : CarryOn t [] [] fs 0 (with_move kept (does (m x))) before rest 0 =
        subst (λ (z : Move). CarryOn t [] [] fs 0 (with_move kept z) before rest 0) (sym b.0.move) (go_on (omega arith) over (on_one x (m x) rest b.0.cells)) in
        let all : before ++ map m rest ≡ done ++ (xs ++ m x ∷ map m rest) = append_assoc (done ++ xs) (m x ∷ []) (map m rest) ∙ append_assoc done xs (m x ∷ map m rest) in
        rw e (subst (λ (z : List Fragment). CarryOn t [] [] fs 0 (moves_on keeps does (with_move kept (does (m x))) 0 0 (map m rest)) z [] 0) all (read_on before [] rest (with_move kept (does (m x))) b.1 moved)))
    | inr e ↦ (let more : List Fragment = xs ++ x ∷ [] in
        let stayed : m x ≡ x = b.0.stays e in
        let off : keeps (summary_of x) ≡ false = ap (λ (z : Fragment). keeps (summary_of z)) (sym stayed) ∙ e in
        let on : CarryOn t [] [] fs 0 ms done (more ++ rest) 0 = subst (λ (z : List Fragment). CarryOn t [] [] fs 0 ms done z 0) (sym (append_assoc xs (x ∷ []) rest)) c in
        let all : more ++ map m rest ≡ xs ++ x ∷ map m rest = append_assoc xs (x ∷ []) (map m rest) in
        let here : CarryOn t [] [] fs 0 (moves_on keeps does ms (shown_len xs) (hidden_len xs) (x ∷ map m rest)) (done ++ (xs ++ x ∷ map m rest)) [] 0 =
        rw off (subst (λ (z : List Move). CarryOn t [] [] fs 0 z (done ++ (xs ++ x ∷ map m rest)) [] 0) (one_more keeps does ms xs x (map m rest))
        (subst (λ (z : List Fragment). CarryOn t [] [] fs 0 (moves_on keeps does ms (shown_len more) (hidden_len more) (map m rest)) (done ++ z) [] 0) all (read_on done more rest ms b.1 on))) in
        subst (λ (z : Fragment). CarryOn t [] [] fs 0 (moves_on keeps does ms (shown_len xs) (hidden_len xs) (z ∷ map m rest)) (done ++ (xs ++ z ∷ map m rest)) [] 0) (sym stayed) here)
  ]

  pub read_carried : AllByRecursion (Became keeps does m) fs → CarryOn t [] [] fs 0 (moves_among keeps does (map m fs)) (map m fs) [] 0
  read_carried b = read_on [] [] fs [] b stay
