-- The edits of fates, along one walk with the run that is open.
use Rattle.std.proofs.Common.{◌≡◌, ℕ, zero, suc, ◌+◌, Bool, true, false, cond, ◌||◌, nat_lt, List, [], ◌∷◌, ◌++◌, refl, sym, ap, ◌∙◌, arith, append_assoc, append-nil, ne_eqb, eqb}
use Rattle.op_model.specs.declared.anchor.TextEdit.{TextEdit}
use Rattle.op_model.specs.Since.{Fate, fate, lengthen, runs, number_gone, number_new, edits_of}
use Rattle.op_model.specs.Since.Fate.{Kept, Gone, New, Never}
use Rattle.op_model.proofs.since.Followed.{changes_is}
use Rattle.edits_since.specs.declared.open_run.OpenRun.{OpenRun}
use Rattle.edits_since.specs.Fates.{alike}
use Rattle.edits_since.specs.Opened.{at_start, all_edits, old_end, new_end, with_kept, with_bytes}

-- the edit of a run that begins at old and new and has g gone and n new cells
abbrev pub run_edit : ℕ → ℕ → ℕ → ℕ → List TextEdit
run_edit old new g n = cond (nat_lt 0 g || nat_lt 0 n) (record { old = (old, old + g); new = (new, new + n) } ∷ []) []

-- the edits of a run with g gone and n new cells so far, and of the fates after them
abbrev pub edits_on : ℕ → ℕ → ℕ → ℕ → List Fate → List TextEdit
edits_on old new g n [] = run_edit old new g n
edits_on old new g n (Kept ∷ s) = run_edit old new g n ++ edits_on (suc (old + g)) (suc (new + n)) 0 0 s
edits_on old new g n (Gone ∷ s) = edits_on old new (suc g) n s
edits_on old new g n (New ∷ s) = edits_on old new g (suc n) s
edits_on old new g n (Never ∷ s) = edits_on old new g n s

-- ---- they are the edits of the runs

abbrev run_first : ℕ → ℕ → ℕ → ℕ → List (List Fate) → List TextEdit
run_first old new g n rs = run_edit old new g n ++ edits_of (suc (old + g)) (suc (new + n)) rs

same_first : (old new : ℕ) (rs : List (List Fate)) (g h n m : ℕ) → g ≡ h → n ≡ m → run_first old new g n rs ≡ run_first old new h m rs
same_first old new rs g h n m e f = ap (λ (x : ℕ). run_first old new x n rs) e ∙ ap (λ (x : ℕ). run_first old new h x rs) f

abbrev open_runs : ℕ → ℕ → ℕ → ℕ → List (List Fate) → List TextEdit
open_runs old new g n [] = run_first old new g n []
open_runs old new g n (r ∷ rs) = run_first old new (g + number_gone r) (n + number_new r) rs

front : (b : Bool) (e : TextEdit) (es : List TextEdit) → cond b (e ∷ []) [] ++ es ≡ cond b (e ∷ es) es
front true e es = refl
front false e es = refl

opened : (old new : ℕ) (rs : List (List Fate)) → open_runs old new 0 0 rs ≡ edits_of old new rs
opened old new [] = refl
opened old new (r ∷ rs) =
    let g : 0 + number_gone r ≡ number_gone r = omega arith in
    let n : 0 + number_new r ≡ number_new r = omega arith in
    let e : TextEdit = record { old = (old, old + number_gone r); new = (new, new + number_new r) } in
    let es : List TextEdit = edits_of (suc (old + number_gone r)) (suc (new + number_new r)) rs in
    same_first old new rs (0 + number_gone r) (number_gone r) (0 + number_new r) (number_new r) g n
    ∙ front (nat_lt 0 (number_gone r) || nat_lt 0 (number_new r)) e es ∙ ap (λ (b : Bool). cond b (e ∷ es) es) (sym (changes_is r))

plus_none : (n : ℕ) → n ≡ n + 0
plus_none n = omega arith

plus_more : (n m : ℕ) → suc n + m ≡ n + suc m
plus_more n m = omega arith

gone_first : (old new g n : ℕ) (rs : List (List Fate)) → open_runs old new (suc g) n rs ≡ open_runs old new g n (lengthen Gone rs)
gone_first old new g n [] = same_first old new [] (suc g) (g + 1) n (n + 0) (omega arith) (plus_none n)
gone_first old new g n (r ∷ rs) = same_first old new rs (suc g + number_gone r) (g + suc (number_gone r)) (n + number_new r) (n + number_new r) (plus_more g (number_gone r)) refl

new_first : (old new g n : ℕ) (rs : List (List Fate)) → open_runs old new g (suc n) rs ≡ open_runs old new g n (lengthen New rs)
new_first old new g n [] = same_first old new [] g (g + 0) (suc n) (n + 1) (plus_none g) (omega arith)
new_first old new g n (r ∷ rs) = same_first old new rs (g + number_gone r) (g + number_gone r) (suc n + number_new r) (n + suc (number_new r)) refl (plus_more n (number_new r))

never_first : (old new g n : ℕ) (rs : List (List Fate)) → open_runs old new g n rs ≡ open_runs old new g n (lengthen Never rs)
never_first old new g n [] = same_first old new [] g (g + 0) n (n + 0) (plus_none g) (plus_none n)
never_first old new g n (r ∷ rs) = refl

on_runs : (old new g n : ℕ) (s : List Fate) → edits_on old new g n s ≡ open_runs old new g n (runs s)
on_runs old new g n [] = sym (append-nil (run_edit old new g n)) ∙ same_first old new [] g (g + 0) n (n + 0) (plus_none g) (plus_none n)
on_runs old new g n (Kept ∷ s) =
    ap (λ (z : List TextEdit). run_edit old new g n ++ z) (on_runs (suc (old + g)) (suc (new + n)) 0 0 s ∙ opened (suc (old + g)) (suc (new + n)) (runs s))
    ∙ same_first old new (runs s) g (g + 0) n (n + 0) (plus_none g) (plus_none n)
on_runs old new g n (Gone ∷ s) = on_runs old new (suc g) n s ∙ gone_first old new g n (runs s)
on_runs old new g n (New ∷ s) = on_runs old new g (suc n) s ∙ new_first old new g n (runs s)
on_runs old new g n (Never ∷ s) = on_runs old new g n s ∙ never_first old new g n (runs s)

-- ---- cells of one fate

same_on : (s : List Fate) {a b c d x y z w : ℕ} → a ≡ b → c ≡ d → x ≡ y → z ≡ w → edits_on a c x z s ≡ edits_on b d y w s
same_on s {a} {b} {c} {d} {x} {y} {z} {w} p q r t =
    ap (λ (i : ℕ). edits_on i c x z s) p ∙ ap (λ (i : ℕ). edits_on b i x z s) q ∙ ap (λ (i : ℕ). edits_on b d i z s) r ∙ ap (λ (i : ℕ). edits_on b d y i s) t

gone_on : (k old new g n : ℕ) (s : List Fate) → edits_on old new g n (alike k Gone ++ s) ≡ edits_on old new (g + k) n s
gone_on zero old new g n s = same_on s refl refl (plus_none g) refl
gone_on (suc k) old new g n s = gone_on k old new (suc g) n s ∙ same_on s refl refl (plus_more g k) refl

new_on : (k old new g n : ℕ) (s : List Fate) → edits_on old new g n (alike k New ++ s) ≡ edits_on old new g (n + k) s
new_on zero old new g n s = same_on s refl refl refl (plus_none n)
new_on (suc k) old new g n s = new_on k old new g (suc n) s ∙ same_on s refl refl refl (plus_more n k)

pub never_on : (k old new g n : ℕ) (s : List Fate) → edits_on old new g n (alike k Never ++ s) ≡ edits_on old new g n s
never_on zero old new g n s = refl
never_on (suc k) old new g n s = never_on k old new g n s

kept_more : (k old new : ℕ) (s : List Fate) → edits_on old new 0 0 (alike k Kept ++ s) ≡ edits_on (old + k) (new + k) 0 0 s
kept_more zero old new s = same_on s (plus_none old) (plus_none new) refl refl
kept_more (suc k) old new s = kept_more k (suc (old + 0)) (suc (new + 0)) s ∙ same_on s (omega arith) (omega arith) refl refl

kept_on : (k old new g n : ℕ) (s : List Fate) → edits_on old new g n (alike (suc k) Kept ++ s) ≡ run_edit old new g n ++ edits_on (old + g + suc k) (new + n + suc k) 0 0 s
kept_on k old new g n s = ap (λ (z : List TextEdit). run_edit old new g n ++ z) (kept_more k (suc (old + g)) (suc (new + n)) s ∙ same_on s (omega arith) (omega arith) refl refl)

-- ---- the steps of the walk

-- the edits of a walk, where the fates s are ahead
abbrev pub with_fates : OpenRun → List Fate → List TextEdit
with_fates r s = r.edits ++ edits_on r.old_start r.new_start r.gone r.fresh s

ended : (b : Bool) (es : List TextEdit) (e : TextEdit) (rest : List TextEdit) → cond b (es ++ e ∷ []) es ++ rest ≡ es ++ (cond b (e ∷ []) [] ++ rest)
ended true es e rest = append_assoc es (e ∷ []) rest
ended false es e rest = refl

pub over_kept : (n : ℕ) (r : OpenRun) (s : List Fate) → with_fates (with_kept n r) s ≡ with_fates r (alike n Kept ++ s)
over_kept zero r s = refl
over_kept (suc n) r s =
    let e : eqb (suc n) 0 ≡ false = ne_eqb (suc n) 0 (λ q. absurd (omega arith)) in
    rw e (ended (nat_lt 0 r.gone || nat_lt 0 r.fresh) r.edits (record { old = (r.old_start, old_end r); new = (r.new_start, new_end r) }) (edits_on (old_end r + suc n) (new_end r + suc n) 0 0 s)
    ∙ ap (λ (z : List TextEdit). r.edits ++ z) (sym (kept_on n r.old_start r.new_start r.gone r.fresh s)))

pub over_bytes : (n : ℕ) (was is : Bool) (r : OpenRun) (s : List Fate) → with_fates (with_bytes n was is r) s ≡ with_fates r (alike n (fate was is) ++ s)
over_bytes n true true r s = over_kept n r s
over_bytes n true false r s = ap (λ (z : List TextEdit). r.edits ++ z) (sym (gone_on n r.old_start r.new_start r.gone r.fresh s))
over_bytes n false true r s = ap (λ (z : List TextEdit). r.edits ++ z) (sym (new_on n r.old_start r.new_start r.gone r.fresh s))
over_bytes n false false r s = ap (λ (z : List TextEdit). r.edits ++ z) (sym (never_on n r.old_start r.new_start r.gone r.fresh s))

pub from_start : (s : List Fate) → with_fates at_start s ≡ edits_of 0 0 (runs s)
from_start s = on_runs 0 0 0 0 s ∙ opened 0 0 (runs s)

pub at_end : (r : OpenRun) → all_edits r ≡ with_fates r []
at_end r = go (nat_lt 0 r.gone || nat_lt 0 r.fresh)
  where
    e : TextEdit
    e = record { old = (r.old_start, old_end r); new = (r.new_start, new_end r) }

    go : (b : Bool) → cond b (r.edits ++ e ∷ []) r.edits ≡ r.edits ++ cond b (e ∷ []) []
    go true = refl
    go false = sym (append-nil r.edits)

-- ---- what may stand ahead in place of other fates

abbrev pub Same : List Fate → List Fate → Type 0
Same a b = (old new g n : ℕ) → edits_on old new g n a ≡ edits_on old new g n b

same_behind : (x : Fate) (a b : List Fate) → Same a b → Same (x ∷ a) (x ∷ b)
same_behind Kept a b f old new g n = ap (λ (z : List TextEdit). run_edit old new g n ++ z) (f (suc (old + g)) (suc (new + n)) 0 0)
same_behind Gone a b f old new g n = f old new (suc g) n
same_behind New a b f old new g n = f old new g (suc n)
same_behind Never a b f old new g n = f old new g n

pub same_after : (k : ℕ) (x : Fate) (a b : List Fate) → Same a b → Same (alike k x ++ a) (alike k x ++ b)
same_after zero x a b f = f
same_after (suc k) x a b f = same_behind x (alike k x ++ a) (alike k x ++ b) (same_after k x a b f)

pub alike_more : (k m : ℕ) (x : Fate) (s : List Fate) → alike k x ++ (alike m x ++ s) ≡ alike (k + m) x ++ s
alike_more zero m x s = ap (λ (i : ℕ). alike i x ++ s) (omega arith)
alike_more (suc k) m x s = ap (λ (z : List Fate). x ∷ z) (alike_more k m x s) ∙ ap (λ (i : ℕ). alike i x ++ s) (let q : suc (k + m) ≡ suc k + m = omega arith in q)
