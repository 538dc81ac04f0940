use Rattle.std.proofs.Common.{◌≡◌, ℕ, ◌+◌, ◌-◌, ◌≤◌, List, [], ◌++◌, length, take, drop, refl, sym, ap, subst, ◌∙◌, arith, append-nil, take-append-drop}
use Rattle.fragments.specs.declared.fragment.Fragment.{Fragment}
use Rattle.fragments.specs.Laws.{cells_len}
use Rattle.remote_edit.specs.Indexes.{IsIndexed}
use Rattle.remote_edit.specs.Starts.{starts}
use Rattle.remote_edit.specs.Walk.{Fit, seen_bytes}
use Rattle.remote_edit.proofs.Intake.{few_all}
use Rattle.remote_edit.proofs.walk.Walk.gather.Goals as goal

pub same-tree : goal.same-tree
same-tree c = refl

-- nothing is made at first
at_start : (xs : List Fragment) (i : ℕ) (made : List Fragment) → made ≡ [] → take i xs ++ made ≡ take i xs
at_start xs i made e = ap (λ (m : List Fragment). take i xs ++ m) e ∙ append-nil (take i xs)

all_at_start : (xs : List Fragment) (i : ℕ) (made : List Fragment) → made ≡ [] → (take i xs ++ made) ++ drop i xs ≡ xs
all_at_start xs i made e = ap (λ (p : List Fragment). p ++ drop i xs) (at_start xs i made e) ∙ take-append-drop i xs

pub pass-requires-clause-within : goal.pass-requires-clause-within
pass-requires-clause-within c = c.requires.within

pub pass-requires-clause-fit : goal.pass-requires-clause-fit
pass-requires-clause-fit c =
    let s = c.args.self in
    subst Fit (sym (all_at_start s.tree.items s.at c.new.result.items c.new.ensures.items)) c.requires.fit

pub pass-requires-clause-place : goal.pass-requires-clause-place
pass-requires-clause-place c =
    let s = c.args.self in
    c.requires.place ∙ ap (seen_bytes c.args.edit.now.version) (sym (at_start s.tree.items s.at c.new.result.items c.new.ensures.items))

pub pass-requires-clause-indexed : goal.pass-requires-clause-indexed
pass-requires-clause-indexed c =
    let s = c.args.self in
    subst (λ (p : List Fragment). IsIndexed c.args.edit.now.stamp s.number (p ++ drop s.at s.tree.items) s.index) (sym (at_start s.tree.items s.at c.new.result.items c.new.ensures.items)) c.requires.indexed

pub skip_later-requires-clause-within : goal.skip_later-requires-clause-within
skip_later-requires-clause-within c = omega (arith, c.in_ok-pass.ensures.from, c.requires.within)

pub skip_later-requires-clause-fit : goal.skip_later-requires-clause-fit
skip_later-requires-clause-fit c = c.in_ok-pass.ensures.gathered.fit

pub skip_later-requires-clause-place : goal.skip_later-requires-clause-place
skip_later-requires-clause-place c = c.in_ok-pass.ensures.gathered.place

pub skip_later-requires-clause-indexed : goal.skip_later-requires-clause-indexed
skip_later-requires-clause-indexed c = c.in_ok-pass.ensures.indexed

pub put_new-requires-clause-unseen : goal.put_new-requires-clause-unseen
put_new-requires-clause-unseen c = c.requires.unseen

pub put_new-requires-clause-room : goal.put_new-requires-clause-room
put_new-requires-clause-room c =
    let s = c.args.self in
    let whole = ap cells_len (all_at_start s.tree.items s.at c.new.result.items c.new.ensures.items) in
    omega (arith, c.in_ok-skip_later.ensures.gathered.same, c.in_ok-pass.ensures.gathered.same, whole, ap length c.as_str.ensures, c.requires.room)

pub put_new-requires-clause-numbers : goal.put_new-requires-clause-numbers
put_new-requires-clause-numbers c = omega (arith, c.in_ok-skip_later.ensures.number, c.in_ok-pass.ensures.number, ap length c.as_str.ensures, c.requires.numbers)

pub put_new-requires-clause-within : goal.put_new-requires-clause-within
put_new-requires-clause-within c = omega (arith, c.in_ok-skip_later.ensures.from, c.in_ok-pass.ensures.from, c.requires.within)

pub put_new-requires-clause-fit : goal.put_new-requires-clause-fit
put_new-requires-clause-fit c = c.in_ok-skip_later.ensures.gathered.fit

pub put_new-requires-clause-place : goal.put_new-requires-clause-place
put_new-requires-clause-place c = c.in_ok-skip_later.ensures.gathered.place

pub put_new-requires-clause-indexed : goal.put_new-requires-clause-indexed
put_new-requires-clause-indexed c = c.in_ok-skip_later.ensures.indexed

pub pass-requires-2-clause-within : goal.pass-requires-2-clause-within
pass-requires-2-clause-within c = omega (arith, c.in_ok-put_new.ensures.from, c.in_ok-skip_later.ensures.from, c.in_ok-pass.ensures.from, c.requires.within)

pub pass-requires-2-clause-fit : goal.pass-requires-2-clause-fit
pass-requires-2-clause-fit c = c.in_ok-put_new.ensures.gathered.fit

pub pass-requires-2-clause-place : goal.pass-requires-2-clause-place
pass-requires-2-clause-place c = c.in_ok-put_new.ensures.gathered.place

pub pass-requires-2-clause-indexed : goal.pass-requires-2-clause-indexed
pass-requires-2-clause-indexed c = c.in_ok-put_new.ensures.indexed

pub returns-clause-few : goal.returns-clause-few
returns-clause-few c = λ a.
    let s = c.args.self in
    let p = c.args.piece.now in
    let k : ℕ = c.args.left in
    let r : ℕ = c.saturating_sub-range.result in
    let xs : List Fragment = s.tree.items in
    let w = c.in_ok-pass.ensures.few a in
    let n = c.in_ok-put_new.ensures in
    let x : c.pass-2.new.self.at ≤ s.at + starts 0 (k + r) (drop s.at xs) = few_all c.args.edit.now.version xs _ c.pass.new.self c.skip_later.new.self c.put_new.new.self c.pass-2.new.self k r
    w (c.in_ok-skip_later.ensures.none w.seen) n.at n.back c.in_ok-pass-2.ensures.few in
    let e : starts 0 (k + r) (drop s.at xs) ≡ starts 0 (k + (p.end - p.start)) (drop s.at xs) = ap (λ (m : ℕ). starts 0 (k + m) (drop s.at xs)) c.saturating_sub-range.ensures in
    omega (arith, x, e)
