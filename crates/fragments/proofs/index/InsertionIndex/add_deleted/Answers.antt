use Rattle.std.proofs.Common.{◌≡◌, ◌∙◌, ◌<◌, ◌≤◌, ◌^◌, ℕ, Bool, cond, List, length, subst, sym, ap, arith}
use Rattle.std.proofs.lemmas.Bool.{lt-ltb, le-ltb}
use Rattle.sum_tree.specs.Keyed.{insert_item}
use Rattle.lamport_clock.specs.declared.stamp.Lamport.{Lamport}
use Rattle.fragments.specs.declared.deleted_run.DeletedRun.{DeletedRun}
use Rattle.fragments.specs.Index.{key_cmp, with_entries}
use Rattle.fragments.specs.DeletedRuns.{IndexState, run_key, AreNumbered, with_run, keep_run, delete_run}
use Rattle.fragments.proofs.Runs.{runs_long, numbered_kept}
use Rattle.fragments.proofs.index.InsertionIndex.add_deleted.Goals as goal

-- an index with as many runs as it keeps stays
full_same : (x : IndexState) (t s : Lamport) (k n : ℕ) → 2 ^ 40 ≤ length x.deletions → x ≡ delete_run t s k n x
full_same x t s k n l = ap (λ (b : Bool). record { entries = x.entries; deletions = cond b (with_run t s k n x.deletions) x.deletions }) (sym (le-ltb (length x.deletions) (2 ^ 40) l))

pub insert-requires-clause-short : goal.insert-requires-clause-short
insert-requires-clause-short c =
    let l = runs_long c.args.edit c.args.stamp c.args.offset c.args.len c.self.inside.deletions.items c.self.invariant.1 in
    subst (λ (n : ℕ). length (insert_item key_cmp run_key (record { edit = c.args.edit; number = n; stamp = c.args.stamp; offset = c.args.offset; len = c.args.len }) c.self.inside.deletions.items) ≤ 2 ^ 40)
    (sym c.len-number.ensures) (omega (arith, l, c.len-number.ensures, c.if-number-ge-MOST_RUNS.false))

-- the runs with the new one are those that are kept
kept : (t s : Lamport) (k n i : ℕ) (rs ys : List DeletedRun) → i ≡ length rs → i < 2 ^ 40 → ys ≡ insert_item key_cmp run_key (record { edit = t; number = i; stamp = s; offset = k; len = n }) rs → ys ≡ keep_run t s k n rs
kept t s k n i rs ys e l q =
    q ∙ ap (λ (j : ℕ). insert_item key_cmp run_key (record { edit = t; number = j; stamp = s; offset = k; len = n }) rs) e
    ∙ ap (λ (b : Bool). cond b (with_run t s k n rs) rs) (sym (lt-ltb (length rs) (2 ^ 40) (omega (arith, e, l))))

pub invariant_of-self-2 : goal.invariant_of-self-2
invariant_of-self-2 c =
    let q = kept c.args.edit c.args.stamp c.args.offset c.args.len c.len-number.result c.self.inside.deletions.items c.insert.new.self.items c.len-number.ensures c.if-number-ge-MOST_RUNS.false c.in_ok-insert.ensures.ok in
    (c.self.invariant.0, subst AreNumbered (sym q) (numbered_kept c.args.edit c.args.stamp c.args.offset c.args.len c.self.inside.deletions.items c.self.invariant.1), c.self.invariant.2)

pub returns-clause-ok : goal.returns-clause-ok
returns-clause-ok c =
    let q = kept c.args.edit c.args.stamp c.args.offset c.args.len c.len-number.result c.self.inside.deletions.items c.insert.new.self.items c.len-number.ensures c.if-number-ge-MOST_RUNS.false c.in_ok-insert.ensures.ok in
    ap (λ (w : List DeletedRun). record { entries = with_entries c.self.inside.recent c.self.inside.entries.items; deletions = w }) q ∙ ap (delete_run c.args.edit c.args.stamp c.args.offset c.args.len) c.self.view_is
