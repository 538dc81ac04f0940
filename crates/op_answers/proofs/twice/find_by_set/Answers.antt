use Rattle.std.proofs.Common.{sym, ◌∙◌, get_or}
use Rattle.std.specs.BTreeSet.{contains}
use Rattle.std.proofs.lemmas.Bool.{not-true}
use Rattle.lamport_clock.specs.declared.stamp.Lamport.{Lamport}
use Rattle.lamport_clock.specs.Stamps.{stamp_cmp}
use Rattle.op_answers.proofs.Repeats.{kept_on}
use Rattle.op_answers.proofs.twice.find_by_set.Goals as goal
use Rattle.op_model.proofs.answers.Repeats.{goes_on}

pub loop-stamp-preserved : goal.loop-stamp-preserved
loop-stamp-preserved c =
    let s = c.args.stamps.now in
    let i = c.loop-stamp.stamp-index in
    let d : Lamport = record { value = 0; replica = 0 } in
    let l = c.loop-stamp-test.true in
    let past = c.loop-stamp.invariant.past in
    record {
      found = goes_on s i d _ (contains stamp_cmp c.loop-stamp.past (get_or s i d)) l (past (get_or s i d)) (not-true _ (sym c.in_ok-is_new.ensures.added ∙ c.if-not-is_new.false)) c.loop-stamp.invariant.found;
      past = kept_on s i d (contains stamp_cmp c.loop-stamp.past) (contains stamp_cmp c.insert.new.self) l past c.in_ok-is_new.ensures.updates.0;
    }
