use Rattle.std.proofs.Common.{◌≡◌, ℕ, ◌+◌, List, [], ◌∷◌, ◌++◌, drop, length, length-append, Vec, Global, reverse, sym, ap, ◌∙◌, subst, arith, append_assoc, append-nil}
use Rattle.std.specs.List.{AllZip}
use Rattle.std.proofs.lemmas.List.{length-map, nil_from_length}
use Rattle.std.proofs.lemmas.Slice.Zip.{all_zipped_more}
use Rattle.std.specs.Vec.Iter.{into_iter_items}
use Rattle.op_model.proofs.Elements.{drop_at}
use Rattle.snapshot_pub.specs.States.{ReaderState, ToldState}
use Rattle.queries.specs.Asks.{asks_of}
use Rattle.queries.specs.States.{InboxState}
use Rattle.queries.specs.declared.query.Answer.{Answer}
use Rattle.queries.specs.Final.{AreFinal}
use Rattle.queries.proofs.Readiness.{as_many, can_first}
use Rattle.queries.proofs.Renewals.{so_far}
use Rattle.queries.proofs.gathering.renew_workers.Goals as goal

pub loop-inbox-preserved : goal.loop-inbox-preserved
loop-inbox-preserved g c =
    let list = Vec (Answer g.row.Q.Denot g.row.A.Denot) Global in
    let final = λ (r : list) (i : InboxState g.row.Q.Denot). AreFinal g.Q.Query.plain c.args.lasts.now (asks_of i.sent) (reverse r.items) in
    let was = c.loop-inbox.invariant in
    let inbox : InboxState g.row.Q.Denot = c.in-Some.inbox in
    let left = into_iter_items c.next.new.self in
    let one : list = c.in_ok-answers.answers in
    let looks = Vec ReaderState Global in
    let seen : looks = c.in_ok-answers.looked in
    let lists = c.loop-inbox.lists.items in
    let looked = c.loop-inbox.all_looked.items in
    let k = length looked in
    let many_lists : c.push.new.self.items ≡ lists ++ one ∷ [] = c.in_ok-push.ensures.items in
    let many_looked : c.push-in-Some.new.self.items ≡ looked ++ seen ∷ [] = c.in_ok-push-2.ensures.items in
    let all_tolds = c.args.tolds.items in
    let told = c.in-Some-Some.told in
    let done = c.in-Some-Some.done in
    let is_t : drop k all_tolds ≡ told ∷ into_iter_items c.next-in-Some-2.new.self = sym was.tolds ∙ c.in-Some-Some.ensures'.items in
    let is_d : drop k c.args.dones.items ≡ done ∷ into_iter_items c.next-in-Some.new.self = sym was.dones ∙ c.in-Some-Some.ensures.items in
    let more : length c.push-in-Some.new.self.items ≡ k + 1 = omega (arith, ap (λ (l : List looks). length l) many_looked, length-append looked (seen ∷ [])) in
    let first = can_first g.Q.Query.plain c.args.sizes.now c.args.lasts.now (λ (v : Vec ToldState Global). v.items) (into_iter_items c.loop-inbox.inboxes) left (into_iter_items c.loop-inbox.dones) (into_iter_items c.next-in-Some.new.self) (into_iter_items c.loop-inbox.tolds)
    (into_iter_items c.next-in-Some-2.new.self) inbox c.in-Some-Some.done c.in-Some-Some.told c.in-Some.ensures.items c.in-Some-Some.ensures.items c.in-Some-Some.ensures'.items was.rest in record {
      rest = first.1;
      dones_left = c.next-in-Some.new.self.rest.ok.0;
      tolds_left = c.next-in-Some-2.new.self.rest.ok.0;
      ended = (
        was.ended.0 ++ inbox ∷ [],
        was.ended.1 ∙ (ap (λ (l : List (InboxState g.row.Q.Denot)). was.ended.0 ++ l) c.in-Some.ensures.items ∙ sym (append_assoc was.ended.0 (inbox ∷ []) left)),
        subst (λ (l : List list). AllZip final l (was.ended.0 ++ inbox ∷ [])) (sym many_lists) (all_zipped_more final lists was.ended.0 one inbox was.ended.2 c.in_ok-answers.ensures.ended),
      );
      many = omega (arith, was.many, ap (λ (l : List list). length l) many_lists, length-append lists (one ∷ []), more);
      dones_many = omega (arith, was.dones_many, c.in-Some-Some.ensures.len, more);
      dones = sym (drop_at c.args.dones.items k done (into_iter_items c.next-in-Some.new.self) done is_d).2 ∙ ap (λ (i : ℕ). drop i c.args.dones.items) (sym more);
      tolds = sym (drop_at all_tolds k told (into_iter_items c.next-in-Some-2.new.self) told is_t).2 ∙ ap (λ (i : ℕ). drop i all_tolds) (sym more);
      renewed = so_far g.Q.Query.plain (λ (v : Vec ToldState Global). v.items) (λ (v : looks). v.items) (λ (v : list). reverse v.items) all_tolds c.args.lasts.now c.args.dones.items looked c.push-in-Some.new.self.items lists c.push.new.self.items seen one told done
          (into_iter_items c.next-in-Some-2.new.self) (into_iter_items c.next-in-Some.new.self) many_looked many_lists was.many is_t is_d c.in_ok-answers.ensures.renewed was.renewed;
    }

pub returns-clause-ended : goal.returns-clause-ended
returns-clause-ended g c =
    let list = Vec (Answer g.row.Q.Denot g.row.A.Denot) Global in
    let final = λ (r : list) (i : InboxState g.row.Q.Denot). AreFinal g.Q.Query.plain c.args.lasts.now (asks_of i.sent) (reverse r.items) in
    let was = c.loop-inbox.invariant.ended in
    let none : into_iter_items c.loop-inbox.inboxes ≡ [] = nil_from_length (into_iter_items c.loop-inbox.inboxes) (omega (arith, c.in_default.ensures.cases.0, c.loop-inbox.inboxes.rest.ok.0)) in
    subst (AllZip final c.loop-inbox.lists.items) (sym (was.1 ∙ (ap (λ (l : List (InboxState g.row.Q.Denot)). was.0 ++ l) none ∙ append-nil was.0))) was.2

pub returns-clause-renewed : goal.returns-clause-renewed
returns-clause-renewed g c =
    let was = c.loop-inbox.invariant in
    let none : into_iter_items c.loop-inbox.inboxes ≡ [] = nil_from_length (into_iter_items c.loop-inbox.inboxes) (omega (arith, c.in_default.ensures.cases.0, c.loop-inbox.inboxes.rest.ok.0)) in
    let count = as_many g.Q.Query.plain c.args.sizes.now c.args.lasts.now (λ (v : Vec ToldState Global). v.items) (into_iter_items c.loop-inbox.inboxes) (into_iter_items c.loop-inbox.dones) (into_iter_items c.loop-inbox.tolds) was.rest in record {
      many = length-map c.loop-inbox.all_looked.items (λ (v : Vec ReaderState Global). v.items) ∙ omega (arith, was.dones_many, was.dones_left, count.0, ap (λ (l : List (InboxState g.row.Q.Denot)). length l) none);
      each = was.renewed;
    }
