use Rattle.std.proofs.Common.{◌≡◌, ℕ, ◌<◌, ◌==◌, List, Vec, Global, arith, get_or, length, map, refl, reverse, sym, subst, ◌∙◌}
use Rattle.std.proofs.lemmas.Slice.Zip.{AllZip-long}
use Rattle.std.specs.List.{filter}
use Rattle.std.proofs.lemmas.List.{get_or-map}
use Rattle.snapshot_pub.specs.States.{ToldState}
use Rattle.queries.specs.Asks.{asks_of, asks_to, worker_of}
use Rattle.queries.specs.States.{InboxState}
use Rattle.queries.specs.declared.query.Answer.{Answer}
use Rattle.queries.specs.Dealt.{AllAt}
use Rattle.queries.specs.Final.{AreFinal, AreGathered, CanRenewAll}
use Rattle.queries.proofs.Merges.{head_of}
use Rattle.queries.proofs.Readiness.{can_renew_all, desks_length, lists_enough, lists_final, tolds_length}
use Rattle.queries.proofs.Renewals.{all_renewed}
use Rattle.queries.proofs.gathering.Gathering.gather.Goals as goal

pub renew_workers-requires-after_bounds : goal.renew_workers-requires-after_bounds
renew_workers-requires-after_bounds g c = λ κs within.
    let r = c.requires.ready in
    let tolds = map (λ (v : Vec ToldState Global). v.items) c.args.self.tolds.items in
    subst (λ (sizes : List ℕ). CanRenewAll g.Q.Query.plain sizes c.args.lasts.now c.args.self.inboxes.items c.args.dones.items tolds) (sym c.as_slice.ensures.value)
    (can_renew_all g.Q.Query.plain c.args.self.sizes.items c.args.lasts.now c.args.self.inboxes.items tolds r.0 r.1 r.2 c.args.dones.items r.3 r.4 r.5 r.7 r.8)

pub in_order-requires-clause-enough : goal.in_order-requires-clause-enough
in_order-requires-clause-enough g c =
    let list = Vec (Answer g.row.Q.Denot g.row.A.Denot) Global in
    let r = c.requires.ready in
    let inboxes : List (InboxState g.row.Q.Denot) = c.args.self.inboxes.items in (
      r.1,
      r.3.numbers,
      r.6,
      lists_enough g.Q.Query.plain c.args.lasts.now (λ (v : list). reverse v.items) inboxes r.1 (λ (v : list). v.items) (λ v. refl) c.in_ok-lists.lists.items c.in_ok-lists.ensures.ended r.3.closed (head_of inboxes r.3.some),
    )

pub returns-clause-gathered : goal.returns-clause-gathered
returns-clause-gathered g c = λ asks numbers count published ready.
    let list = Vec (Answer g.row.Q.Denot g.row.A.Denot) Global in
    let plain = g.Q.Query.plain in
    let lasts = c.args.lasts.now in
    let inboxes : List (InboxState g.row.Q.Denot) = c.args.self.inboxes.items in
    let lists = c.in_ok-lists.lists.items in
    let same : length lists ≡ length inboxes = sym (AllZip-long (λ (v : list) (i : InboxState g.row.Q.Denot). AreFinal plain lasts (asks_of i.sent) (reverse v.items)) lists inboxes c.in_ok-lists.ensures.ended) in
    subst (λ (n : ℕ). AreGathered plain n lasts asks c.in_ok-answers.answers.items) same
    (c.in_ok-answers.ensures lasts asks numbers count (subst (λ (n : ℕ). AllAt (λ w (v : list). AreFinal plain lasts (asks_to n w asks) (reverse v.items)) lists) (sym same)
    (lists_final plain lasts (λ (v : list). reverse v.items) inboxes asks lists c.in_ok-lists.ensures.ended ready.closed (head_of inboxes ready.some)))).0

pub returns-clause-renewed : goal.returns-clause-renewed
returns-clause-renewed g c = λ asks numbers count published ready.
    let list = Vec (Answer g.row.Q.Denot g.row.A.Denot) Global in
    let plain = g.Q.Query.plain in
    let lasts = c.args.lasts.now in
    let inboxes : List (InboxState g.row.Q.Denot) = c.args.self.inboxes.items in
    let lists = c.in_ok-lists.lists.items in
    let dones = c.args.dones.items in
    let tolds = map (λ (v : Vec ToldState Global). v.items) c.args.self.tolds.items in
    let r = c.requires.ready in
    let same : length lists ≡ length inboxes = sym (AllZip-long (λ (v : list) (i : InboxState g.row.Q.Denot). AreFinal plain lasts (asks_of i.sent) (reverse v.items)) lists inboxes c.in_ok-lists.ensures.ended) in
    let many : length dones ≡ length inboxes = r.8.0 ∙ desks_length plain c.args.self.sizes.items lasts inboxes tolds r.0 r.1 r.2 dones r.3 r.4 r.5 r.7 r.8 in
    let told : length tolds ≡ length inboxes = tolds_length plain c.args.self.sizes.items lasts inboxes tolds r.0 r.1 r.2 dones r.3 r.4 r.5 r.7 r.8 in
    let whole = (c.in_ok-answers.ensures lasts asks numbers count (subst (λ (n : ℕ). AllAt (λ w (v : list). AreFinal plain lasts (asks_to n w asks) (reverse v.items)) lists) (sym same)
    (lists_final plain lasts (λ (v : list). reverse v.items) inboxes asks lists c.in_ok-lists.ensures.ended ready.closed (head_of inboxes ready.some)))).1 in
    all_renewed plain tolds lasts dones _ (map (λ (v : list). reverse v.items) lists) c.in_ok-answers.answers.items published c.in_ok-lists.ensures.renewed
    (λ w t within. ready.lists w t (omega (arith, within, many, told)))
    (λ w l within.
    let here : w < length lists = omega (arith, within, many, same) in
    let one : list = get_or lists w (head_of lists (omega (arith, here))) in
    subst (λ (n : ℕ). filter (λ (a : Answer g.row.Q.Denot g.row.A.Denot). worker_of n a.number == w) c.in_ok-answers.answers.items ≡ get_or (map (λ (v : list). reverse v.items) lists) w l) (same ∙ sym many)
    (whole w (head_of lists (omega (arith, here))) here ∙ sym (get_or-map (λ (v : list). reverse v.items) lists w (head_of lists (omega (arith, here))) l here)))
