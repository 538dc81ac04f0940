-- What the editor leaves and what the workers give back are of each other, worker by worker.
use Rattle.std.proofs.Common.{◌≡◌, ℕ, suc, ◌<◌, ◌==◌, List, [], ◌∷◌, length, map, get_or, reverse, refl, sym, ap, ◌∙◌, subst, arith}
use Rattle.std.proofs.lemmas.Slice.Zip.{AllZip-long}
use Rattle.std.specs.List.{All, AllZip}
use Rattle.std.proofs.lemmas.List.{length-map, length-reverse}
use Rattle.std.proofs.lemmas.List.Elements.{All-filter}
use Rattle.atomic_table.specs.Seated.{TableId}
use Rattle.logbook.specs.Pages.{Named}
use Rattle.op_model.specs.declared.operation.Operation.{Operation}
use Rattle.op_model.proofs.Elements.{same_at, paired_at}
use Rattle.text_buffer.specs.Document.{IsFront}
use Rattle.snapshot_pub.specs.States.{ToldState}
use Rattle.queries.specs.Queue.{pairs_of}
use Rattle.queries.specs.States.{DeskState, DoneState, InboxState}
use Rattle.queries.specs.Asks.{Ask, asks_of, asks_to, worker_of}
use Rattle.queries.specs.Answers.{HasWorked}
use Rattle.queries.specs.declared.query.Answer.{Answer}
use Rattle.queries.specs.Dealt.{AllAt, AreEnds, IsClosed, told_lists, told_pairs}
use Rattle.queries.specs.Final.{AreFinal, CanRenew, CanRenewAll, HaveWorked, IsFinal, IsPast, IsReady}

module _ {Q A : Type 0} (plain : Q → List Operation → A) (sizes : List ℕ) (lasts : List (List Operation)) where
  -- the renewing of all workers, from that of each
  build : (is : List (InboxState Q)) (ds : List (DoneState Q A)) (ts : List (List ToldState)) → length ds ≡ length is → length ts ≡ length is
      → ((w : ℕ) (i : InboxState Q) (d : DoneState Q A) (t : List ToldState) → w < length is → CanRenew plain sizes lasts (get_or is w i) (get_or ds w d) (get_or ts w t)) → CanRenewAll plain sizes lasts is ds ts
  build [] [] [] a b h = tt
  build [] [] (t ∷ ts) a b h = absurd (omega (arith, b))
  build [] (d ∷ ds) ts a b h = absurd (omega (arith, a))
  build (i ∷ is) [] ts a b h = absurd (omega (arith, a))
  build (i ∷ is) (d ∷ ds) [] a b h = absurd (omega (arith, b))
  build (i ∷ is) (d ∷ ds) (t ∷ ts) a b h = (h 0 i d t (omega arith), build is ds ts (omega (arith, a)) (omega (arith, b)) (λ w x y z within. h (suc w) x y z (omega (arith, within))))

  module _ (inboxes : List (InboxState Q)) (tolds : List (List ToldState)) (published : List (List Operation)) (asks : List (Ask Q)) (desks : List DeskState) (dones : List (DoneState Q A))
      (r : IsReady inboxes tolds sizes published asks) (fronts : AllZip IsFront published lasts) (past : All (IsPast lasts) asks) (e : AreEnds inboxes desks) (h : HaveWorked plain desks dones) where
    pub desks_length : length desks ≡ length inboxes
    desks_length = sym (length-map desks (λ (d : DeskState). d.queue)) ∙ (ap (λ (l : List TableId). length l) (sym e.queues) ∙ length-map inboxes (λ (i : InboxState Q). i.queue))

    pub tolds_length : length tolds ≡ length inboxes
    tolds_length = sym (length-map tolds told_pairs) ∙ (ap (λ (l : List (List Named)). length l) r.pairs ∙ length-map inboxes (λ (i : InboxState Q). pairs_of i.readers))

    one : (w : ℕ) (i : InboxState Q) (d : DoneState Q A) (t : List ToldState) → w < length inboxes → CanRenew plain sizes lasts (get_or inboxes w i) (get_or dones w d) (get_or tolds w t)
    one w i d t within =
        let k : DeskState = record { queue = i.queue; readers = i.readers } in
        let worked : HasWorked plain (get_or desks w k) (get_or dones w d) = h.1 w d k (omega (arith, within, desks_length)) in
        let closed : IsClosed (length inboxes) asks w (get_or inboxes w i) = r.closed w i within in
        let queue = same_at (λ (x : InboxState Q). x.queue) (λ (x : DeskState). x.queue) inboxes desks w i k e.queues within desks_length in
        let ends = same_at (λ (x : InboxState Q). pairs_of x.readers) (λ (x : DeskState). pairs_of x.readers) inboxes desks w i k e.pairs within desks_length in
        let told = same_at told_pairs (λ (x : InboxState Q). pairs_of x.readers) tolds inboxes w t i r.pairs (omega (arith, within, tolds_length)) (sym tolds_length) in
        let lists : told_lists (get_or tolds w t) ≡ published = r.lists w t (omega (arith, within, tolds_length)) in record {
          own = worked.queue ∙ sym queue;
          ended = (closed.ended, worked.ended);
          answered = worked.answered;
          pairs = told ∙ (ends ∙ sym worked.pairs);
          counts = r.counts ∙ ap (λ (ls : List (List Operation)). map (λ (l : List Operation). length l) ls) (sym lists);
          fronts = subst (λ (ls : List (List Operation)). AllZip IsFront ls lasts) (sym lists) fronts;
          asked = subst (All (IsPast lasts)) (sym closed.has) (All-filter (λ (a : Ask Q). worker_of (length inboxes) a.number == w) (IsPast lasts) asks past);
        }

    pub can_renew_all : CanRenewAll plain sizes lasts inboxes dones tolds
    can_renew_all = build inboxes dones tolds (h.0 ∙ desks_length) tolds_length one

-- the lists of all workers, by the worker of each
module _ {Q A X : Type 0} (plain : Q → List Operation → A) (lasts : List (List Operation)) (f : X → List (Answer Q A)) (inboxes : List (InboxState Q)) (asks : List (Ask Q)) where
  pub lists_final : (lists : List X) → AllZip (λ r i. AreFinal plain lasts (asks_of i.sent) (f r)) lists inboxes → AllAt (IsClosed (length inboxes) asks) inboxes → InboxState Q
      → AllAt (λ w r. AreFinal plain lasts (asks_to (length inboxes) w asks) (f r)) lists
  lists_final lists p closed i w d within =
      let same = sym (AllZip-long (λ r i. AreFinal plain lasts (asks_of i.sent) (f r)) lists inboxes p) in
      let h = paired_at (λ r i. AreFinal plain lasts (asks_of i.sent) (f r)) lists inboxes w d i p within in
      subst (λ (ks : List (Ask Q)). AreFinal plain lasts ks (f (get_or lists w d))) (closed w i (omega (arith, within, same))).has h

  pub lists_enough : (g : X → List (Answer Q A)) → ((r : X) → f r ≡ reverse (g r)) → (lists : List X) → AllZip (λ r i. AreFinal plain lasts (asks_of i.sent) (f r)) lists inboxes → AllAt (IsClosed (length inboxes) asks) inboxes → InboxState Q
      → AllAt (λ w r. length (g r) ≡ length (asks_to (length lists) w asks)) lists
  lists_enough g is lists p closed i w d within =
      let same = sym (AllZip-long (λ r i. AreFinal plain lasts (asks_of i.sent) (f r)) lists inboxes p) in
      let x = get_or lists w d in
      sym (length-reverse (g x)) ∙ (ap (λ (l : List (Answer Q A)). length l) (sym (is x)) ∙ (sym (AllZip-long (IsFinal plain lasts) (f x) (asks_to (length inboxes) w asks) (lists_final lists p closed i w d within).each)
      ∙ ap (λ (n : ℕ). length (asks_to n w asks)) (sym same)))

-- ---- worker by worker

module _ {Q A X : Type 0} (plain : Q → List Operation → A) (sizes : List ℕ) (lasts : List (List Operation)) (f : X → List ToldState) where
  pub can_first : (is more : List (InboxState Q)) (ds rest : List (DoneState Q A)) (ts others : List X) (i : InboxState Q) (d : DoneState Q A) (t : X) → is ≡ i ∷ more → ds ≡ d ∷ rest → ts ≡ t ∷ others
      → CanRenewAll plain sizes lasts is ds (map f ts) → CanRenew plain sizes lasts i d (f t) × CanRenewAll plain sizes lasts more rest (map f others)
  can_first is more ds rest ts others i d t is_i is_d is_t h =
      let one : CanRenewAll plain sizes lasts (i ∷ more) ds (map f ts) = subst (λ (x : List (InboxState Q)). CanRenewAll plain sizes lasts x ds (map f ts)) is_i h in
      let two : CanRenewAll plain sizes lasts (i ∷ more) (d ∷ rest) (map f ts) = subst (λ (x : List (DoneState Q A)). CanRenewAll plain sizes lasts (i ∷ more) x (map f ts)) is_d one in
      subst (λ (x : List X). CanRenewAll plain sizes lasts (i ∷ more) (d ∷ rest) (map f x)) is_t two

  -- there is one of each
  pub as_many : (is : List (InboxState Q)) (ds : List (DoneState Q A)) (ts : List X) → CanRenewAll plain sizes lasts is ds (map f ts) → (length ds ≡ length is) × (length ts ≡ length is)
  as_many [] [] [] h = (refl, refl)
  as_many [] [] (t ∷ ts) h = absurd h
  as_many [] (d ∷ ds) ts h = absurd h
  as_many (i ∷ is) [] ts h = absurd h
  as_many (i ∷ is) (d ∷ ds) [] h = absurd h
  as_many (i ∷ is) (d ∷ ds) (t ∷ ts) h = let m = as_many is ds ts h.1 in (ap suc m.0, ap suc m.1)
