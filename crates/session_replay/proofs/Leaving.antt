-- What an editor leaves once it has put the end marks.
use Rattle.std.proofs.Common.{◌≡◌, ℕ, List, length, map, IfOk, Result, Ok, Err, sym, ap, ◌∙◌, subst, arith}
use Rattle.std.specs.List.{All, AllZip}
use Rattle.std.proofs.lemmas.List.{length-map}
use Rattle.op_model.specs.declared.operation.Operation.{Operation}
use Rattle.queries.specs.Asks.{Ask}
use Rattle.queries.specs.States.{DeskState, DoneState, InboxState, DispatcherState, PublishersState}
use Rattle.queries.specs.Dealt.{AllAt, AreEnds, IsClosed, pairs_in, queues_of, told_lists, told_pairs}
use Rattle.queries.specs.Final.{HaveWorked, IsPast, IsReady, Lasts}
use Rattle.queries.specs.Published.{columns, published_lists, rows_of}
use Rattle.queries.proofs.Places.{sizes_of}
use Rattle.text_buffer.specs.Buffer.{BufferState}
use Rattle.text_buffer.specs.Document.{IsFront}
use Rattle.session_lines.specs.declared.report.QueryAnswer.{QueryAnswer}
use Rattle.session_work.specs.Queries.{plain_answer}
use Rattle.session_work.specs.Work.{histories}
use Rattle.session_replay.specs.Beside.{HasLeft, IsAsking}
use Rattle.session_replay.specs.declared.beside.Edited.{Edited}
use Rattle.session_work.specs.declared.queries.Question.{Question}

-- two facts of what was given, as one
pub both : {X Y : Type 0} (r : Result X Y) (P Q R : X → Type 0) → ((x : X) → P x → Q x → R x) → IfOk r P → IfOk r Q → IfOk r R
both (Ok x) P Q R f p q = f x p q
both (Err y) P Q R f p q = tt

-- ---- the same queues

pub same_length : (xs ys : List (InboxState Question)) → queues_of xs ≡ queues_of ys → length xs ≡ length ys
same_length xs ys e =
    sym (length-map xs (λ (i : InboxState Question). i.queue)) ∙ (ap (λ l. length l) e ∙ length-map ys (λ (i : InboxState Question). i.queue))

module _ (bs : List BufferState) (asks : List (Ask Question)) (d : DispatcherState Question) (p : PublishersState) (a : IsAsking bs asks d p) (e : Edited)
    (queues : queues_of e.gathering.inboxes.items ≡ queues_of d.inboxes) (pairs : pairs_in e.gathering.inboxes.items ≡ pairs_in d.inboxes)
    (closed : AllAt (IsClosed (length d.inboxes) asks) e.gathering.inboxes.items)
    (told : map told_pairs (map (λ v. v.items) e.gathering.tolds.items) ≡ columns p.workers (rows_of p))
    (lists : All (λ ts. told_lists ts ≡ published_lists p) (map (λ v. v.items) e.gathering.tolds.items))
    (sizes : e.gathering.sizes.items ≡ p.sizes) (count : e.gathering.count ≡ d.count) where
  as_many : length e.gathering.inboxes.items ≡ length d.inboxes
  as_many = same_length e.gathering.inboxes.items d.inboxes queues

  ready : IsReady e.gathering.inboxes.items (map (λ v. v.items) e.gathering.tolds.items) e.gathering.sizes.items (published_lists p) asks
  ready = record {
    some = omega (arith, as_many, a.asked.some);
    closed = subst (λ (n : ℕ). AllAt (IsClosed n asks) e.gathering.inboxes.items) (sym as_many) closed;
    pairs = told ∙ (sym a.tied ∙ sym pairs);
    lists = lists;
    counts = sizes ∙ (a.level.sizes ∙ sizes_of p.list);
    numbers = a.asked.numbers;
  }

  pub leaves : HasLeft bs asks d e
  leaves = record { published = published_lists p; fronts = a.fronts; ready = ready; count = count ∙ a.asked.count; queues = queues; pairs = pairs }

-- the same, said of the editor as it began: its queues and pairs have stayed
pub left_before : (bs cs : List BufferState) (asks : List (Ask Question)) (d o : DispatcherState Question) (e : Edited) → cs ≡ bs → queues_of o.inboxes ≡ queues_of d.inboxes → pairs_in o.inboxes ≡ pairs_in d.inboxes
    → HasLeft bs asks o e → HasLeft cs asks d e
left_before bs cs asks d o e same queues pairs l = record {
  published = l.published;
  fronts = subst (λ (xs : List BufferState). AllZip IsFront l.published (histories xs)) (sym same) l.fronts;
  ready = l.ready;
  count = l.count;
  queues = l.queues ∙ queues;
  pairs = l.pairs ∙ pairs;
}

-- ---- what is gathered from

pub can_gather : (bs : List BufferState) (asks : List (Ask Question)) (d : DispatcherState Question) (desks : List DeskState) (e : Edited) (dones : List (DoneState Question QueryAnswer)) (lasts : Lasts)
    → lasts ≡ histories bs → HasLeft bs asks d e → All (IsPast (histories bs)) asks → AreEnds d.inboxes desks → HaveWorked plain_answer desks dones
    → (published : List (List Operation)) × (ks : List (Ask Question)) × (ds : List DeskState) × IsReady e.gathering.inboxes.items (map (λ v. v.items) e.gathering.tolds.items) e.gathering.sizes.items published ks
    × AllZip IsFront published lasts × All (IsPast lasts) ks × (e.gathering.count ≡ length ks) × AreEnds e.gathering.inboxes.items ds × HaveWorked plain_answer ds dones
can_gather bs asks d desks e dones lasts is left past ends worked = (
  left.published,
  asks,
  desks,
  left.ready,
  subst (AllZip IsFront left.published) (sym is) left.fronts,
  subst (λ (hs : Lasts). All (IsPast hs) asks) (sym is) past,
  left.count,
  record { queues = left.queues ∙ ends.queues; pairs = left.pairs ∙ ends.pairs },
  worked,
)
