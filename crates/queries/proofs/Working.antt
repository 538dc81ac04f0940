-- A worker that has answered one job more.
use Rattle.std.proofs.Common.{Bool, true, false, ◌≡◌, ◌<◌, ℕ, List, [], ◌∷◌, ◌++◌, set, get_or, length, sym, ap, ◌∙◌, subst, arith, get_or-set_same, Option, Result, Ok, Err, IfOk, IfSome, Some}
use Rattle.std.specs.Option.{option_map}
use Rattle.std.specs.Result.{result_ok}
use Rattle.std.specs.List.{All, AllPairs}
use Rattle.std.proofs.lemmas.List.{map-set, get_or-map, length-map}
use Rattle.std.proofs.lemmas.List.Elements.{All-append, All-nil, All-weaker}
use Rattle.std.proofs.lemmas.List.Kept.{AllPairs-cons}
use Rattle.std.proofs.lemmas.Slice.Zip.{all_zipped_more}
use Rattle.sum_tree.proofs.Keys.{AllPairs-append}
use Rattle.op_model.specs.declared.operation.Operation.{Operation}
use Rattle.op_model.proofs.Elements.{All-single, AllPairs-nil}
use Rattle.text_buffer.specs.Document.{IsFront}
use Rattle.text_buffer.proofs.Fronts.{front_itself, front_length, front_trans, lists_grow}
use Rattle.snapshot_pub.specs.States.{ReaderState}
use Rattle.queries.specs.declared.job.Job.{Job}
use Rattle.queries.specs.declared.job.Entry.TheVariants as entry
use Rattle.queries.specs.Queue.{log, pairs_of, IsOpen, IsEnded}
use Rattle.queries.specs.declared.queue.Log.{Log}
use Rattle.queries.proofs.Jobs.{asks_more, asks_ended, open_more, ended_more}
use Rattle.queries.specs.declared.query.Answer.{Answer}
use Rattle.queries.specs.Asks.{Ask, ask_of, asks_of}
use Rattle.queries.specs.Answers.{lists_of, IsAnswerTo, NeverFewer, IsKnown, HasAnswered}

one_pair : {X : Type 0} (R : X → X → Type 0) (x : X) → AllPairs R (x ∷ [])
one_pair R x = AllPairs-cons R x [] (All-nil (R x)) (AllPairs-nil R)

module _ {Q A : Type 0} (plain : Q → List Operation → A) where
  module _ (readers news : List ReaderState) (old new : ReaderState) (j : Ask Q) (a : Answer Q A) where
    -- the reader of the job's replica gave the answer's snapshot
    pub record GaveOn : Type 0 where
      pub within : j.index < length readers
      pub was : old ≡ get_or readers j.index old
      pub is : news ≡ set readers j.index new
      pub begins : IsFront old.longest new.longest
      pub answer : IsAnswerTo plain a j
      pub latest : a.snapshot ≡ new.longest

    old_list : GaveOn → get_or (lists_of readers) j.index [] ≡ old.longest
    old_list g = get_or-map (λ (r : ReaderState). r.longest) readers j.index old [] g.within ∙ ap (λ (r : ReaderState). r.longest) (sym g.was)

    new_lists : GaveOn → lists_of news ≡ set (lists_of readers) j.index new.longest
    new_lists g = ap lists_of g.is ∙ map-set (λ (r : ReaderState). r.longest) readers j.index new

    new_list : GaveOn → get_or (lists_of news) j.index [] ≡ new.longest
    new_list g = ap (λ (ls : List (List Operation)). get_or ls j.index []) (new_lists g)
        ∙ get_or-set_same (lists_of readers) j.index new.longest [] (omega (arith, g.within, length-map readers (λ (r : ReaderState). r.longest)))

    lists_grown : GaveOn → (k : ℕ) → IsFront (get_or (lists_of readers) k []) (get_or (lists_of news) k [])
    lists_grown g k =
        let begins : IsFront (get_or (lists_of readers) j.index []) new.longest = subst (λ (l : List Operation). IsFront l new.longest) (sym (old_list g)) g.begins in
        subst (λ (ls : List (List Operation)). IsFront (get_or (lists_of readers) k []) (get_or ls k [])) (sym (new_lists g)) (lists_grow (lists_of readers) j.index new.longest begins k)

    known_still : GaveOn → (b : Answer Q A) → IsKnown readers b → IsKnown news b
    known_still g b h = front_trans b.snapshot (get_or (lists_of readers) b.index []) (get_or (lists_of news) b.index []) h (lists_grown g b.index)

    known_new : GaveOn → IsKnown news a
    known_new g =
        let latest : IsFront new.longest (get_or (lists_of news) j.index []) = subst (λ (l : List Operation). IsFront new.longest l) (sym (new_list g)) (front_itself new.longest) in
        let mine : IsFront a.snapshot (get_or (lists_of news) j.index []) = subst (λ (l : List Operation). IsFront l (get_or (lists_of news) j.index [])) (sym g.latest) latest in
        subst (λ (n : ℕ). IsFront a.snapshot (get_or (lists_of news) n [])) (sym g.answer.index) mine

    fewer_new : GaveOn → (b : Answer Q A) → IsKnown readers b → NeverFewer b a
    fewer_new g b h same =
        let at : b.index ≡ j.index = same ∙ g.answer.index in
        let there : IsFront b.snapshot (get_or (lists_of readers) j.index []) = subst (λ (n : ℕ). IsFront b.snapshot (get_or (lists_of readers) n [])) at h in
        let before : IsFront b.snapshot old.longest = subst (λ (l : List Operation). IsFront b.snapshot l) (old_list g) there in
        let now : IsFront b.snapshot new.longest = front_trans b.snapshot old.longest new.longest before g.begins in
        omega (arith, front_length b.snapshot new.longest now, ap (λ (l : List Operation). length l) g.latest)

    pub answered_more : GaveOn → (jobs : List (Ask Q)) (answers more : List (Answer Q A)) → more ≡ answers ++ a ∷ [] → HasAnswered plain jobs readers answers
        → HasAnswered plain (jobs ++ j ∷ []) news more
    answered_more g jobs answers more is h = subst (HasAnswered plain (jobs ++ j ∷ []) news) (sym is) (record {
      each = all_zipped_more (IsAnswerTo plain) answers jobs a j h.each g.answer;
      never_fewer = AllPairs-append NeverFewer answers (a ∷ []) h.never_fewer (one_pair NeverFewer a)
          (All-weaker (IsKnown readers) (λ b. All (NeverFewer b) (a ∷ [])) (λ b k. All-single (NeverFewer b) a (fewer_new g b k)) answers h.known);
      known = All-append (IsKnown news) answers (a ∷ []) (All-weaker (IsKnown readers) (IsKnown news) (known_still g) answers h.known) (All-single (IsKnown news) a (known_new g));
    })

-- ---- the worker's loop

pub if_ok : {V X E : Type 0} (f : V → X) (P : X → Type 0) (o : Option X) (r : Result V E) (v : V) → o ≡ option_map f (result_ok r) → r ≡ Ok v → IfSome o P → P (f v)
if_ok f P o r v same ok h = subst (λ o. IfSome o P) (same ∙ ap (λ r. option_map f (result_ok r)) ok) h

pub gave : {V X E : Type 0} (f : V → X) (o : Option X) (r : Result V E) (v : V) → o ≡ option_map f (result_ok r) → r ≡ Ok v → o ≡ Some (f v)
gave f o r v same ok = same ∙ ap (λ r. option_map f (result_ok r)) ok

pub if_some : {V X E : Type 0} (f : V → X) (r : Result V E) (P : X → Type 0) → IfOk r (λ v. P (f v)) → IfSome (option_map f (result_ok r)) P
if_some f (Ok v) P h = h
if_some f (Err e) P h = tt

module _ {Q A : Type 0} (plain : Q → List Operation → A) where
  -- a job was taken, and answered unless an allocation failed
  pub work_more : (v w : Log Q) (readers news : List ReaderState) (answers more : List (Answer Q A)) (j : Job Q) (failed fails : Bool)
      → w ≡ log v.sends true v.sent (v.taken ++ entry.Job j ∷ []) v.readers → IsOpen v.taken → pairs_of readers ≡ pairs_of v.readers → pairs_of news ≡ pairs_of readers
      → (fails ≡ false → failed ≡ false) → (fails ≡ false → (asks : List (Ask Q)) → HasAnswered plain asks readers answers → HasAnswered plain (asks ++ ask_of j ∷ []) news more)
      → (failed ≡ false → HasAnswered plain (asks_of v.taken) readers answers)
      → (w.takes ≡ true) × IsOpen w.taken × (pairs_of news ≡ pairs_of w.readers) × (fails ≡ false → HasAnswered plain (asks_of w.taken) news more)
  work_more v w readers news answers more j failed fails is open_ tied same before also was =
      let taken : w.taken ≡ v.taken ++ entry.Job j ∷ [] = ap (λ (x : Log Q). x.taken) is in (
        ap (λ (x : Log Q). x.takes) is,
        open_more v.taken w.taken j taken open_,
        same ∙ (tied ∙ sym (ap (λ (x : Log Q). pairs_of x.readers) is)),
        λ ok. subst (λ (ks : List (Ask Q)). HasAnswered plain ks news more) (sym (asks_more v.taken w.taken j taken)) (also ok (asks_of v.taken) (was (before ok))),
      )

-- the end mark was taken
pub work_ended : {Q : Type 0} (v w : Log Q) → w ≡ log v.sends true v.sent (v.taken ++ entry.End ∷ []) v.readers → IsOpen v.taken
    → (w.takes ≡ true) × IsEnded w.taken × (asks_of w.taken ≡ asks_of v.taken)
work_ended {Q} v w is open_ =
    let taken : w.taken ≡ v.taken ++ entry.End ∷ [] = ap (λ (x : Log Q). x.taken) is in
    (ap (λ (x : Log Q). x.takes) is, ended_more v.taken w.taken taken open_, asks_ended v.taken w.taken taken)
