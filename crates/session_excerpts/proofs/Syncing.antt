-- Replicas are synced one after the other.
use Rattle.std.proofs.Common.{◌≡◌, ◌≢◌, inl, inr, ℕ, zero, suc, ◌+◌, ◌<◌, true, eqb, List, [], ◌∷◌, length, get_or, take, drop, refl, sym, ap, ap₂, ◌∙◌, subst, arith}
use Rattle.std.specs.List.{AllZip}
use Rattle.std.proofs.lemmas.Bool.{cases_Bool, eqb-true, eq-eqb}
use Rattle.std.proofs.lemmas.List.{get_or_default, length-map}
use Rattle.op_model.specs.Histories.{History, In}
use Rattle.multi_buffer.specs.Calls.{IsWithin, after_sync, followed_in}
use Rattle.multi_buffer.specs.State.{MultiState, history_in, history_of}
use Rattle.multi_buffer.specs.declared.source.Source.{Source}
use Rattle.multi_buffer.proofs.Sourced.{source-put, source-put_other}
use Rattle.session_excerpts.specs.State.{GoOnFrom, sync_all, sync_from}

same_within : (h g : History) → h ≡ g → IsWithin h g
same_within h g e op i = subst (λ (k : History). In k op) e i

-- ---- what was synced of a buffer

own_history : (b : ℕ) (h : History) (m : MultiState) → history_of b (after_sync b h m).synced ≡ h
own_history b h m = ap history_in (source-put (record { buffer = b; snapshot = h }) m.synced)

other_history : (a b : ℕ) (h : History) (m : MultiState) → a ≢ b → history_of a (after_sync b h m).synced ≡ history_of a m.synced
other_history a b h m n = ap history_in (source-put_other a (record { buffer = b; snapshot = h }) m.synced n)

-- it stays while later ones are synced
earlier_history : (b i : ℕ) (hs : List History) (m : MultiState) → b < i → history_of b (sync_from i hs m).synced ≡ history_of b m.synced
earlier_history b i [] m l = refl
earlier_history b i (x ∷ hs) m l = earlier_history b (suc i) hs (after_sync i x m) (omega (arith, l)) ∙ other_history b i x m (λ e. omega (arith, e, l))

-- buffer b is the one with index j from buffer i on
synced_from : (i j b : ℕ) (hs : List History) (m : MultiState) → b ≡ i + j → j < length hs → history_of b (sync_from i hs m).synced ≡ get_or hs j []
synced_from i j b [] m n l = absurd (omega (arith, l))
synced_from i zero b (x ∷ hs) m n l =
    let at : b ≡ i = omega (arith, n) in
    earlier_history b (suc i) hs (after_sync i x m) (omega (arith, n)) ∙ (ap (λ (k : ℕ). history_of k (after_sync i x m).synced) at ∙ own_history i x m)
synced_from i (suc j) b (x ∷ hs) m n l = synced_from (suc i) j b hs (after_sync i x m) (omega (arith, n)) (omega (arith, l))

-- a replica that was synced may have an excerpt
pub may_push : (b : ℕ) (hs : List History) (m n : MultiState) (d h : History) → b < length hs → n ≡ sync_all hs m → h ≡ get_or hs b d → IsWithin (history_of b n.synced) h
may_push b hs m n d h l e is =
    same_within (history_of b n.synced) h (ap (λ (x : MultiState). history_of b x.synced) e ∙ (synced_from 0 b b hs m (omega arith) l ∙ (get_or_default hs b [] d l ∙ sym is)))

-- no excerpt comes or goes
pub as_many : (i : ℕ) (hs : List History) (m : MultiState) → length (sync_from i hs m).excerpts ≡ length m.excerpts
as_many i [] m = refl
as_many i (x ∷ hs) m = as_many (suc i) hs (after_sync i x m) ∙ length-map m.excerpts (followed_in i x)

-- ---- replicas go on from what was synced of them

-- later ones do while one is synced
go_on_past : (b i : ℕ) (h : History) (hs : List History) (m : MultiState) → b < i → GoOnFrom i hs m.synced → GoOnFrom i hs (after_sync b h m).synced
go_on_past b i h [] m l g = tt
go_on_past b i h (x ∷ hs) m l g = (
  subst (λ (k : History). IsWithin k x) (sym (other_history i b h m (λ e. omega (arith, e, l)))) g.0,
  go_on_past b (suc i) h hs m (omega (arith, l)) g.1,
)

-- all do after one of them is synced again
pub go_on_again : (i b : ℕ) (hs : List History) (h : History) (m : MultiState) → ((j : ℕ) → b ≡ i + j → h ≡ get_or hs j []) → GoOnFrom i hs m.synced → GoOnFrom i hs (after_sync b h m).synced
go_on_again i b [] h m is g = tt
go_on_again i b (x ∷ hs) h m is g = (
  elim (cases_Bool (eqb i b)) [
    | inl t ↦ (
        let at : i ≡ b = eqb-true i b t in
        same_within (history_of i (after_sync b h m).synced) x (ap (λ (k : ℕ). history_of k (after_sync b h m).synced) at ∙ (own_history b h m ∙ is 0 (omega (arith, at)))))
    | inr f ↦ subst (λ (k : History). IsWithin k x) (sym (other_history i b h m (λ e. (let t : eqb i b ≡ true = eq-eqb i b e in cc (t, f))))) g.0
  ],
  go_on_again (suc i) b hs h m (λ j n. is (suc j) (omega (arith, n))) g.1,
)

-- all do after the first k of them are synced
pub go_on_synced : (i k : ℕ) (hs : List History) (m : MultiState) → GoOnFrom i hs m.synced → GoOnFrom i hs (sync_from i (take k hs) m).synced
go_on_synced i k [] m g = tt
go_on_synced i zero (x ∷ hs) m g = g
go_on_synced i (suc k) (x ∷ hs) m g = (
  same_within (history_of i (sync_from (suc i) (take k hs) (after_sync i x m)).synced) x (earlier_history i (suc i) (take k hs) (after_sync i x m) (omega arith) ∙ own_history i x m),
  go_on_synced (suc i) k hs (after_sync i x m) (go_on_past i (suc i) x hs m (omega arith) g.1),
)

-- all do once they have applied more
pub go_on_later : (i : ℕ) (hs gs : List History) (ss : List Source) → AllZip IsWithin hs gs → GoOnFrom i hs ss → GoOnFrom i gs ss
go_on_later i [] [] ss z g = tt
go_on_later i [] (y ∷ gs) ss z g = absurd z
go_on_later i (x ∷ hs) [] ss z g = tt
go_on_later i (x ∷ hs) (y ∷ gs) ss z g = (λ op o. z.0 op (g.0 op o), go_on_later (suc i) hs gs ss z.1 g.1)

-- ---- the next replica of all, hs: h, with rest after it

rest_is : (k : ℕ) (hs rest : List History) (h : History) → h ∷ rest ≡ drop k hs → rest ≡ drop (suc k) hs
rest_is zero [] rest h e = absurd (cc e)
rest_is zero (x ∷ hs) rest h e = cc e
rest_is (suc k) [] rest h e = absurd (cc e)
rest_is (suc k) (x ∷ hs) rest h e = rest_is k hs rest h e

-- it is synced as buffer b after the k before it
sync_next : (i k b : ℕ) (hs rest : List History) (h : History) (m : MultiState) → b ≡ i + k → h ∷ rest ≡ drop k hs
    → sync_from i (take (suc k) hs) m ≡ after_sync b h (sync_from i (take k hs) m)
sync_next i zero b [] rest h m n e = absurd (cc e)
sync_next i zero b (x ∷ hs) rest h m n e =
    let own : x ≡ h = cc e in
    let at : i ≡ b = omega (arith, n) in
    ap₂ (λ (j : ℕ) (g : History). after_sync j g m) at own
sync_next i (suc k) b [] rest h m n e = absurd (cc e)
sync_next i (suc k) b (x ∷ hs) rest h m n e = sync_next (suc i) k b hs rest h (after_sync i x m) (omega (arith, n)) e

-- the k before it are synced; n is what is after it is too, and j the next buffer
module _ (k j : ℕ) (hs rest : List History) (h : History) (m was n : MultiState) (next : suc k ≡ j) (at : h ∷ rest ≡ drop k hs) (new : n ≡ after_sync k h was) where
  pub rest_then : rest ≡ drop j hs
  rest_then = rest_is k hs rest h at ∙ ap (λ (i : ℕ). drop i hs) next

  pub multi_then : was ≡ sync_all (take k hs) m → n ≡ sync_all (take j hs) m
  multi_then e = new ∙ (ap (after_sync k h) e ∙ (sym (sync_next 0 k k hs rest h m (omega arith) at) ∙ ap (λ (i : ℕ). sync_all (take i hs) m) next))

  pub within_then : GoOnFrom k (h ∷ rest) was.synced → GoOnFrom j rest n.synced
  within_then g =
      subst (λ (x : MultiState). GoOnFrom j rest x.synced) (sym new)
      (subst (λ (i : ℕ). GoOnFrom i rest (after_sync k h was).synced) next (go_on_past k (suc k) h rest was (omega arith) g.1))
