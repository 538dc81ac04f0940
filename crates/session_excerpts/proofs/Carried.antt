-- What a session carries from line to line: under each name, what was synced of a replica lies within what it has applied, and there
-- are few excerpts.
use Rattle.std.proofs.Common.{◌≡◌, ℕ, suc, ◌<◌, ◌≤◌, ◌^◌, Bool, true, false, cond, List, [], ◌∷◌, length, take, Option, None, Some, IfSome, is_none, refl, sym, ap, ◌∙◌, subst, arith, length-append}
use Rattle.std.proofs.lemmas.List.{length-map, take_all}
use Rattle.std.specs.BTreeMap.{insert_entry}
use Rattle.std.specs.List.{AllByRecursion, AllZip}
use Rattle.std.specs.Ordering.{match_ordering, nat_cmp}
use Rattle.std.specs.declared.cmp.Ordering.{Ordering}
use Rattle.std.specs.declared.cmp.Ordering.TheVariants.{Less, Equal, Greater}
use Rattle.std.specs.Cmp.Lexicographic.{slice_cmp}
use Rattle.std.specs.Str.{bytes_eq}
use Rattle.op_model.specs.Histories.{History}
use Rattle.op_model.specs.Shown.{text}
use Rattle.multi_buffer.specs.Calls.{IsWithin, after_sync, excerpt_of, followed_in, push_fault}
use Rattle.multi_buffer.specs.State.{MultiState, new_state}
use Rattle.multi_buffer.specs.declared.faults.PushFault.{PushFault}
use Rattle.session_selections.specs.Names.{under}
use Rattle.session_excerpts.specs.Answers.{after_put, push_unless}
use Rattle.session_excerpts.specs.Lines.{after_excerpt, after_sync_of, history_at}
use Rattle.session_excerpts.specs.State.{AllGoOn, AllHaveAtMost, GoOn, GoOnAt, GoOnFrom, HasRoomAt, Multis, StopsInSync, put_multi, sync_all, with_multi}
use Rattle.session_excerpts.proofs.Syncing.{as_many, go_on_again, go_on_synced, go_on_later}

-- ---- a fact of what is under each name

module _ (P : MultiState → Type 0) where
  abbrev pub Each : Multis → Type 0
  Each w = AllByRecursion (λ e. P e.1) w

  at_by : (t : Bool) (x : MultiState) (o : Option MultiState) → P x → IfSome o P → IfSome (cond t (Some x) o) P
  at_by true x o p q = p
  at_by false x o p q = q

  pub each_at : (name : List ℕ) (w : Multis) → Each w → IfSome (under name w) P
  each_at name [] a = tt
  each_at name (e ∷ w) a = at_by (bytes_eq name e.0) e.1 (under name w) a.0 (each_at name w a.1)

module _ (P Q : MultiState → Type 0) (f : MultiState → MultiState) (keep : (m : MultiState) → P m → Q m) (change : (m : MultiState) → P m → Q (f m)) where
  change_by : (t : Bool) (k : List ℕ) (x : MultiState) (w v : Multis) → P x → Each Q w → Each Q v → Each Q (cond t ((k, f x) ∷ w) ((k, x) ∷ v))
  change_by true k x w v p a b = (change x p, a)
  change_by false k x w v p a b = (keep x p, b)

  keep_each : (w : Multis) → Each P w → Each Q w
  keep_each [] a = tt
  keep_each (e ∷ w) a = (keep e.1 a.0, keep_each w a.1)

  pub each_with : (name : List ℕ) (w : Multis) → Each P w → Each Q (with_multi name f w)
  each_with name [] a = tt
  each_with name (e ∷ w) a = change_by (bytes_eq name e.0) e.0 e.1 w (with_multi name f w) a.0 (keep_each w a.1) (each_with name w a.1)

  insert_by : (o : Ordering) (k l : List ℕ) (x y : MultiState) (w v : Multis) → Q x → P y → Each Q w → Each Q v → Each Q (match_ordering o ((k, x) ∷ (l, y) ∷ w) ((l, x) ∷ w) ((l, y) ∷ v))
  insert_by Less k l x y w v p q a b = (p, (keep y q, a))
  insert_by Equal k l x y w v p q a b = (p, a)
  insert_by Greater k l x y w v p q a b = (keep y q, b)

  each_insert : (k : List ℕ) (x : MultiState) (w : Multis) → Q x → Each P w → Each Q (insert_entry (slice_cmp nat_cmp) w k x)
  each_insert k x [] p a = (p, tt)
  each_insert k x (e ∷ w) p a = insert_by (slice_cmp nat_cmp k e.0) k e.0 x e.1 w (insert_entry (slice_cmp nat_cmp) w k x) p a.0 (keep_each w a.1) (each_insert k x w p a.1)

  put_by : (t : Bool) (w v : Multis) → Each Q w → Each Q v → Each Q (cond t w v)
  put_by true w v a b = a
  put_by false w v a b = b

  pub each_put : (name : List ℕ) (w : Multis) → P new_state → Each P w → Each Q (put_multi name f w)
  each_put name w new a = put_by (is_none (under name w)) (insert_entry (slice_cmp nat_cmp) w name (f new_state)) (with_multi name f w) (each_insert name (f new_state) w (change new_state new) a) (each_with name w a)

-- ---- replicas go on

pub all_go_on_at : (name : List ℕ) (hs : List History) (w : Multis) → AllGoOn hs w → GoOnAt name hs w
all_go_on_at name hs w a = each_at (GoOn hs) name w a

pub new_goes_on : (i : ℕ) (hs : List History) → GoOnFrom i hs new_state.synced
new_goes_on i [] = tt
new_goes_on i (h ∷ hs) = (λ op none. absurd none, new_goes_on (suc i) hs)

-- later they still do
pub all_go_on_later : (hs gs : List History) (w : Multis) → AllZip IsWithin hs gs → AllGoOn hs w → AllGoOn gs w
all_go_on_later hs gs [] z a = tt
all_go_on_later hs gs (e ∷ w) z a = (go_on_later 0 hs gs e.1.synced z a.0, all_go_on_later hs gs w z a.1)

put_goes_on : (o : Option PushFault) (b : ℕ) (h : History) (s e : ℕ) (hs : List History) (m : MultiState) → h ≡ history_at b hs → GoOn hs m → GoOn hs (push_unless o b h s e m)
put_goes_on None b h s e hs m is g = go_on_again 0 b hs h m (λ j n. is ∙ ap (λ (k : ℕ). history_at k hs) (omega (arith, n))) g
put_goes_on (Some f) b h s e hs m is g = g

all_synced_go_on : (hs : List History) (m : MultiState) → GoOn hs m → GoOn hs (sync_all hs m)
all_synced_go_on hs m g = subst (λ (gs : List History). GoOn hs (sync_all gs m)) (take_all (length hs) hs (omega arith)) (go_on_synced 0 (length hs) hs m g)

pub excerpt_goes_on : (name : List ℕ) (b s e : ℕ) (hs : List History) (w : Multis) → AllGoOn hs w → AllGoOn hs (after_excerpt name b s e hs w)
excerpt_goes_on name b s e hs w a =
    each_put (GoOn hs) (GoOn hs) (λ m. after_put b (history_at b hs) s e (sync_all hs m)) (λ m g. g)
    (λ m g. put_goes_on (push_fault (text (history_at b hs)) s e) b (history_at b hs) s e hs (sync_all hs m) refl (all_synced_go_on hs m g)) name w (new_goes_on 0 hs) a

pub sync_goes_on : (name : List ℕ) (hs : List History) (w : Multis) → AllGoOn hs w → AllGoOn hs (after_sync_of name hs w)
sync_goes_on name hs w a = each_with (GoOn hs) (GoOn hs) (sync_all hs) (λ m g. g) (all_synced_go_on hs) name w a

pub stop_goes_on : (name : List ℕ) (hs : List History) (w n : Multis) → StopsInSync name hs w n → AllGoOn hs w → AllGoOn hs n
stop_goes_on name hs w n s a =
    subst (λ (v : Multis). AllGoOn hs v) (sym s.1) (each_with (GoOn hs) (GoOn hs) (sync_all (take s.0 hs)) (λ m g. g) (λ m g. go_on_synced 0 s.0 hs m g) name w a)

-- ---- there are few excerpts

abbrev HasAtMost : ℕ → MultiState → Type 0
HasAtMost k m = length m.excerpts ≤ k

at_most_room : (k : ℕ) (o : Option MultiState) → k < 2 ^ 20 → IfSome o (HasAtMost k) → IfSome o (λ m. length m.excerpts < 2 ^ 20)
at_most_room k None l h = tt
at_most_room k (Some m) l h = omega (arith, h, l)

pub all_have_room : (k : ℕ) (name : List ℕ) (w : Multis) → k < 2 ^ 20 → AllHaveAtMost k w → HasRoomAt name w
all_have_room k name w l a = at_most_room k (under name w) l (each_at (HasAtMost k) name w a)

put_has : (o : Option PushFault) (k b : ℕ) (h : History) (s e : ℕ) (m : MultiState) → HasAtMost k m → HasAtMost (suc k) (push_unless o b h s e m)
put_has None k b h s e m l =
    let more = length-append (after_sync b h m).excerpts (excerpt_of b h s e ∷ []) in
    let same = length-map m.excerpts (followed_in b h) in
    omega (arith, l, more, same)
put_has (Some f) k b h s e m l = omega (arith, l)

sync_has : (k : ℕ) (hs : List History) (m : MultiState) → HasAtMost k m → HasAtMost k (sync_all hs m)
sync_has k hs m l = let e = as_many 0 hs m in omega (arith, e, l)

-- one more after a line that makes one
pub excerpt_has : (k : ℕ) (name : List ℕ) (b s e : ℕ) (hs : List History) (w : Multis) → AllHaveAtMost k w → AllHaveAtMost (suc k) (after_excerpt name b s e hs w)
excerpt_has k name b s e hs w a =
    each_put (HasAtMost k) (HasAtMost (suc k)) (λ m. after_put b (history_at b hs) s e (sync_all hs m)) (λ m l. omega (arith, l))
    (λ m l. put_has (push_fault (text (history_at b hs)) s e) k b (history_at b hs) s e (sync_all hs m) (sync_has k hs m l)) name w (omega arith) a

pub sync_has_no_more : (k : ℕ) (name : List ℕ) (hs : List History) (w : Multis) → AllHaveAtMost k w → AllHaveAtMost k (after_sync_of name hs w)
sync_has_no_more k name hs w a = each_with (HasAtMost k) (HasAtMost k) (sync_all hs) (λ m l. l) (sync_has k hs) name w a

pub stop_has_no_more : (k : ℕ) (name : List ℕ) (hs : List History) (w n : Multis) → StopsInSync name hs w n → AllHaveAtMost k w → AllHaveAtMost k n
stop_has_no_more k name hs w n s a =
    subst (λ (v : Multis). AllHaveAtMost k v) (sym s.1) (each_with (HasAtMost k) (HasAtMost k) (sync_all (take s.0 hs)) (λ m l. l) (λ m l. sync_has k (take s.0 hs) m l) name w a)
