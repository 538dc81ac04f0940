-- The excerpts that a session keeps under names. A replica is buffer i of all of them, where i is its index in the header.
use Rattle.std.specs.Prelude.{◌≡◌, ℕ, suc, ◌<◌, ◌≤◌, ◌^◌, is_none, if◌then◌else◌, List, [], ◌∷◌, length, take, Some, IfSome}
use Rattle.std.specs.List.{AllByRecursion}
use Rattle.std.specs.Str.{bytes_eq}
use Rattle.op_model.specs.Histories.{History}
use Rattle.multi_buffer.specs.Calls.{IsWithin, after_sync}
use Rattle.multi_buffer.specs.State.{MultiState, history_of, new_state}
use Rattle.multi_buffer.specs.declared.source.Source.{Source}
use Rattle.session_selections.specs.Names.{Names, under, with_name}

-- the excerpts under each name
abbrev pub Multis : Type 0
Multis = Names MultiState

-- ---- what each replica is now, in the header's order

-- replicas are synced, the first of them being buffer i
abbrev pub sync_from : ℕ → List History → MultiState → MultiState
sync_from i [] m = m
sync_from i (h ∷ hs) m = sync_from (suc i) hs (after_sync i h m)

-- all replicas are synced
abbrev pub sync_all : List History → MultiState → MultiState
sync_all hs m = sync_from 0 hs m

-- ---- what is under a name

-- all, those under the name changed by f
abbrev pub with_multi : List ℕ → (MultiState → MultiState) → Multis → Multis
with_multi name f [] = []
with_multi name f (e ∷ es) = if bytes_eq name e.0 then (e.0, f e.1) ∷ es else e ∷ with_multi name f es

-- the same; where nothing is under the name, it is first a multibuffer without excerpts
abbrev pub put_multi : List ℕ → (MultiState → MultiState) → Multis → Multis
put_multi name f w = if is_none (under name w) then with_name name (Some (f new_state)) w else with_multi name f w

-- n is w after the first k of the replicas were synced with what is under the name, which nothing changes where k is 0
abbrev pub StopsInSync : List ℕ → List History → Multis → Multis → Type 0
StopsInSync name hs w n = (k : ℕ) × (n ≡ with_multi name (sync_all (take k hs)) w)

-- ---- what is true before a line

-- buffers, from buffer i on, have gone on from what was synced of them
abbrev pub GoOnFrom : ℕ → List History → List Source → Type 0
GoOnFrom i [] ss = Unit {0}
GoOnFrom i (h ∷ hs) ss = IsWithin (history_of i ss) h × GoOnFrom (suc i) hs ss

-- all replicas have
abbrev pub GoOn : List History → MultiState → Type 0
GoOn hs m = GoOnFrom 0 hs m.synced

-- they have gone on from what was synced under the name
abbrev pub GoOnAt : List ℕ → List History → Multis → Type 0
GoOnAt name hs w = IfSome (under name w) (GoOn hs)

-- one more excerpt may be under the name
abbrev pub HasRoomAt : List ℕ → Multis → Type 0
HasRoomAt name w = IfSome (under name w) (λ m. length m.excerpts < 2 ^ 20)

-- ---- the same under every name, for those who carry it from line to line

abbrev pub AllGoOn : List History → Multis → Type 0
AllGoOn hs w = AllByRecursion (λ e. GoOn hs e.1) w

-- at most k excerpts are under each name
abbrev pub AllHaveAtMost : ℕ → Multis → Type 0
AllHaveAtMost k w = AllByRecursion (λ e. length e.1.excerpts ≤ k) w
