-- What the calls of a multibuffer do, and why they are refused.
use Rattle.std.specs.Prelude.{ℕ, ◌==◌, ◌&&◌, not, nat_lt, if◌then◌else◌, List, [], ◌∷◌, ◌++◌, length, map, Option, Some, None}
use Rattle.op_model.specs.declared.anchor.Anchor.{Anchor}
use Rattle.op_model.specs.declared.anchor.Anchor.TheVariants.{Least}
use Rattle.op_model.specs.declared.operation.Operation.{Operation}
use Rattle.op_model.specs.Choice.{first_of, when}
use Rattle.op_model.specs.Histories.{History, In}
use Rattle.op_model.specs.Edits.{is_boundary}
use Rattle.op_model.specs.Anchors.{left_anchor, right_anchor, place}
use Rattle.multi_buffer.specs.declared.excerpt.Excerpt.{Excerpt}
use Rattle.multi_buffer.specs.declared.faults.PushFault.{PushFault}
use Rattle.multi_buffer.specs.declared.faults.PushFault.TheVariants.{Reversed, PastEnd, InsideChar}
use Rattle.multi_buffer.specs.State.{MultiState, put}

-- each operation of h is in g
abbrev pub IsWithin : History → History → Type 0
IsWithin h g = (op : Operation) → In h op → In g op

-- why s..e of a text is no excerpt
abbrev pub push_fault : List ℕ → ℕ → ℕ → Option PushFault
push_fault text s e = first_of (
    when (nat_lt e s) (Reversed 0)
    ∷ when (nat_lt (length text) e) (PastEnd 0 (length text))
    ∷ when (not (is_boundary text s && is_boundary text e)) (InsideChar 0)
    ∷ [])

-- the anchor that is made; excerpts start and end where there is one
abbrev pub made : Option Anchor → Anchor
made None = Least
made (Some a) = a

-- the excerpt s..e of buffer b, whose history is h
abbrev pub excerpt_of : ℕ → History → ℕ → ℕ → Excerpt
excerpt_of b h s e = record {
  buffer = b;
  left = made (left_anchor h s);
  right = made (right_anchor h e);
  start = s;
  end = e;
}

-- the excerpt in a later history: between the places of its anchors
abbrev pub followed : History → Excerpt → Excerpt
followed h x = excerpt_of x.buffer h (place h x.left) (place h x.right)

-- the same, where it is one of buffer b
abbrev pub followed_in : ℕ → History → Excerpt → Excerpt
followed_in b h x = if x.buffer == b then followed h x else x

-- buffer b is synced: its history is h now
abbrev pub after_sync : ℕ → History → MultiState → MultiState
after_sync b h m = record {
  excerpts = map (followed_in b h) m.excerpts;
  synced = put (record { buffer = b; snapshot = h }) m.synced;
}

-- and s..e of it is a further excerpt
abbrev pub after_push : ℕ → History → ℕ → ℕ → MultiState → MultiState
after_push b h s e m = record {
  excerpts = (after_sync b h m).excerpts ++ excerpt_of b h s e ∷ [];
  synced = (after_sync b h m).synced;
}
