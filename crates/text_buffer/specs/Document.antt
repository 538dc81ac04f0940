-- What is true of the history of a document.
use Rattle.std.specs.Prelude.{◌≡◌, ℕ, ◌+◌, ◌-◌, ◌^◌, ◌≤◌, List, [], ◌∷◌, ◌++◌, length, None}
use Rattle.std.specs.List.{AllByRecursion}
use Rattle.std.specs.Str.{IsUtf8}
use Rattle.op_model.specs.declared.limits.Limits.{Limits as LimitsType}
use Rattle.op_model.specs.declared.operation.Operation.{Operation}
use Rattle.op_model.specs.declared.operation.Piece.{Piece}
use Rattle.op_model.specs.Answers.{answer}
use Rattle.op_model.specs.Answers.Answer.{Good}
use Rattle.op_model.specs.Domains.{IsProper, IsReplica}
use Rattle.op_model.specs.Operations.{bytes_of, entries_of}
use Rattle.op_model.specs.Histories.{bytes_held, entries_held}
use Rattle.op_model.specs.Lawful.{Lawful}
use Rattle.op_model.specs.Limited.{Excess}
use Rattle.op_model.specs.Made.{local_edit_fault}
use Rattle.op_model.specs.Shown.{text, hidden_text}
use Rattle.op_model.specs.Walked.{IsWhole}
use Rattle.undo_map.specs.declared.entry.UndoEntry.{UndoEntry}
use Rattle.fragments.specs.Stand.{Stand, runs}
use Rattle.remote_edit.specs.declared.placed.Placed.{Placed}
use Rattle.remote_edit.specs.Fragments.{fragments_of}
use Rattle.remote_edit.specs.Moves.{after_moves, texts_of}
use Rattle.text_buffer.specs.declared.content.Content.{Content}
use Rattle.text_buffer.specs.declared.faults.Excess.{Excess as FoundExcess}

-- an excess, as definitions see it
abbrev pub excess_of : FoundExcess → Excess
excess_of e = record { unit = e.unit; held = e.held; adds = e.adds }

-- what is true of the history of every buffer and of every snapshot
pub record IsBufferHistory (h : List Operation) : Type 0 where
  pub lawful : Lawful h
  pub proper : AllByRecursion IsProper h
  pub bytes : bytes_held h ≤ 2 ^ 40
  pub entries : entries_held h ≤ 2 ^ 40 - 1
  pub utf8 : IsUtf8 (text h)
  pub text_bytes : length (text h) ≤ bytes_held h

-- no count passes its type with op at the end
pub record HasRoom (h : List Operation) (op : Operation) : Type 0 where
  pub bytes : bytes_held h + bytes_of op ≤ 2 ^ 40
  pub entries : entries_held h + entries_of op ≤ 2 ^ 40 - 1

-- the history g is h with operations after it
abbrev pub IsFront : List Operation → List Operation → Type 0
IsFront h g = (more : List Operation) × (g ≡ h ++ more)

-- the content is that of h: its fragments are those of h and begin and end between characters, they, their index and the undo
-- counts stand for h, and its texts are those of h
pub record IsContent (c : Content) (h : List Operation) : Type 0 where
  pub fragments : c.fragments.items ≡ fragments_of h
  pub stand : Stand c.fragments.items c.index c.undos h
  pub whole : AllByRecursion (IsWhole h) (runs c.fragments.items)
  pub shown : c.text ≡ text h
  pub hidden : c.hidden ≡ hidden_text h

-- the content has the fragments and the index of what an operation made, the undo counts u, and what its moves make of the texts s
-- and h, n being its new text
pub record IsMoved (c : Content) (p : Placed) (u : List UndoEntry) (s h n : List ℕ) : Type 0 where
  pub fragments : c.fragments.items ≡ p.fragments.items
  pub index : c.index ≡ p.index
  pub undos : c.undos ≡ u
  pub texts : texts_of c.text c.hidden ≡ after_moves p.moves s h n

-- op is good after h, and there is room for it
pub record MayGrow (h : List Operation) (op : Operation) : Type 0 where
  pub proper : IsProper op
  pub good : answer h [] op ≡ Good
  pub room : HasRoom h op

-- the content is that of a history in which op is good, and which has room for it
pub record MayAdd (c : Content) (op : Operation) : Type 0 where
  pub history : List Operation
  pub content : IsContent c history
  pub known : IsBufferHistory history
  pub grows : MayGrow history op

-- for each such history, d is the content of it with op
abbrev pub IsWithOperation : Content → Operation → Content → Type 0
IsWithOperation c op d = (h : List Operation) → IsContent c h → IsBufferHistory h → MayGrow h op
    → IsContent d (h ++ op ∷ [])

-- replica r may edit the text of h by changes: under some limits they meet no fault
pub record MayEdit (h : List Operation) (r : ℕ) (changes : List Piece) : Type 0 where
  pub replica : IsReplica r
  pub limits : LimitsType
  pub most_bytes : limits.bytes ≤ 2 ^ 40
  pub most_entries : limits.entries ≤ 2 ^ 40 - 1
  pub faultless : local_edit_fault limits h changes ≡ None
