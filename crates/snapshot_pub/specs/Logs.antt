-- The log of a book, and what each step ensures. A pair is known by a word, its root, and its entries are those that
-- name this word.
use Rattle.std.specs.Prelude.{ℕ, ◌≡◌, ◌==◌, ◌<◌, true, List, [], ◌∷◌, ◌++◌, if◌then◌else◌, length, flat_map, fold}
use Rattle.logbook.specs.Pages.{Cell, Step, View, Book, Named, cell, nib, may_make}
use Rattle.op_model.specs.declared.operation.Operation.{Operation}
use Rattle.snapshot_pub.specs.declared.entry.Entry.{Entry}

-- the list that a pair's entries make
abbrev pub list_of : ℕ → List Entry → List Operation
list_of root log = flat_map (λ (e : Entry). if e.root == root then e.added else []) log

-- the word that comes home for its next entry
abbrev pub next_of : ℕ → List Entry → ℕ
next_of root log = fold (λ (k : ℕ) (e : Entry). if e.root == root then e.next else k) 0 log

-- the pair of the last entry
abbrev pub root_of : List Entry → ℕ
root_of log = fold (λ (k : ℕ) (e : Entry). e.root) 0 log

abbrev pub log_list : List Entry → List Operation
log_list log = list_of (root_of log) log

abbrev pub log_next : List Entry → ℕ
log_next log = next_of (root_of log) log

-- the first word of a book
abbrev pub word_of : Book → Named
word_of b = record { tracked = true; key = 0; book = b }

-- which pair it is
abbrev pub pair_of : Book → List Entry → Named
pair_of b log = record { tracked = true; key = root_of log; book = b }

abbrev pub IsHome : List Cell → ℕ → Type 0
IsHome cells k = (cell cells k).1 ≡ true

-- the root of each entry is a word of the book, and the word that the pair's entries before it name is at home
abbrev pub AreUsed : List Cell → List Entry → Type 0
AreUsed cells log =
    (before : List Entry) (e : Entry) (after : List Entry) → log ≡ before ++ e ∷ after
    → (e.root < length cells) × IsHome cells (next_of e.root before)

-- the first word is at home, and so is each word for which an entry was added
pub record IsGrown (cells : List Cell) (log : List Entry) : Type 0 where
  pub some : 0 < length cells
  pub first : IsHome cells 0
  pub used : AreUsed cells log

-- a pair begins with the list, and the right to make its next word is given
abbrev pub Begins : Step Entry → View Entry ℕ → ℕ → View Entry ℕ → Type 0
Begins s v found w = (log_list w.0 ≡ s.ask.added) × (w.1.0 ≡ nib may_make (log_next w.0) 0)

-- the right to make a word is given
abbrev pub Reserves : Step Entry → View Entry ℕ → ℕ → View Entry ℕ → Type 0
Reserves s v found w = w.1.0.right ≡ may_make

-- what is added comes after the pair's list
abbrev pub Adds : Step Entry → View Entry ℕ → ℕ → View Entry ℕ → Type 0
Adds s v found w =
    (root_of w.0 ≡ root_of v.0)
    × (log_list w.0 ≡ log_list v.0 ++ s.ask.added)
    × (log_next w.0 ≡ s.ask.next)
