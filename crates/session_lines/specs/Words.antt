-- What is wrong with a bad line, and the line that says so.
use Rattle.std.specs.Prelude.{ℕ, List, ◌++◌, codes, decimal}
use Rattle.session_lines.specs.declared.fault.Word.{Word}
use Rattle.session_lines.specs.declared.fault.Word.TheVariants.{Json, Header, Shape, Replica, Number, Name, Cr}

abbrev pub word_text : Word → List ℕ
word_text Json = codes "json"
word_text Header = codes "header"
word_text Shape = codes "shape"
word_text Replica = codes "replica"
word_text Number = codes "number"
word_text Name = codes "name"
word_text Cr = codes "cr"

-- the line for an input whose first bad line is number n
unfoldable pub bad_line : ℕ → Word → List ℕ
bad_line n w = codes "session line " ++ (decimal n ++ (codes ": " ++ (word_text w ++ codes "\n")))

-- the line for an input with too many lines
abbrev pub many_line : List ℕ
many_line = codes "too large: lines\n"
