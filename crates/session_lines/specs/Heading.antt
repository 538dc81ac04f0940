-- The header of a session.
use Rattle.op_model.specs.Operations.{last_replica}
use Rattle.std.specs.Prelude.{ℕ, List, [], ◌∷◌, length, ◌&&◌, nat_le, Bool, codes, Option, Some, None, option_map, option_and_then, if◌then◌else◌}
use Rattle.std.specs.List.{list_all}
use Rattle.serde_json.specs.Data.{Data}
use Rattle.serde_json.specs.Find.{as_str}
use Rattle.session_lines.specs.Json.{members_of, is_text, is_number}
use Rattle.session_lines.specs.Parts.{all_of, id_of_value, are_distinct}
use Rattle.session_lines.specs.declared.header.Header.{Header}

-- the id of an editor's replica
abbrev pub is_replica : ℕ → Bool
is_replica n = nat_le 1 n && nat_le n last_replica

-- the most replicas of a session
abbrev pub most_replicas : ℕ
most_replicas = 64

-- at least one id, each of an editor's replica, and none twice
abbrev pub are_replicas : List ℕ → Bool
are_replicas ids = (nat_le 1 (length ids) && nat_le (length ids) most_replicas) && (list_all is_replica ids && are_distinct ids)

-- the ids that the members are
abbrev pub replicas_from : List Data → Option (List ℕ)
replicas_from ds = option_and_then (λ ids. if are_replicas ids then Some ids else None) (all_of id_of_value ds)

-- the version of the format, 1 or 2
abbrev pub format_of_value : Data → Option ℕ
format_of_value d = if is_number 1 d then Some 1 else if is_number 2 d then Some 2 else None

abbrev pub header_with : Option ℕ → Option (List ℕ) → Option (List ℕ) → Option Header
header_with v b rs = option_and_then (λ version. option_and_then
    (λ base. option_map (λ ids. record { version = version; base = base; replicas = ids }) rs) b) v

-- ["zedbuf", 1, BASE, [R, ..]], or with 2 in the place of the 1
abbrev pub header_from : List Data → Option Header
header_from (w ∷ v ∷ b ∷ rs ∷ []) =
    if is_text (codes "zedbuf") w
    then header_with (format_of_value v) (as_str b) (option_and_then replicas_from (members_of rs))
    else None
header_from _ = None

unfoldable pub header_of_value : Data → Option Header
header_of_value d = option_and_then header_from (members_of d)
