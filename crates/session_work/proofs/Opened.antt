-- A session before its first line.
use Rattle.std.proofs.Common.{◌≡◌, [], map, ◌∙◌}
use Rattle.session_lines.specs.declared.session.Session.{Session}
use Rattle.session_work.specs.Names.{by_bytes}
use Rattle.session_work.specs.Work.{base_of, first_buffer, opening}
use Rattle.session_work.specs.Working.{state_of}
use Rattle.session_work.specs.declared.replay.Progress.{Progress}
use Rattle.session_work.proofs.Steps.{same_names, same_state}

pub opened_state : (s : Session) (p : Progress) → p.exchange.buffers ≡ map (first_buffer (base_of s)) s.replicas → p.exchange.operations ≡ [] → by_bytes p.anchors.entries ≡ [] → by_bytes p.marks.entries ≡ [] → state_of p ≡ opening s
opened_state s p b o n m = same_state p.exchange.buffers (map (first_buffer (base_of s)) s.replicas) p.exchange.operations [] b o ∙ same_names (opening s) (by_bytes p.anchors.entries) [] (by_bytes p.marks.entries) [] n m
