-- The fragments that a gather has made so far, and those ahead of it.
use Rattle.std.specs.Prelude.{List}
use Rattle.fragments.specs.declared.fragment.Fragment.{Fragment}
use Rattle.remote_edit.specs.declared.gather.Gather.{Gather}
use Rattle.remote_edit.specs.Steps.{before, after}

abbrev pub so_far : List Fragment → Gather → List Fragment
so_far xs g = before xs g.from g.made.items

abbrev pub ahead : List Fragment → Gather → List Fragment
ahead xs g = after xs g.at g.back
