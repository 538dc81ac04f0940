use Rattle.std.proofs.Common.{length}
use Rattle.snapshot_pub.proofs.reader.SnapReader.latest.Given as goal

abbrev pub ghosts-look_in : goal.ghosts-look_in
ghosts-look_in a = record { least = length a.longest.now.snapshot }
